-- Where the token that the machine reads begins.
use Rattle.std.proofs.Common.{◌≡◌, ℕ, List, [], ◌∷◌, ◌++◌, Option, Some, None, sym, ap, ◌∙◌, append_assoc}
use Rattle.std.proofs.lemmas.List.{append-nil}
use Rattle.mos_lexer.specs.LexMachine.{LexStep, continues, whole_token, text_before, text_before_mark, no_token, no_reference, lex_step}
use Rattle.mos_lexer.specs.Units.{is_outside}
use Rattle.mos_lexer.proofs.Chars.{Spot, char_of, then_spot, char_run, opening_spot}

-- the characters before the token, behind one more character
abbrev pub fronted : List ℕ → ℕ → List ℕ → LexStep → List ℕ
fronted c d f (continues l) = f
fronted c d f (whole_token t) = c ++ d ∷ []
fronted c d f (text_before raw y l) = c
fronted c d f (text_before_mark raw y) = c ++ d ∷ []
fronted c d f no_token = f
fronted c d f (no_reference k) = f

abbrev pub next_front : List ℕ → Option Spot → (Spot → List ℕ) → List ℕ
next_front f (Some u) go_on = go_on u
next_front f None go_on = f

-- the characters before the token, behind characters
unfoldable pub trace : List ℕ → List ℕ → Spot → List ℕ → List ℕ
trace c f s [] = f
trace c f s (d ∷ ds) = next_front f (char_of s.position s.lex d) (λ u. trace (c ++ d ∷ []) (fronted c d f (lex_step (is_outside s.position) s.lex d)) u ds)

abbrev pub traced : List ℕ → List ℕ
traced c = trace [] [] opening_spot c

trace_on : (cs c f : List ℕ) (s w z : Spot) (d : ℕ) → char_run s cs ≡ Some w → char_of w.position w.lex d ≡ Some z
    → trace c f s (cs ++ d ∷ []) ≡ fronted (c ++ cs) d (trace c f s cs) (lex_step (is_outside w.position) w.lex d)
unfolding char_run trace
trace_on [] c f s w z d e k =
    let i : s ≡ w = spot_is s w e in
    let j : char_of s.position s.lex d ≡ Some z = ap (λ (y : Spot). char_of y.position y.lex d) i ∙ k in
    rw j (ap (λ (y : Spot). fronted c d f (lex_step (is_outside y.position) y.lex d)) i ∙ ap (λ (y : List ℕ). fronted y d f (lex_step (is_outside w.position) w.lex d)) (sym (append-nil c)))
  where
    spot_is : (a b : Spot) → ◌≡◌ {A = Option Spot} (Some a) (Some b) → a ≡ b
    spot_is a b e = cc
trace_on (a ∷ cs) c f s w z d e k = go (λ g u i. trace_on cs (c ++ a ∷ []) g u w z d i k) (fronted c a f (lex_step (is_outside s.position) s.lex a)) (char_of s.position s.lex a) e
  where
    go : ((g : List ℕ) (u : Spot) → char_run u cs ≡ Some w → trace (c ++ a ∷ []) g u (cs ++ d ∷ []) ≡ fronted ((c ++ a ∷ []) ++ cs) d (trace (c ++ a ∷ []) g u cs) (lex_step (is_outside w.position) w.lex d))
        → (g : List ℕ) (o : Option Spot) → then_spot o (λ u. char_run u cs) ≡ Some w
        → next_front f o (λ u. trace (c ++ a ∷ []) g u (cs ++ d ∷ [])) ≡ fronted (c ++ a ∷ cs) d (next_front f o (λ u. trace (c ++ a ∷ []) g u cs)) (lex_step (is_outside w.position) w.lex d)
    go h g (Some u) i = h g u i ∙ ap (λ (y : List ℕ). fronted y d (trace (c ++ a ∷ []) g u cs) (lex_step (is_outside w.position) w.lex d)) (append_assoc c (a ∷ []) cs)
    go h g None i = absurd cc

-- one more character
pub trace_push : (c : List ℕ) (d : ℕ) (w z : Spot) (f : List ℕ) → char_run opening_spot c ≡ Some w → char_of w.position w.lex d ≡ Some z → traced c ≡ f → traced (c ++ d ∷ []) ≡ fronted c d f (lex_step (is_outside w.position) w.lex d)
trace_push c d w z f e k i = trace_on c [] [] opening_spot w z d e k ∙ ap (λ (y : List ℕ). fronted c d y (lex_step (is_outside w.position) w.lex d)) i
