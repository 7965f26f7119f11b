-- Where characters lead that are tokens and the beginning of one more: through these tokens.
use Rattle.std.proofs.Common.{◌≡◌, ℕ, ◌+◌, ◌<◌, codes, Bool, true, false, List, [], ◌∷◌, ◌++◌, length, Ok, refl, sym, ap, subst, ◌∙◌, append_assoc, arith, ◌⊎◌, inl, inr}
use Rattle.std.specs.Prelude.{◌||◌}
use Rattle.std.proofs.lemmas.List.{append-nil, length-append}
use Rattle.mos_fields.specs.Names.{is_empty}
use Rattle.mos_fields.specs.Characters.{Text}
use Rattle.mos_tables.specs.Events.{Event}
use Rattle.mos_grammar.specs.Tokens.{Token, open_tag, empty_tag, close_tag, text, tail, mark, declaration}
use Rattle.mos_grammar.specs.RecordMachine.{complete}
use Rattle.mos_grammar.specs.Streams.{before_prolog, Position, before_message, inside, message_step, message_run}
use Rattle.mos_grammar.proofs.StreamProofs.{whole_takes_none}
use Rattle.mos_lexer.specs.Lexing.{byte_order_mark, begins_with, begins_mark, Written, Ends, WritesTokens}
use Rattle.mos_lexer.specs.LexMachine.{LexState, begin, in_text, text_reference, in_tag, start_name, in_start, attribute_name, before_equals, before_value, in_value, value_reference, before_close, end_name, end_white, in_tail, in_question, in_declaration, LexStep, continues, whole_token, text_before, text_before_mark, no_token, no_reference, lex_step}
use Rattle.mos_lexer.specs.Units.{is_outside, lex_at}
use Rattle.mos_lexer.proofs.Lexer.{LexRest, LexTakes}
use Rattle.mos_lexer.proofs.Forward.{lex_forward}
use Rattle.mos_lexer.proofs.References.{reference_laws}
use Rattle.mos_lexer.proofs.Chars.{Fits, FitsOk, char_fits, fits_rest, taken}
use Rattle.mos_lexer.proofs.Places.{IsOpenAt}
use Rattle.mos_rejections.specs.Alive.{Fronts, is_text}
use Rattle.mos_rejections.proofs.Shape.{Sound, StepSound, step_sound, not_text}
use Rattle.mos_rejections.proofs.Running.{Last, fitting_at, next_lex, first_read, run_nothing, head_is, tail_inside}
use Rattle.mos_rejections.proofs.Reaching.{TailAt, Reached, one_written}
use Rattle.mos_rejections.proofs.Stepping.{goes_on, goes_over, goes_to_tag, goes_over_mark}
use Rattle.mos_rejections.proofs.Reading.{start_reached, open_or_complete}
use Rattle.mos_rejections.proofs.OneFront.{written_one, Spelled, spelled, spelled_one, fronts_split, Alone, alone}

-- The last token is not whole before these characters.
pub record IsAhead (t : Token) (us : List Token) (more : List ℕ) : Type 0 where
  pub whole : is_text t ≡ false → (r : List ℕ) → WritesTokens us r → length r < length more
  pub tag : (r : List ℕ) → LexRest in_tag r us → length r < length more
  pub marked : (vs : List Token) (r : List ℕ) → us ≡ mark ∷ vs → WritesTokens vs r → length r < length more

-- where characters lead, and which of the tokens are still to come
pub record Led (c more : List ℕ) (t : Token) (us : List Token) (q : Position) (ts : List Token) : Type 0 where
  pub position : Position
  pub lex : LexState
  pub front : List ℕ
  pub reached : Reached c position lex front
  pub left : List Token
  pub all : reached.tokens ++ left ≡ ts
  pub run : message_run position left ≡ Ok q
  pub fits : Fits (record { position = position; lex = lex })
  pub rest : LexRest lex more (left ++ t ∷ us)

no_both : {A : Type 0} (b : Bool) → b ≡ true → b ≡ false → A
no_both true h k = absurd cc
no_both false h k = absurd cc

no_cons : (c : ℕ) (r : List ℕ) → ◌≡◌ {A = List ℕ} [] (c ∷ r) → ⊥
no_cons c r e = cc

too_long : {A : Type 0} (cs more : List ℕ) → length (cs ++ more) < length more → A
too_long cs more h = absurd (let e = length-append cs more in omega (arith, h, e))

-- behind tokens that leave a message open, it was open before them
pub open_from : (u q : Position) (ts : List Token) → message_run u ts ≡ Ok q → IsOpenAt q → IsOpenAt u
open_from u q ts e o = go (open_or_complete u) ts e
  where
    go : IsOpenAt u ⊎ ((v : List Event) × (u ≡ inside (complete v))) → (ts : List Token) → message_run u ts ≡ Ok q → IsOpenAt u
    go (inl k) ts e = k
    go (inr k) [] e = subst IsOpenAt (sym (run_nothing u q e)) o
    go (inr k) (t ∷ ts) e = absurd (whole_takes_none k.0 t ts q (subst (λ (z : Position). message_run z (t ∷ ts) ≡ Ok q) k.1 e))

-- behind a whole token
whole_led : (c cs more : List ℕ) (e : ℕ) (t : Token) (us : List Token) (q p : Position) (l : LexState) (front : List ℕ) (h : Reached c p l front) (k : Token) (left ts us2 : List Token) → Last q t us → IsAhead t us more → IsOpenAt q
    → lex_step (is_outside p) l e ≡ whole_token k → is_text k ≡ false → h.tokens ++ left ≡ ts → message_run p left ≡ Ok q → left ++ t ∷ us ≡ k ∷ us2 → WritesTokens us2 (cs ++ more) → Led (c ++ e ∷ []) (cs ++ more) t us q ts
unfolding goes_over
whole_led c cs more e t us q p l front h k [] ts us2 last ahead opened i nt all run eq sp =
    let j = head_is t k us us2 eq in
    too_long cs more (ahead.whole (ap is_text j.0 ∙ nt) (cs ++ more) (subst (λ (z : List Token). WritesTokens z (cs ++ more)) (sym j.1) sp))
whole_led c cs more e t us q p l front h k (a ∷ rs) ts us2 last ahead opened i nt all run eq sp =
    let j = head_is a k (rs ++ t ∷ us) us2 eq in
    let f = first_read a rs p q run in
    let s : message_step p k ≡ Ok f.0 = ap (message_step p) (sym j.0) ∙ f.1 in
    record {
      position = f.0;
      lex = lex_at f.0;
      front = c ++ e ∷ [];
      reached = goes_over c p l front h e k f.0 i s (open_from f.0 q rs f.2 opened);
      left = rs;
      all = append_assoc h.tokens (k ∷ []) rs ∙ ap (λ (z : Token). h.tokens ++ z ∷ rs) (sym j.0) ∙ all;
      run = f.2;
      fits = fits_rest f.0;
      rest = next_lex f.0 q rs t us (cs ++ more) f.2 last (subst (λ (z : List Token). WritesTokens z (cs ++ more)) (sym j.1) sp);
    }

-- behind a text that a `<` ends
text_led : (c cs more : List ℕ) (e : ℕ) (t : Token) (us : List Token) (q p : Position) (l : LexState) (front : List ℕ) (h : Reached c p l front) (raw y : Text) (left ts us2 : List Token) → IsAhead t us more
    → lex_step (is_outside p) l e ≡ text_before raw y in_tag → e ≡ 60 → h.tokens ++ left ≡ ts → message_run p left ≡ Ok q → left ++ t ∷ us ≡ text raw y ∷ us2 → LexRest in_tag (cs ++ more) us2 → FitsOk (taken p (text_before raw y in_tag)) → Led (c ++ e ∷ []) (cs ++ more) t us q ts
unfolding goes_to_tag
text_led c cs more e t us q p l front h raw y [] ts us2 ahead i is all run eq rest fits =
    let j = head_is t (text raw y) us us2 eq in
    too_long cs more (ahead.tag (cs ++ more) (subst (λ (z : List Token). LexRest in_tag (cs ++ more) z) (sym j.1) rest))
text_led c cs more e t us q p l front h raw y (a ∷ rs) ts us2 ahead i is all run eq rest fits =
    let j = head_is a (text raw y) (rs ++ t ∷ us) us2 eq in
    let f = first_read a rs p q run in
    let s : message_step p (text raw y) ≡ Ok f.0 = ap (message_step p) (sym j.0) ∙ f.1 in
    record {
      position = f.0;
      lex = in_tag;
      front = c;
      reached = goes_to_tag c p l front h e raw y f.0 i is s;
      left = rs;
      all = append_assoc h.tokens (text raw y ∷ []) rs ∙ ap (λ (z : Token). h.tokens ++ z ∷ rs) (sym j.0) ∙ all;
      run = f.2;
      fits = rw s at fits;
      rest = subst (λ (z : List Token). LexRest in_tag (cs ++ more) z) (sym j.1) rest;
    }

-- behind a text that U+FEFF ends
mark_led : (c cs more : List ℕ) (e : ℕ) (t : Token) (us : List Token) (q p : Position) (l : LexState) (front : List ℕ) (h : Reached c p l front) (raw y : Text) (left ts us2 : List Token) → Last q t us → IsAhead t us more → IsOpenAt q
    → lex_step (is_outside p) l e ≡ text_before_mark raw y → e ≡ byte_order_mark → h.tokens ++ left ≡ ts → message_run p left ≡ Ok q → left ++ t ∷ us ≡ text raw y ∷ (mark ∷ us2) → WritesTokens us2 (cs ++ more) → Led (c ++ e ∷ []) (cs ++ more) t us q ts
unfolding goes_over_mark
mark_led c cs more e t us q p l front h raw y [] ts us2 last ahead opened i is all run eq sp =
    let j = head_is t (text raw y) us (mark ∷ us2) eq in
    too_long cs more (ahead.marked us2 (cs ++ more) j.1 sp)
mark_led c cs more e t us q p l front h raw y (a ∷ []) ts us2 last ahead opened i is all run eq sp =
    let j = head_is a (text raw y) (t ∷ us) (mark ∷ us2) eq in
    let k = head_is t mark us us2 j.1 in
    too_long cs more (ahead.whole (ap is_text k.0) (cs ++ more) (subst (λ (z : List Token). WritesTokens z (cs ++ more)) (sym k.1) sp))
mark_led c cs more e t us q p l front h raw y (a ∷ b ∷ bs) ts us2 last ahead opened i is all run eq sp =
    let j = head_is a (text raw y) (b ∷ (bs ++ t ∷ us)) (mark ∷ us2) eq in
    let k = head_is b mark (bs ++ t ∷ us) us2 j.1 in
    let f = first_read a (b ∷ bs) p q run in
    let g = first_read b bs f.0 q f.2 in
    let s : message_step p (text raw y) ≡ Ok f.0 = ap (message_step p) (sym j.0) ∙ f.1 in
    let s2 : message_step f.0 mark ≡ Ok g.0 = ap (message_step f.0) (sym k.0) ∙ g.1 in
    record {
      position = g.0;
      lex = lex_at g.0;
      front = c ++ e ∷ [];
      reached = goes_over_mark c p l front h e raw y f.0 g.0 i is s s2 (open_from g.0 q bs g.2 opened);
      left = bs;
      all = append_assoc h.tokens (text raw y ∷ (mark ∷ [])) bs ∙ ap (λ (z : Token). h.tokens ++ z ∷ (mark ∷ bs)) (sym j.0) ∙ ap (λ (z : Token). h.tokens ++ a ∷ (z ∷ bs)) (sym k.0) ∙ all;
      run = g.2;
      fits = fits_rest g.0;
      rest = next_lex g.0 q bs t us (cs ++ more) g.2 last (subst (λ (z : List Token). WritesTokens z (cs ++ more)) (sym k.1) sp);
    }

-- one character
led_step : (c cs more : List ℕ) (e : ℕ) (t : Token) (us : List Token) (q : Position) (ts : List Token) → Last q t us → IsAhead t us more → IsOpenAt q → Led c (e ∷ (cs ++ more)) t us q ts → Led (c ++ e ∷ []) (cs ++ more) t us q ts
unfolding goes_on
led_step c cs more e t us q ts last ahead opened d =
    go (lex_step (is_outside d.position) d.lex e) refl (char_fits d.position d.lex e d.fits) (step_sound (is_outside d.position) d.lex h.part e h.sound)
    (lex_forward reference_laws (is_outside d.position) d.lex e (cs ++ more) (d.left ++ t ∷ us) (fitting_at d.position q d.lex d.left t us d.fits d.run last) d.rest)
  where
    h : Reached c d.position d.lex d.front
    h = d.reached

    go : (o : LexStep) → lex_step (is_outside d.position) d.lex e ≡ o → FitsOk (taken d.position o) → StepSound (is_outside d.position) d.lex h.part e o → LexTakes o (cs ++ more) (d.left ++ t ∷ us) → Led (c ++ e ∷ []) (cs ++ more) t us q ts
    go (continues k) i f s takes = record { position = d.position; lex = k; front = d.front; reached = goes_on c d.position d.lex d.front h e k i s.0 s.1; left = d.left; all = d.all; run = d.run; fits = f; rest = takes }
    go (whole_token k) i f s takes = whole_led c cs more e t us q d.position d.lex d.front h k d.left ts takes.0 last ahead opened i (not_text (is_outside d.position) d.lex h.part e k s) d.all d.run takes.1 takes.2
    go (text_before raw y k) i f s takes =
        text_led c cs more e t us q d.position d.lex d.front h raw y d.left ts takes.0 ahead (i ∙ ap (text_before raw y) s.0) s.1 d.all d.run takes.1 (subst (λ (z : LexState). LexRest z (cs ++ more) takes.0) s.0 takes.2)
        (subst (λ (z : LexState). FitsOk (taken d.position (text_before raw y z))) s.0 f)
    go (text_before_mark raw y) i f s takes = mark_led c cs more e t us q d.position d.lex d.front h raw y d.left ts takes.0 last ahead opened i s.0 d.all d.run takes.1 takes.2
    go no_token i f s takes = absurd takes
    go (no_reference k) i f s takes = absurd takes

led_run : (cs c more : List ℕ) (t : Token) (us : List Token) (q : Position) (ts : List Token) → Last q t us → IsAhead t us more → IsOpenAt q → Led c (cs ++ more) t us q ts → Led (c ++ cs) more t us q ts
led_run [] c more t us q ts last ahead opened d = subst (λ (z : List ℕ). Led z more t us q ts) (sym (append-nil c)) d
led_run (e ∷ cs) c more t us q ts last ahead opened d =
    subst (λ (z : List ℕ). Led z more t us q ts) (append_assoc c (e ∷ []) cs) (led_run cs (c ++ e ∷ []) more t us q ts last ahead opened (led_step c cs more e t us q ts last ahead opened d))

-- Characters that are tokens and the beginning of one more lead through these tokens.
pub lead : (c more : List ℕ) (t : Token) (us : List Token) (q : Position) (ts : List Token) → Last q t us → IsAhead t us more → IsOpenAt q → message_run (before_message before_prolog) ts ≡ Ok q → WritesTokens (ts ++ t ∷ us) (c ++ more) → Led c more t us q ts
unfolding start_reached
lead c more t us q ts last ahead opened run w = led_run c [] more t us q ts last ahead opened (record { position = before_message before_prolog; lex = begin; front = []; reached = start_reached; left = ts; all = refl; run = run; fits = refl; rest = w })

-- ---- no token is still to come

-- what is written as nothing is the rest of a raw element
written_some : (t : Token) (y : List ℕ) → Written t y → y ≡ [] → (x : Text) × (t ≡ tail x)
written_some (tail x) y w e = (x, refl)
written_some (open_tag n g raw) y w e = absurd (no_cons 60 (n ++ w.0) (sym e ∙ w.3))
written_some (empty_tag n g raw) y w e = absurd (no_cons 60 (n ++ w.0) (sym e ∙ w.3))
written_some (close_tag n) y w e = absurd (no_cons 60 (47 ∷ (n ++ (w.0 ++ 62 ∷ []))) (sym e ∙ w.3))
written_some (text raw z) y w e = absurd (no_both true refl (subst (λ (i : List ℕ). is_empty i ≡ false) e w.0))
written_some mark y w e = absurd (no_cons byte_order_mark [] (sym e ∙ w))
written_some declaration y w e = absurd (no_cons 60 (63 ∷ (codes "xml" ++ w.0 ∷ w.1)) (sym e ∙ w.4))

-- where a text ends that nothing follows
nothing_ends : (ts : List Token) (r x : List ℕ) → r ++ x ≡ [] → (begins_with 60 (r ++ x) || begins_mark ts) ≡ true → Fronts ts r x → ⊥
nothing_ends ts r x e h f = marked ts (or_false (begins_mark ts) (subst (λ (z : List ℕ). (begins_with 60 z || begins_mark ts) ≡ true) e h)) f
  where
    or_false : (b : Bool) → (false || b) ≡ true → b ≡ true
    or_false b h = h

    empty_front : (r x : List ℕ) → r ++ x ≡ [] → r ≡ []
    empty_front [] x e = refl
    empty_front (c ∷ r) x e = absurd cc

    marked : (ts : List Token) → begins_mark ts ≡ true → Fronts ts r x → ⊥
    marked [] b f = no_both false b refl
    marked (mark ∷ ts) b f = no_cons byte_order_mark f.1 (sym (empty_front r x e) ∙ f.4 ∙ ap (λ (z : List ℕ). z ++ f.1) f.2)
    marked (open_tag n g raw ∷ ts) b f = no_both false b refl
    marked (empty_tag n g raw ∷ ts) b f = no_both false b refl
    marked (close_tag n ∷ ts) b f = no_both false b refl
    marked (text raw y ∷ ts) b f = no_both false b refl
    marked (tail y ∷ ts) b f = no_both false b refl
    marked (declaration ∷ ts) b f = no_both false b refl

-- the machine has no whole token before it
no_more : (c more : List ℕ) (p u : Position) (l : LexState) (front : List ℕ) (h : Reached c p l front) (a : Token) (rs vs : List Token) (f x : List ℕ) → Fronts (h.tokens ++ a ∷ rs) f x → c ≡ f ++ x → message_step p a ≡ Ok u → LexRest l more (a ∷ vs) → ⊥
no_more c more p u l front h a rs vs f x fr e s rest = go l h.sound h.tail_at h.begun rest
  where
    cut : (g k : List ℕ) × (f ≡ g ++ k) × Spelled h.tokens g × Fronts (a ∷ rs) k x
    cut = fronts_split h.tokens (a ∷ rs) f x fr

    b : Fronts (a ∷ rs) cut.1 x
    b = cut.4

    one : (cut.0 ≡ front) × (cut.1 ++ x ≡ h.part)
    one = spelled_one h.tokens cut.0 front (cut.1 ++ x) h.part cut.3 (spelled h.tokens front h.part h.fronts) (sym (append_assoc cut.0 cut.1 x) ∙ ap (λ (z : List ℕ). z ++ x) (sym cut.2) ∙ sym e ∙ h.whole)

    whole : b.0 ++ (b.1 ++ x) ≡ h.part
    whole = sym (append_assoc b.0 b.1 x) ∙ ap (λ (z : List ℕ). z ++ x) (sym b.4) ∙ one.1

    sizes : length h.part ≡ length b.0 + length (b.1 ++ x)
    sizes = ap length (sym whole) ∙ length-append b.0 (b.1 ++ x)

    some : (z : List ℕ) → is_empty z ≡ false → 0 < length z
    some [] n = no_both true refl n
    some (d ∷ z) n = omega arith

    is_longer : (z : List ℕ) → b.0 ≡ h.part ++ z → is_empty z ≡ false → ⊥
    is_longer z i n = (let j : length b.0 ≡ length h.part + length z = ap length i ∙ length-append h.part z in let k = sizes in let m = some z n in omega (arith, j, k, m))

    in_tag_whole : (l : LexState) → Alone l a → ((r : List ℕ) (ts : List Token) → LexRest l r ts → WritesTokens ts (h.part ++ r)) → ⊥
    in_tag_whole l z begun =
        let w = one_written a (h.part ++ z.0) (begun z.0 (a ∷ []) z.2) in
        is_longer z.0 (written_one a b.0 (h.part ++ z.0) ((b.1 ++ x) ++ z.0) [] b.2 w (sym (append_assoc b.0 (b.1 ++ x) z.0) ∙ ap (λ (y : List ℕ). y ++ z.0) whole ∙ sym (append-nil (h.part ++ z.0)))) z.1

    raw_is : (t : Token) (raw y : Text) → t ≡ text raw y → Written t b.0 → Ends t rs (b.1 ++ x) → (b.0 ≡ raw) × ((begins_with 60 (b.1 ++ x) || begins_mark rs) ≡ true)
    raw_is t raw y i w n = (sym (subst (λ (z : Token). Written z b.0) i w).2, subst (λ (z : Token). Ends z rs (b.1 ++ x)) i n)

    nothing : (z : List ℕ) → length z ≡ 0 → z ≡ []
    nothing [] i = refl
    nothing (d ∷ z) i = absurd (omega (arith, i))

    in_text_whole : (raw y raw2 y2 k : Text) (us : List Token) → raw ≡ h.part → a ∷ vs ≡ text (raw ++ k) y2 ∷ us → ⊥
    in_text_whole raw y raw2 y2 k us i j =
        let r = raw_is a (raw ++ k) y2 (head_is a (text (raw ++ k) y2) vs us j).0 b.2 b.3 in
        let m : length b.0 ≡ length h.part + length k = ap length r.0 ∙ length-append raw k ∙ ap (λ (z : Text). length z + length k) i in
        let n : length (b.1 ++ x) ≡ 0 = let o = sizes in omega (arith, m, o) in
        nothing_ends rs b.1 x (nothing (b.1 ++ x) n) r.1 b.5

    some_front : (y z : List ℕ) → is_empty y ≡ false → is_empty (y ++ z) ≡ false
    some_front [] z n = no_both true refl n
    some_front (d ∷ y) z n = refl

    front_nothing : (y z : List ℕ) → y ++ z ≡ [] → y ≡ []
    front_nothing [] z i = refl
    front_nothing (d ∷ y) z i = absurd cc

    go : (l : LexState) → Sound (is_outside p) l h.part → TailAt p l → ((r : List ℕ) (ts : List Token) → LexRest l r ts → WritesTokens ts (h.part ++ r)) → LexRest l more (a ∷ vs) → ⊥
    go begin i t g w =
        let y : b.0 ≡ [] = front_nothing b.0 (b.1 ++ x) (whole ∙ i) in
        let k = written_some a b.0 b.2 y in
        tail_inside p u k.0 t (ap (message_step p) (sym k.1) ∙ s)
    go (in_text raw y) i t g w = in_text_whole raw y raw (y ++ w.0) w.1 w.3 i.0 w.7
    go (text_reference raw y m) i t g w =
        let r = raw_is a (raw ++ (w.0 ++ w.3)) (y ++ w.1 ∷ w.2) (head_is a (text (raw ++ (w.0 ++ w.3)) (y ++ w.1 ∷ w.2)) vs w.5 w.11).0 b.2 b.3 in
        is_longer (w.0 ++ w.3) (r.0 ∙ ap (λ (z : Text). z ++ (w.0 ++ w.3)) i.0) (some_front w.0 w.3 w.6)
    go in_tag i t g w = in_tag_whole in_tag (alone in_tag more a vs tt w) g
    go (start_name n) i t g w = in_tag_whole (start_name n) (alone (start_name n) more a vs tt w) g
    go (in_start t b1 raw) i e2 g w = in_tag_whole (in_start t b1 raw) (alone (in_start t b1 raw) more a vs tt w) g
    go (attribute_name t n raw) i e2 g w = in_tag_whole (attribute_name t n raw) (alone (attribute_name t n raw) more a vs tt w) g
    go (before_equals t n raw) i e2 g w = in_tag_whole (before_equals t n raw) (alone (before_equals t n raw) more a vs tt w) g
    go (before_value t n raw) i e2 g w = in_tag_whole (before_value t n raw) (alone (before_value t n raw) more a vs tt w) g
    go (in_value t n q v raw) i e2 g w = in_tag_whole (in_value t n q v raw) (alone (in_value t n q v raw) more a vs tt w) g
    go (value_reference t n q v raw m) i e2 g w = in_tag_whole (value_reference t n q v raw m) (alone (value_reference t n q v raw m) more a vs tt w) g
    go (before_close t raw) i e2 g w = in_tag_whole (before_close t raw) (alone (before_close t raw) more a vs tt w) g
    go (end_name n) i t g w = in_tag_whole (end_name n) (alone (end_name n) more a vs tt w) g
    go (end_white n) i t g w = in_tag_whole (end_white n) (alone (end_white n) more a vs tt w) g
    go (in_tail n y) i t g w = in_tag_whole (in_tail n y) (alone (in_tail n y) more a vs tt w) g
    go (in_question k) i t g w = in_tag_whole (in_question k) (alone (in_question k) more a vs tt w) g
    go (in_declaration b1) i t g w = in_tag_whole (in_declaration b1) (alone (in_declaration b1) more a vs tt w) g

-- Characters that are tokens and the beginning of one more lead to that.
pub led_whole : (c more : List ℕ) (t : Token) (us : List Token) (q : Position) (ts : List Token) (front x : List ℕ) (d : Led c more t us q ts) → Fronts ts front x → c ≡ front ++ x → d.left ≡ []
led_whole c more t us q ts front x d fr e = go d.left refl
  where
    h : Reached c d.position d.lex d.front
    h = d.reached

    go : (left : List Token) → d.left ≡ left → d.left ≡ []
    go [] i = i
    go (a ∷ rs) i =
        let f = first_read a rs d.position q (subst (λ (z : List Token). message_run d.position z ≡ Ok q) i d.run) in
        let w : LexRest d.lex more ((a ∷ rs) ++ t ∷ us) = subst (λ (z : List Token). LexRest d.lex more (z ++ t ∷ us)) i d.rest in
        let g : h.tokens ++ a ∷ rs ≡ ts = ap (λ (z : List Token). h.tokens ++ z) (sym i) ∙ d.all in
        absurd (no_more c more d.position f.0 d.lex d.front h a rs (rs ++ t ∷ us) front x (subst (λ (z : List Token). Fronts z front x) (sym g) fr) e f.1 w)
