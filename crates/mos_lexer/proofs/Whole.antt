-- Exactly the encodings of a message are read to its end, and none begins another.
use Rattle.std.proofs.Common.{◌≡◌, ℕ, Bool, true, false, List, [], ◌∷◌, ◌++◌, Option, Some, None, Ok, refl, sym, ap, subst, ◌∙◌, append_assoc, inl, inr}
use Rattle.std.specs.Prelude.{◌||◌, codes}
use Rattle.std.proofs.lemmas.List.{append-nil}
use Rattle.mos_tables.specs.Events.{Event, Attribute}
use Rattle.mos_grammar.specs.Tokens.{Token, open_tag, empty_tag, close_tag, text, tail, mark, declaration}
use Rattle.mos_fields.specs.Characters.{Text}
use Rattle.mos_fields.specs.Names.{is_empty}
use Rattle.mos_fields.specs.Raw.{tail_from}
use Rattle.mos_lexer.specs.Lexing.{byte_order_mark, declaration_from, begins_with, begins_mark, WritesTag, ends_start, ends_empty, tag_space, attribute, WritesEquals, equals_space, equals, WritesQuoted, quoted_space, quote, WritesValue, value_ends, value_itself, value_reference, WritesTokens, WrittenTag, Writes, nothing, itself, reference}
use Rattle.mos_lexer.specs.LexMachine.{LexState, begin, in_text, text_reference, in_tag, start_name, in_start, attribute_name, before_equals, before_value, in_value, value_reference as value_reference_state, before_close, end_name, end_white, in_tail, in_question, in_declaration}
use Rattle.mos_lexer.specs.Encodings.{EncodesChars}
use Rattle.mos_lexer.specs.Units.{is_outside, lex_at}
use Rattle.mos_grammar.specs.RecordMachine.{complete}
use Rattle.mos_grammar.specs.Streams.{Stage, before_prolog, IsMessage, Position, before_message, inside}
use Rattle.mos_grammar.proofs.Sound.{done_is}
use Rattle.mos_grammar.proofs.StreamProofs.{StillReads}
use Rattle.mos_lexer.proofs.Lexer.{StartRest, LexRest}
use Rattle.mos_lexer.proofs.Forward.{ReferenceLaws, Fitting}
use Rattle.mos_lexer.proofs.Chars.{Spot, char_of, then_spot, char_run, reads_fitting, CharReads, CharTakes, Fits, FitsOk, char_fits, opening_spot, whole_spot, run_back, message_run_whole}

none_left : (a b q : List ℕ) → ◌≡◌ {A = List ℕ} [] ((a ++ b) ++ q) → ◌≡◌ {A = List ℕ} [] (b ++ q)
none_left [] b q e = e
none_left (d ∷ a) b q e = absurd cc

no_cons : (c : ℕ) (r : List ℕ) → ◌≡◌ {A = List ℕ} [] (c ∷ r) → ⊥
no_cons c r e = cc

no_bool : true ≡ false → ⊥
no_bool e = cc

tag_some : {s e : Bool} {g : List Attribute} {x : List ℕ} → WritesTag s g e x → (q : List ℕ) → ◌≡◌ {A = List ℕ} [] (x ++ q) → ⊥
tag_some ends_start q e = no_cons 62 q e
tag_some ends_empty q e = no_cons 47 (62 ∷ q) e
tag_some (tag_space {c = c} {x = x} s w) q e = no_cons c (x ++ q) e
tag_some (attribute [] x y nm we wt) q e = no_bool (sym nm)
tag_some (attribute (d ∷ m) x y nm we wt) q e = no_cons d ((m ++ x) ++ q) e

equals_some : {v : Text} {x y : List ℕ} → WritesEquals v x y → (q : List ℕ) → ◌≡◌ {A = List ℕ} [] (x ++ q) → ⊥
equals_some (equals_space {c = c} {x = x} s w) q e = no_cons c (x ++ q) e
equals_some (equals {x = x} w) q e = no_cons 61 (x ++ q) e

quoted_some : {v : Text} {x y : List ℕ} → WritesQuoted v x y → (q : List ℕ) → ◌≡◌ {A = List ℕ} [] (x ++ q) → ⊥
quoted_some (quoted_space {c = c} {x = x} s w) q e = no_cons c (x ++ q) e
quoted_some (quote {q = c} {x = x} k w) q e = no_cons c (x ++ q) e

value_some : {i : ℕ} {v : Text} {x y : List ℕ} → WritesValue i v x y → (q : List ℕ) → ◌≡◌ {A = List ℕ} [] (x ++ q) → ⊥
value_some {i = i} (value_ends {y = y}) q e = no_cons i (y ++ q) e
value_some (value_itself {c = c} {x = x} n p w) q e = no_cons c (x ++ q) e
value_some (value_reference {x = x} m is w) q e = no_cons 38 ((m ++ x) ++ q) e

some_front : (k : Text) (b : List ℕ) → is_empty k ≡ false → ◌≡◌ {A = List ℕ} [] (k ++ b) → ⊥
some_front [] b ne e = no_bool ne
some_front (c ∷ k) b ne e = no_cons c (k ++ b) e

some_behind : (k b : List ℕ) (c : ℕ) → ◌≡◌ {A = List ℕ} [] (k ++ c ∷ b) → ⊥
some_behind [] b c e = no_cons c b e
some_behind (d ∷ k) b c e = no_cons d (k ++ c ∷ b) e

start_some : (n : Text) (ts : List Token) → StartRest n [] ts → ⊥
start_some n ts h = let f = h.6 in tag_some h.5 f.0 (none_left h.1 h.3 f.0 f.2)

-- a mark isn't written by nothing
marked_some : (us : List Token) → begins_mark us ≡ true → WritesTokens us [] → ⊥
marked_some [] b h = no_bool (sym b)
marked_some (mark ∷ us) b h = no_cons byte_order_mark h.1 (h.4 ∙ ap (λ (z : List ℕ). z ++ h.1) h.2)
marked_some (open_tag n g raw ∷ us) b h = no_bool (sym b)
marked_some (empty_tag n g raw ∷ us) b h = no_bool (sym b)
marked_some (close_tag n ∷ us) b h = no_bool (sym b)
marked_some (text raw y ∷ us) b h = no_bool (sym b)
marked_some (tail x ∷ us) b h = no_bool (sym b)
marked_some (declaration ∷ us) b h = no_bool (sym b)

text_some : {z : Text} {x : List ℕ} → Writes z x → (r : List ℕ) (us : List Token) → ◌≡◌ {A = List ℕ} [] (x ++ r) → (begins_with 60 r || begins_mark us) ≡ true → WritesTokens us r → ⊥
text_some nothing [] us e b sp = marked_some us b sp
text_some nothing (c ∷ r) us e b sp = no_cons c r e
text_some (itself {c = c} {x = x} p w) r us e b sp = no_cons c (x ++ r) e
text_some (reference {x = x} m is w) r us e b sp = no_cons 38 ((m ++ x) ++ r) e

-- behind nothing no token is open
lex_done : (l : LexState) (ts : List Token) → LexRest l [] ts → l ≡ begin
lex_done begin ts h = refl
lex_done (in_text raw y) ts h = absurd (text_some h.4 h.2 h.3 h.5 h.6 h.8)
lex_done (text_reference raw y m) ts h = absurd (some_front h.0 (h.3 ++ h.4) h.6 h.9)
lex_done in_tag ts (inl h) = absurd (start_some [] ts h)
lex_done in_tag ts (inr (inl h)) = absurd (no_cons 47 h.0 h.1)
lex_done in_tag ts (inr (inr h)) = absurd (no_cons 63 h.0 h.1)
lex_done (start_name n) ts h = absurd (start_some n ts h)
lex_done (in_start t s raw) ts h = let f = h.4 in absurd (tag_some h.3 f.0 f.2)
lex_done (attribute_name t a raw) ts h = let f = h.9 in absurd (equals_some h.7 f.0 (none_left h.1 h.4 f.0 f.2))
lex_done (before_equals t a raw) ts h = let f = h.7 in absurd (equals_some h.5 f.0 f.2)
lex_done (before_value t a raw) ts h = let f = h.7 in absurd (quoted_some h.5 f.0 f.2)
lex_done (in_value t a q w raw) ts h = let f = h.8 in absurd (value_some h.6 f.0 f.2)
lex_done (value_reference_state t a q w raw m) ts h = let f = h.12 in absurd (value_some h.10 f.0 (none_left h.1 h.5 f.0 f.2))
lex_done (before_close t raw) ts h = absurd (no_cons 62 h.0 h.2)
lex_done (end_name n) ts h = absurd (some_behind (h.0 ++ h.1) h.2 62 (h.6 ∙ sym (append_assoc h.0 h.1 (62 ∷ h.2))))
lex_done (end_white n) ts h = absurd (some_behind h.0 h.1 62 h.4)
lex_done (in_tail n x) ts h = absurd (go h.0 h.3 h.4)
  where
    go : (y : Text) → tail_from n x y ≡ true → ◌≡◌ {A = List ℕ} [] (y ++ h.1) → ⊥
    go [] t e = no_bool (sym t)
    go (c ∷ y) t e = no_cons c (y ++ h.1) e
lex_done (in_question k) ts h = absurd (some_behind k h.1 h.0 h.3)
lex_done (in_declaration b) ts h = absurd (go h.0 h.3 h.4)
  where
    go : (y : Text) → declaration_from b y ≡ true → ◌≡◌ {A = List ℕ} [] (y ++ h.1) → ⊥
    go [] t e = no_bool (sym t)
    go (c ∷ y) t e = no_cons c (y ++ h.1) e

tag_none : (e : Bool) (n : Text) (g : List Attribute) (raw : Text) (x q : List ℕ) → WrittenTag e n g raw x → ◌≡◌ {A = List ℕ} [] (x ++ q) → ⊥
tag_none e n g raw x q w i = no_cons 60 ((n ++ w.0) ++ q) (i ∙ ap (λ (z : List ℕ). z ++ q) w.3)

-- no token but a tail is written as nothing
none_written : (o : Bool) (ts : List Token) → Fitting o ts → WritesTokens ts [] → ts ≡ []
none_written o [] f h = refl
none_written o (open_tag n g raw ∷ us) f h = absurd (tag_none false n g raw h.0 h.1 h.2 h.4)
none_written o (empty_tag n g raw ∷ us) f h = absurd (tag_none true n g raw h.0 h.1 h.2 h.4)
none_written o (close_tag n ∷ us) f h = let w = h.2 in absurd (no_cons 60 ((47 ∷ (n ++ (w.0 ++ 62 ∷ []))) ++ h.1) (h.4 ∙ ap (λ (z : List ℕ). z ++ h.1) w.3))
none_written o (text raw y ∷ us) f h = let w = h.2 in absurd (some_front h.0 h.1 w.0 h.4)
none_written o (tail x ∷ us) f h = absurd f
none_written o (mark ∷ us) f h = absurd (no_cons byte_order_mark h.1 (h.4 ∙ ap (λ (z : List ℕ). z ++ h.1) h.2))
none_written o (declaration ∷ us) f h = let w = h.2 in absurd (no_cons 60 ((63 ∷ (codes "xml" ++ w.0 ∷ w.1)) ++ h.1) (h.4 ∙ ap (λ (z : List ℕ). z ++ h.1) w.4))

no_message : {g : Stage} {v : List Event} {ts : List Token} → IsMessage g v ts → ts ≡ [] → ⊥
no_message (Rattle.mos_grammar.specs.Streams.white_space w d) e = cc
no_message (Rattle.mos_grammar.specs.Streams.mark_before w d) e = cc
no_message (Rattle.mos_grammar.specs.Streams.declaration_before w d) e = cc
no_message (Rattle.mos_grammar.specs.Streams.element h) e = cc

pub position_done : (p : Position) (v : List Event) → StillReads p [] v → p ≡ inside (complete v)
position_done (before_message g) v h = absurd (no_message h refl)
position_done (inside s) v h = let e : Ok s ≡ Ok (complete v) = done_is (Ok s) v h in cc

spot_done : (p : Position) (l : LexState) (v : List Event) → Fits (record { position = p; lex = l }) → CharReads (record { position = p; lex = l }) [] v → (p ≡ inside (complete v)) × (l ≡ begin)
spot_done p l v f h = go l (lex_done l h.0 h.1) f h.1
  where
    go : (l : LexState) → l ≡ begin → Fits (record { position = p; lex = l }) → LexRest l [] h.0 → (p ≡ inside (complete v)) × (l ≡ begin)
    go l e f k =
        let f2 : lex_at p ≡ begin = subst (λ (z : LexState). Fits (record { position = p; lex = z })) e f in
        let k2 : WritesTokens h.0 [] = subst (λ (z : LexState). LexRest z [] h.0) e k in
        let n = none_written (is_outside p) h.0 (reads_fitting p h.0 v f2 h.2) k2 in
        (position_done p v (subst (λ (z : List Token). StillReads p z v) n h.2), e)

char_done : (o : Option Spot) (v : List Event) → FitsOk o → CharTakes o [] v → o ≡ Some (whole_spot v)
char_done None v f h = absurd h
char_done (Some s) v f h = let d = spot_done s.position s.lex v f h in rw (d.0, d.1) refl

run_fits : (cs : List ℕ) (s : Spot) → Fits s → FitsOk (char_run s cs)
unfolding char_run
run_fits [] s f = f
run_fits (c ∷ cs) s f = go (λ u i. run_fits cs u i) (char_of s.position s.lex c) (char_fits s.position s.lex c f)
  where
    go : ((u : Spot) → Fits u → FitsOk (char_run u cs)) → (o : Option Spot) → FitsOk o → FitsOk (then_spot o (λ u. char_run u cs))
    go g (Some u) i = g u i
    go g None i = tt

pub char_run_append : (cs ds : List ℕ) (s : Spot) → char_run s (cs ++ ds) ≡ then_spot (char_run s cs) (λ u. char_run u ds)
unfolding char_run
char_run_append [] ds s = refl
char_run_append (c ∷ cs) ds s = go (λ u. char_run_append cs ds u) (char_of s.position s.lex c)
  where
    go : ((u : Spot) → char_run u (cs ++ ds) ≡ then_spot (char_run u cs) (λ w. char_run w ds)) → (o : Option Spot) → then_spot o (λ u. char_run u (cs ++ ds)) ≡ then_spot (then_spot o (λ u. char_run u cs)) (λ u. char_run u ds)
    go g (Some u) = g u
    go g None = refl

module _ (laws : ReferenceLaws) where
  -- The encodings of a message are read to its end.
  pub message_run : (v : List Event) (c : List ℕ) → EncodesChars v c → char_run opening_spot c ≡ Some (whole_spot v)
  message_run v c m = char_done (char_run opening_spot c) v (run_fits c opening_spot refl) (message_run_whole laws v c m)

  -- No encoding of a message begins another, and none encodes two values.
  pub one_message : (v w : List Event) (c more : List ℕ) → EncodesChars v c → EncodesChars w (c ++ more) → (more ≡ []) × (v ≡ w)
  one_message v w c more a b =
      let e : char_run opening_spot (c ++ more) ≡ char_run (whole_spot v) more = char_run_append c more opening_spot ∙ ap (λ (o : Option Spot). then_spot o (λ u. char_run u more)) (message_run v c a) in
      let f : char_run (whole_spot v) more ≡ Some (whole_spot w) = sym e ∙ message_run w (c ++ more) b in
      let t : CharTakes (char_run (whole_spot v) more) [] w = subst (λ (z : Option Spot). CharTakes z [] w) (sym f) ([], refl, (refl, refl)) in
      let h : CharReads (whole_spot v) (more ++ []) w = run_back more [] (whole_spot v) w t in
      let r = h.2 in
      (sym (append-nil more) ∙ subst (λ (z : List Token). WritesTokens z (more ++ [])) r.0 h.1, sym r.1)
