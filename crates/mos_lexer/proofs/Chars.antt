-- Reading a message character after character: what is read is what the grammar says.
use Rattle.std.proofs.Common.{◌≡◌, ℕ, Bool, true, false, cond, List, [], ◌∷◌, ◌++◌, Option, Some, None, Result, Ok, Err, refl, sym, ap, subst, ◌∙◌}
use Rattle.std.proofs.lemmas.List.{append-nil}
use Rattle.mos_tables.specs.Events.{Event}
use Rattle.mos_grammar.specs.Tokens.{Token, open_tag, empty_tag, close_tag, text, tail, mark, declaration}
use Rattle.mos_grammar.specs.declared.fault.Fault.{Fault}
use Rattle.mos_grammar.specs.declared.fault.Fault.TheVariants.{Tag as misplaced}
use Rattle.mos_fields.specs.Characters.{Text}
use Rattle.mos_fields.specs.Raw.{tail_from, is_tail}
use Rattle.mos_fields.specs.Forms.{is_white}
use Rattle.mos_fields.specs.Raw.{is_space}
use Rattle.std.specs.Prelude.{◌&&◌}
use Rattle.mos_lexer.specs.Lexing.{begins_mark, meets_mark, WritesTokens}
use Rattle.mos_lexer.specs.LexMachine.{LexState, begin, in_text, text_reference, in_tag, start_name, in_start, attribute_name, before_equals, before_value, in_value, value_reference, before_close, end_name, end_white, in_tail, in_question, in_declaration, LexStep, continues, whole_token, text_before, text_before_mark, no_token, no_reference, lex_step}
use Rattle.mos_lexer.specs.Encodings.{EncodesChars}
use Rattle.mos_lexer.specs.Units.{is_outside, lex_at}
use Rattle.mos_grammar.specs.Records.{field_events}
use Rattle.mos_grammar.specs.RecordMachine.{State, at, complete, between, in_field, behind_text, in_raw, after_text, step}
use Rattle.mos_grammar.specs.Streams.{Stage, before_prolog, IsMessage, Position, before_message, inside, inside_of, message_step}
use Rattle.mos_grammar.proofs.Sound.{Reads, Takes, forward}
use Rattle.mos_grammar.proofs.StreamProofs.{StillReads, StillTakes, message_forward, message_back}
use Rattle.mos_lexer.proofs.Lexer.{LexRest, LexTakes, lex_back}
use Rattle.mos_lexer.proofs.Forward.{ReferenceLaws, NotTail, Fitting, FittingAt, lex_forward}

-- ---- the machine

pub record Spot : Type 0 where
  pub position : Position
  pub lex : LexState

-- behind a token
abbrev pub behind_token : Result Position Fault → (Position → Option Spot) → Option Spot
behind_token (Ok q) f = f q
behind_token (Err k) f = None

abbrev pub rests : Position → Option Spot
rests q = Some (record { position = q; lex = lex_at q })

abbrev pub taken : Position → LexStep → Option Spot
taken p (continues l) = Some (record { position = p; lex = l })
taken p (whole_token t) = behind_token (message_step p t) rests
taken p (text_before raw y l) = behind_token (message_step p (text raw y)) (λ q. Some (record { position = q; lex = l }))
taken p (text_before_mark raw y) = behind_token (message_step p (text raw y)) (λ q. behind_token (message_step q mark) rests)
taken p no_token = None
taken p (no_reference k) = None

-- one character
abbrev pub char_of : Position → LexState → ℕ → Option Spot
char_of p l c = taken p (lex_step (is_outside p) l c)

abbrev pub then_spot : Option Spot → (Spot → Option Spot) → Option Spot
then_spot (Some s) f = f s
then_spot None f = None

unfoldable pub char_run : Spot → List ℕ → Option Spot
char_run s [] = Some s
char_run s (c ∷ cs) = then_spot (char_of s.position s.lex c) (λ u. char_run u cs)

-- ---- the laws of the machine of tokens

pub step_mark : (s : State) → step s mark ≡ Err misplaced
unfolding step
step_mark (complete v) = refl
step_mark (at between f fs) = refl
step_mark (at (in_field n o) f fs) = refl
step_mark (at (behind_text n o es) f fs) = refl
step_mark (at (in_raw n p tag) f fs) = refl

pub step_tail : (s : State) (x : Text) → lex_at (inside s) ≡ begin → step s (tail x) ≡ Err misplaced
unfolding step
step_tail (complete v) x e = refl
step_tail (at between f fs) x e = refl
step_tail (at (in_field n o) f fs) x e = refl
step_tail (at (behind_text n o es) f fs) x e = refl
step_tail (at (in_raw n p tag) f fs) x e = absurd (not_begin n e)
  where
    not_begin : (n : Text) → in_tail n [] ≡ begin → ⊥
    not_begin n e = cc

ok_is : (s u : State) → ◌≡◌ {A = Result State Fault} (Ok s) (Ok u) → s ≡ u
ok_is s u e = cc

ok_err : (u : State) (k : Fault) → ◌≡◌ {A = Result State Fault} (Err k) (Ok u) → ⊥
ok_err u k e = cc

-- behind a text no raw element is open
pub text_next : (s : State) (x y : Text) (u : State) → step s (text x y) ≡ Ok u → lex_at (inside u) ≡ begin
unfolding step
text_next (complete v) x y u e = absurd (ok_err u misplaced e)
text_next (at between f fs) x y u e = go (is_white x) e
  where
    go : (b : Bool) → cond b (Ok (at between f fs)) (Err misplaced) ≡ Ok u → lex_at (inside u) ≡ begin
    go true e = subst (λ (z : State). lex_at (inside z) ≡ begin) (ok_is (at between f fs) u e) refl
    go false e = absurd (ok_err u misplaced e)
text_next (at (in_field n o) f fs) x y u e = go (field_events n o f.taken y) e
  where
    go : (w : Option (List Event)) → after_text f fs n o w ≡ Ok u → lex_at (inside u) ≡ begin
    go (Some es) e = subst (λ (z : State). lex_at (inside z) ≡ begin) (ok_is (at (behind_text n o es) f fs) u e) refl
    go None e = absurd (ok_err u (Rattle.mos_grammar.specs.declared.fault.Fault.TheVariants.Value o.field) e)
text_next (at (behind_text n o es) f fs) x y u e = absurd (ok_err u misplaced e)
text_next (at (in_raw n p tag) f fs) x y u e = absurd (ok_err u misplaced e)

not_admitted : (o : Result State Fault) (k : Fault) (r : List Token) (v : List Event) → o ≡ Err k → Takes o r v → ⊥
not_admitted (Ok s) k r v e h = cc
not_admitted (Err j) k r v e h = h

not_mark : (s : State) (ts : List Token) (v : List Event) → Reads s ts v → begins_mark ts ≡ false
not_mark s [] v h = refl
not_mark s (mark ∷ ts) v h = absurd (not_admitted (step s mark) misplaced ts v (step_mark s) (forward s mark ts v h))
not_mark s (open_tag n g raw ∷ ts) v h = refl
not_mark s (empty_tag n g raw ∷ ts) v h = refl
not_mark s (close_tag n ∷ ts) v h = refl
not_mark s (text x y ∷ ts) v h = refl
not_mark s (tail x ∷ ts) v h = refl
not_mark s (declaration ∷ ts) v h = refl

not_tail : (s : State) (ts : List Token) (v : List Event) → lex_at (inside s) ≡ begin → Reads s ts v → NotTail ts
not_tail s [] v e h = tt
not_tail s (tail x ∷ ts) v e h = not_admitted (step s (tail x)) misplaced ts v (step_tail s x e) (forward s (tail x) ts v h)
not_tail s (open_tag n g raw ∷ ts) v e h = tt
not_tail s (empty_tag n g raw ∷ ts) v e h = tt
not_tail s (close_tag n ∷ ts) v e h = tt
not_tail s (text x y ∷ ts) v e h = tt
not_tail s (mark ∷ ts) v e h = tt
not_tail s (declaration ∷ ts) v e h = tt

still_not_tail : (g : Stage) (ts : List Token) (v : List Event) → IsMessage g v ts → NotTail ts
unfolding message_step
still_not_tail g [] v h = tt
still_not_tail g (tail x ∷ ts) v h = message_forward (before_message g) (tail x) ts v h
still_not_tail g (open_tag n a raw ∷ ts) v h = tt
still_not_tail g (empty_tag n a raw ∷ ts) v h = tt
still_not_tail g (close_tag n ∷ ts) v h = tt
still_not_tail g (text x y ∷ ts) v h = tt
still_not_tail g (mark ∷ ts) v h = tt
still_not_tail g (declaration ∷ ts) v h = tt

no_bool : {A : Type 0} → true ≡ false → A
no_bool e = absurd cc

text_fits : (s : State) (x y : Text) (ts : List Token) (v : List Event) → Reads s (text x y ∷ ts) v → (begins_mark ts ≡ false) × NotTail ts
text_fits s x y ts v h = go (step s (text x y)) refl (forward s (text x y) ts v h)
  where
    go : (o : Result State Fault) → step s (text x y) ≡ o → Takes o ts v → (begins_mark ts ≡ false) × NotTail ts
    go (Ok u) e k = (not_mark u ts v k, not_tail u ts v (text_next s x y u e) k)
    go (Err j) e k = absurd k

-- before a message a text is white space
outside_fits : (g : Stage) (x y : Text) (ts : List Token) (v : List Event) → IsMessage g v (text x y ∷ ts) → (is_white x ≡ true) × NotTail ts
unfolding message_step
outside_fits g x y ts v h = go (is_white x) (message_forward (before_message g) (text x y) ts v h)
  where
    go : (b : Bool) → StillTakes (cond b (Ok (before_message g)) (Err misplaced)) ts v → (b ≡ true) × NotTail ts
    go true k = (refl, still_not_tail g ts v k)
    go false k = absurd k

-- white space alone meets no U+FEFF
pub white_meets_none : (x : Text) → is_white x ≡ true → meets_mark x ≡ false
white_meets_none [] w = refl
white_meets_none (c ∷ x) w = go (λ h. white_meets_none x h) (is_space c) refl w
  where
    go : (is_white x ≡ true → meets_mark x ≡ false) → (b : Bool) → is_space c ≡ b → (b && is_white x) ≡ true → meets_mark (c ∷ x) ≡ false
    go f true e h = rw e (f h)
    go f false e h = absurd cc

pub reads_fitting : (p : Position) (ts : List Token) (v : List Event) → lex_at p ≡ begin → StillReads p ts v → Fitting (is_outside p) ts
reads_fitting p [] v e h = tt
reads_fitting p (open_tag n a raw ∷ ts) v e h = tt
reads_fitting p (empty_tag n a raw ∷ ts) v e h = tt
reads_fitting p (close_tag n ∷ ts) v e h = tt
reads_fitting p (declaration ∷ ts) v e h = tt
reads_fitting (before_message g) (mark ∷ ts) v e h = refl
reads_fitting (inside s) (mark ∷ ts) v e h = absurd (not_admitted (step s mark) misplaced ts v (step_mark s) (forward s mark ts v h))
reads_fitting (before_message g) (tail x ∷ ts) v e h = still_not_tail g (tail x ∷ ts) v h
reads_fitting (inside s) (tail x ∷ ts) v e h = not_tail s (tail x ∷ ts) v e h
reads_fitting (before_message g) (text x y ∷ ts) v e h = let k = outside_fits g x y ts v h in ((λ i. white_meets_none x k.0), (λ i j. k.0), (λ i. no_bool i), k.1)
reads_fitting (inside s) (text x y ∷ ts) v e h = let k = text_fits s x y ts v h in ((λ i. no_bool (sym i)), (λ i j. no_bool (sym i)), (λ i. k.0), k.1)

-- ---- behind a token

pub next_reads : (q : Position) (us : List Token) (r : List ℕ) (v : List Event) → WritesTokens us r → StillReads q us v → LexRest (lex_at q) r us
unfolding is_tail
next_reads (before_message g) us r v sp h = sp
next_reads (inside (complete w)) us r v sp h = sp
next_reads (inside (at between f fs)) us r v sp h = sp
next_reads (inside (at (in_field n o) f fs)) us r v sp h = sp
next_reads (inside (at (behind_text n o es) f fs)) us r v sp h = sp
next_reads (inside (at (in_raw n p tag) f fs)) us r v sp h =
    let a = h.2 in
    let k = subst (λ (z : List Token). WritesTokens z r) a.2 sp in
    (a.0, k.1, h.1, a.3, k.4 ∙ ap (λ (z : List ℕ). z ++ k.1) k.2, a.2, k.5)

pub next_back : (q : Position) (us : List Token) (r : List ℕ) → LexRest (lex_at q) r us → WritesTokens us r
next_back (before_message g) us r h = h
next_back (inside (complete w)) us r h = h
next_back (inside (at between f fs)) us r h = h
next_back (inside (at (in_field n o) f fs)) us r h = h
next_back (inside (at (behind_text n o es) f fs)) us r h = h
next_back (inside (at (in_raw n p tag) f fs)) us r h = subst (λ (z : List Token). WritesTokens z r) (sym h.5) (h.0, h.1, refl, tt, h.4, h.6)

-- the characters that are still read, and the value that then is whole
abbrev pub CharReads : Spot → List ℕ → List Event → Type 0
CharReads s c v = (ts : List Token) × LexRest s.lex c ts × StillReads s.position ts v

abbrev pub CharTakes : Option Spot → List ℕ → List Event → Type 0
CharTakes (Some s) r v = CharReads s r v
CharTakes None r v = ⊥

-- a tail is read where a raw element is open, and nothing else
abbrev pub Fits : Spot → Type 0
Fits s = elim (s.lex) [
  | in_tail n x ↦ Unit {0}
  | begin ↦ lex_at s.position ≡ begin
  | in_text raw y ↦ lex_at s.position ≡ begin
  | text_reference raw y m ↦ lex_at s.position ≡ begin
  | in_tag ↦ lex_at s.position ≡ begin
  | start_name n ↦ lex_at s.position ≡ begin
  | in_start t b raw ↦ lex_at s.position ≡ begin
  | attribute_name t a raw ↦ lex_at s.position ≡ begin
  | before_equals t a raw ↦ lex_at s.position ≡ begin
  | before_value t a raw ↦ lex_at s.position ≡ begin
  | in_value t a q w raw ↦ lex_at s.position ≡ begin
  | value_reference t a q w raw m ↦ lex_at s.position ≡ begin
  | before_close t raw ↦ lex_at s.position ≡ begin
  | end_name n ↦ lex_at s.position ≡ begin
  | end_white n ↦ lex_at s.position ≡ begin
  | in_question k ↦ lex_at s.position ≡ begin
  | in_declaration b ↦ lex_at s.position ≡ begin
]

fitting_at : (p : Position) (l : LexState) (ts : List Token) (v : List Event) → Fits (record { position = p; lex = l }) → StillReads p ts v → FittingAt l (is_outside p) ts
fitting_at p begin ts v e h = reads_fitting p ts v e h
fitting_at p (in_text raw y) ts v e h = reads_fitting p ts v e h
fitting_at p l ts v e h = tt

module _ (laws : ReferenceLaws) where
  whole_forward : (p : Position) (t : Token) (r : List ℕ) (us : List Token) (v : List Event) → WritesTokens us r → StillReads p (t ∷ us) v → CharTakes (behind_token (message_step p t) rests) r v
  whole_forward p t r us v sp h = go (message_step p t) (message_forward p t us v h)
    where
      go : (o : Result Position Fault) → StillTakes o us v → CharTakes (behind_token o rests) r v
      go (Ok q) k = (us, next_reads q us r v sp k, k)
      go (Err j) k = absurd k

  -- What a state reads, one character shorter, is read by the state that the character leads to.
  pub char_forward : (s : Spot) (c : ℕ) (r : List ℕ) (v : List Event) → Fits s → CharReads s (c ∷ r) v → CharTakes (char_of s.position s.lex c) r v
  char_forward s c r v fit h = go (lex_step (is_outside s.position) s.lex c) (lex_forward laws (is_outside s.position) s.lex c r h.0 (fitting_at s.position s.lex h.0 v fit h.2) h.1)
    where
      go : (o : LexStep) → LexTakes o r h.0 → CharTakes (taken s.position o) r v
      go (continues l) k = (h.0, k, h.2)
      go (whole_token t) k = whole_forward s.position t r k.0 v k.2 (subst (λ (z : List Token). StillReads s.position z v) k.1 h.2)
      go (text_before raw y l) k = two (message_step s.position (text raw y)) (message_forward s.position (text raw y) k.0 v (subst (λ (z : List Token). StillReads s.position z v) k.1 h.2))
        where
          two : (o : Result Position Fault) → StillTakes o k.0 v → CharTakes (behind_token o (λ q. Some (record { position = q; lex = l }))) r v
          two (Ok q) m = (k.0, k.2, m)
          two (Err j) m = absurd m
      go (text_before_mark raw y) k = two (message_step s.position (text raw y)) (message_forward s.position (text raw y) (mark ∷ k.0) v (subst (λ (z : List Token). StillReads s.position z v) k.1 h.2))
        where
          two : (o : Result Position Fault) → StillTakes o (mark ∷ k.0) v → CharTakes (behind_token o (λ q. behind_token (message_step q mark) rests)) r v
          two (Ok q) m = whole_forward q mark r k.0 v k.2 m
          two (Err j) m = absurd m
      go no_token k = absurd k
      go (no_reference i) k = absurd k

whole_back : (p : Position) (t : Token) (r : List ℕ) (v : List Event) → CharTakes (behind_token (message_step p t) rests) r v → (us : List Token) × WritesTokens us r × StillReads p (t ∷ us) v
whole_back p t r v h = go (message_step p t) refl h
  where
    go : (o : Result Position Fault) → message_step p t ≡ o → CharTakes (behind_token o rests) r v → (us : List Token) × WritesTokens us r × StillReads p (t ∷ us) v
    go (Ok q) e k = (k.0, next_back q k.0 r k.1, message_back p t k.0 v (subst (λ (z : Result Position Fault). StillTakes z k.0 v) (sym e) k.2))
    go (Err j) e k = absurd k

-- What the state that a character leads to reads, is read by the state before, one character longer.
pub char_back : (s : Spot) (c : ℕ) (r : List ℕ) (v : List Event) → CharTakes (char_of s.position s.lex c) r v → CharReads s (c ∷ r) v
char_back s c r v h = go (lex_step (is_outside s.position) s.lex c) refl h
  where
    found : (o : LexStep) → lex_step (is_outside s.position) s.lex c ≡ o → (ts : List Token) → LexTakes o r ts → LexRest s.lex (c ∷ r) ts
    found o e ts k = lex_back (is_outside s.position) s.lex c r ts (subst (λ (z : LexStep). LexTakes z r ts) (sym e) k)

    go : (o : LexStep) → lex_step (is_outside s.position) s.lex c ≡ o → CharTakes (taken s.position o) r v → CharReads s (c ∷ r) v
    go (continues l) e k = (k.0, found (continues l) e k.0 k.1, k.2)
    go (whole_token t) e k =
        let b = whole_back s.position t r v k in
        (t ∷ b.0, found (whole_token t) e (t ∷ b.0) (b.0, refl, b.1), b.2)
    go (text_before raw y l) e k = two (message_step s.position (text raw y)) refl k
      where
        two : (o : Result Position Fault) → message_step s.position (text raw y) ≡ o → CharTakes (behind_token o (λ q. Some (record { position = q; lex = l }))) r v → CharReads s (c ∷ r) v
        two (Ok q) i m = (text raw y ∷ m.0, found (text_before raw y l) e (text raw y ∷ m.0) (m.0, refl, m.1), message_back s.position (text raw y) m.0 v (subst (λ (z : Result Position Fault). StillTakes z m.0 v) (sym i) m.2))
        two (Err j) i m = absurd m
    go (text_before_mark raw y) e k = two (message_step s.position (text raw y)) refl k
      where
        two : (o : Result Position Fault) → message_step s.position (text raw y) ≡ o → CharTakes (behind_token o (λ q. behind_token (message_step q mark) rests)) r v → CharReads s (c ∷ r) v
        two (Ok q) i m =
            let b = whole_back q mark r v m in (
              text raw y ∷ (mark ∷ b.0),
              found (text_before_mark raw y) e (text raw y ∷ (mark ∷ b.0)) (b.0, refl, b.1),
              message_back s.position (text raw y) (mark ∷ b.0) v (subst (λ (z : Result Position Fault). StillTakes z (mark ∷ b.0) v) (sym i) b.2),
            )
        two (Err j) i m = absurd m
    go no_token e k = absurd k
    go (no_reference i) e k = absurd k

-- ---- runs

fits_any : (p : Position) (l : LexState) → lex_at p ≡ begin → Fits (record { position = p; lex = l })
fits_any p begin e = e
fits_any p (in_text raw y) e = e
fits_any p (text_reference raw y m) e = e
fits_any p in_tag e = e
fits_any p (start_name n) e = e
fits_any p (in_start t b raw) e = e
fits_any p (attribute_name t a raw) e = e
fits_any p (before_equals t a raw) e = e
fits_any p (before_value t a raw) e = e
fits_any p (in_value t a q w raw) e = e
fits_any p (value_reference t a q w raw m) e = e
fits_any p (before_close t raw) e = e
fits_any p (end_name n) e = e
fits_any p (end_white n) e = e
fits_any p (in_tail n x) e = tt
fits_any p (in_question k) e = e
fits_any p (in_declaration b) e = e

pub fits_rest : (q : Position) → Fits (record { position = q; lex = lex_at q })
fits_rest (before_message g) = refl
fits_rest (inside (complete w)) = refl
fits_rest (inside (at between f fs)) = refl
fits_rest (inside (at (in_field n o) f fs)) = refl
fits_rest (inside (at (behind_text n o es) f fs)) = refl
fits_rest (inside (at (in_raw n p tag) f fs)) = tt

abbrev pub FitsOk : Option Spot → Type 0
FitsOk (Some s) = Fits s
FitsOk None = Unit {0}

fits_behind : (o : Result Position Fault) → FitsOk (behind_token o rests)
fits_behind (Ok q) = fits_rest q
fits_behind (Err k) = tt

-- behind a text that was taken no raw element is open
pub text_begins : (p : Position) (x y : Text) (q : Position) → message_step p (text x y) ≡ Ok q → lex_at q ≡ begin
unfolding message_step
text_begins (before_message g) x y q e = go (is_white x) e
  where
    pos_is : (p q : Position) → ◌≡◌ {A = Result Position Fault} (Ok p) (Ok q) → p ≡ q
    pos_is p q e = cc

    go : (b : Bool) → cond b (Ok (before_message g)) (Err misplaced) ≡ Ok q → lex_at q ≡ begin
    go true e = subst (λ (z : Position). lex_at z ≡ begin) (pos_is (before_message g) q e) refl
    go false e = absurd cc
text_begins (inside s) x y q e = go (step s (text x y)) refl e
  where
    pos_is : (p q : Position) → ◌≡◌ {A = Result Position Fault} (Ok p) (Ok q) → p ≡ q
    pos_is p q e = cc

    go : (o : Result State Fault) → step s (text x y) ≡ o → inside_of o ≡ Ok q → lex_at q ≡ begin
    go (Ok u) i e = subst (λ (z : Position). lex_at z ≡ begin) (pos_is (inside u) q e) (text_next s x y u i)
    go (Err k) i e = absurd cc

-- a state that isn't in a tail
abbrev pub NoTail : Position → LexStep → Type 0
NoTail p o = FitsOk (taken p o)

taken_fits : (p : Position) (o : LexStep) → lex_at p ≡ begin → FitsOk (taken p o)
taken_fits p (continues l) e = fits_any p l e
taken_fits p (whole_token t) e = fits_behind (message_step p t)
taken_fits p (text_before raw y l) e = go (message_step p (text raw y)) refl
  where
    go : (o : Result Position Fault) → message_step p (text raw y) ≡ o → FitsOk (behind_token o (λ q. Some (record { position = q; lex = l })))
    go (Ok q) i = fits_any q l (text_begins p raw y q i)
    go (Err k) i = tt
taken_fits p (text_before_mark raw y) e = go (message_step p (text raw y))
  where
    go : (o : Result Position Fault) → FitsOk (behind_token o (λ q. behind_token (message_step q mark) rests))
    go (Ok q) = fits_behind (message_step q mark)
    go (Err k) = tt
taken_fits p no_token e = tt
taken_fits p (no_reference k) e = tt

pub char_fits : (p : Position) (l : LexState) (c : ℕ) → Fits (record { position = p; lex = l }) → FitsOk (char_of p l c)
unfolding lex_step
char_fits p (in_tail n x) c h = go (Rattle.mos_fields.specs.Raw.ends_with (Rattle.mos_fields.specs.Raw.end_text n) (x ++ c ∷ []))
  where
    go : (b : Bool) → FitsOk (taken p (cond b (whole_token (tail (x ++ c ∷ []))) (continues (in_tail n (x ++ c ∷ [])))))
    go true = fits_behind (message_step p (tail (x ++ c ∷ [])))
    go false = tt
char_fits p begin c h = taken_fits p (lex_step (is_outside p) begin c) h
char_fits p (in_text raw y) c h = taken_fits p (lex_step (is_outside p) (in_text raw y) c) h
char_fits p (text_reference raw y m) c h = taken_fits p (lex_step (is_outside p) (text_reference raw y m) c) h
char_fits p in_tag c h = taken_fits p (lex_step (is_outside p) in_tag c) h
char_fits p (start_name n) c h = taken_fits p (lex_step (is_outside p) (start_name n) c) h
char_fits p (in_start t b raw) c h = taken_fits p (lex_step (is_outside p) (in_start t b raw) c) h
char_fits p (attribute_name t a raw) c h = taken_fits p (lex_step (is_outside p) (attribute_name t a raw) c) h
char_fits p (before_equals t a raw) c h = taken_fits p (lex_step (is_outside p) (before_equals t a raw) c) h
char_fits p (before_value t a raw) c h = taken_fits p (lex_step (is_outside p) (before_value t a raw) c) h
char_fits p (in_value t a q w raw) c h = taken_fits p (lex_step (is_outside p) (in_value t a q w raw) c) h
char_fits p (value_reference t a q w raw m) c h = taken_fits p (lex_step (is_outside p) (value_reference t a q w raw m) c) h
char_fits p (before_close t raw) c h = taken_fits p (lex_step (is_outside p) (before_close t raw) c) h
char_fits p (end_name n) c h = taken_fits p (lex_step (is_outside p) (end_name n) c) h
char_fits p (end_white n) c h = taken_fits p (lex_step (is_outside p) (end_white n) c) h
char_fits p (in_question k) c h = taken_fits p (lex_step (is_outside p) (in_question k) c) h
char_fits p (in_declaration b) c h = taken_fits p (lex_step (is_outside p) (in_declaration b) c) h

pub run_back : (cs r : List ℕ) (s : Spot) (v : List Event) → CharTakes (char_run s cs) r v → CharReads s (cs ++ r) v
unfolding char_run
run_back [] r s v h = h
run_back (c ∷ cs) r s v h = char_back s c (cs ++ r) v (go (λ u. run_back cs r u v) (char_of s.position s.lex c) h)
  where
    go : ((u : Spot) → CharTakes (char_run u cs) r v → CharReads u (cs ++ r) v) → (o : Option Spot) → CharTakes (then_spot o (λ u. char_run u cs)) r v → CharTakes o (cs ++ r) v
    go f (Some u) g = f u g
    go f None g = absurd g

abbrev pub opening_spot : Spot
opening_spot = record { position = before_message before_prolog; lex = begin }

abbrev pub whole_spot : List Event → Spot
whole_spot v = record { position = inside (complete v); lex = begin }

-- Characters that lead to a complete message encode it.
pub run_message : (v : List Event) (c : List ℕ) → char_run opening_spot c ≡ Some (whole_spot v) → EncodesChars v c
run_message v c e =
    let takes : CharTakes (char_run opening_spot c) [] v = subst (λ (z : Option Spot). CharTakes z [] v) (sym e) ([], refl, (refl, refl)) in
    let h : CharReads opening_spot (c ++ []) v = run_back c [] opening_spot v takes in
    (h.0, subst (λ (z : List ℕ). WritesTokens h.0 z) (append-nil c) h.1, h.2)

module _ (laws : ReferenceLaws) where
  pub run_forward : (cs r : List ℕ) (s : Spot) (v : List Event) → Fits s → CharReads s (cs ++ r) v → CharTakes (char_run s cs) r v
  unfolding char_run
  run_forward [] r s v f h = h
  run_forward (c ∷ cs) r s v f h = go (λ u. run_forward cs r u v) (char_of s.position s.lex c) (char_fits s.position s.lex c f) (char_forward laws s c (cs ++ r) v f h)
    where
      go : ((u : Spot) → Fits u → CharReads u (cs ++ r) v → CharTakes (char_run u cs) r v) → (o : Option Spot) → FitsOk o → CharTakes o (cs ++ r) v → CharTakes (then_spot o (λ u. char_run u cs)) r v
      go g (Some u) i k = g u i k
      go g None i k = absurd k

  -- Characters that begin the encoding of a message are read, and what is left of it is what the state still reads.
  pub message_run_reads : (v : List Event) (c more : List ℕ) → EncodesChars v (c ++ more) → CharTakes (char_run opening_spot c) more v
  message_run_reads v c more m = run_forward c more opening_spot v refl (m.0, m.1, m.2)

  -- The characters of a message are read to its end.
  pub message_run_whole : (v : List Event) (c : List ℕ) → EncodesChars v c → CharTakes (char_run opening_spot c) [] v
  message_run_whole v c m = message_run_reads v c [] (m.0, subst (λ (z : List ℕ). WritesTokens m.0 z) (sym (append-nil c)) m.1, m.2)
