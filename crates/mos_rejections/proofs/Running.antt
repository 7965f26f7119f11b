-- Characters that are alive are read.
use Rattle.std.proofs.Common.{◌≡◌, ℕ, ◌<◌, Bool, true, false, cond, List, [], ◌∷◌, ◌++◌, length, Option, Some, Result, Ok, Err, refl, sym, ap, subst, ◌∙◌, arith}
use Rattle.std.proofs.lemmas.List.{length-append}
use Rattle.mos_fields.specs.Characters.{Text}
use Rattle.mos_fields.specs.Raw.{is_tail}
use Rattle.mos_fields.specs.Forms.{is_white}
use Rattle.mos_grammar.specs.Tokens.{Token, open_tag, empty_tag, close_tag, text, tail, mark, declaration}
use Rattle.mos_grammar.specs.declared.fault.Fault.{Fault}
use Rattle.mos_grammar.specs.declared.fault.Fault.TheVariants.{Tag as misplaced}
use Rattle.mos_grammar.specs.RecordMachine.{Frame, State, with_child, at, complete, between, in_field, behind_text, in_raw, step}
use Rattle.mos_grammar.specs.Streams.{Position, before_message, inside, inside_of, message_step, then_position, message_run}
use Rattle.mos_lexer.specs.Lexing.{begins_mark, WritesTokens}
use Rattle.mos_lexer.specs.LexMachine.{LexState, begin, in_text, in_tag, in_tail, LexStep, continues, whole_token, text_before, text_before_mark, no_token, no_reference, lex_step}
use Rattle.mos_lexer.specs.Units.{is_outside, lex_at}
use Rattle.mos_lexer.proofs.Lexer.{LexRest, LexTakes}
use Rattle.mos_lexer.proofs.Forward.{Fitting, FittingAt, NotTail, lex_forward}
use Rattle.mos_lexer.proofs.References.{reference_laws}
use Rattle.mos_lexer.proofs.Chars.{Fits, FitsOk, char_fits, fits_rest, Spot, behind_token, rests, taken, then_spot, char_run, step_mark, step_tail, text_begins, white_meets_none}
use Rattle.mos_fields.specs.declared.field.Field.{Field}
use Rattle.mos_grammar.specs.Records.{raw_events}
use Rattle.mos_rejections.proofs.Shape.{Sound, StepSound, step_sound}

-- ---- what is accepted

position_is : (p q : Position) → ◌≡◌ {A = Result Position Fault} (Ok p) (Ok q) → p ≡ q
position_is p q e = cc

-- the first of tokens that are read
pub first_read : (t : Token) (ts : List Token) (p q : Position) → message_run p (t ∷ ts) ≡ Ok q → (u : Position) × (message_step p t ≡ Ok u) × (message_run u ts ≡ Ok q)
unfolding message_run
first_read t ts p q e = go (message_step p t) refl e
  where
    go : (o : Result Position Fault) → message_step p t ≡ o → then_position o (λ w. message_run w ts) ≡ Ok q → (u : Position) × (message_step p t ≡ Ok u) × (message_run u ts ≡ Ok q)
    go (Ok u) i h = (u, i, h)
    go (Err k) i h = absurd cc

no_ok : (u : Position) (k : Fault) → ◌≡◌ {A = Result Position Fault} (Err k) (Ok u) → ⊥
no_ok u k e = cc

-- U+FEFF is read before a message alone
mark_outside : (p q : Position) → message_step p mark ≡ Ok q → is_outside p ≡ true
unfolding message_step
mark_outside (before_message g) q e = refl
mark_outside (inside s) q e = absurd (no_ok q misplaced (sym (ap inside_of (step_mark s)) ∙ e))

-- the rest of a raw element is read behind its start tag alone
pub tail_inside : (p q : Position) (x : Text) → lex_at p ≡ begin → message_step p (tail x) ≡ Ok q → ⊥
unfolding message_step
tail_inside (before_message g) q x b e = no_ok q misplaced e
tail_inside (inside s) q x b e = no_ok q misplaced (sym (ap inside_of (step_tail s x b)) ∙ e)

-- before a message a text that is read is white space
text_white : (p q : Position) (x y : Text) → is_outside p ≡ true → message_step p (text x y) ≡ Ok q → is_white x ≡ true
unfolding message_step
text_white (before_message g) q x y o e = go (is_white x) refl e
  where
    go : (b : Bool) → is_white x ≡ b → cond b (Ok (before_message g)) (Err misplaced) ≡ Ok q → is_white x ≡ true
    go true i h = i
    go false i h = absurd (no_ok q misplaced h)
text_white (inside s) q x y o e = absurd (no_bool o)
  where
    no_bool : false ≡ true → ⊥
    no_bool e = cc

no_false : false ≡ true → ⊥
no_false e = cc

-- ---- which tokens may come

-- what is asked of the last token, of which only the beginning was read, and of what is written behind it
pub record Last (q : Position) (t : Token) (us : List Token) : Type 0 where
  pub fits : lex_at q ≡ begin → Fitting (is_outside q) (t ∷ us)
  pub raw : (r : List ℕ) → WritesTokens (t ∷ us) r → LexRest (lex_at q) r (t ∷ us)
  pub no_tail : lex_at q ≡ begin → NotTail (t ∷ us)

pub run_nothing : (u q : Position) → message_run u [] ≡ Ok q → u ≡ q
unfolding message_run
run_nothing u q e = position_is u q e

-- behind a text no tail comes
behind_not_tail : (u q : Position) (ts : List Token) (t : Token) (us : List Token) → lex_at u ≡ begin → message_run u ts ≡ Ok q → Last q t us → NotTail (ts ++ t ∷ us)
behind_not_tail u q [] t us b e last = last.no_tail (subst (λ (z : Position). lex_at z ≡ begin) (run_nothing u q e) b)
behind_not_tail u q (a ∷ ts) t us b e last = not_tail a (first_read a ts u q e)
  where
    not_tail : (a : Token) → ((w : Position) × (message_step u a ≡ Ok w) × (message_run w ts ≡ Ok q)) → NotTail ((a ∷ ts) ++ t ∷ us)
    not_tail (tail x) h = tail_inside u h.0 x b h.1
    not_tail (open_tag n g raw) h = tt
    not_tail (empty_tag n g raw) h = tt
    not_tail (close_tag n) h = tt
    not_tail (text x y) h = tt
    not_tail mark h = tt
    not_tail declaration h = tt

text_keeps : (p u : Position) (x y : Text) → message_step p (text x y) ≡ Ok u → is_outside u ≡ is_outside p
unfolding message_step
text_keeps (before_message g) u x y e = go (is_white x) e
  where
    go : (b : Bool) → cond b (Ok (before_message g)) (Err misplaced) ≡ Ok u → is_outside u ≡ true
    go true h = ap is_outside (sym (position_is (before_message g) u h))
    go false h = absurd (no_ok u misplaced h)
text_keeps (inside s) u x y e = go (step s (text x y)) e
  where
    go : (o : Result State Fault) → inside_of o ≡ Ok u → is_outside u ≡ false
    go (Ok w) h = ap is_outside (sym (position_is (inside w) u h))
    go (Err k) h = absurd (no_ok u k h)

both : {A : Type 0} (b : Bool) → b ≡ true → b ≡ false → A
both true h k = absurd cc
both false h k = absurd cc

-- in a message no U+FEFF comes behind a text
no_mark_comes : (u q : Position) (ts : List Token) (t : Token) (us : List Token) → lex_at u ≡ begin → is_outside u ≡ false → message_run u ts ≡ Ok q → Last q t us → begins_mark (ts ++ t ∷ us) ≡ false
no_mark_comes u q [] t us b o e last = last_token t us (last.fits (subst (λ (z : Position). lex_at z ≡ begin) i b))
  where
    i : u ≡ q
    i = run_nothing u q e

    last_token : (t : Token) (us : List Token) → Fitting (is_outside q) (t ∷ us) → begins_mark (t ∷ us) ≡ false
    last_token mark us f = both (is_outside q) f (subst (λ (z : Position). is_outside z ≡ false) i o)
    last_token (open_tag n g raw) us f = refl
    last_token (empty_tag n g raw) us f = refl
    last_token (close_tag n) us f = refl
    last_token (text x y) us f = refl
    last_token (tail x) us f = refl
    last_token declaration us f = refl
no_mark_comes u q (a ∷ ts) t us b o e last = go a (first_read a ts u q e)
  where
    go : (a : Token) → ((w : Position) × (message_step u a ≡ Ok w) × (message_run w ts ≡ Ok q)) → begins_mark ((a ∷ ts) ++ t ∷ us) ≡ false
    go mark h = both (is_outside u) (mark_outside u h.0 h.1) o
    go (open_tag n g raw) h = refl
    go (empty_tag n g raw) h = refl
    go (close_tag n) h = refl
    go (text x y) h = refl
    go (tail x) h = refl
    go declaration h = refl

-- the tokens to come fit where one begins
fits_all : (p q : Position) (ts : List Token) (t : Token) (us : List Token) → lex_at p ≡ begin → message_run p ts ≡ Ok q → Last q t us → Fitting (is_outside p) (ts ++ t ∷ us)
fits_all p q [] t us b e last = (let i = run_nothing p q e in subst (λ (z : Position). Fitting (is_outside z) (t ∷ us)) (sym i) (last.fits (subst (λ (z : Position). lex_at z ≡ begin) i b)))
fits_all p q (a ∷ ts) t us b e last = go a (first_read a ts p q e)
  where
    go : (a : Token) → ((w : Position) × (message_step p a ≡ Ok w) × (message_run w ts ≡ Ok q)) → Fitting (is_outside p) ((a ∷ ts) ++ t ∷ us)
    go (open_tag n g raw) h = tt
    go (empty_tag n g raw) h = tt
    go (close_tag n) h = tt
    go declaration h = tt
    go mark h = mark_outside p h.0 h.1
    go (tail x) h = absurd (tail_inside p h.0 x b h.1)
    go (text x y) h =
        let u = text_begins p x y h.0 h.1 in (
          (λ o. white_meets_none x (text_white p h.0 x y o h.1)),
          (λ o m. text_white p h.0 x y o h.1),
          (λ o. no_mark_comes h.0 q ts t us u (text_keeps p h.0 x y h.1 ∙ o) h.2 last),
          behind_not_tail h.0 q ts t us u h.2 last,
        )

pub raw_tail : (n : Text) (p : Field) (tag : Text) (f : Frame) (fs : List Frame) (a : Token) (u : Position) → message_step (inside (at (in_raw n p tag) f fs)) a ≡ Ok u → (x : Text) × (a ≡ tail x) × (is_tail n x ≡ true)
unfolding message_step step
raw_tail n p tag f fs (tail x) u e = go (is_tail n x) refl e
  where
    go : (b : Bool) → is_tail n x ≡ b → inside_of (cond b (Ok (with_child f fs (p, raw_events p (tag ++ x)))) (Err misplaced)) ≡ Ok u → (y : Text) × (tail x ≡ tail y) × (is_tail n y ≡ true)
    go true i h = (x, refl, i)
    go false i h = absurd (no_ok u misplaced h)
raw_tail n p tag f fs (open_tag m g raw) u e = absurd (no_ok u misplaced e)
raw_tail n p tag f fs (empty_tag m g raw) u e = absurd (no_ok u misplaced e)
raw_tail n p tag f fs (close_tag m) u e = absurd (no_ok u misplaced e)
raw_tail n p tag f fs (text x y) u e = absurd (no_ok u misplaced e)
raw_tail n p tag f fs mark u e = absurd (no_ok u misplaced e)
raw_tail n p tag f fs declaration u e = absurd (no_ok u misplaced e)

pub tail_rest : (n x : Text) (us : List Token) (r : List ℕ) → is_tail n x ≡ true → WritesTokens (tail x ∷ us) r → LexRest (in_tail n []) r (tail x ∷ us)
unfolding is_tail
tail_rest n x us r h sp = (x, sp.1, us, h, sp.4 ∙ ap (λ (z : List ℕ). z ++ sp.1) sp.2, refl, sp.5)

-- how the next token begins
pub next_lex : (u q : Position) (ts : List Token) (t : Token) (us : List Token) (r : List ℕ) → message_run u ts ≡ Ok q → Last q t us → WritesTokens (ts ++ t ∷ us) r → LexRest (lex_at u) r (ts ++ t ∷ us)
next_lex u q [] t us r e last sp = subst (λ (z : Position). LexRest (lex_at z) r (t ∷ us)) (sym (run_nothing u q e)) (last.raw r sp)
next_lex (before_message g) q (a ∷ ts) t us r e last sp = sp
next_lex (inside (complete v)) q (a ∷ ts) t us r e last sp = sp
next_lex (inside (at between f fs)) q (a ∷ ts) t us r e last sp = sp
next_lex (inside (at (in_field n o) f fs)) q (a ∷ ts) t us r e last sp = sp
next_lex (inside (at (behind_text n o es) f fs)) q (a ∷ ts) t us r e last sp = sp
next_lex (inside (at (in_raw n p tag) f fs)) q (a ∷ ts) t us r e last sp =
    let h = first_read a ts (inside (at (in_raw n p tag) f fs)) q e in
    let k = raw_tail n p tag f fs a h.0 h.1 in
    subst (λ (z : Token). LexRest (in_tail n []) r (z ∷ (ts ++ t ∷ us))) (sym k.1) (tail_rest n k.0 (ts ++ t ∷ us) r k.2 (subst (λ (z : Token). WritesTokens (z ∷ (ts ++ t ∷ us)) r) k.1 sp))

-- ---- reading

-- what is written behind is longer than what the tokens behind need
pub record Unfinished (t : Token) (us : List Token) (more : List ℕ) : Type 0 where
  pub left : (r : List ℕ) → WritesTokens us r → length r < length more
  pub text_left : (r : List ℕ) → LexRest in_tag r us → length r < length more
  pub no_mark : begins_mark us ≡ false

pub fitting_at : (p q : Position) (l : LexState) (ts : List Token) (t : Token) (us : List Token) → Fits (record { position = p; lex = l }) → message_run p ts ≡ Ok q → Last q t us → FittingAt l (is_outside p) (ts ++ t ∷ us)
fitting_at p q begin ts t us f e last = fits_all p q ts t us f e last
fitting_at p q (in_text raw y) ts t us f e last = fits_all p q ts t us f e last
fitting_at p q l ts t us f e last = tt

too_long : {A : Type 0} (cs more : List ℕ) → length (cs ++ more) < length more → A
too_long cs more h = absurd (let e = length-append cs more in omega (arith, h, e))

pub head_is : (a b : Token) (x y : List Token) → (a ∷ x) ≡ (b ∷ y) → (a ≡ b) × (x ≡ y)
head_is a b x y e = (cc, cc)

-- where the reading of characters comes to, and what is left of the tokens
pub record Gone (more : List ℕ) (t : Token) (us : List Token) (q : Position) (o : Option Spot) : Type 0 where
  pub spot : Spot
  pub is : o ≡ Some spot
  pub tokens : List Token
  pub run : message_run spot.position tokens ≡ Ok q
  pub fits : Fits spot
  pub rest : LexRest spot.lex more (tokens ++ t ∷ us)

-- further characters are read from any state
abbrev pub Goes : List ℕ → List ℕ → Token → List Token → Position → Type 0
Goes cs more t us q = (p : Position) (l : LexState) (part : List ℕ) (ts : List Token) → Fits (record { position = p; lex = l }) → Sound (is_outside p) l part → message_run p ts ≡ Ok q → LexRest l (cs ++ more) (ts ++ t ∷ us)
    → Gone more t us q (char_run (record { position = p; lex = l }) cs)

pub sound_at : (u : Position) → Sound (is_outside u) (lex_at u) []
sound_at (before_message g) = refl
sound_at (inside (complete v)) = refl
sound_at (inside (at between f fs)) = refl
sound_at (inside (at (in_field n o) f fs)) = refl
sound_at (inside (at (behind_text n o es) f fs)) = refl
sound_at (inside (at (in_raw n p tag) f fs)) = (refl, λ y. refl)

-- behind a token that fits
behind_whole : (cs more : List ℕ) (t : Token) (us : List Token) (q p : Position) (k : Token) (ts us2 : List Token) → Goes cs more t us q → Last q t us → Unfinished t us more
    → message_run p ts ≡ Ok q → ts ++ t ∷ us ≡ k ∷ us2 → WritesTokens us2 (cs ++ more) → Gone more t us q (then_spot (behind_token (message_step p k) rests) (λ u. char_run u cs))
behind_whole cs more t us q p k [] us2 ih last left run e sp =
    let i = head_is t k us us2 e in
    too_long cs more (left.left (cs ++ more) (subst (λ (z : List Token). WritesTokens z (cs ++ more)) (sym i.1) sp))
behind_whole cs more t us q p k (a ∷ ts) us2 ih last left run e sp =
    let i = head_is a k (ts ++ t ∷ us) us2 e in
    let h = first_read a ts p q run in
    let s : message_step p k ≡ Ok h.0 = ap (message_step p) (sym i.0) ∙ h.1 in
    rw s (ih h.0 (lex_at h.0) [] ts (fits_rest h.0) (sound_at h.0) h.2 (next_lex h.0 q ts t us (cs ++ more) h.2 last (subst (λ (z : List Token). WritesTokens z (cs ++ more)) (sym i.1) sp)))

-- before a tag a text is whole
behind_text_whole : (cs more : List ℕ) (t : Token) (us : List Token) (q p : Position) (raw y : Text) (ts us2 : List Token) → Goes cs more t us q → Last q t us → Unfinished t us more
    → message_run p ts ≡ Ok q → ts ++ t ∷ us ≡ text raw y ∷ us2 → LexRest in_tag (cs ++ more) us2 → Gone more t us q (then_spot (behind_token (message_step p (text raw y)) (λ u. Some (record { position = u; lex = in_tag }))) (λ u. char_run u cs))
behind_text_whole cs more t us q p raw y [] us2 ih last left run e sp =
    let i = head_is t (text raw y) us us2 e in
    too_long cs more (left.text_left (cs ++ more) (subst (λ (z : List Token). LexRest in_tag (cs ++ more) z) (sym i.1) sp))
behind_text_whole cs more t us q p raw y (a ∷ ts) us2 ih last left run e sp =
    let i = head_is a (text raw y) (ts ++ t ∷ us) us2 e in
    let h = first_read a ts p q run in
    let s : message_step p (text raw y) ≡ Ok h.0 = ap (message_step p) (sym i.0) ∙ h.1 in
    rw s (ih h.0 in_tag (60 ∷ []) ts (text_begins p raw y h.0 s) refl h.2 (subst (λ (z : List Token). LexRest in_tag (cs ++ more) z) (sym i.1) sp))

-- U+FEFF behind white space
behind_mark_whole : (cs more : List ℕ) (t : Token) (us : List Token) (q p : Position) (raw y : Text) (ts us2 : List Token) → Goes cs more t us q → Last q t us → Unfinished t us more
    → message_run p ts ≡ Ok q → ts ++ t ∷ us ≡ text raw y ∷ (mark ∷ us2) → WritesTokens us2 (cs ++ more) → Gone more t us q (then_spot (behind_token (message_step p (text raw y)) (λ u. behind_token (message_step u mark) rests)) (λ u. char_run u cs))
behind_mark_whole cs more t us q p raw y [] us2 ih last left run e sp =
    let i = head_is t (text raw y) us (mark ∷ us2) e in
    both (begins_mark us) (subst (λ (z : List Token). begins_mark z ≡ true) (sym i.1) refl) left.no_mark
behind_mark_whole cs more t us q p raw y (a ∷ ts) us2 ih last left run e sp =
    let i = head_is a (text raw y) (ts ++ t ∷ us) (mark ∷ us2) e in
    let h = first_read a ts p q run in
    let s : message_step p (text raw y) ≡ Ok h.0 = ap (message_step p) (sym i.0) ∙ h.1 in
    rw s (behind_whole cs more t us q h.0 mark ts us2 ih last left h.2 i.1 sp)

-- Characters that do not finish the last token are read.
pub going : (cs more : List ℕ) (t : Token) (us : List Token) (q : Position) → Last q t us → Unfinished t us more → Goes cs more t us q
unfolding char_run
going [] more t us q last left p l part ts fit sound run rest = record { spot = record { position = p; lex = l }; is = refl; tokens = ts; run = run; fits = fit; rest = rest }
going (c ∷ cs) more t us q last left p l part ts fit sound run rest =
    go (going cs more t us q last left) (lex_step (is_outside p) l c) (char_fits p l c fit) (step_sound (is_outside p) l part c sound)
    (lex_forward reference_laws (is_outside p) l c (cs ++ more) (ts ++ t ∷ us) (fitting_at p q l ts t us fit run last) rest)
  where
    go : Goes cs more t us q → (o : LexStep) → FitsOk (taken p o) → StepSound (is_outside p) l part c o → LexTakes o (cs ++ more) (ts ++ t ∷ us) → Gone more t us q (then_spot (taken p o) (λ u. char_run u cs))
    go ih (continues k) f s takes = ih p k (part ++ c ∷ []) ts f s.0 run takes
    go ih (whole_token k) f s takes = behind_whole cs more t us q p k ts takes.0 ih last left run takes.1 takes.2
    go ih (text_before raw y k) f s takes =
        subst (λ (z : LexState). Gone more t us q (then_spot (behind_token (message_step p (text raw y)) (λ u. Some (record { position = u; lex = z }))) (λ u. char_run u cs))) (sym s.0)
        (behind_text_whole cs more t us q p raw y ts takes.0 ih last left run takes.1 (subst (λ (z : LexState). LexRest z (cs ++ more) takes.0) s.0 takes.2))
    go ih (text_before_mark raw y) f s takes = behind_mark_whole cs more t us q p raw y ts takes.0 ih last left run takes.1 takes.2
    go ih no_token f s takes = absurd takes
    go ih (no_reference k) f s takes = absurd takes
