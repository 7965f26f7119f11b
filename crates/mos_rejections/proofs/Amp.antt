-- Behind an `&` that is alive, and the beginning of a reference, no tag is open.
use Rattle.std.proofs.Common.{◌≡◌, ℕ, Bool, true, false, cond, eqb, List, [], ◌∷◌, ◌++◌, Option, Some, None, refl, sym, ap, subst, ◌∙◌, append_assoc, arith, ◌⊎◌, inl, inr}
use Rattle.std.specs.Prelude.{◌&&◌, not, nat_le}
use Rattle.std.specs.List.{list_all}
use Rattle.std.proofs.lemmas.Bool.{eqb-true}
use Rattle.std.proofs.lemmas.Bool.Decides.{nat_tests}
use Rattle.std.proofs.lemmas.List.{append-nil}
use Rattle.std.proofs.lemmas.List.Folds.{list_all-append}
use Rattle.mos_fields.specs.Characters.{Text}
use Rattle.mos_fields.specs.Fields.{same}
use Rattle.mos_fields.specs.Names.{is_empty, may_grow}
use Rattle.mos_fields.specs.References.{is_digit, number_in, is_hex, hex_from, of_number, numeric, or_numeric, named_references, reference_of, begins_reference}
use Rattle.mos_fields.specs.Raw.{end_text, ends_with, is_quote}
use Rattle.mos_grammar.proofs.Sound.{same-is}
use Rattle.mos_lexer.specs.LexMachine.{Tag, LexState, begin, in_text, text_reference, in_tag, start_name, in_start, attribute_name, before_equals, before_value, in_value, value_reference, before_close, end_name, end_white, in_tail, in_question, in_declaration, LexStep, continues, whole_token, text_before, text_before_mark, no_token, no_reference, continues_if, referred, reference_step, start_step, equals_step, lex_step}
use Rattle.mos_lexer.specs.Units.{is_outside}
use Rattle.mos_lexer.proofs.References.{of_number_digits, reference_laws}
use Rattle.mos_lexer.proofs.Chars.{Spot, taken, char_of, then_spot, char_run}
use Rattle.mos_rejections.proofs.Shape.{Sound, has_no_amp, IsTagState}
use Rattle.mos_rejections.proofs.Witness.{completion}

no_both : {A : Type 0} (b : Bool) → b ≡ true → b ≡ false → A
no_both true h k = absurd cc
no_both false h k = absurd cc

and_parts : (a b : Bool) → (a && b) ≡ true → (a ≡ true) × (b ≡ true)
and_parts true b h = (refl, h)
and_parts false b h = absurd cc

-- ---- the characters of references

-- a character that may stand in a reference: no `&`, no `>`, no `?`, and one code unit
abbrev pub is_part : ℕ → Bool
is_part c = nat_le 35 c && nat_le c 122 && not (eqb c 38) && not (eqb c 62) && not (eqb c 63)

digit_part : (c : ℕ) → is_digit c ≡ true → is_part c ≡ true
digit_part c h = grind (arith, nat_tests)

hex_part : (c : ℕ) → is_hex c ≡ true → is_part c ≡ true
hex_part c h = grind (arith, nat_tests)

all_parts : (f : ℕ → Bool) → ((c : ℕ) → f c ≡ true → is_part c ≡ true) → (x : Text) → list_all f x ≡ true → list_all is_part x ≡ true
all_parts f g [] h = refl
all_parts f g (c ∷ x) h = let p = and_parts (f c) (list_all f x) h in rw (g c p.0) (all_parts f g x p.1)

digits_parts : (f : ℕ → Bool) → ((c : ℕ) → f c ≡ true → is_part c ≡ true) → (value : Text → ℕ) (x : Text) (e : ℕ) → of_number f value [] x ≡ Some e → list_all is_part x ≡ true
digits_parts f g value x e h =
    let d = of_number_digits f value [] x e h in
    let a = all_parts f g d.0 d.2 in
    ap (list_all is_part) d.1 ∙ list_all-append is_part d.0 (59 ∷ []) ∙ rw a refl

numeric_parts : (x : Text) (e : ℕ) → numeric x ≡ Some e → list_all is_part x ≡ true
numeric_parts [] e h = refl
numeric_parts (c ∷ x) e h = go (eqb c 120) refl h
  where
    go : (b : Bool) → eqb c 120 ≡ b → cond b (of_number is_hex (hex_from 0) [] x) (of_number is_digit number_in [] (c ∷ x)) ≡ Some e → list_all is_part (c ∷ x) ≡ true
    go true i h = let p : c ≡ 120 = eqb-true c 120 i in rw p (digits_parts is_hex hex_part (hex_from 0) x e h)
    go false i h = digits_parts is_digit digit_part number_in (c ∷ x) e h

all_named : List (Text × ℕ) → Bool
all_named [] = true
all_named (p ∷ ps) = list_all is_part p.0 && all_named ps

or_parts : (x : Text) (ps : List (Text × ℕ)) (e : ℕ) → all_named ps ≡ true → or_numeric x ps ≡ Some e → list_all is_part x ≡ true
unfolding all_named
or_parts [] ps e a h = refl
or_parts (c ∷ x) [] e a h = go (eqb c 35) refl h
  where
    go : (b : Bool) → eqb c 35 ≡ b → cond b (numeric x) None ≡ Some e → list_all is_part (c ∷ x) ≡ true
    go true i h = let p : c ≡ 35 = eqb-true c 35 i in rw p (numeric_parts x e h)
    go false i h = absurd cc
or_parts (c ∷ x) (p ∷ ps) e a h = go (λ k. or_parts (c ∷ x) ps e (and_parts (list_all is_part p.0) (all_named ps) a).1 k) (same (c ∷ x) p.0) refl h
  where
    go : (or_numeric (c ∷ x) ps ≡ Some e → list_all is_part (c ∷ x) ≡ true) → (b : Bool) → same (c ∷ x) p.0 ≡ b → cond b (Some p.1) (or_numeric (c ∷ x) ps) ≡ Some e → list_all is_part (c ∷ x) ≡ true
    go ih true i h = subst (λ (z : Text). list_all is_part z ≡ true) (sym (same-is (c ∷ x) p.0 i)) (and_parts (list_all is_part p.0) (all_named ps) a).0
    go ih false i h = ih h

pub reference_parts : (x : Text) (e : ℕ) → reference_of x ≡ Some e → list_all is_part x ≡ true
unfolding reference_of all_named
reference_parts x e h = or_parts x named_references e refl h

front_all : (f : ℕ → Bool) (x y : Text) → list_all f (x ++ y) ≡ true → list_all f x ≡ true
front_all f x y h = (and_parts (list_all f x) (list_all f y) (sym (list_all-append f x y) ∙ h)).0

-- the characters of the beginning of a reference
pub begun_parts : (m : Text) → begins_reference m ≡ true → reference_of m ≡ None → list_all is_part m ≡ true
begun_parts m b n = let c = completion m b n in front_all is_part m c.rest (reference_parts (m ++ c.rest) c.char c.is)

-- no `&` stands in a reference
last_part : (m : Text) (c : ℕ) → list_all is_part (m ++ c ∷ []) ≡ true → is_part c ≡ true
last_part m c h = (let p = and_parts (list_all is_part m) (list_all is_part (c ∷ [])) (sym (list_all-append is_part m (c ∷ [])) ∙ h) in (and_parts (is_part c) true p.1).0)

none_or_some : (o : Option ℕ) → (o ≡ None) ⊎ ((d : ℕ) × (o ≡ Some d))
none_or_some None = inl refl
none_or_some (Some d) = inr (d, refl)

amp_no_reference : (m : Text) → (reference_of (m ++ 38 ∷ []) ≡ None) × (begins_reference (m ++ 38 ∷ []) ≡ false)
amp_no_reference m = go (none_or_some (reference_of (m ++ 38 ∷ [])))
  where
    begins : reference_of (m ++ 38 ∷ []) ≡ None → (b : Bool) → begins_reference (m ++ 38 ∷ []) ≡ b → begins_reference (m ++ 38 ∷ []) ≡ false
    begins n true e = absurd (no_both (is_part 38) (last_part m 38 (begun_parts (m ++ 38 ∷ []) e n)) refl)
    begins n false e = e

    go : (reference_of (m ++ 38 ∷ []) ≡ None) ⊎ ((d : ℕ) × (reference_of (m ++ 38 ∷ []) ≡ Some d)) → (reference_of (m ++ 38 ∷ []) ≡ None) × (begins_reference (m ++ 38 ∷ []) ≡ false)
    go (inl n) = (n, begins n (begins_reference (m ++ 38 ∷ [])) refl)
    go (inr s) = absurd (no_both (is_part 38) (last_part m 38 (reference_parts (m ++ 38 ∷ []) s.0 s.1)) refl)

-- ---- the machine behind an `&`

-- behind an `&`, and further characters that begin a reference
abbrev pub BehindAmp : Text → LexState → Type 0
BehindAmp m (text_reference raw y k) = k ≡ m
BehindAmp m (value_reference g a q v raw k) = k ≡ m
BehindAmp m (in_tail n x) = Unit {0}
BehindAmp m (in_declaration b) = b ≡ false
BehindAmp m l = ⊥

-- where a character leads, if it is read
abbrev pub AmpStep : Text → LexStep → Type 0
AmpStep m (continues k) = BehindAmp m k
AmpStep m (whole_token t) = ⊥
AmpStep m (text_before raw y k) = ⊥
AmpStep m (text_before_mark raw y) = ⊥
AmpStep m no_token = Unit {0}
AmpStep m (no_reference k) = Unit {0}

amp_stops : (n : Text) → may_grow n 38 ≡ false
unfolding may_grow
amp_stops [] = refl
amp_stops (c ∷ n) = refl

and_false : (b : Bool) → (b && false) ≡ false
and_false true = refl
and_false false = refl

amp_start : (m : Text) (g : Tag) (spaced : Bool) (raw : Text) → AmpStep m (start_step g spaced raw 38)
unfolding may_grow
amp_start m g true raw = tt
amp_start m g false raw = tt

-- the last of a list
pub last_one : (x y : List ℕ) (c d : ℕ) → x ++ c ∷ [] ≡ y ++ d ∷ [] → (x ≡ y) × (c ≡ d)
last_one [] [] c d e = (refl, cc)
last_one [] (b ∷ y) c d e = absurd (none y e)
  where
    none : (y : List ℕ) → c ∷ [] ≡ b ∷ (y ++ d ∷ []) → ⊥
    none [] e = cc
    none (z ∷ y) e = cc
last_one (a ∷ x) [] c d e = absurd (none x e)
  where
    none : (x : List ℕ) → a ∷ (x ++ c ∷ []) ≡ d ∷ [] → ⊥
    none [] e = cc
    none (z ∷ x) e = cc
last_one (a ∷ x) (b ∷ y) c d e =
    let h = heads a b (x ++ c ∷ []) (y ++ d ∷ []) e in
    let r = last_one x y c d h.1 in
    (ap (λ (z : ℕ). z ∷ x) h.0 ∙ ap (λ (z : List ℕ). b ∷ z) r.0, r.1)
  where
    heads : (a b : ℕ) (x y : List ℕ) → (a ∷ x) ≡ (b ∷ y) → (a ≡ b) × (x ≡ y)
    heads a b x y e = (cc, cc)

ends_front : (e z : Text) → ends_with e z ≡ true → (y : Text) × (z ≡ y ++ e)
ends_front e [] h = ([], sym (same-is e [] h))
ends_front e (c ∷ z) h = go (λ i. ends_front e z i) (same e (c ∷ z)) refl h
  where
    go : (ends_with e z ≡ true → (y : Text) × (z ≡ y ++ e)) → (b : Bool) → same e (c ∷ z) ≡ b → cond b true (ends_with e z) ≡ true → (y : Text) × ((c ∷ z) ≡ y ++ e)
    go f true i h = ([], sym (same-is e (c ∷ z) i))
    go f false i h = (let r = f h in (c ∷ r.0, ap (λ (w : Text). c ∷ w) r.1))

-- an end tag ends with `>`
not_end : (n x : Text) (c : ℕ) → eqb c 62 ≡ false → ends_with (end_text n) (x ++ c ∷ []) ≡ false
not_end n x c h = go (ends_with (end_text n) (x ++ c ∷ [])) refl
  where
    go : (b : Bool) → ends_with (end_text n) (x ++ c ∷ []) ≡ b → ends_with (end_text n) (x ++ c ∷ []) ≡ false
    go false e = e
    go true e =
        let r = ends_front (end_text n) (x ++ c ∷ []) e in
        let i : c ≡ 62 = (last_one x (r.0 ++ 60 ∷ 47 ∷ n) c 62 (r.1 ∙ sym (append_assoc r.0 (60 ∷ 47 ∷ n) (62 ∷ [])))).1 in
        absurd (no_both (eqb 62 62) refl (subst (λ (z : ℕ). eqb z 62 ≡ false) i h))

amp_reference : (m : Text) (found : ℕ → LexState) (more : LexState) → AmpStep [] (reference_step (m ++ 38 ∷ []) found more)
amp_reference m found more = let n = amp_no_reference m in rw (n.0, n.1) tt

-- an `&` that is read
first_amp : (o : Bool) (l : LexState) (p : Text) → Sound o l p → AmpStep [] (lex_step o l 38)
unfolding lex_step may_grow
first_amp o begin p h = rw (and_false o) refl
first_amp true (in_text raw y) p h = refl
first_amp false (in_text raw y) p h = refl
first_amp o (text_reference raw y m) p h = amp_reference m (λ d. in_text (raw ++ 38 ∷ []) (y ++ d ∷ [])) (text_reference (raw ++ 38 ∷ []) y (m ++ 38 ∷ []))
first_amp o in_tag p h = tt
first_amp o (start_name n) p h = rw (amp_stops n) (go (is_empty n))
  where
    go : (b : Bool) → AmpStep [] (cond b no_token (start_step (record { name = n; given = [] }) false (60 ∷ n) 38))
    go true = tt
    go false = tt
first_amp o (in_start g spaced raw) p h = amp_start [] g spaced raw
first_amp o (attribute_name g a raw) p h = rw (amp_stops a) (go (is_empty a))
  where
    go : (b : Bool) → AmpStep [] (cond b no_token (equals_step g a raw 38))
    go true = tt
    go false = tt
first_amp o (before_equals g a raw) p h = tt
first_amp o (before_value g a raw) p h = tt
first_amp o (in_value g a q v raw) p h = go (eqb 38 q) refl
  where
    go : (b : Bool) → eqb 38 q ≡ b → AmpStep [] (cond b (continues_if (is_quote q) (in_start (Rattle.mos_lexer.specs.LexMachine.more_attributes g a v) false (raw ++ 38 ∷ []))) (continues (value_reference g a q v (raw ++ 38 ∷ []) [])))
    go true e = (let i : 38 ≡ q = eqb-true 38 q e in absurd (no_both (is_quote q) h (subst (λ (z : ℕ). is_quote z ≡ false) i refl)))
    go false e = refl
first_amp o (value_reference g a q v raw m) p h = amp_reference m (λ d. in_value g a q (v ++ d ∷ []) (raw ++ 38 ∷ [])) (value_reference g a q v (raw ++ 38 ∷ []) (m ++ 38 ∷ []))
first_amp o (before_close g raw) p h = tt
first_amp o (end_name n) p h = rw (amp_stops n) (go (is_empty n))
  where
    go : (b : Bool) → AmpStep [] (cond b no_token (cond false (whole_token (Rattle.mos_grammar.specs.Tokens.close_tag n)) (continues_if false (end_white n))))
    go true = tt
    go false = tt
first_amp o (end_white n) p h = tt
first_amp o (in_tail n x) p h = rw (not_end n x 38 refl) tt
first_amp o (in_question []) p h = tt
first_amp o (in_question (d ∷ k)) p h = go (eqb 38 d) refl
  where
    go : (b : Bool) → eqb 38 d ≡ b → AmpStep [] (cond b (continues (in_question k)) no_token)
    go true e = (let i : 38 ≡ d = eqb-true 38 d e in absurd (no_both (not (eqb d 38) && has_no_amp k) h (subst (λ (z : ℕ). (not (eqb z 38) && has_no_amp k) ≡ false) i refl)))
    go false e = tt
first_amp o (in_declaration true) p h = refl
first_amp o (in_declaration false) p h = refl

part_not_end : (c : ℕ) → is_part c ≡ true → eqb c 62 ≡ false
part_not_end c h = grind (arith, nat_tests)

part_not_question : (c : ℕ) → is_part c ≡ true → eqb c 63 ≡ false
part_not_question c h = grind (arith, nat_tests)

-- a further character
next_amp : (o : Bool) (m : Text) (l : LexState) (c : ℕ) → BehindAmp m l → reference_of (m ++ c ∷ []) ≡ None → begins_reference (m ++ c ∷ []) ≡ true → is_part c ≡ true → AmpStep (m ++ c ∷ []) (lex_step o l c)
unfolding lex_step
next_amp o m (text_reference raw y k) c h n b i = rw (h, n, b) refl
next_amp o m (value_reference g a q v raw k) c h n b i = rw (h, n, b) refl
next_amp o m (in_tail k x) c h n b i = rw (not_end k x c (part_not_end c i)) tt
next_amp o m (in_declaration true) c h n b i = absurd (no_both true refl h)
next_amp o m (in_declaration false) c h n b i = part_not_question c i
next_amp o m begin c h n b i = absurd h
next_amp o m (in_text raw y) c h n b i = absurd h
next_amp o m in_tag c h n b i = absurd h
next_amp o m (start_name k) c h n b i = absurd h
next_amp o m (in_start g s raw) c h n b i = absurd h
next_amp o m (attribute_name g a raw) c h n b i = absurd h
next_amp o m (before_equals g a raw) c h n b i = absurd h
next_amp o m (before_value g a raw) c h n b i = absurd h
next_amp o m (in_value g a q v raw) c h n b i = absurd h
next_amp o m (before_close g raw) c h n b i = absurd h
next_amp o m (end_name k) c h n b i = absurd h
next_amp o m (end_white k) c h n b i = absurd h
next_amp o m (in_question k) c h n b i = absurd h

-- a spot that a step leads to
led : (p : Rattle.mos_grammar.specs.Streams.Position) (m : Text) (s : LexStep) (w : Spot) → AmpStep m s → taken p s ≡ Some w → BehindAmp m w.lex
led p m (continues k) w a e = subst (λ (z : Spot). BehindAmp m z.lex) (spot_is (record { position = p; lex = k }) w e) a
  where
    spot_is : (a b : Spot) → ◌≡◌ {A = Option Spot} (Some a) (Some b) → a ≡ b
    spot_is a b e = cc
led p m (whole_token t) w a e = absurd a
led p m (text_before raw y k) w a e = absurd a
led p m (text_before_mark raw y) w a e = absurd a
led p m no_token w a e = absurd cc
led p m (no_reference k) w a e = absurd cc

-- the characters of the beginning of a reference lead on
amp_run : (m2 m1 : Text) (s w : Spot) (rest : Text) (e : ℕ) → reference_of (m1 ++ (m2 ++ rest)) ≡ Some e → is_empty rest ≡ false → BehindAmp m1 s.lex → char_run s m2 ≡ Some w → BehindAmp (m1 ++ m2) w.lex
unfolding char_run
amp_run [] m1 s w rest e r some h run = subst (λ (z : Text). BehindAmp z w.lex) (sym (append-nil m1)) (subst (λ (z : Spot). BehindAmp m1 z.lex) (spot_is s w run) h)
  where
    spot_is : (a b : Spot) → ◌≡◌ {A = Option Spot} (Some a) (Some b) → a ≡ b
    spot_is a b e = cc
amp_run (c ∷ m2) m1 s w rest e r some h run = subst (λ (z : Text). BehindAmp z w.lex) (append_assoc m1 (c ∷ []) m2) (go (λ u i j. amp_run m2 (m1 ++ c ∷ []) u w rest e whole some i j) (char_of s.position s.lex c) refl run)
  where
    whole : reference_of ((m1 ++ c ∷ []) ++ (m2 ++ rest)) ≡ Some e
    whole = ap reference_of (append_assoc m1 (c ∷ []) (m2 ++ rest)) ∙ r

    left : (m : Text) → is_empty (m ++ rest) ≡ false
    left [] = some
    left (d ∷ m) = refl

    part : is_part c ≡ true
    part = last_part m1 c (front_all is_part (m1 ++ c ∷ []) (m2 ++ rest) (reference_parts ((m1 ++ c ∷ []) ++ (m2 ++ rest)) e whole))

    go : ((u : Spot) → BehindAmp (m1 ++ c ∷ []) u.lex → char_run u m2 ≡ Some w → BehindAmp ((m1 ++ c ∷ []) ++ m2) w.lex) → (o : Option Spot) → char_of s.position s.lex c ≡ o → then_spot o (λ u. char_run u m2) ≡ Some w → BehindAmp ((m1 ++ c ∷ []) ++ m2) w.lex
    go f (Some u) i j = f u (led s.position (m1 ++ c ∷ []) (lex_step (is_outside s.position) s.lex c) u
        (next_amp (is_outside s.position) m1 s.lex c h (reference_laws.no_front (m1 ++ c ∷ []) (m2 ++ rest) e whole (left m2)) (reference_laws.goes_on (m1 ++ c ∷ []) (m2 ++ rest) e whole (left m2)) part) i) j
    go f None i j = absurd cc

-- Behind an `&` and the beginning of a reference the machine is in that reference, or reads none.
pub amp_behind : (m : Text) (s w : Spot) (p : Text) → Sound (is_outside s.position) s.lex p → begins_reference m ≡ true → reference_of m ≡ None → char_run s (38 ∷ m) ≡ Some w → BehindAmp m w.lex
unfolding char_run
amp_behind m s w p sound b n run = go (char_of s.position s.lex 38) refl run
  where
    go : (o : Option Spot) → char_of s.position s.lex 38 ≡ o → then_spot o (λ u. char_run u m) ≡ Some w → BehindAmp m w.lex
    go None i j = absurd cc
    go (Some u) i j =
        let c = completion m b n in
        amp_run m [] u w c.rest c.char c.is c.some (led s.position [] (lex_step (is_outside s.position) s.lex 38) u (first_amp (is_outside s.position) s.lex p sound) i) j

-- No tag is open there.
pub amp_no_tag : (m : Text) (s w : Spot) (p : Text) → Sound (is_outside s.position) s.lex p → begins_reference m ≡ true → reference_of m ≡ None → char_run s (38 ∷ m) ≡ Some w → IsTagState w.lex → ⊥
amp_no_tag m s w p sound b n run t = clash w.lex (amp_behind m s w p sound b n run) t
  where
    clash : (l : LexState) → BehindAmp m l → IsTagState l → ⊥
    clash (text_reference raw y k) h i = i
    clash (value_reference g a q v raw k) h i = i
    clash (in_tail k x) h i = i
    clash (in_declaration d) h i = i
    clash begin h i = h
    clash (in_text raw y) h i = h
    clash in_tag h i = h
    clash (start_name k) h i = h
    clash (in_start g d raw) h i = h
    clash (attribute_name g a raw) h i = h
    clash (before_equals g a raw) h i = h
    clash (before_value g a raw) h i = h
    clash (in_value g a q v raw) h i = h
    clash (before_close g raw) h i = h
    clash (end_name k) h i = h
    clash (end_white k) h i = h
    clash (in_question k) h i = h
