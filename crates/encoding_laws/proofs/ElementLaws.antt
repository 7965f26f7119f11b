-- The raw text of one element is found to be that.
use Rattle.std.proofs.Common.{◌≡◌, ℕ, suc, ◌+◌, ◌-◌, ◌≤◌, Bool, true, false, cond, not, ◌&&◌, ◌||◌, eqb, ltb, List, [], ◌∷◌, ◌++◌, length, take, drop, Some, None, is_some, refl, sym, ap, ◌∙◌, subst, arith}
use Rattle.std.specs.Prelude.{◌==◌, nat_le}
use Rattle.std.specs.List.{list_all}
use Rattle.std.proofs.lemmas.Bool.{and_parts, and_from, eqb-true, eq-eqb, ne_eqb}
use Rattle.std.proofs.lemmas.Bool.Decides.{nat_tests}
use Rattle.std.proofs.lemmas.List.{take_at, drop_at}
use Rattle.mos_fields.specs.Characters.{Text, is_allowed}
use Rattle.mos_fields.specs.Fields.{same}
use Rattle.mos_fields.specs.Names.{is_start, is_further, is_empty, is_name}
use Rattle.mos_fields.specs.References.{is_digit, is_hex, hex_from, number_in, named_references, of_number, numeric, or_numeric, reference_of}
use Rattle.mos_fields.specs.Units.{grows_at, named_at}
use Rattle.mos_fields.specs.Raw.{is_space, is_plain, is_quote, ValueText, value_ends, value_itself, value_reference, QuotedText, quoted_space, quote, EqualsText, equals_space, equals, TagText, ends_start, ends_empty, tag_space, attribute, IsRaw, raw_empty, raw_whole}
use Rattle.mos_fields.specs.declared.tag_step.TagPart.{TagPart}
use Rattle.mos_fields.specs.declared.tag_step.TagPart.TheVariants as parts
use Rattle.mos_fields.specs.declared.tag_step.TagStep.TheVariants as steps
use Rattle.mos_fields.specs.Elements.{name_count, reference_count, begins_with_reference, between_step, equals_step, quote_step, value_step, tag_step, goes_on, is_element}
use Rattle.mos_fields.specs.Faults.{text_fault}
use Rattle.mos_fields.specs.declared.fault.FieldFault.TheVariants.{BadWord as bad_word}
use Rattle.mos_fields.proofs.NameLemmas.{name_by_places}
use Rattle.mos_fields.proofs.WordLemmas.{same_is}
use Rattle.mos_fields.proofs.ElementLemmas.{follows, EndsElement, element_is_raw}
use Rattle.encoding_laws.specs.FieldLaws.{ElementsAreRaw, UnreadsAreReadBack}
use Rattle.encoding_laws.proofs.TextLaws.{allowed_text, behind, no_fault_if}

-- ---- a reference ends at its `;`

abbrev ends_semicolon : Text → Bool
ends_semicolon [] = false
ends_semicolon (c ∷ cs) = cond (eqb c 59) (is_empty cs) (ends_semicolon cs)

taken_if : (b : Bool) (x e : ℕ) → cond b (Some x) None ≡ Some e → b ≡ true
taken_if true x e h = refl
taken_if false x e h = absurd cc

first_of_five : (a b c d f : Bool) → (a && b && c && d && f) ≡ true → a ≡ true
first_of_five true b c d f h = refl
first_of_five false b c d f h = absurd cc

number_ends : (digit : ℕ → Bool) (value : Text → ℕ) (d x : Text) (e : ℕ) → of_number digit value d x ≡ Some e → ends_semicolon x ≡ true
number_ends digit value d [] e h = absurd cc
number_ends digit value d (c ∷ x) e h = go (eqb c 59) (number_ends digit value (d ++ c ∷ []) x e) h
  where
    go : (b : Bool) → (of_number digit value (d ++ c ∷ []) x ≡ Some e → ends_semicolon x ≡ true)
        → cond b (cond (is_empty x && nat_le 1 (length d) && nat_le (length d) 8 && list_all digit d && is_allowed (value d)) (Some (value d)) None) (of_number digit value (d ++ c ∷ []) x) ≡ Some e
        → cond b (is_empty x) (ends_semicolon x) ≡ true
    go true ih h = first_of_five (is_empty x) (nat_le 1 (length d)) (nat_le (length d) 8) (list_all digit d) (is_allowed (value d)) (taken_if _ (value d) e h)
    go false ih h = ih h

numeric_ends : (x : Text) (e : ℕ) → numeric x ≡ Some e → ends_semicolon x ≡ true
numeric_ends [] e h = absurd cc
numeric_ends (c ∷ x) e h = go (eqb c 120) refl h
  where
    go : (b : Bool) → eqb c 120 ≡ b → cond b (of_number is_hex (hex_from 0) [] x) (of_number is_digit number_in [] (c ∷ x)) ≡ Some e → ends_semicolon (c ∷ x) ≡ true
    go true i h = let p : c ≡ 120 = eqb-true c 120 i in rw p (number_ends is_hex (hex_from 0) [] x e h)
    go false i h = number_ends is_digit number_in [] (c ∷ x) e h

abbrev all_end : List (Text × ℕ) → Bool
all_end [] = true
all_end (p ∷ ps) = ends_semicolon p.0 && all_end ps

or_numeric_ends : (x : Text) (ps : List (Text × ℕ)) (e : ℕ) → all_end ps ≡ true → or_numeric x ps ≡ Some e → ends_semicolon x ≡ true
or_numeric_ends [] [] e a h = absurd cc
or_numeric_ends (c ∷ x) [] e a h = go (eqb c 35) refl h
  where
    go : (b : Bool) → eqb c 35 ≡ b → cond b (numeric x) None ≡ Some e → ends_semicolon (c ∷ x) ≡ true
    go true i h = let p : c ≡ 35 = eqb-true c 35 i in rw p (numeric_ends x e h)
    go false i h = absurd cc
or_numeric_ends [] (p ∷ ps) e a h = go (or_numeric_ends [] ps e (and_parts (ends_semicolon p.0) (all_end ps) a).1) (same [] p.0) refl h
  where
    go : (or_numeric [] ps ≡ Some e → ends_semicolon [] ≡ true) → (b : Bool) → same [] p.0 ≡ b → cond b (Some p.1) (or_numeric [] ps) ≡ Some e → ends_semicolon [] ≡ true
    go ih true i h = let P : Text → Type 0 = λ z. ends_semicolon z ≡ true in subst P (sym (same_is [] p.0 i)) (and_parts (ends_semicolon p.0) (all_end ps) a).0
    go ih false i h = ih h
or_numeric_ends (c ∷ x) (p ∷ ps) e a h = go (or_numeric_ends (c ∷ x) ps e (and_parts (ends_semicolon p.0) (all_end ps) a).1) (same (c ∷ x) p.0) refl h
  where
    go : (or_numeric (c ∷ x) ps ≡ Some e → ends_semicolon (c ∷ x) ≡ true) → (b : Bool) → same (c ∷ x) p.0 ≡ b → cond b (Some p.1) (or_numeric (c ∷ x) ps) ≡ Some e → ends_semicolon (c ∷ x) ≡ true
    go ih true i h = let P : Text → Type 0 = λ z. ends_semicolon z ≡ true in subst P (sym (same_is (c ∷ x) p.0 i)) (and_parts (ends_semicolon p.0) (all_end ps) a).0
    go ih false i h = ih h

reference_ends : (m : Text) (e : ℕ) → reference_of m ≡ Some e → ends_semicolon m ≡ true
unfolding reference_of
reference_ends m e h = or_numeric_ends m named_references e refl h

reference_counted : (m x : Text) → ends_semicolon m ≡ true → reference_count (m ++ x) ≡ length m
reference_counted [] x h = absurd cc
reference_counted (c ∷ m) x h = go (eqb c 59) (reference_counted m x) h
  where
    go : (b : Bool) → (ends_semicolon m ≡ true → reference_count (m ++ x) ≡ length m) → cond b (is_empty m) (ends_semicolon m) ≡ true → cond b 1 (1 + reference_count (m ++ x)) ≡ length (c ∷ m)
    go true ih h = ap (λ k. suc k) (let z : 0 ≡ length m = ap length (nothing m h) in z)
      where
        nothing : (y : Text) → is_empty y ≡ true → [] ≡ y
        nothing [] e = refl
        nothing (d ∷ y) e = absurd cc
    go false ih h = let k : reference_count (m ++ x) ≡ length m = ih h in omega arith

reference_found : (m x : Text) (e : ℕ) → reference_of m ≡ Some e → begins_with_reference (m ++ x) ≡ true
reference_found m x e h =
    ap (λ k. is_some (reference_of (take k (m ++ x)))) (reference_counted m x (reference_ends m e h))
    ∙ (ap (λ y. is_some (reference_of y)) (take_at m x (length m) refl) ∙ ap is_some h)

-- ---- characters that aren't others

quote_tests : (q : ℕ) → is_quote q ≡ true → eqb 38 q ≡ false
quote_tests q h = grind (arith, nat_tests)

start_tests : (c : ℕ) → is_start c ≡ true → (is_space c ≡ false) × (eqb c 62 ≡ false) × (eqb c 47 ≡ false) × (is_further c ≡ true)
start_tests c h = (grind (arith, nat_tests), grind (arith, nat_tests), grind (arith, nat_tests), ap (λ b. b || (nat_le 48 c && nat_le c 58) || (c == 45) || (c == 46)) h)

space_tests : (c : ℕ) → is_space c ≡ true → is_further c ≡ false
space_tests c h = grind (arith, nat_tests)

plain_tests : (c : ℕ) → is_plain c ≡ true → (eqb c 38 ≡ false) × (eqb c 60 ≡ false)
plain_tests c h = go (eqb c 60) (eqb c 38) h
  where
    go : (a b : Bool) → not (a || b) ≡ true → (b ≡ false) × (a ≡ false)
    go false false h = (refl, refl)
    go false true h = absurd cc
    go true b h = absurd cc

-- ---- steps

step_next : (n : Text) (p q : TagPart) (c : ℕ) (x : Text) → tag_step p c x ≡ steps.Next q → goes_on n p (c ∷ x) ≡ goes_on n q x
step_next n p q c x e = ap (follows n x) e

-- the rest of a reference is passed over
passed : (n : Text) (q : ℕ) (m x : Text) → goes_on n (parts.Reference q (length m)) (m ++ x) ≡ goes_on n (parts.Value q) x
unfolding tag_step
passed n q [] [] = refl
passed n q [] (c ∷ x) = refl
passed n q (d ∷ m) x =
    let less : suc (length m) - 1 ≡ length m = omega arith in
    ap (λ b. follows n (m ++ x) (cond b (value_step q d (m ++ x)) (steps.Next (parts.Reference q (suc (length m) - 1))))) (ne_eqb (suc (length m)) 0 (λ z. omega arith))
    ∙ (ap (λ k. goes_on n (parts.Reference q k) (m ++ x)) less ∙ passed n q m x)

value_complete : (n : Text) (q : ℕ) (x y : Text) → is_quote q ≡ true → ValueText q x y → goes_on n (parts.Value q) x ≡ goes_on n (parts.Between false) y
unfolding tag_step
value_complete n q x y i (value_ends {y = z}) = ap (λ b. follows n z (cond b (steps.Next (parts.Between false)) (cond (eqb q 38) (cond (begins_with_reference z) (steps.Next (parts.Reference q (reference_count z))) steps.Wrong) (cond (eqb q 60) steps.Wrong (steps.Next (parts.Value q)))))) (eq-eqb q q refl)
value_complete n q x y i (value_itself {c = c} {x = z} a b v) =
    let t = plain_tests c b in
    let e : value_step q c z ≡ steps.Next (parts.Value q) = rw (a, t.0, t.1) refl in
    ap (follows n z) e ∙ value_complete n q z y i v
value_complete n q x y i (value_reference {c = c} {x = z} m a v) =
    let e : value_step q 38 (m ++ z) ≡ steps.Next (parts.Reference q (reference_count (m ++ z))) = rw (quote_tests q i, reference_found m z c a) refl in
    ap (follows n (m ++ z)) e ∙ (ap (λ k. goes_on n (parts.Reference q k) (m ++ z)) (reference_counted m z (reference_ends m c a)) ∙ (passed n q m z ∙ value_complete n q z y i v))

quoted_complete : (n x y : Text) → QuotedText x y → goes_on n parts.BeforeValue x ≡ goes_on n (parts.Between false) y
unfolding tag_step
quoted_complete n x y (quoted_space {c = c} {x = z} a v) =
    ap (λ b. follows n z (cond b (steps.Next parts.BeforeValue) (cond (is_quote c) (steps.Next (parts.Value c)) steps.Wrong))) a ∙ quoted_complete n z y v
quoted_complete n x y (quote {q = q} {x = z} a v) =
    let e : quote_step q ≡ steps.Next (parts.Value q) = rw (not_space q a, a) refl in
    ap (follows n z) e ∙ value_complete n q z y a v
  where
    not_space : (k : ℕ) → is_quote k ≡ true → is_space k ≡ false
    not_space k h = grind (arith, nat_tests)

equals_complete : (n x y : Text) → EqualsText x y → goes_on n parts.BeforeEquals x ≡ goes_on n (parts.Between false) y
unfolding tag_step
equals_complete n x y (equals_space {c = c} {x = z} a v) =
    ap (λ b. follows n z (cond b (steps.Next parts.BeforeEquals) (cond (eqb c 61) (steps.Next parts.BeforeValue) steps.Wrong))) a ∙ equals_complete n z y v
equals_complete n x y (equals {x = z} v) = quoted_complete n z y v

-- behind a name comes none of its characters
name_stops : (n : Text) (k : ℕ) (x y : Text) → 1 ≤ k → EqualsText x y → goes_on n (parts.Name k) x ≡ goes_on n parts.BeforeEquals x
unfolding tag_step
name_stops n k x y l (equals_space {c = c} {x = z} a v) = ap (λ b. follows n z (cond b (steps.Next (parts.Name (k + 1))) (equals_step c))) (ap (λ b. cond b (is_start c) (is_further c && ltb k 128)) (ne_eqb k 0 (λ e. omega arith)) ∙ ap (λ b. b && ltb k 128) (space_tests c a))
name_stops n k x y l (equals {x = z} v) = ap (λ b. follows n z (cond b (steps.Next (parts.Name (k + 1))) (equals_step 61))) (ap (λ b. cond b (is_start 61) (is_further 61 && ltb k 128)) (ne_eqb k 0 (λ e. omega arith)))

name_complete : (n : Text) (k : ℕ) (a x y : Text) → 1 ≤ k → named_at k a ≡ true → EqualsText x y → goes_on n (parts.Name k) (a ++ x) ≡ goes_on n parts.BeforeEquals x
unfolding tag_step
name_complete n k [] x y l h v = name_stops n k x y l v
name_complete n k (c ∷ a) x y l h v = go (grows_at k c) refl (λ g. name_complete n (k + 1) a x y (omega arith) g v) h
  where
    go : (b : Bool) → grows_at k c ≡ b → (named_at (k + 1) a ≡ true → goes_on n (parts.Name (k + 1)) (a ++ x) ≡ goes_on n parts.BeforeEquals x) → cond b (named_at (k + 1) a) false ≡ true
        → follows n (a ++ x) (cond (grows_at k c) (steps.Next (parts.Name (k + 1))) (equals_step c)) ≡ goes_on n parts.BeforeEquals x
    go true e ih h = ap (λ b. follows n (a ++ x) (cond b (steps.Next (parts.Name (k + 1))) (equals_step c))) e ∙ ih h
    go false e ih h = absurd cc

name_begins : (c : ℕ) (a : Text) → is_name (c ∷ a) ≡ true → (is_start c ≡ true) × (named_at 1 a ≡ true)
name_begins c a h = go (is_start c) (sym (name_by_places (c ∷ a)) ∙ h)
  where
    go : (b : Bool) → cond b (named_at 1 a) false ≡ true → (b ≡ true) × (named_at 1 a ≡ true)
    go true e = (refl, e)
    go false e = absurd cc

attribute_begins : (n : Text) (a z w : Text) → is_name a ≡ true → EqualsText z w → goes_on n (parts.Between true) (a ++ z) ≡ goes_on n (parts.Between false) w
unfolding tag_step
attribute_begins n [] z w i v = absurd cc
attribute_begins n (c ∷ a) z w i v =
    let p = name_begins c a i in
    let t = start_tests c p.0 in
    let e : between_step true c ≡ steps.Next (parts.Name 1) = rw (t.0, t.1, t.2, p.0) refl in
    ap (follows n (a ++ z)) e ∙ (name_complete n 1 a z w (omega arith) p.1 v ∙ equals_complete n z w v)

tag_complete : (n : Text) (s e : Bool) (x y : Text) → TagText s e x y → EndsElement n e y → goes_on n (parts.Between s) x ≡ true
unfolding tag_step
tag_complete n s e x y ends_start h = h
tag_complete n s e x y (ends_empty {y = z}) h = ap is_empty h
tag_complete n s e x y (tag_space {c = c} {x = z} a t) h =
    ap (λ b. follows n z (cond b (steps.Next (parts.Between true)) (cond (eqb c 62) steps.Start (cond (eqb c 47) (steps.Next parts.BeforeClose) (cond (s && is_start c) (steps.Next (parts.Name 1)) steps.Wrong))))) a
    ∙ tag_complete n true e z y t h
tag_complete n s e x y (attribute a z w i v t) h = attribute_begins n a z w i v ∙ tag_complete n false e w y t h

-- ---- elements

all_further : (k : ℕ) (a : Text) → named_at k a ≡ true → list_all is_further a ≡ true
all_further k [] h = refl
all_further k (c ∷ a) h = go (grows_at k c) refl (all_further (k + 1) a) h
  where
    further : (b : Bool) → cond b (is_start c) (is_further c && ltb k 128) ≡ true → is_further c ≡ true
    further true e = (start_tests c e).3
    further false e = (and_parts (is_further c) (ltb k 128) e).0

    go : (b : Bool) → grows_at k c ≡ b → (named_at (k + 1) a ≡ true → list_all is_further a ≡ true) → cond b (named_at (k + 1) a) false ≡ true → (is_further c && list_all is_further a) ≡ true
    go true e ih h = and_from (is_further c) (list_all is_further a) (further (eqb k 0) e) (ih h)
    go false e ih h = absurd cc

name_counted : (a x : Text) → list_all is_further a ≡ true → name_count x ≡ 0 → name_count (a ++ x) ≡ length a
name_counted [] x h z = z
name_counted (c ∷ a) x h z =
    let p = and_parts (is_further c) (list_all is_further a) h in
    let k : name_count (a ++ x) ≡ length a = name_counted a x p.1 z in
    ap (λ b. cond b (1 + name_count (a ++ x)) 0) p.0 ∙ (let g : 1 + name_count (a ++ x) ≡ suc (length a) = omega arith in g)

tag_begins : (s e : Bool) (x y : Text) → s ≡ false → TagText s e x y → name_count x ≡ 0
tag_begins s e x y f ends_start = refl
tag_begins s e x y f ends_empty = refl
tag_begins s e x y f (tag_space {c = c} {x = z} a t) = ap (λ b. cond b (1 + name_count z) 0) (space_tests c a)
tag_begins s e x y f (attribute a z w i v t) = absurd cc

found : (n x y : Text) (e : Bool) → is_name n ≡ true → TagText false e x y → EndsElement n e y → is_element (60 ∷ (n ++ x)) ≡ true
found n x y e i t h =
    let k : name_count (n ++ x) ≡ length n = name_counted n x (all_further 0 n (sym (name_by_places n) ∙ i)) (tag_begins false e x y refl t) in
    let front : take (name_count (n ++ x)) (n ++ x) ≡ n = ap (λ j. take j (n ++ x)) k ∙ take_at n x (length n) refl in
    let rest : drop (name_count (n ++ x)) (n ++ x) ≡ x = ap (λ j. drop j (n ++ x)) k ∙ drop_at n x (length n) refl in
    ap (λ m. is_name m && goes_on m (parts.Between false) (drop (name_count (n ++ x)) (n ++ x))) front
    ∙ (ap (λ r. is_name n && goes_on n (parts.Between false) r) rest ∙ and_from (is_name n) (goes_on n (parts.Between false) x) i (tag_complete n false e x y t h))

raw_found : (n x : Text) → IsRaw n x → is_element x ≡ true
raw_found n x (raw_empty {x = z} i t) = found n z [] true i t refl
raw_found n x (raw_whole {x = z} {y = y} i t h) = found n z y false i t h

pub elements_raw : ElementsAreRaw
elements_raw x = (element_is_raw x, λ r. raw_found r.0 x r.1)

pub unreads_back : UnreadsAreReadBack
unreads_back x a r = (behind (text_fault x) _ (allowed_text x a) (no_fault_if (not (is_element x)) bad_word (ap not (raw_found r.0 x r.1))), λ y e. e)
