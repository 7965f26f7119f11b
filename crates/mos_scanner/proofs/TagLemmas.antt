-- Tags, as one more character is read.
use Rattle.std.proofs.Common.{◌≡◌, ℕ, ◌+◌, ◌-◌, ◌<◌, Bool, true, false, ◌&&◌, List, [], ◌∷◌, ◌++◌, length, refl, sym, ap, ◌∙◌, subst, arith}
use Rattle.mos_fields.specs.Characters.{Text, IsUtf16, chars_of}
use Rattle.mos_fields.specs.Names.{is_empty, is_name, is_start, may_grow}
use Rattle.mos_tables.specs.Events.{Attribute}
use Rattle.mos_scanner.specs.Parts.{part, IsCharacter}
use Rattle.mos_scanner.specs.ScannerView.{IsNameIn, IsTextIn, IsOpenTag, IsGiven, IsValued, IsBegun, IsInTag, IsInStartName, IsInEndName, IsInEndWhite}
use Rattle.mos_fields.proofs.CharacterLemmas.{one_unit, chars_of-lone, IsUtf16-units_of}
use Rattle.std.proofs.lemmas.Bool.{and_parts}
use Rattle.mos_scanner.proofs.PartLemmas.{part_none, part_more, next_one, text_more, name_more, name_begun, name_chars, name_first, name_push, length-part, grow_small}

-- a tag that goes on
pub open_more : (held : List ℕ) (start name_end here next c : ℕ) → IsOpenTag held start name_end here → IsCharacter held here next c → IsOpenTag held start name_end next
open_more held start name_end here next c t i = let o = t.onward in let n = i.onward in
    record { name = t.name; onward = omega arith; whole = text_more held start here next c t.whole i }

pub given_more : (held : List ℕ) (start name_end attribute_start attribute_end here next c : ℕ) → IsGiven held start name_end attribute_start attribute_end here → IsCharacter held here next c
    → IsGiven held start name_end attribute_start attribute_end next
given_more held start name_end a b here next c t i = let o = t.onward in let n = i.onward in
    record { tag = open_more held start name_end here next c t.tag i; name = t.name; onward = omega arith }

pub valued_more : (held : List ℕ) (start name_end attribute_start attribute_end value_start quote here next c : ℕ)
    → IsValued held start name_end attribute_start attribute_end value_start quote here → IsCharacter held here next c
    → IsValued held start name_end attribute_start attribute_end value_start quote next
valued_more held start name_end a b v q here next c t i =
    record { given = given_more held start name_end a b here next c t.given i; quoted = t.quoted; value = text_more held v here next c t.value i }

-- a name is not empty
pub name_some : (n : Text) → is_name n ≡ true → is_empty n ≡ false
name_some [] e = absurd cc
name_some (c ∷ n) e = refl

pub end_white_more : (held : List ℕ) (start name_end here next c : ℕ) → IsInEndWhite held start name_end here → IsCharacter held here next c → IsInEndWhite held start name_end next
end_white_more held start name_end here next c t i = let o = t.onward in let n = i.onward in record { name = t.name; onward = omega arith }

-- the part of a character that begins a name
pub unit_begun : (held : List ℕ) (here next c : ℕ) → IsCharacter held here next c → may_grow [] c ≡ true → part held here next ≡ c ∷ []
unit_begun held here next c i g = let s = grow_small [] c g in i.is ∙ one_unit c (omega arith)

pub attribute_begins : (spaced : Bool) (c : ℕ) → (spaced && may_grow [] c) ≡ true → may_grow [] c ≡ true
attribute_begins spaced c e = (and_parts spaced (may_grow [] c) e).1

pub name_part_more : (held : List ℕ) (a here next c : ℕ) → IsNameIn held a here → IsCharacter held here next c → may_grow (part held a here) c ≡ true → part held a next ≡ part held a here ++ c ∷ []
name_part_more held a here next c n i g = let s = grow_small (part held a here) c g in part_more held a here next c n.onward i (omega arith)

-- ---- start tags

pub start_length : (held : List ℕ) (start here : ℕ) → IsNameIn held (start + 1) here → length (part held (start + 1) here) ≡ here - start - 1
start_length held start here n = length-part held (start + 1) here n.within ∙ (let e : here - (start + 1) ≡ here - start - 1 = omega arith in e)

-- the characters of `<` and a name
pub start_chars : (held : List ℕ) (start here : ℕ) → IsNameIn held (start + 1) here → chars_of (60 ∷ part held (start + 1) here) ≡ 60 ∷ part held (start + 1) here
start_chars held start here n = chars_of-lone 60 (part held (start + 1) here) refl ∙ ap (λ z. 60 ∷ z) (name_chars (part held (start + 1) here) n.name)

pub start_name_more : (held : List ℕ) (start here next c : ℕ) (given : List Attribute) → IsInStartName held start here given → IsCharacter held here next c → may_grow (part held (start + 1) here) c ≡ true
    → IsInStartName held start next given
start_name_more held start here next c given t i g =
    let s = grow_small (part held (start + 1) here) c g in
    let w = t.whole.onward in
    record {
      name = name_more held (start + 1) here next c t.name i g;
      whole = text_more held start here next c t.whole i;
      begins = part_more held start here next c w i (omega arith) ∙ (ap (λ z. z ++ c ∷ []) t.begins ∙ ap (λ z. 60 ∷ z) (sym (name_part_more held (start + 1) here next c t.name i g)));
      none = t.none;
    }

-- a tag has begun
pub tag_begun : (held : List ℕ) (start here next c : ℕ) → IsBegun held start here → IsCharacter held here next c → c ≡ 60 → IsInTag held start next
tag_begun held start here next c b i e =
    let n = next_one held here next c i (omega arith) in
    let s = b.begun in
    record { is = ap (λ k. part held k next) b.begun ∙ (i.is ∙ (one_unit c (omega arith) ∙ ap (λ k. k ∷ []) e)); begun = omega arith; within = i.within }

-- the name of a start tag has begun
pub start_begun : (held : List ℕ) (start here next c : ℕ) → IsInTag held start here → IsCharacter held here next c → is_start c ≡ true → part held (start + 1) next ≡ c ∷ []
unfolding may_grow
start_begun held start here next c t i e = ap (λ k. part held k next) t.begun ∙ unit_begun held here next c i e

in_tag_text : (held : List ℕ) (start here : ℕ) → IsInTag held start here → IsTextIn held start here
in_tag_text held start here t = let b = t.begun in
    record { text = subst IsUtf16 (sym t.is) (IsUtf16-units_of (60 ∷ []) refl); onward = omega arith; within = t.within }

pub start_name_begun : (held : List ℕ) (start here next c : ℕ) (given : List Attribute) → IsInTag held start here → IsCharacter held here next c → is_start c ≡ true → given ≡ []
    → IsInStartName held start next given
unfolding may_grow
start_name_begun held start here next c given t i e z =
    let s = grow_small [] c e in
    let b = t.begun in
    record {
      name = subst (λ k. IsNameIn held k next) (sym t.begun) (name_begun held here next c i e);
      whole = text_more held start here next c (in_tag_text held start here t) i;
      begins = part_more held start here next c (omega arith) i (omega arith) ∙ (ap (λ z. z ++ c ∷ []) t.is ∙ ap (λ z. 60 ∷ z) (sym (start_begun held start here next c t i e)));
      none = z;
    }

-- ---- end tags

slash_next : (held : List ℕ) (start here next c : ℕ) → IsInTag held start here → IsCharacter held here next c → c ≡ 47 → next ≡ start + 2
slash_next held start here next c t i e = let n = next_one held here next c i (omega arith) in let b = t.begun in omega arith

pub end_name_none : (held : List ℕ) (start here next c : ℕ) → IsInTag held start here → IsCharacter held here next c → c ≡ 47 → part held (start + 2) next ≡ []
end_name_none held start here next c t i e = ap (λ k. part held (start + 2) k) (slash_next held start here next c t i e) ∙ part_none held (start + 2)

pub end_name_begun : (held : List ℕ) (start here next c : ℕ) → IsInTag held start here → IsCharacter held here next c → c ≡ 47 → IsInEndName held start next
end_name_begun held start here next c t i e = let n = slash_next held start here next c t i e in
    record { onward = omega arith; within = i.within; name = λ h. absurd (omega arith) }

pub end_length : (held : List ℕ) (start here : ℕ) → IsInEndName held start here → length (part held (start + 2) here) ≡ here - start - 2
end_length held start here t = length-part held (start + 2) here t.within ∙ (let e : here - (start + 2) ≡ here - start - 2 = omega arith in e)

pub end_part_more : (held : List ℕ) (start here next c : ℕ) → IsInEndName held start here → IsCharacter held here next c → may_grow (part held (start + 2) here) c ≡ true
    → part held (start + 2) next ≡ part held (start + 2) here ++ c ∷ []
end_part_more held start here next c t i g = let s = grow_small (part held (start + 2) here) c g in part_more held (start + 2) here next c t.onward i (omega arith)

pub end_name_more : (held : List ℕ) (start here next c : ℕ) → IsInEndName held start here → IsCharacter held here next c → may_grow (part held (start + 2) here) c ≡ true → IsInEndName held start next
end_name_more held start here next c t i g =
    let o = t.onward in let n = i.onward in
    record {
      onward = omega arith;
      within = i.within;
      name = λ h. subst (λ z. is_name z ≡ true) (sym (end_part_more held start here next c t i g)) (grown (part held (start + 2) here) c (end_length held start here t) g t.name);
    }
  where
    grown : (n : Text) (c : ℕ) → length n ≡ here - start - 2 → may_grow n c ≡ true → (start + 2 < here → is_name n ≡ true) → is_name (n ++ c ∷ []) ≡ true
    grown [] c l g m = name_first c g
    grown (d ∷ n) c l g m = name_push (d ∷ n) c (m (omega (arith, l))) g

pub end_is_empty : (held : List ℕ) (start here : ℕ) → IsInEndName held start here → here - start - 2 ≡ 0 → is_empty (part held (start + 2) here) ≡ true
end_is_empty held start here t e = go (part held (start + 2) here) (end_length held start here t ∙ e)
  where
    go : (n : Text) → length n ≡ 0 → is_empty n ≡ true
    go [] l = refl
    go (d ∷ n) l = absurd (omega (arith, l))

pub end_not_empty : (held : List ℕ) (start here : ℕ) → IsInEndName held start here → (here - start - 2 ≡ 0 → ⊥) → is_empty (part held (start + 2) here) ≡ false
end_not_empty held start here t e = go (part held (start + 2) here) (end_length held start here t)
  where
    go : (n : Text) → length n ≡ here - start - 2 → is_empty n ≡ false
    go [] l = absurd (e (sym l))
    go (d ∷ n) l = refl
