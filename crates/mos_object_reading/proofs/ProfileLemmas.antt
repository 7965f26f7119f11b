-- The attributes of profiles, and profiles in lists.
use Rattle.std.proofs.Common.{◌≡◌, ℕ, ◌+◌, ◌≤◌, Bool, true, false, cond, List, [], ◌∷◌, ◌++◌, map, Option, Some, None, refl, sym, subst, ◌∙◌, ap, arith}
use Rattle.std.specs.Fmt.{decimal}
use Rattle.std.specs.List.{AllByRecursion, flat_map}
use Rattle.std.proofs.lemmas.Fmt.{decimal_digit}
use Rattle.mos_fields.specs.Characters.{Text}
use Rattle.mos_fields.specs.Fields.{name_of, same}
use Rattle.mos_fields.specs.Forms.{among}
use Rattle.mos_fields.specs.declared.field.Field.TheVariants as fields
use Rattle.mos_fields.specs.declared.form.Form.TheVariants as forms
use Rattle.mos_fields.proofs.WordLemmas.{same_is}
use Rattle.mos_tables.specs.Events.{Attribute, Event}
use Rattle.mos_tables.specs.Tables.{words_of}
use Rattle.mos_events.specs.EventView.{attribute_of, attributes_of}
use Rattle.mos_events.specs.declared.known_attribute.KnownAttribute.{KnownAttribute}
use Rattle.mos_events.specs.declared.known_attribute.KnownAttribute.TheVariants as known
use Rattle.mos_values.specs.Parts.{attribute as attribute_with}
use Rattle.mos_values.specs.Views.{profile_events, profiles_events}
use Rattle.mos_values.specs.declared.profile.Profile.{Profile}
use Rattle.mos_cursor.specs.Accepted.{IsGiven, LeafFits}
use Rattle.mos_cursor.specs.Parts.{leaf_event}
use Rattle.mos_cursor.specs.Slots.{leaf_of}
use Rattle.mos_cursor.specs.declared.slot.LeafText.{LeafText}

-- what holds of each word holds of one that is among them
of_words : (P : Text → Type 0) (ws : List Text) (x : Text) → AllByRecursion P ws → among x ws ≡ true → P x
of_words P [] x a h = absurd cc
of_words P (w ∷ ws) x a h = go (same x w) refl h (λ e. of_words P ws x a.1 e)
  where
    go : (b : Bool) → same x w ≡ b → cond b true (among x ws) ≡ true → (among x ws ≡ true → P x) → P x
    go true e h ih = subst P (sym (same_is x w e)) a.0
    go false e h ih = ih h

first_name : (a b : Attribute) → a ∷ [] ≡ b ∷ [] → a.name ≡ b.name
first_name a b e = let p : a ≡ b = cc in ap (λ (z : Attribute). z.name) p

first_value : (a b : Attribute) → a ∷ [] ≡ b ∷ [] → a.value ≡ b.value
first_value a b e = let p : a ≡ b = cc in ap (λ (z : Attribute). z.value) p

heads : (c d : ℕ) (x y : Text) → c ∷ x ≡ d ∷ y → c ≡ d
heads c d x y e = cc

-- a digit
abbrev IsDigitWord : Text → Type 0
IsDigitWord x = (k : ℕ) → x ≡ k ∷ [] → k ≤ 57

digit_word : (d : ℕ) → d ≤ 57 → (k : ℕ) → d ∷ [] ≡ k ∷ [] → k ≤ 57
digit_word d h k e = omega (arith, h, heads d k [] [] e)

digit_words : AllByRecursion IsDigitWord (words_of fields.Number)
digit_words = (
  digit_word 48 (omega arith),
  (
    digit_word 49 (omega arith),
    (
      digit_word 50 (omega arith),
      (
        digit_word 51 (omega arith),
        (
          digit_word 52 (omega arith),
          (digit_word 53 (omega arith), (digit_word 54 (omega arith), (digit_word 55 (omega arith), (digit_word 56 (omega arith), (digit_word 57 (omega arith), tt))))),
        ),
      ),
    ),
  ),
)

-- the attribute of a profile is its number
abbrev pub IsNumber : Option KnownAttribute → Type 0
IsNumber None = ⊥
IsNumber (Some known.Ncs) = ⊥
IsNumber (Some known.Mos) = ⊥
IsNumber (Some (known.Number n)) = (n ≤ 9) × (attributes_of (Some (known.Number n)) ≡ attribute_with fields.Number (decimal n) ∷ [])
IsNumber (Some (known.Element l)) = ⊥
IsNumber (Some (known.Operation o)) = ⊥

named_number : (a : Attribute) → IsGiven (Some fields.Number) (a ∷ []) → a.name ≡ name_of fields.Number
named_number a g = first_name a (record { name = name_of fields.Number; value = g.0 }) g.1

pub is_number : (a : Option KnownAttribute) → IsGiven (Some fields.Number) (attributes_of a) → IsNumber a
is_number None g = let e = g.1 in absurd cc
is_number (Some known.Ncs) g = let e = named_number (attribute_of known.Ncs) g in absurd (omega (arith, heads _ _ _ _ e))
is_number (Some known.Mos) g = let e = named_number (attribute_of known.Mos) g in absurd (omega (arith, heads _ _ _ _ e))
is_number (Some (known.Number n)) g =
    let v : (48 + n) ∷ [] ≡ g.0 = first_value (attribute_of (known.Number n)) (record { name = name_of fields.Number; value = g.0 }) g.1 in
    let k : 48 + n ≤ 57 = of_words IsDigitWord (words_of fields.Number) g.0 digit_words g.2 (48 + n) (sym v) in
    let m : n ≤ 9 = omega (arith, k) in
    (m, ap (λ (z : Text). attribute_with fields.Number z ∷ []) (sym (decimal_digit n (omega (arith, m)))))
is_number (Some (known.Element l)) g = let e = named_number (attribute_of (known.Element l)) g in absurd (omega (arith, heads _ _ _ _ e))
is_number (Some (known.Operation o)) g = let e = named_number (attribute_of (known.Operation o)) g in absurd (omega (arith, heads _ _ _ _ e))

pub number_value : (a : Option KnownAttribute) (n : ℕ) → a ≡ Some (known.Number n) → IsGiven (Some fields.Number) (attributes_of a) → attributes_of a ≡ attribute_with fields.Number (decimal n) ∷ []
number_value a n e g = subst (λ (z : Option KnownAttribute). attributes_of z ≡ attribute_with fields.Number (decimal n) ∷ []) (sym e) (subst IsNumber e (is_number a g)).1

-- the attribute of profiles is a kind of machine
abbrev pub IsDevice : Option KnownAttribute → Type 0
IsDevice None = ⊥
IsDevice (Some known.Ncs) = Unit {0}
IsDevice (Some known.Mos) = Unit {0}
IsDevice (Some (known.Number n)) = ⊥
IsDevice (Some (known.Element l)) = ⊥
IsDevice (Some (known.Operation o)) = ⊥

named_device : (a : Attribute) → IsGiven (Some fields.DeviceType) (a ∷ []) → a.name ≡ name_of fields.DeviceType
named_device a g = first_name a (record { name = name_of fields.DeviceType; value = g.0 }) g.1

pub is_device : (a : Option KnownAttribute) → IsGiven (Some fields.DeviceType) (attributes_of a) → IsDevice a
is_device None g = let e = g.1 in absurd cc
is_device (Some known.Ncs) g = tt
is_device (Some known.Mos) g = tt
is_device (Some (known.Number n)) g = let e = named_device (attribute_of (known.Number n)) g in absurd (omega (arith, heads _ _ _ _ e))
is_device (Some (known.Element l)) g = let e = named_device (attribute_of (known.Element l)) g in absurd (omega (arith, heads _ _ _ _ e))
is_device (Some (known.Operation o)) g = let e = named_device (attribute_of (known.Operation o)) g in absurd (omega (arith, heads _ _ _ _ e))

-- ---- lists

pub all_profiles : (ls : List LeafText) → AllByRecursion (LeafFits forms.Profile) (map leaf_of ls) → AllByRecursion (λ l. LeafFits forms.Profile (leaf_of l)) ls
all_profiles [] h = tt
all_profiles (l ∷ ls) h = (h.0, all_profiles ls h.1)

pub profiles_read : (ls : List LeafText) (ps : List Profile) → map profile_events ps ≡ map (λ l. leaf_event (name_of fields.MosProfile) (leaf_of l) ∷ []) ls
    → profiles_events ps ≡ map (leaf_event (name_of fields.MosProfile)) (map leaf_of ls)
unfolding profiles_events
profiles_read [] [] e = refl
profiles_read [] (p ∷ ps) e = absurd cc
profiles_read (l ∷ ls) [] e = absurd cc
profiles_read (l ∷ ls) (p ∷ ps) e =
    let k = both (profile_events p) (leaf_event (name_of fields.MosProfile) (leaf_of l) ∷ []) (map profile_events ps) (map (λ l. leaf_event (name_of fields.MosProfile) (leaf_of l) ∷ []) ls) e in
    ap (λ (z : List Event). z ++ flat_map profile_events ps) k.0 ∙ ap (λ (z : List Event). leaf_event (name_of fields.MosProfile) (leaf_of l) ∷ z) (profiles_read ls ps k.1)
  where
    both : (x y : List Event) (xs ys : List (List Event)) → x ∷ xs ≡ y ∷ ys → (x ≡ y) × (xs ≡ ys)
    both x y xs ys h = (cc, cc)
