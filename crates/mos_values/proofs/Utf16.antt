-- Code units give their characters back.
use Rattle.std.proofs.Common.{◌≡◌, ℕ, ◌+◌, ◌-◌, ◌*◌, ◌/◌, ◌%◌, ◌<◌, ◌≤◌, Bool, true, false, cond, ltb, leb, eqb, List, [], ◌∷◌, ◌++◌, refl, sym, ap, ◌∙◌, arith, Decides, IsTrue}
use Rattle.std.specs.Prelude.{nat_lt, nat_le, ◌&&◌, ◌||◌, ◌==◌}
use Rattle.std.specs.Char.Escape.{encode_utf16}
use Rattle.std.specs.List.{flat_map, list_all}
use Rattle.std.proofs.lemmas.Bool.{ltb-false}
use Rattle.std.proofs.lemmas.Bool.Decides.{nat_tests}
use Rattle.std.proofs.lemmas.List.Concat.{flat_map-cons}
use Rattle.mos_fields.specs.Characters.{Text, is_allowed, are_allowed, units_of, chars_of, is_high, is_low, pair_char}

-- a unit that begins no pair is a character
alone : (c : ℕ) (us : List ℕ) → is_high c ≡ false → chars_of (c ∷ us) ≡ c ∷ chars_of us
unfolding chars_of
alone c [] h = refl
alone c (v ∷ us) h = rw h refl

paired : (h l : ℕ) (us : List ℕ) → is_high h ≡ true → is_low l ≡ true → chars_of (h ∷ l ∷ us) ≡ pair_char h l ∷ chars_of us
unfolding chars_of
paired h l us a b = rw (a, b) refl

not_high : (c : ℕ) → is_allowed c ≡ true → is_high c ≡ false
not_high c h = grind (arith, nat_tests)

not_past : (c : ℕ) → is_allowed c ≡ true → c ≤ 1114111
not_past c h = grind (arith, nat_tests)

high_is : (d : ℕ) → d ≤ 1048575 → is_high (55296 + d / 1024) ≡ true
high_is d h = grind (arith, nat_tests)

low_is : (d : ℕ) → is_low (56320 + d % 1024) ≡ true
low_is d = grind (arith, nat_tests)

pair_is : (c : ℕ) → 65536 ≤ c → pair_char (55296 + (c - 65536) / 1024) (56320 + (c - 65536) % 1024) ≡ c
pair_is c h = omega arith

both : (a b : Bool) → (a && b) ≡ true → (a ≡ true) × (b ≡ true)
both true b h = (refl, h)
both false b h = absurd cc

by_width : (c : ℕ) (us : List ℕ) (b : Bool) → nat_lt c 65536 ≡ b → is_allowed c ≡ true
    → chars_of (cond b (c ∷ []) ((55296 + (c - 65536) / 1024) ∷ (56320 + (c - 65536) % 1024) ∷ []) ++ us) ≡ c ∷ chars_of us
by_width c us true e h = alone c us (not_high c h)
by_width c us false e h =
    let past : 65536 ≤ c = ltb-false c 65536 e in
    let high : is_high (55296 + (c - 65536) / 1024) ≡ true = high_is (c - 65536) (omega (arith, not_past c h)) in
    paired (55296 + (c - 65536) / 1024) (56320 + (c - 65536) % 1024) us high (low_is (c - 65536)) ∙ ap (λ (d : ℕ). d ∷ chars_of us) (pair_is c past)

nothing : chars_of [] ≡ []
unfolding chars_of
nothing = refl

-- the characters of the code units of allowed characters are those
pub chars_of-units_of : (x : Text) → are_allowed x ≡ true → chars_of (units_of x) ≡ x
chars_of-units_of [] h = nothing
chars_of-units_of (c ∷ cs) h =
    let k = both (is_allowed c) (are_allowed cs) h in
    ap chars_of (flat_map-cons encode_utf16 c cs) ∙ by_width c (units_of cs) (nat_lt c 65536) refl k.0 ∙ ap (λ (x : Text). c ∷ x) (chars_of-units_of cs k.1)

-- texts with the same code units are the same
pub same_by_units : (x y : Text) → are_allowed x ≡ true → are_allowed y ≡ true → units_of x ≡ units_of y → x ≡ y
same_by_units x y a b e = sym (chars_of-units_of x a) ∙ ap chars_of e ∙ chars_of-units_of y b
