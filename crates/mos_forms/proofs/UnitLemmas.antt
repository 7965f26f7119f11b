-- White space and names in code units.
use Rattle.std.proofs.Common.{◌≡◌, ℕ, Bool, true, false, ◌&&◌, List, [], ◌∷◌, ◌++◌, refl, sym, ap, ◌∙◌, subst, arith}
use Rattle.std.proofs.lemmas.Bool.{and_parts, and_from}
use Rattle.std.proofs.lemmas.Bool.Decides.{nat_tests}
use Rattle.std.proofs.lemmas.List.Concat.{flat_map-append}
use Rattle.std.proofs.lemmas.List.Folds.{list_all-append}
use Rattle.std.specs.Char.Escape.{encode_utf16}
use Rattle.mos_fields.specs.Characters.{IsUtf16, is_allowed, are_allowed, chars_of, units_of, is_high, is_low, pair_char}
use Rattle.mos_fields.specs.Forms.{is_white}
use Rattle.mos_fields.specs.Raw.{is_space}
use Rattle.mos_fields.proofs.CharacterLemmas.{chars_of-pair, chars_of-unpaired, chars_of-units_of, IsUtf16-units_of}

pair_not_space : (u v : ℕ) → is_space (pair_char u v) ≡ false
pair_not_space u v = grind (arith, nat_tests)

high_not_space : (u : ℕ) → is_high u ≡ true → is_space u ≡ false
high_not_space u h = grind (arith, nat_tests)

pub white_chars : (us : List ℕ) → is_white (chars_of us) ≡ is_white us
unfolding chars_of
white_chars [] = refl
white_chars (u ∷ []) = refl
white_chars (u ∷ v ∷ us) = go (white_chars (v ∷ us)) (is_high u && is_low v) refl
  where
    go : is_white (chars_of (v ∷ us)) ≡ is_white (v ∷ us) → (b : Bool) → (is_high u && is_low v) ≡ b → is_white (chars_of (u ∷ v ∷ us)) ≡ is_white (u ∷ v ∷ us)
    go r true e =
        let p = and_parts (is_high u) (is_low v) e in
        ap is_white (chars_of-pair u v us p.0 p.1)
        ∙ (ap (λ z. z && is_white (chars_of us)) (pair_not_space u v) ∙ sym (ap (λ z. z && is_white (v ∷ us)) (high_not_space u p.0)))
    go r false e = ap is_white (chars_of-unpaired u v us e) ∙ ap (λ z. is_space u && z) r

-- ---- one text behind another

joined_units : (us vs : List ℕ) → IsUtf16 us → IsUtf16 vs → units_of (chars_of us ++ chars_of vs) ≡ us ++ vs
joined_units us vs w v = flat_map-append encode_utf16 (chars_of us) (chars_of vs) ∙ (ap (λ z. z ++ units_of (chars_of vs)) w.round_trip ∙ ap (λ z. us ++ z) v.round_trip)

joined_allowed : (us vs : List ℕ) → IsUtf16 us → IsUtf16 vs → are_allowed (chars_of us ++ chars_of vs) ≡ true
joined_allowed us vs w v = list_all-append is_allowed (chars_of us) (chars_of vs) ∙ and_from (are_allowed (chars_of us)) (are_allowed (chars_of vs)) w.allowed v.allowed

pub joined_chars : (us vs : List ℕ) → IsUtf16 us → IsUtf16 vs → chars_of (us ++ vs) ≡ chars_of us ++ chars_of vs
joined_chars us vs w v = sym (ap chars_of (joined_units us vs w v)) ∙ chars_of-units_of (chars_of us ++ chars_of vs) (joined_allowed us vs w v)

pub joined_written : (us vs : List ℕ) → IsUtf16 us → IsUtf16 vs → IsUtf16 (us ++ vs)
joined_written us vs w v = subst IsUtf16 (joined_units us vs w v) (IsUtf16-units_of (chars_of us ++ chars_of vs) (joined_allowed us vs w v))
