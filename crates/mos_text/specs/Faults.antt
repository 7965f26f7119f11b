-- Which code units belong to no character, and which characters are forbidden.
use Rattle.std.specs.Prelude.{ℕ, cond, List, [], ◌∷◌, Option, Some, None, ◌+◌}
use Rattle.mos_fields.specs.Characters.{Text, is_allowed, is_high, is_low, pair_char}
use Rattle.mos_text.specs.declared.fault.TextFault.{TextFault}
use Rattle.mos_text.specs.declared.fault.TextFault.TheVariants.{BadUnit as bad_unit, BadChar as bad_char}

-- The first fault of code units that stand from a place on: a low unit that no high one precedes, a high unit behind
-- which another than a low one stands, or a character that XML 1.0 forbids. A high unit at the end shows none.
unfoldable pub first_fault : ℕ → List ℕ → Option TextFault
first_fault k [] = None
first_fault k (u ∷ []) = cond (is_high u) None (cond (is_low u) (Some (bad_unit k)) (cond (is_allowed u) None (Some (bad_char k))))
first_fault k (u ∷ v ∷ us) = cond (is_high u) (cond (is_low v) (first_fault (k + 2) us) (Some (bad_unit k)))
    (cond (is_low u) (Some (bad_unit k)) (cond (is_allowed u) (first_fault (k + 1) (v ∷ us)) (Some (bad_char k))))

-- the characters before the first fault
unfoldable pub chars_before_fault : List ℕ → Text
chars_before_fault [] = []
chars_before_fault (u ∷ []) = cond (is_high u) [] (cond (is_low u) [] (cond (is_allowed u) (u ∷ []) []))
chars_before_fault (u ∷ v ∷ us) = cond (is_high u) (cond (is_low v) (pair_char u v ∷ chars_before_fault us) [])
    (cond (is_low u) [] (cond (is_allowed u) (u ∷ chars_before_fault (v ∷ us)) []))
