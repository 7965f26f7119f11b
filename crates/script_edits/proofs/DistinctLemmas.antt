-- Distinct words: the test, and the fact that types ask for.
use Rattle.std.proofs.Common.{◌≡◌, List, [], ◌∷◌, map, true, false, arith, refl, ap}
use Rattle.std.specs.Str.{bytes_eq}
use Rattle.std.specs.List.{AllByRecursion, IsDistinct}
use Rattle.std.proofs.lemmas.Map.Made.{AllPairs-from_IsDistinct}
use Rattle.std.proofs.lemmas.Slice.Eq.{bytes_eq-Decides}
use Rattle.mos_fields.specs.Characters.{Text}
use Rattle.mos_values.specs.Distinct.{AreDistinct, item_ids}
use Rattle.script_edits.specs.Words.{stands_in, are_distinct}
use Rattle.script_edits.specs.Stories.{item_named}

apart : (x : Text) (xs : List Text) → stands_in x xs ≡ false → AllByRecursion (λ y. bytes_eq x y ≡ false) xs
apart x [] h = tt
apart x (y ∷ xs) h = (grind (arith, h), apart x xs (grind (arith, h)))

to_distinct : (xs : List Text) → are_distinct xs ≡ true → IsDistinct bytes_eq xs
unfolding IsDistinct
to_distinct [] h = tt
to_distinct (x ∷ xs) h = (apart x xs (grind (arith, h)), to_distinct xs (grind (arith, h)))

pub distinct_from_test : (xs : List Text) → are_distinct xs ≡ true → AreDistinct xs
distinct_from_test xs h = AllPairs-from_IsDistinct bytes_eq-Decides xs (to_distinct xs h)

-- items have the names that they are made of
ids_are_names : (ws : List Text) → item_ids (map item_named ws) ≡ ws
ids_are_names [] = refl
ids_are_names (w ∷ ws) = ap (λ (xs : List Text). w ∷ xs) (ids_are_names ws)

pub distinct_items : (ws : List Text) → are_distinct ws ≡ true → AreDistinct (item_ids (map item_named ws))
distinct_items ws h = rw (ids_are_names ws) (distinct_from_test ws h)
