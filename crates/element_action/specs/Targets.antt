-- Places of targets, and moves before a target.
use Rattle.std.specs.Prelude.{◌≡◌, ◌≢◌, ℕ, ◌-◌, List, [], ◌∷◌, ◌++◌, Option, Some, None, take, drop, swap, nat_lt, if◌then◌else◌}
use Rattle.std.specs.Option.{option_map_or}
use Rattle.mos_edits.specs.Texts.{Text}
use Rattle.mos_edits.specs.KeyedLists.{ids, find, with_found, picked, without, put_before}
use Rattle.running_order.specs.Places.{place_of}

-- the place of a target; none for an empty one, which stands for the end
abbrev pub target_place_of : Text → List Text → Option ℕ
target_place_of [] ids = None
target_place_of (c ∷ cs) ids = place_of (c ∷ cs) ids

-- the target that names the first of these, or the end where there is none
abbrev pub StandsFirst : Text → List Text → Type 0
StandsFirst target [] = target ≡ []
StandsFirst target (x ∷ xs) = (target ≡ x) × (target ≢ [])

-- where something is put in: before the target, or at the end
abbrev pub place_in : ℕ → Option ℕ → ℕ
place_in end None = end
place_in end (Some p) = p

-- where something that is taken out of the place `from` stands before the target, or last
abbrev pub place_moved : ℕ → ℕ → Option ℕ → ℕ
place_moved end from None = end - 1
place_moved end from (Some p) = if nat_lt p from then p else (if nat_lt from p then p - 1 else end - 1)

-- one element moved before the target
abbrev pub moved : {X : Type 0} → (X → Text) → Text → Text → List X → List X
moved key t s xs = put_before key t (with_found (find key s xs) []) (without key (s ∷ []) xs)

-- several, one after another
abbrev pub moved_all : {X : Type 0} → (X → Text) → Text → List Text → List X → List X
moved_all key t [] xs = xs
moved_all key t (s ∷ ss) xs = moved_all key t ss (moved key t s xs)

-- the element with that identifier exchanged with the one at the place
abbrev pub brought : {X : Type 0} → (X → Text) → ℕ → Text → List X → List X
brought key at id xs = option_map_or (λ from. swap xs at from) (place_of id (ids key xs)) xs

-- the elements with these identifiers together before the place, the others as they stood
abbrev pub gathered : {X : Type 0} → (X → Text) → ℕ → List Text → List X → List X
gathered key at ss xs = without key ss (take at xs) ++ (picked key ss xs ++ without key ss (drop at xs))
