-- Rows by identifier, ascending: how one is looked up, and what writing one leaves.
use Rattle.std.specs.Prelude.{◌≡◌, List, [], ◌∷◌, map, Bool, true, false, Option, Some, None, if◌then◌else◌, nat_lt, ◌==◌}
use Rattle.mos_edits.specs.Texts.{Text, same_id}

-- identifiers go character by character
abbrev pub is_before : Text → Text → Bool
is_before [] [] = false
is_before [] (y ∷ ys) = true
is_before (x ∷ xs) [] = false
is_before (x ∷ xs) (y ∷ ys) = if nat_lt x y then true else (if x == y then is_before xs ys else false)

-- an identifier put at its place in an ascending list
abbrev pub insert_id : Text → List Text → List Text
insert_id r [] = r ∷ []
insert_id r (x ∷ xs) = if same_id r x then x ∷ xs else (if is_before r x then r ∷ (x ∷ xs) else x ∷ insert_id r xs)

-- identifiers that stand one before the other; so no two are equal
abbrev pub IsBeforeAll : Text → List Text → Type 0
IsBeforeAll r [] = Unit {0}
IsBeforeAll r (x ∷ xs) = (is_before r x ≡ true) × IsBeforeAll r xs

abbrev pub IsAscending : List Text → Type 0
IsAscending [] = Unit {0}
IsAscending (x ∷ xs) = IsBeforeAll x xs × IsAscending xs

-- the value in the row of `r`
abbrev pub find_row : {X : Type 0} → Text → List (Text × X) → Option X
find_row r [] = None
find_row r (x ∷ xs) = if same_id r x.0 then Some x.1 else find_row r xs

-- the value in the row of `r`, or the default where there is none
abbrev pub look : {X : Type 0} → X → List (Text × X) → Text → X
look default [] r = default
look default (x ∷ xs) r = if same_id r x.0 then x.1 else look default xs r

-- the row of `r` written anew, at its place
abbrev pub put_row : {X : Type 0} → Text → X → List (Text × X) → List (Text × X)
put_row r value [] = (r, value) ∷ []
put_row r value (x ∷ xs) =
    if same_id r x.0 then (r, value) ∷ xs else (if is_before r x.0 then (r, value) ∷ (x ∷ xs) else x ∷ put_row r value xs)

-- the identifiers of the rows
abbrev pub row_ids : {X : Type 0} → List (Text × X) → List Text
row_ids rows = map (λ x. x.0) rows

-- each row's value changed
abbrev pub map_rows : {X Y : Type 0} → (Text → X → Y) → List (Text × X) → List (Text × Y)
map_rows f [] = []
map_rows f (x ∷ xs) = (x.0, f x.0 x.1) ∷ map_rows f xs
