-- Rows by roID, ascending: how one is found, and where it stands.
use Rattle.std.specs.Prelude.{◌≡◌, ◌<◌, ◌≤◌, ℕ, zero, suc, List, [], ◌∷◌, length, insert, remove, slice_set, slice_index_or, Bool, false, Option, Some, None, if◌then◌else◌}
use Rattle.mos_edits.specs.Texts.{Text, same_id}
use Rattle.mos_edits.specs.KeyedLists.{without}
use Rattle.mos_edits.specs.Rows.{is_before}
pub use Rattle.mos_edits.specs.Rows.{IsBeforeAll, IsAscending, find_row}
use Rattle.mos_edits.specs.Rows.{put_row}

-- the value that was found, or what stands for one that isn't there
abbrev pub value_or : {X : Type 0} → X → Option X → X
value_or d None = d
value_or d (Some x) = x

-- how many of ascending roIDs stand before `r`: its place among them
abbrev pub count_before : Text → List Text → ℕ
count_before r [] = zero
count_before r (x ∷ xs) = if is_before x r then suc (count_before r xs) else zero

-- rows written anew, one after the other
abbrev pub put_rows : {X : Type 0} → List (Text × X) → List (Text × X) → List (Text × X)
put_rows [] rows = rows
put_rows (x ∷ xs) rows = put_rows xs (put_row x.0 x.1 rows)

-- the rows without those of these identifiers
abbrev pub without_rows : {X : Type 0} → List Text → List (Text × X) → List (Text × X)
without_rows gone rows = without (λ row. row.0) gone rows

-- whether it is the row of `r`
abbrev pub is_row_of : {X : Type 0} → Text → Option (Text × X) → Bool
is_row_of r None = false
is_row_of r (Some x) = same_id r x.0

-- the row of `r` stands at place `i`
pub record IsThere {X : Type 0} (r : Text) (rows : List (Text × X)) (i : ℕ) : Type 0 where
  pub within : i < length rows
  pub found : (d : Text × X) → find_row r rows ≡ Some (slice_index_or rows i d).1
  pub written : (d : Text × X) (v : X) → put_row r v rows ≡ slice_set rows i ((slice_index_or rows i d).0, v)
  pub removed : without_rows (r ∷ []) rows ≡ remove rows i

-- there is none, and a new one stands at place `i`
pub record IsMissing {X : Type 0} (r : Text) (rows : List (Text × X)) (i : ℕ) : Type 0 where
  pub within : i ≤ length rows
  pub missing : find_row r rows ≡ None
  pub written : (v : X) → put_row r v rows ≡ insert rows i (r, v)
  pub removed : without_rows (r ∷ []) rows ≡ rows
