-- Which scripts stand in an order: their entries' numbers, and orders that lack some of them.
use Rattle.std.specs.Prelude.{◌≡◌, ℕ, ◌+◌, List, [], ◌∷◌, Bool, true, false, Option, Some, None, if◌then◌else◌, ◌==◌}
use Rattle.mos_edits.specs.Texts.{Text}
use Rattle.mos_edits.specs.KeyedLists.{Applied, with_found}
use Rattle.mos_edits.specs.KeyedLists.Applied.{Done, Fault}
use Rattle.mos_edits.specs.Rows.{find_row}
use Rattle.mos_edits.specs.Orders.{Order, StorySend, bare, scripts_after, apply}
use Rattle.mos_edits.specs.declared.edit.Edit.{Edit}
use Rattle.mos_values.specs.Distinct.{story_ids}

-- the script of a story
abbrev pub script_of : Order → Text → Option StorySend
script_of o story = find_row story o.scripts

-- the storyIDs and the scripts of an order that is there
abbrev pub story_ids_of : Option Order → List Text
story_ids_of None = []
story_ids_of (Some o) = story_ids o.stories

abbrev pub scripts_of : Option Order → List (Text × StorySend)
scripts_of None = []
scripts_of (Some o) = o.scripts

-- the result of an edit, or what was there where the edit has a fault
abbrev pub result_or : Option Order → Applied (Option Order) → Option Order
result_or o (Done p) = p
result_or o (Fault f) = o

-- what entry `k`, an edit with this result, leaves of a table of scripts
abbrev pub rows_step : {X : Type 0} → (ℕ → StorySend → X) → ℕ → Edit → Applied (Option Order) → List (Text × X) → List (Text × X)
rows_step written k e (Done p) rows = scripts_after (written k) e rows
rows_step written k e (Fault f) rows = rows

-- what the edits leave of it; the first has number `k`
abbrev pub rows_from : {X : Type 0} → (ℕ → StorySend → X) → Text → Option Order → List (Text × X) → ℕ → List Edit → List (Text × X)
rows_from written r o rows k [] = rows
rows_from written r o rows k (e ∷ es) = rows_from written r (result_or o (apply r o e)) (rows_step written k e (apply r o e) rows) (k + 1) es

-- The numbers of the edits whose scripts stand after these edits of `r`, by storyID: a script stands as long as the order
-- has it, so the table goes as the order's scripts go.
abbrev pub numbers_after : Text → List Edit → List (Text × ℕ)
numbers_after r es = rows_from (λ k script. k) r None [] 0 es

-- the same in the order of these stories
abbrev pub numbers_of : List Text → List (Text × ℕ) → List ℕ
numbers_of [] numbers = []
numbers_of (id ∷ more) numbers = with_found (find_row id numbers) (numbers_of more numbers)

-- whether a number stands in a list, and the list without it
abbrev pub has_number : ℕ → List ℕ → Bool
has_number k [] = false
has_number k (x ∷ xs) = if k == x then true else has_number k xs

abbrev pub without_number : ℕ → List ℕ → List ℕ
without_number k [] = []
without_number k (x ∷ xs) = if k == x then without_number k xs else x ∷ without_number k xs

-- Two orders that differ in scripts alone, and each script of the first is the same story's script in the second; or no
-- order and no order.
pub record IsWithinOrder (a b : Order) : Type 0 where
  pub same : bare a ≡ bare b
  pub scripts : (story : Text) (script : StorySend) → script_of a story ≡ Some script → script_of b story ≡ Some script

abbrev pub IsWithin : Option Order → Option Order → Type 0
IsWithin None None = Unit {0}
IsWithin (Some a) (Some b) = IsWithinOrder a b
IsWithin a b = ⊥
