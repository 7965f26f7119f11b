-- What a board keeps beside its reports.
use Rattle.std.specs.Prelude.{◌≡◌, ℕ, zero, suc, ◌≤◌, List, [], ◌∷◌, Bool, true, false, length, get_or, map}
use Rattle.mos_fields.specs.Characters.{Text}
use Rattle.status_board.specs.Board.{Report, answer_units, is_of_order, size_limit}
use Rattle.status_board.specs.Links.{last_by}
use Rattle.status_board.specs.Numbers.{element_of, order_of}

-- the first that passes the test stands at the place
abbrev pub StandsAt : {X : Type 0} → (X → Bool) → List X → ℕ → Type 0
StandsAt test [] n = ⊥
StandsAt test (x ∷ xs) zero = test x ≡ true
StandsAt test (x ∷ xs) (suc n) = (test x ≡ false) × StandsAt test xs n

-- The last report of each device and order has beside it how many code units the answer has that lists them all.
pub record AreCounted (reports : List Report) (units : List ℕ) : Type 0 where
  pub each : length units ≡ length reports
  pub last : (d : ℕ) (ro : Text) (i : ℕ) → last_by (is_of_order d ro) reports ≡ suc i → get_or units i 0 ≡ answer_units d ro reports
  pub within : (d : ℕ) (ro : Text) (i : ℕ) → last_by (is_of_order d ro) reports ≡ suc i → answer_units d ro reports ≤ size_limit

-- Beside the reports stand those numbers, and those by which the reports are found: of their elements, and of their orders.
pub record IsKept (reports : List Report) (units keys shelves : List ℕ) : Type 0 where
  pub counted : AreCounted reports units
  pub elements : keys ≡ map element_of reports
  pub orders : shelves ≡ map order_of reports

-- the reports, and for how many more of new elements there is room
pub record BoardTables : Type 0 where
  pub reports : List Report
  pub spare : ℕ
