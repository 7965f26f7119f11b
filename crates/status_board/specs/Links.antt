-- A list of numbers in which the places of each number are found from the last to the first.
use Rattle.std.specs.Prelude.{◌≡◌, ℕ, zero, suc, ◌<◌, ◌==◌, List, [], ◌∷◌, Bool, Option, None, Some, if◌then◌else◌, length, get_or, take}

-- a place in a list that has one more in front, where 0 is none and that one is the place if nothing is behind it
abbrev pub behind_one : Bool → ℕ → ℕ
behind_one here zero = if here then 1 else 0
behind_one here (suc k) = suc (suc k)

-- the place of the last that passes a test, counted from 1; 0 where none does
abbrev pub last_by : {X : Type 0} → (X → Bool) → List X → ℕ
last_by test [] = 0
last_by test (x ∷ xs) = behind_one (test x) (last_by test xs)

-- the place of the last that is this number
abbrev pub last_of : ℕ → List ℕ → ℕ
last_of n ns = last_by (λ m. m == n) ns

-- a number, or 0
abbrev pub or_zero : Option ℕ → ℕ
or_zero None = 0
or_zero (Some n) = n

-- By `newest` the last place of each number is found, and by `older` from each place the one before it of the same number.
pub record AreLinked (newest : ℕ → Option ℕ) (older numbers : List ℕ) : Type 0 where
  pub last : (n : ℕ) → or_zero (newest n) ≡ last_of n numbers
  pub each : length older ≡ length numbers
  pub before : (i : ℕ) → i < length numbers → get_or older i 0 ≡ last_of (get_or numbers i 0) (take i numbers)

-- the numbers, and for how many more there is room
pub record LinkedNumbers : Type 0 where
  pub numbers : List ℕ
  pub spare : ℕ
