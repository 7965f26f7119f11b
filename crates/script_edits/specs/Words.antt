-- The words of a line, and which of them are names and numbers.
use Rattle.std.specs.Prelude.{ℕ, ◌+◌, ◌-◌, ◌*◌, Bool, true, false, not, List, [], ◌∷◌, map, length, Option, Some, None, if◌then◌else◌, ◌==◌, ◌&&◌, ◌||◌, nat_le, codes, bytes_eq}
use Rattle.std.specs.Borrow.{Bor}
use Rattle.std.specs.List.{slice_split, list_all}
use Rattle.mos_fields.specs.Characters.{Text}

-- a word: its bytes
abbrev pub Word : Type 0
Word = List ℕ

-- words in memory
abbrev pub words_in : List (Bor (List ℕ)) → List Word
words_in ws = map (λ w. w.now) ws

-- the words of a line are what stands between its spaces
abbrev pub words_of : List ℕ → List Word
words_of line = slice_split (λ b. b == 32) line

-- ---- names

abbrev pub is_digit : ℕ → Bool
is_digit c = nat_le 48 c && nat_le c 57

-- A to Z, a to z, 0 to 9 and `_`
abbrev pub is_name_char : ℕ → Bool
is_name_char c = (nat_le 65 c && nat_le c 90) || (nat_le 97 c && nat_le c 122) || is_digit c || (c == 95)

-- 1 to 32 of these
unfoldable pub is_name : Word → Bool
is_name w = nat_le 1 (length w) && nat_le (length w) 32 && list_all is_name_char w

abbrev pub are_names : List Word → Bool
are_names ws = list_all is_name ws

-- the ID that a name is
abbrev pub name_of : Word → Option Text
name_of w = if is_name w then Some w else None

-- the target that a word is: `-` is the empty one
abbrev pub target_of : Word → Option Text
target_of w = if bytes_eq w (codes "-") then Some [] else name_of w

-- whether an ID stands in a list
abbrev pub stands_in : Text → List Text → Bool
stands_in id [] = false
stands_in id (x ∷ xs) = bytes_eq id x || stands_in id xs

-- no ID stands twice in a list
abbrev pub are_distinct : List Text → Bool
are_distinct [] = true
are_distinct (x ∷ xs) = not (stands_in x xs) && are_distinct xs

-- ---- numbers

-- 1 to 9 digits
unfoldable pub is_number : Word → Bool
is_number w = nat_le 1 (length w) && nat_le (length w) 9 && list_all is_digit w

-- the number that digits write behind one that was read
abbrev pub value_after : ℕ → Word → ℕ
value_after n [] = n
value_after n (c ∷ cs) = value_after (n * 10 + (c - 48)) cs

-- the number that a word is
abbrev pub number_of : Word → Option ℕ
number_of w = if is_number w then Some (value_after 0 w) else None

-- ---- what words make together

-- of two values, where both are there
abbrev pub both : {A B C : Type 0} → (A → B → C) → Option A → Option B → Option C
both f (Some a) (Some b) = Some (f a b)
both f a b = None

-- of three values, where all are there
abbrev pub all_three : {A B C D : Type 0} → (A → B → C → D) → Option A → Option B → Option C → Option D
all_three f (Some a) (Some b) (Some c) = Some (f a b c)
all_three f a b c = None

-- where there is a word at all
abbrev pub at_least_one : {A : Type 0} → List Word → Option A → Option A
at_least_one [] o = None
at_least_one (w ∷ ws) o = o
