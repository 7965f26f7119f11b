-- Texts and identifiers, and tables over them.
use Rattle.std.specs.Prelude.{ℕ, List, [], ◌∷◌, Bool, false, if◌then◌else◌, bytes_eq, ◌==◌, ◌||◌}
pub use Rattle.mos_fields.specs.Characters.{Text}

-- Whether two identifiers are one. The one that is looked up stands first, the one that is written second.
unfoldable pub same_id : Text → Text → Bool
same_id = bytes_eq

-- whether an identifier stands in a list
abbrev pub has_id : Text → List Text → Bool
has_id id [] = false
has_id id (x ∷ xs) = same_id id x || has_id id xs

-- a table by roID with the place of `r` written anew
abbrev pub set_order : {X : Type 0} → (Text → X) → Text → X → Text → X
set_order f r x q = if same_id q r then x else f q

-- a table by number with the place `c` written anew
abbrev pub set_number : {X : Type 0} → (ℕ → X) → ℕ → X → ℕ → X
set_number f c x b = if b == c then x else f b
