-- A loop that is perhaps there.
use Rattle.std.specs.Prelude.{Option, Some, None, Bool, true, false}

-- it holds of the loop, where there is one
abbrev pub IfThere : {A : Type 0} → (A → Type 0) → Option A → Type 0
IfThere P None = Unit {0}
IfThere P (Some lane) = P lane

-- it holds of the loop before and after, and it is there after where it was before
abbrev pub RanIfThere : {A : Type 0} → (A → A → Type 0) → Option A → Option A → Type 0
RanIfThere ran None None = Unit {0}
RanIfThere ran None (Some after) = ⊥
RanIfThere ran (Some before) None = ⊥
RanIfThere ran (Some before) (Some after) = ran before after

-- it is there exactly where it should be
abbrev pub IsThere : {A : Type 0} → Bool → Option A → Type 0
IsThere true None = ⊥
IsThere true (Some lane) = Unit {0}
IsThere false None = Unit {0}
IsThere false (Some lane) = ⊥

-- it is there, and this holds of it
abbrev pub OfThird : {A : Type 0} → (A → Type 0) → Option A → Type 0
OfThird P None = ⊥
OfThird P (Some lane) = P lane
