-- A third loop that runs.
use Rattle.std.specs.Prelude.{Option, Some, None, Bool, true, false}
use Rattle.side_lanes.specs.Lanes.{IsThere, RanIfThere}

-- it is there afterwards where it was before
pub still_there : {A : Type 0} (three : Bool) (ran : A → A → Type 0) (a b : Option A) → IsThere three a → RanIfThere ran a b → IsThere three b
still_there {A} three ran None None there by = there
still_there {A} three ran None (Some b) there by = absurd by
still_there {A} three ran (Some a) None there by = absurd by
still_there {A} true ran (Some a) (Some b) there by = tt
still_there {A} false ran (Some a) (Some b) there by = absurd there
