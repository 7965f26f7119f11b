-- Doors that were moved into lanes and back.
use Rattle.std.proofs.Common.{◌≡◌, ℕ, Option, Some, None, sym, subst}
use Rattle.side_lanes.specs.Lanes.{OfThird, RanIfThere}
use Rattle.port_doors.specs.Doors.{seen_of, DoorBy}
use Rattle.port_doors.specs.Serving.{first_end}
use Rattle.port_doors.specs.declared.door.Door.{Door}
use Rattle.port_doors.specs.declared.door.DoorEnd.{DoorEnd}

pub door_moved : {X Y : Type 0} (coming : X → Option ℕ) (listens : X → ℕ) (took : Y → Option ℕ) (spawns : Y → ℕ) (was lent back now : Door X Y) (end : DoorEnd)
    → lent ≡ was → now ≡ back
    → DoorBy (seen_of coming listens took spawns lent) (seen_of coming listens took spawns back) end
    → DoorBy (seen_of coming listens took spawns was) (seen_of coming listens took spawns now) end
door_moved {X} {Y} coming listens took spawns was lent back now end e f by =
    subst (λ (d : Door X Y). DoorBy (seen_of coming listens took spawns was) (seen_of coming listens took spawns d) end) (sym f)
    (subst (λ (d : Door X Y). DoorBy (seen_of coming listens took spawns d) (seen_of coming listens took spawns back) end) e by)

-- the same of a third one, with the end of all three
pub third_moved : {A X Y : Type 0} (c z : Option A) (door : A → Door X Y) (end_of : A → DoorEnd) (at : A → Type 0) (coming : X → Option ℕ) (listens : X → ℕ) (took : Y → Option ℕ) (spawns : Y → ℕ) (was now : Door X Y) (u l end : DoorEnd)
    → OfThird (λ lane. (door lane ≡ was) × at lane) c
    → RanIfThere (λ a b. DoorBy (seen_of coming listens took spawns (door a)) (seen_of coming listens took spawns (door b)) (end_of b)) c z
    → OfThird (λ lane. (now ≡ door lane) × (end ≡ first_end u (first_end l (end_of lane)))) z
    → (e : DoorEnd) × DoorBy (seen_of coming listens took spawns was) (seen_of coming listens took spawns now) e × (end ≡ first_end u (first_end l e))
third_moved None z door end_of at coming listens took spawns was now u l end p r q = absurd p
third_moved (Some a) None door end_of at coming listens took spawns was now u l end p r q = absurd q
third_moved (Some a) (Some b) door end_of at coming listens took spawns was now u l end p r q =
    (end_of b, door_moved coming listens took spawns was (door a) (door b) now (end_of b) p.0 q.0 r, q.1)
