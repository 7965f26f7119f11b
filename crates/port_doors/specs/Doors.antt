-- What came of a door.
use Rattle.std.specs.Prelude.{ℕ, ◌≤◌, Option}
use Rattle.mos_io.specs.Counts.{Rose}
use Rattle.port_links.specs.Links.{Fewer, More, NoneComes}
use Rattle.port_doors.specs.declared.door.Door.{Door}
use Rattle.port_doors.specs.declared.door.DoorEnd.{DoorEnd}
use Rattle.port_doors.specs.declared.door.DoorEnd.TheVariants.{Closed, ListenFault, NoWorker, NoMemory}

-- what is seen of a door: the connections that are still to come and the jobs taken, where these are observable, and the
-- faults that its listener and its spawner counted
pub record Seen : Type 0 where
  pub coming : Option ℕ
  pub listen_faults : ℕ
  pub took : Option ℕ
  pub spawn_faults : ℕ

abbrev pub seen_of : {X Y : Type 0} → (X → Option ℕ) → (X → ℕ) → (Y → Option ℕ) → (Y → ℕ) → Door X Y → Seen
seen_of coming listens took spawns d = record { coming = coming d.listener; listen_faults = listens d.listener; took = took d.spawner; spawn_faults = spawns d.spawner }

-- each connection that came was given to a worker
pub record Opening (was now : Seen) : Type 0 where
  pub links : ℕ
  pub fewer : Fewer was.coming now.coming links
  pub more : More was.took now.took links
  pub listens : was.listen_faults ≤ now.listen_faults
  pub spawns : was.spawn_faults ≤ now.spawn_faults

-- each connection that came was given to a worker, and none is still to come
abbrev pub IsShut : Seen → Seen → Type 0
IsShut was now = Opening was now × NoneComes now.coming

-- why a door's loop ended
abbrev pub DoorCause : Seen → Seen → DoorEnd → Type 0
DoorCause was now Closed = IsShut was now
DoorCause was now ListenFault = Rose was.listen_faults now.listen_faults
DoorCause was now NoWorker = Rose was.spawn_faults now.spawn_faults
DoorCause was now NoMemory = Unit {0}

-- how a door's loop ended: no count fell, and the end has its cause
pub record DoorBy (was now : Seen) (end : DoorEnd) : Type 0 where
  pub listens : was.listen_faults ≤ now.listen_faults
  pub spawns : was.spawn_faults ≤ now.spawn_faults
  pub cause : DoorCause was now end

-- why a worker that dials wasn't started: the spawner counted a fault, or memory ran out
abbrev pub NotStarted : ℕ → ℕ → DoorEnd → Type 0
NotStarted was now Closed = ⊥
NotStarted was now ListenFault = ⊥
NotStarted was now NoWorker = Rose was now
NotStarted was now NoMemory = Unit {0}
