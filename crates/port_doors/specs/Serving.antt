-- What came of two doors or three, side by side.
use Rattle.std.specs.Prelude.{◌≡◌, ◌⊎◌, ℕ, ◌*◌, Option, Some, None}
use Rattle.mos_io.specs.Counts.{Rose}
use Rattle.port_links.specs.Links.{More, NoneComes}
use Rattle.port_doors.specs.Doors.{Seen, seen_of, IsShut, DoorBy, NotStarted}
use Rattle.port_doors.specs.declared.door.DoorEnd.{DoorEnd}
use Rattle.port_doors.specs.declared.door.DoorEnd.TheVariants.{Closed, ListenFault, NoWorker, NoMemory}
use Rattle.port_doors.specs.declared.ports.ServerPorts.{ServerPorts}
use Rattle.port_doors.specs.declared.ports.GatePorts.{GatePorts}

-- what is seen of the doors, of which the third is perhaps there, and of the spawner of the workers that dial
pub record PortsSeen : Type 0 where
  pub upper : Seen
  pub lower : Seen
  pub editor : Option Seen
  pub drivers_took : Option ℕ
  pub driver_faults : ℕ

-- of a server's three
abbrev pub server_seen : {X Y : Type 0} → (X → Option ℕ) → (X → ℕ) → (Y → Option ℕ) → (Y → ℕ) → ServerPorts X Y → PortsSeen
server_seen coming listens took spawns p = record {
  upper = seen_of coming listens took spawns p.upper;
  lower = seen_of coming listens took spawns p.lower;
  editor = Some (seen_of coming listens took spawns p.editor);
  drivers_took = took p.drivers;
  driver_faults = spawns p.drivers;
}

-- of a gateway's two
abbrev pub gate_seen : {X Y : Type 0} → (X → Option ℕ) → (X → ℕ) → (Y → Option ℕ) → (Y → ℕ) → GatePorts X Y → PortsSeen
gate_seen coming listens took spawns p = record {
  upper = seen_of coming listens took spawns p.upper;
  lower = seen_of coming listens took spawns p.lower;
  editor = None;
  drivers_took = took p.drivers;
  driver_faults = spawns p.drivers;
}

-- the doors' spawners may be asked to start jobs
abbrev pub ServerReady : {X Y : Type 0} → (Y → Type 0) → ServerPorts X Y → Type 0
ServerReady ready p = ready p.upper.spawner × ready p.lower.spawner × ready p.editor.spawner

abbrev pub GateReady : {X Y : Type 0} → (Y → Type 0) → GatePorts X Y → Type 0
GateReady ready p = ready p.upper.spawner × ready p.lower.spawner

-- the first end that isn't Closed
abbrev pub first_end : DoorEnd → DoorEnd → DoorEnd
first_end Closed next = next
first_end ListenFault next = ListenFault
first_end NoWorker next = NoWorker
first_end NoMemory next = NoMemory

-- how the loop of a door ended that is perhaps there; where it isn't, that counts as Closed
abbrev pub ThirdBy : Option Seen → Option Seen → DoorEnd → Type 0
ThirdBy None None end = end ≡ Closed
ThirdBy None (Some now) end = ⊥
ThirdBy (Some was) None end = ⊥
ThirdBy (Some was) (Some now) end = DoorBy was now end

-- each door's loop ran, and the end is the first in the doors' order that isn't Closed
pub record DoorsRan (was now : PortsSeen) (end : DoorEnd) : Type 0 where
  pub upper_end : DoorEnd
  pub lower_end : DoorEnd
  pub editor_end : DoorEnd
  pub upper : DoorBy was.upper now.upper upper_end
  pub lower : DoorBy was.lower now.lower lower_end
  pub editor : ThirdBy was.editor now.editor editor_end
  pub end_is : end ≡ first_end upper_end (first_end lower_end editor_end)

-- no door's loop began
pub record NotBegun (was now : PortsSeen) (end : DoorEnd) : Type 0 where
  pub upper : now.upper ≡ was.upper
  pub lower : now.lower ≡ was.lower
  pub editor : now.editor ≡ was.editor
  pub cause : NotStarted was.driver_faults now.driver_faults end

-- two workers were started for each of n peers, and then each door's loop ran; or one couldn't be started, and no loop
-- began
abbrev pub Served : ℕ → PortsSeen → PortsSeen → DoorEnd → Type 0
Served n was now end = (DoorsRan was now end × More was.drivers_took now.drivers_took (2 * n)) ⊎ NotBegun was now end

-- the same of a door that is perhaps there
abbrev pub IsThirdShut : Option Seen → Option Seen → Type 0
IsThirdShut None None = Unit {0}
IsThirdShut None (Some now) = ⊥
IsThirdShut (Some was) None = ⊥
IsThirdShut (Some was) (Some now) = IsShut was now

-- its listener counted a fault
abbrev pub ThirdFailed : Option Seen → Option Seen → Type 0
ThirdFailed None now = ⊥
ThirdFailed (Some was) None = ⊥
ThirdFailed (Some was) (Some now) = Rose was.listen_faults now.listen_faults

-- its spawner counted a fault
abbrev pub ThirdRefused : Option Seen → Option Seen → Type 0
ThirdRefused None now = ⊥
ThirdRefused (Some was) None = ⊥
ThirdRefused (Some was) (Some now) = Rose was.spawn_faults now.spawn_faults

-- The causes of the ends. Closed: each connection that came at a door was given to a worker, none is still to come at any,
-- and two workers were started for each of n peers. ListenFault: a listener counted a fault. NoWorker: a spawner did.
abbrev pub Caused : ℕ → PortsSeen → PortsSeen → DoorEnd → Type 0
Caused n was now Closed =
    IsShut was.upper now.upper × IsShut was.lower now.lower × IsThirdShut was.editor now.editor
    × More was.drivers_took now.drivers_took (2 * n)
Caused n was now ListenFault =
    Rose was.upper.listen_faults now.upper.listen_faults ⊎ (Rose was.lower.listen_faults now.lower.listen_faults ⊎ ThirdFailed was.editor now.editor)
Caused n was now NoWorker =
    Rose was.driver_faults now.driver_faults
    ⊎ (Rose was.upper.spawn_faults now.upper.spawn_faults ⊎ (Rose was.lower.spawn_faults now.lower.spawn_faults ⊎ ThirdRefused was.editor now.editor))
Caused n was now NoMemory = Unit {0}
