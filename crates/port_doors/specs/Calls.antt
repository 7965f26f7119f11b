-- What the workers of doors and of peers are given.
use Rattle.std.specs.Prelude.{◌≡◌, ℕ, List, Option, Some, None}
use Rattle.std.specs.Arc.{arc_value}
use Rattle.std.specs.Option.{option_map}
use Rattle.mos_fields.specs.Characters.{Text}
use Rattle.port_events.specs.declared.event.Side.{Side}
use Rattle.port_events.specs.declared.event.Side.TheVariants.{Upper, Lower}
use Rattle.port_session.specs.declared.port.Port.{Port}
use Rattle.port_doors.specs.declared.calls.Call.{Call}
use Rattle.port_doors.specs.declared.calls.Peer.{Peer}
use Rattle.port_doors.specs.declared.door.DoorPort.{DoorPort}

-- a port without a connection
abbrev pub port_of : Side → Option ℕ → Text → Text → Port
port_of side device mos ncs = record { side = side; device = device; link = 0; mos = mos; ncs = ncs }

-- the call at the upper port of a peer, for a device that perhaps has a number
abbrev pub upper_call : Option ℕ → Text → Text → Peer → Call
upper_call device mos ncs peer = record { port = port_of Upper device mos ncs; place = record { host = peer.host; port = peer.upper } }

-- the call at its lower port
abbrev pub lower_call : Option ℕ → Text → Text → Peer → Call
lower_call device mos ncs peer = record { port = port_of Lower device mos ncs; place = record { host = peer.host; port = peer.lower } }

-- what the connections of a door are served at: the port of this side without a device, with these names, of at most so many
-- bytes each
abbrev pub IsDoorPort : Side → Text → Text → Option (List Text) → ℕ → DoorPort → Type 0
IsDoorPort side mos ncs names budget at =
    (at.port ≡ port_of side None mos ncs) × (option_map arc_value at.names ≡ names) × (at.budget ≡ budget)
