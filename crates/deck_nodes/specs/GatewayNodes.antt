-- The gateway with its objects, and with what it knows of its decks: its steps at all its ports.
use Rattle.std.specs.Prelude.{◌≡◌, List}
use Rattle.mos_machines.specs.Device.{Decks}
use Rattle.mos_machines.specs.Steps.{DeviceStep}
use Rattle.mos_machines.specs.Tables.{GateTables, gate_of}
use Rattle.mos_values.specs.declared.mach_info.MachInfo.{MachInfo}
use Rattle.mos_values.specs.declared.mos_obj.MosObj.{MosObj}
use Rattle.port_replies.specs.Ports.{ComesTo, GatePortStep}
use Rattle.port_events.specs.declared.answer.PortAnswer.{PortAnswer}
use Rattle.port_events.specs.declared.event.PortEvent.{PortEvent}
use Rattle.port_events.specs.declared.event.Side.{Side}
use Rattle.port_events.specs.declared.event.Side.TheVariants.{Upper, Lower, Editor}
use Rattle.deck_nodes.specs.Left.{KeepsDecks}
use Rattle.deck_nodes.specs.Ports.{upper_with}
use Rattle.lower_port.specs.Connections.{OwnState}
use Rattle.lower_port.specs.Gateways.{gate_lower}

-- The gate; whether decks were handed in, and how many were left after the last step; the objects, and the lower connection
-- that the gateway opened; and what it says of itself.
pub record GateNodeTables : Type 0 where
  pub gate : GateTables
  pub decks : Decks
  pub objects : List MosObj
  pub own : OwnState
  pub info : MachInfo

-- What becomes of the gate: at the lower port nothing. The decks that are left are an input of its step.
abbrev pub GatePart : Side → Decks → GateTables → PortEvent → PortAnswer → GateTables → Type 0
GatePart Upper decks g e a h = ComesTo DeviceStep (gate_of g) (upper_with decks e.link e.what) a (gate_of h)
GatePart Lower decks g e a h = h ≡ g
GatePart Editor decks g e a h = GatePortStep (gate_of g) e a (gate_of h)

-- What becomes of the lower connection that the gateway opened: at another port nothing.
abbrev pub OwnPart : Side → MachInfo → List MosObj → OwnState → PortEvent → PortAnswer → OwnState → Type 0
OwnPart Upper info objects s e a t = t ≡ s
OwnPart Lower info objects s e a t = (a ≡ (gate_lower info objects e.link e.what s).0) × (t ≡ (gate_lower info objects e.link e.what s).1)
OwnPart Editor info objects s e a t = t ≡ s

-- An event at the ports of a gateway with its objects: its answer, and the gateway after it. The gate's step is given the decks
-- that are left.
pub record IsGateNodeStep (m : GateNodeTables) (e : PortEvent) (a : PortAnswer) (n : GateNodeTables) : Type 0 where
  pub gate : GatePart e.side n.decks m.gate e a n.gate
  pub decks : KeepsDecks m.decks n.decks
  pub own : OwnPart e.side m.info m.objects m.own e a n.own
  pub objects : n.objects ≡ m.objects
  pub info : n.info ≡ m.info

-- After a refused step all is as it was, but that decks may have been dropped.
pub record IsGateNodeRefusal (m n : GateNodeTables) : Type 0 where
  pub gate : n.gate ≡ m.gate
  pub decks : KeepsDecks m.decks n.decks
  pub own : n.own ≡ m.own
  pub objects : n.objects ≡ m.objects
  pub info : n.info ≡ m.info
