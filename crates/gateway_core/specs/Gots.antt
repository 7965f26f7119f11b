-- What an answer to a request of the gateway leaves.
use Rattle.std.specs.Prelude.{List, [], ◌∷◌, Bool, true, false, Option, Some, None, not, if◌then◌else◌}
use Rattle.mos_edits.specs.Texts.{Text}
use Rattle.mos_edits.specs.Orders.{Order}
use Rattle.mos_machines.specs.Messages.{Status, read_status}
use Rattle.mos_machines.specs.Device.{GateState, GateOut, Phase, got_phase, got_order, got_refusal, is_in, is_no_order}
use Rattle.mos_machines.specs.Device.GateOut.{NotAsking, AsksFor, AsksAll, AsksBeat}
use Rattle.mos_machines.specs.Tables.{KnownOrder}

-- the order that was asked for, with what came for it
abbrev pub got_known : KnownOrder → Option Order → KnownOrder
got_known k o = record { held = o; phase = got_phase k.phase; wanted = not (is_in (got_phase k.phase)) }

abbrev pub got_asked : GateState → GateOut → Option Order → GateState
got_asked g (AsksFor r) o = got_order g r o
got_asked g a o = record g { out = NotAsking }

-- it wasn't given
abbrev pub refused_asked : GateState → GateOut → GateState
refused_asked g (AsksFor r) = got_refusal g r
refused_asked g a = record g { out = NotAsking }

-- whether a roAck says that there is no such order
abbrev pub says_no_order : Text → Bool
says_no_order text = is_no_order (read_status text)

abbrev pub is_beat : GateOut → Bool
is_beat AsksBeat = true
is_beat a = false
