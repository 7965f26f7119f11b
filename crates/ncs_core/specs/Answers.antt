-- What the server says to a device.
use Rattle.std.specs.Prelude.{List, [], false, Option, Some, None}
use Rattle.mos_edits.specs.Texts.{Text, set_order}
use Rattle.mos_edits.specs.Entries.{Entry, entry_count, in_force}
use Rattle.mos_edits.specs.Orders.{Order, bare}
use Rattle.mos_machines.specs.Messages.{Message, Status, status_text}
use Rattle.mos_machines.specs.Messages.Message.{RoElementStat}
use Rattle.mos_machines.specs.Server.{PeerState, View, settled}
use Rattle.mos_machines.specs.Messages.Status.{Okay, NotSupported, NoRunningOrder}
use Rattle.mos_values.specs.declared.message.Message as values
use Rattle.mos_values.specs.declared.message.Message.TheVariants as carried
use Rattle.mos_values.specs.declared.ro_ack.RoAck.{RoAck}

-- the roAck of an order
abbrev pub acked : Text → Status → RoAck
acked ro status = record { ro = ro; status = status_text status; groups = [] }

-- what answers a message that is neither a heartbeat nor a request
abbrev pub other_status : Message → Status
other_status (RoElementStat r) = Okay
other_status m = NotSupported

-- the order that was asked for, or that there is none
abbrev pub list_said : Text → Option Order → values.Message
list_said r None = carried.RoAck (acked r NoRunningOrder)
list_said r (Some o) = carried.RoList (bare o)

-- all entries of the order are on their way as a list, behind which the scripts in force are due
abbrev pub peer_listed : List Entry → Text → PeerState → PeerState
peer_listed journal r s = record s { views = set_order (λ q. settled journal false q (s.views q)) r (View.Listed (entry_count journal r) (in_force journal r (entry_count journal r))) }

abbrev pub IsHeartbeat : values.Message → Type 0
IsHeartbeat (carried.Heartbeat time) = Unit {0}
IsHeartbeat m = ⊥
