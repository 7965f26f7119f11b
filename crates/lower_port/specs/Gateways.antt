-- The lower port of a gateway, where it tells its objects, and what is answered there.
use Rattle.std.specs.Prelude.{ℕ, List, [], Option, Some, None}
use Rattle.mos_edits.specs.Texts.{Text}
use Rattle.mos_edits.specs.KeyedLists.ActFault.{Missing}
use Rattle.mos_machines.specs.Messages.{status_text}
use Rattle.mos_machines.specs.Messages.Status.{Faulty}
use Rattle.mos_values.specs.declared.mach_info.MachInfo.{MachInfo}
use Rattle.mos_values.specs.declared.message.Message.{Message}
use Rattle.mos_values.specs.declared.message.Message.TheVariants as carried
use Rattle.mos_values.specs.declared.mos_ack.AckStatus.TheVariants.{Ack, Nack}
use Rattle.mos_values.specs.declared.mos_obj.MosObj.{MosObj}
use Rattle.port_events.specs.declared.answer.PortAnswer.{PortAnswer}
use Rattle.port_events.specs.declared.answer.PortAnswer.TheVariants as answers
use Rattle.port_events.specs.declared.event.What.{What}
use Rattle.port_events.specs.declared.event.What.TheVariants.{Accepted, Heard, EndedIn, Dialed, Next, Answered, Beat, EndedOut}
use Rattle.object_table.specs.Objects.{find_object}
use Rattle.port_replies.specs.Replies.{mos_ack}
use Rattle.lower_port.specs.Connections.{OwnState, all_due, with_due, dialed, next, answered, beat, ended}
use Rattle.lower_port.specs.Servers.{not_supported}

-- ---- what is answered to a message that comes

-- the object that was asked for, or the mosAck that there is none
abbrev pub object_told : Text → Option MosObj → Message
object_told id (Some o) = carried.MosObj o
object_told id None = mos_ack (carried.MosReqObj id) Nack (status_text (Faulty (Missing id)))

-- A request of an object is answered by it, and one of all objects makes them due on the connection that the gateway opened;
-- a request tells what the gateway says of itself; a heartbeat is answered by itself.
abbrev pub gate_heard : MachInfo → List MosObj → OwnState → Message → Message × OwnState
gate_heard info objects own (carried.MosReqObj id) = (object_told id (find_object id objects), own)
gate_heard info objects own (carried.MosReqAll pause) = (mos_ack (carried.MosReqAll pause) Ack [], with_due (all_due pause) own)
gate_heard info objects own carried.ReqMachInfo = (carried.ListMachInfo info, own)
gate_heard info objects own (carried.Heartbeat time) = (carried.Heartbeat time, own)
gate_heard info objects own m = (not_supported m, own)

-- ---- its events

abbrev pub said : Message × OwnState → PortAnswer × OwnState
said x = (answers.Say x.0, x.1)

-- An event at the lower port of a gateway with these objects, on this connection: its answer, and what becomes of the
-- connection that the gateway opened.
abbrev pub gate_lower : MachInfo → List MosObj → ℕ → What → OwnState → PortAnswer × OwnState
gate_lower info objects c Accepted s = (answers.Done, s)
gate_lower info objects c (Heard m) s = said (gate_heard info objects s m)
gate_lower info objects c EndedIn s = (answers.Taken, s)
gate_lower info objects c (Dialed time) s = dialed c s
gate_lower info objects c (Next time) s = next objects c time s
gate_lower info objects c (Answered m) s = answered c m s
gate_lower info objects c Beat s = beat c s
gate_lower info objects c EndedOut s = ended c s
