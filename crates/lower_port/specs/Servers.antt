-- The lower port of the server, where it has a device's objects, and what is answered there.
use Rattle.std.specs.Prelude.{ℕ, List, [], ◌∷◌, Bool, true, false}
use Rattle.mos_machines.specs.Messages.{status_text}
use Rattle.mos_machines.specs.Messages.Status.{Full, NotSupported}
use Rattle.mos_values.specs.declared.mach_info.MachInfo.{MachInfo}
use Rattle.mos_values.specs.declared.message.Message.{Message}
use Rattle.mos_values.specs.declared.message.Message.TheVariants as carried
use Rattle.mos_values.specs.declared.mos_ack.AckStatus.TheVariants.{Ack, Nack}
use Rattle.mos_values.specs.declared.mos_obj.MosObj.{MosObj}
use Rattle.port_events.specs.declared.answer.PortAnswer.{PortAnswer}
use Rattle.port_events.specs.declared.answer.PortAnswer.TheVariants as answers
use Rattle.port_events.specs.declared.event.What.{What}
use Rattle.port_events.specs.declared.event.What.TheVariants.{Accepted, Heard, EndedIn, Dialed, Next, Answered, Beat, EndedOut}
use Rattle.port_replies.specs.Replies.{mos_ack}
use Rattle.lower_port.specs.Connections.{OwnState, dialed_asking, next, answered, beat, ended}
use Rattle.lower_port.specs.Taking.{take_all}

-- the connection that the server opened to a device, and the device's objects
pub record ServerSide : Type 0 where
  pub own : OwnState
  pub objects : List MosObj

-- ---- what is answered to a message that comes

-- the mosAck that the message was taken, or that there was no room
abbrev pub take_answer : Message → Bool → Message
take_answer m true = mos_ack m Ack []
take_answer m false = mos_ack m Nack (status_text (Full 0))

abbrev pub not_supported : Message → Message
not_supported m = mos_ack m Nack (status_text NotSupported)

-- the answer, with the objects after it
abbrev pub told_taken : Message → List MosObj × Bool → Message × List MosObj
told_taken m x = (take_answer m x.1, x.0)

-- Objects are taken in order; a request tells what the server says of itself; a heartbeat is answered by itself.
abbrev pub server_heard : MachInfo → List MosObj → Message → Message × List MosObj
server_heard info objects (carried.MosObj o) = told_taken (carried.MosObj o) (take_all objects (o ∷ []))
server_heard info objects (carried.MosListAll os) = told_taken (carried.MosListAll os) (take_all objects os)
server_heard info objects carried.ReqMachInfo = (carried.ListMachInfo info, objects)
server_heard info objects (carried.Heartbeat time) = (carried.Heartbeat time, objects)
server_heard info objects m = (not_supported m, objects)

-- ---- its events

-- an answer of the connection that the server opened
abbrev pub on_own : List MosObj → PortAnswer × OwnState → PortAnswer × ServerSide
on_own objects x = (x.0, record { own = x.1; objects = objects })

abbrev pub on_heard : OwnState → Message × List MosObj → PortAnswer × ServerSide
on_heard own x = (answers.Say x.0, record { own = own; objects = x.1 })

-- An event at the lower port of the server, on this connection: its answer, and what there is after it.
abbrev pub server_lower : MachInfo → ℕ → What → ServerSide → PortAnswer × ServerSide
server_lower info c Accepted s = (answers.Done, s)
server_lower info c (Heard m) s = on_heard s.own (server_heard info s.objects m)
server_lower info c EndedIn s = (answers.Taken, s)
server_lower info c (Dialed time) s = on_own s.objects (dialed_asking c s.own)
server_lower info c (Next time) s = on_own s.objects (next s.objects c time s.own)
server_lower info c (Answered m) s = on_own s.objects (answered c m s.own)
server_lower info c Beat s = on_own s.objects (beat c s.own)
server_lower info c EndedOut s = on_own s.objects (ended c s.own)
