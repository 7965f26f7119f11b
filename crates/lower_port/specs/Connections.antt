-- The lower connection that this end opened: what is in flight on it, what is sent on it next, and what an event there comes to.
use Rattle.std.specs.Prelude.{ℕ, ◌+◌, ◌==◌, List, Bool, true, false, Option, Some, None, if◌then◌else◌, slice_get}
use Rattle.mos_machines.specs.Messages.{is_link}
use Rattle.mos_values.specs.declared.message.Message.{Message}
use Rattle.mos_values.specs.declared.message.Message.TheVariants as carried
use Rattle.mos_values.specs.declared.mos_obj.MosObj.{MosObj}
use Rattle.mos_fields.specs.declared.time.MosTime.{MosTime}
use Rattle.port_events.specs.declared.answer.PortAnswer.{PortAnswer}
use Rattle.port_events.specs.declared.answer.PortAnswer.TheVariants as answers
use Rattle.lower_port.specs.declared.due.Due.{Due}
use Rattle.lower_port.specs.declared.due.Due.TheVariants as dues
use Rattle.lower_port.specs.declared.in_flight.InFlight.{InFlight}
use Rattle.lower_port.specs.declared.in_flight.InFlight.TheVariants as flights

-- `link`: the current connection. `in_flight`: what awaits an answer there. `note`: a heartbeat was asked for. `due`: what
-- is sent before any heartbeat.
pub record OwnState : Type 0 where
  pub link : Option ℕ
  pub in_flight : InFlight
  pub note : Bool
  pub due : Due

-- no connection was opened yet
abbrev pub unopened : OwnState
unopened = record { link = None; in_flight = flights.Nothing; note = false; due = dues.Nothing }

-- ---- its beginning and its end

-- This connection is current and idle, and this is due.
abbrev pub dialed_with : Due → ℕ → OwnState → PortAnswer × OwnState
dialed_with due c s = (answers.Done, record { link = Some c; in_flight = flights.Nothing; note = s.note; due = due })

-- what is due stays
abbrev pub dialed : ℕ → OwnState → PortAnswer × OwnState
dialed c s = dialed_with s.due c s

-- the request of all objects is due
abbrev pub dialed_asking : ℕ → OwnState → PortAnswer × OwnState
dialed_asking c s = dialed_with dues.Request c s

-- an answer that nothing asked for ends it as well; what was in flight isn't sent again
abbrev pub without_link : Bool → OwnState → OwnState
without_link note s = record { link = None; in_flight = flights.Nothing; note = note; due = s.due }

-- an event of a connection that isn't the current one
abbrev pub unless_stale : ℕ → OwnState → PortAnswer × OwnState → PortAnswer × OwnState
unless_stale c s x = if is_link s.link c then x else (answers.Stale, s)

abbrev pub ended : ℕ → OwnState → PortAnswer × OwnState
ended c s = unless_stale c s (answers.Taken, without_link false s)

-- ---- what is sent

-- a message that is due, what it is in flight, and what is due after it
pub record Sending : Type 0 where
  pub message : Message
  pub flight : InFlight
  pub later : Due

-- the object at this place, where there is one, and then the next
abbrev pub object_sending : ℕ → Option MosObj → Option Sending
object_sending at None = None
object_sending at (Some o) = Some (record { message = carried.MosObj o; flight = flights.Object; later = dues.Objects (at + 1) })

-- the message that is due, of these objects
abbrev pub due_sending : List MosObj → Due → Option Sending
due_sending objects dues.Nothing = None
due_sending objects dues.Request = Some (record { message = carried.MosReqAll 0; flight = flights.Request; later = dues.Nothing })
due_sending objects dues.List = Some (record { message = carried.MosListAll objects; flight = flights.List; later = dues.Nothing })
due_sending objects (dues.Objects at) = object_sending at (slice_get objects at)

-- this is in flight from then on, and this is due after it
abbrev pub in_flight_as : InFlight → Due → OwnState → OwnState
in_flight_as flight later s = record { link = s.link; in_flight = flight; note = s.note; due = later }

-- the message that is due; where none is, a heartbeat that was asked for
abbrev pub sent_idle : MosTime → OwnState → Bool → Option Sending → PortAnswer × OwnState
sent_idle now s note (Some x) = (answers.Say x.message, in_flight_as x.flight x.later s)
sent_idle now s true None = (answers.Say (carried.Heartbeat now), record { link = s.link; in_flight = flights.Heartbeat; note = false; due = s.due })
sent_idle now s false None = (answers.Nothing, s)

-- nothing while an answer is awaited
abbrev pub sent : List MosObj → MosTime → OwnState → InFlight → PortAnswer × OwnState
sent objects now s flights.Nothing = sent_idle now s s.note (due_sending objects s.due)
sent objects now s flight = (answers.Nothing, s)

abbrev pub next : List MosObj → ℕ → MosTime → OwnState → PortAnswer × OwnState
next objects c now s = unless_stale c s (sent objects now s s.in_flight)

-- ---- what is answered

abbrev pub is_mos_ack : Message → Bool
is_mos_ack (carried.MosAck answer) = true
is_mos_ack m = false

abbrev pub is_heartbeat : Message → Bool
is_heartbeat (carried.Heartbeat time) = true
is_heartbeat m = false

-- a mosAck answers a request of all objects, a list of them and an object; a heartbeat answers a heartbeat
abbrev pub fits : InFlight → Message → Bool
fits flights.Nothing m = false
fits flights.Request m = is_mos_ack m
fits flights.List m = is_mos_ack m
fits flights.Object m = is_mos_ack m
fits flights.Heartbeat m = is_heartbeat m

abbrev pub taken_if : Bool → OwnState → PortAnswer × OwnState
taken_if true s = (answers.Taken, record { link = s.link; in_flight = flights.Nothing; note = s.note; due = s.due })
taken_if false s = (answers.Unasked, without_link s.note s)

abbrev pub answered : ℕ → Message → OwnState → PortAnswer × OwnState
answered c m s = unless_stale c s (taken_if (fits s.in_flight m) s)

-- ---- heartbeats

abbrev pub beat : ℕ → OwnState → PortAnswer × OwnState
beat c s = unless_stale c s (answers.Done, record { link = s.link; in_flight = s.in_flight; note = true; due = s.due })

-- ---- what comes to be due

-- all objects, in one list where the pause is 0, else one after the other; what was due before isn't any more
abbrev pub all_due : ℕ → Due
all_due pause = if pause == 0 then dues.List else dues.Objects 0

abbrev pub with_due : Due → OwnState → OwnState
with_due due s = record { link = s.link; in_flight = s.in_flight; note = s.note; due = due }
