-- How runs of messages end.
use Rattle.std.specs.Prelude.{ℕ, Bool, true, false}
use Rattle.mos_lexer.specs.declared.kind.Kind.TheVariants as kinds
use Rattle.port_session.specs.declared.end.End.{End}
use Rattle.port_session.specs.declared.end.End.TheVariants as ends
use Rattle.edit_runs.specs.declared.halt.Halt.{Halt}
use Rattle.edit_runs.specs.declared.halt.Halt.TheVariants as whys
use Rattle.edit_runs.specs.declared.status.EditStatus.{EditStatus}
use Rattle.edit_runs.specs.declared.status.EditStatus.TheVariants as statuses
use Rattle.message_runs.specs.declared.message_end.MessageEnd.{MessageEnd}
use Rattle.message_runs.specs.declared.message_end.MessageEnd.TheVariants.{Done, Refused, Rejected, ReadFault, WriteFault, Unsent, Unheard, Unanswered, NoMemory}

-- the status that the program ends with
abbrev pub status_of : MessageEnd → EditStatus
status_of Done = statuses.Done
status_of Refused = statuses.Refused
status_of (Rejected place kind) = statuses.Refused
status_of ReadFault = statuses.ReadFault
status_of WriteFault = statuses.WriteFault
status_of Unsent = statuses.Lost
status_of Unheard = statuses.Lost
status_of Unanswered = statuses.Lost
status_of NoMemory = statuses.NoMemory

-- where a message couldn't be sent, or its answer couldn't be heard and told
abbrev pub stopped_by : Halt → MessageEnd
stopped_by whys.Unsent = Unsent
stopped_by whys.Unheard = Unheard
stopped_by whys.Unanswered = Unanswered
stopped_by whys.WriteFault = WriteFault
stopped_by whys.NoMemory = NoMemory

-- where the stream was read to its end, and each message had the answer that it wanted, or one had another
abbrev pub finished : Bool → MessageEnd
finished true = Done
finished false = Refused

-- Where the stream gives no more messages for this reason. The place counts where the stream ends inside a message, or is longer
-- than can be counted; a stream that is rejected has a place of its own.
abbrev pub ended_by : Bool → ℕ → End → MessageEnd
ended_by good place ends.Closed = finished good
ended_by good place (ends.BadMessage p kind) = Rejected p kind
ended_by good place (ends.Truncated bytes) = Rejected place kinds.End
ended_by good place ends.Budget = Rejected place kinds.TooLong
ended_by good place ends.ReadFault = ReadFault
ended_by good place end = NoMemory
