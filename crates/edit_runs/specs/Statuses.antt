-- The statuses of runs.
use Rattle.std.specs.Prelude.{ℕ}
use Rattle.port_session.specs.declared.end.End.{End}
use Rattle.port_session.specs.declared.end.End.TheVariants as ends
use Rattle.edit_runs.specs.declared.halt.Halt.{Halt}
use Rattle.edit_runs.specs.declared.halt.Halt.TheVariants as whys
use Rattle.edit_runs.specs.declared.status.EditStatus.{EditStatus}
use Rattle.edit_runs.specs.declared.status.EditStatus.TheVariants as statuses

-- the number that the program ends with
abbrev pub status_number : EditStatus → ℕ
status_number statuses.Done = 0
status_number statuses.Refused = 1
status_number statuses.Usage = 2
status_number statuses.ReadFault = 3
status_number statuses.WriteFault = 4
status_number statuses.NoMemory = 5
status_number statuses.Lost = 6
status_number (statuses.Unsent line) = 6
status_number (statuses.Unheard line) = 6
status_number (statuses.Unanswered line) = 6

-- why a message has no answer, where the connection ended so
abbrev pub lost_by : End → Halt
lost_by ends.NoMemory = whys.NoMemory
lost_by ends.ReadFault = whys.Unheard
lost_by end = whys.Unanswered

-- the status of a run that stops so at the line of this number
abbrev pub status_at : Halt → ℕ → EditStatus
status_at whys.Unsent line = statuses.Unsent line
status_at whys.Unheard line = statuses.Unheard line
status_at whys.Unanswered line = statuses.Unanswered line
status_at whys.WriteFault line = statuses.WriteFault
status_at whys.NoMemory line = statuses.NoMemory
