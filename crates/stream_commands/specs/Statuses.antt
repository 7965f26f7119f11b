-- The numbers that a run ends with.
use Rattle.std.specs.Prelude.{ℕ}
use Rattle.stream_commands.specs.declared.status.Status.{Status}
use Rattle.stream_commands.specs.declared.status.Status.TheVariants as statuses

abbrev pub status_number : Status → ℕ
status_number statuses.Done = 0
status_number statuses.Refused = 1
status_number statuses.Usage = 2
status_number statuses.ReadFault = 3
status_number statuses.WriteFault = 4
status_number statuses.NoMemory = 5
