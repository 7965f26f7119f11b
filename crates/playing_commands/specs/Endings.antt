-- The status of how the run of a script ends.
use Rattle.stream_commands.specs.declared.status.Status.{Status}
use Rattle.stream_commands.specs.declared.status.Status.TheVariants as statuses
use Rattle.script_plays.specs.declared.commands.Ending.{Ending}
use Rattle.script_plays.specs.declared.commands.Ending.TheVariants.{Done, Refused, ReadFault, WriteFault, NoMemory}

abbrev pub ending_status : Ending → Status
ending_status Done = statuses.Done
ending_status Refused = statuses.Refused
ending_status ReadFault = statuses.ReadFault
ending_status WriteFault = statuses.WriteFault
ending_status NoMemory = statuses.NoMemory
