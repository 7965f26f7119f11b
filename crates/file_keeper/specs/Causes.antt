-- Why a load failed, and what that is to a keeper.
use Rattle.journal_bytes.specs.declared.fault.JournalFault.{JournalFault}
use Rattle.journal_bytes.specs.declared.fault.JournalFault.TheVariants as bytes
use Rattle.rundown_log.specs.declared.keeper.KeepFault.{KeepFault}
use Rattle.rundown_log.specs.declared.keeper.KeepFault.TheVariants.{Failed, NoMemory as OutOfMemory}
use Rattle.file_keeper.specs.declared.cause.Cause.{Cause}
use Rattle.file_keeper.specs.declared.cause.Cause.TheVariants as causes

-- what a fault of the journal's bytes is to a load
abbrev pub journal_cause : JournalFault → Cause
journal_cause bytes.Damaged = causes.Damaged
journal_cause bytes.NoMemory = causes.NoMemory

-- what a cause is to a keeper: want of memory, and else a fault that is counted
abbrev pub keep_fault : Cause → KeepFault
keep_fault causes.NoMemory = OutOfMemory
keep_fault (causes.System fault) = Failed
keep_fault causes.TooLong = Failed
keep_fault causes.Damaged = Failed
keep_fault (causes.Broken at) = Failed
keep_fault (causes.Unsaved number fault) = Failed
keep_fault causes.Fewer = Failed
