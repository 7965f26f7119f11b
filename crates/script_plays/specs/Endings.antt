-- How a write that failed ends a run.
use Rattle.std.specs.Prelude.{ℕ}
use Rattle.mos_io.specs.Counts.{Rose}
use Rattle.script_plays.specs.declared.commands.Ending.{Ending}
use Rattle.script_plays.specs.declared.commands.Ending.TheVariants.{WriteFault, NoMemory}

-- the sink's count of faults rose, or memory ran out
abbrev pub IsWriteEnding : ℕ → ℕ → Ending → Type 0
IsWriteEnding faults faults_now WriteFault = Rose faults faults_now
IsWriteEnding faults faults_now NoMemory = Unit {0}
IsWriteEnding faults faults_now ending = ⊥
