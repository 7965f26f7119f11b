-- What is read of a source, where that is observable, and what it comes to.
use Rattle.std.specs.Prelude.{◌≡◌, ℕ, ◌<◌, ◌^◌, List, [], ◌++◌, Option, Some, None, ◌⊎◌}
use Rattle.mos_io.specs.Counts.{Rose}
use Rattle.world_laws.specs.World.{WorldEvent}
use Rattle.world_scripts.specs.Scripts.{Plays, RefusedAt, script_of}
use Rattle.script_reader.specs.declared.fault.ScriptFault.{ScriptFault}
use Rattle.script_reader.specs.declared.fault.ScriptFault.TheVariants as faults

-- the source tells a bound below 2^64 on what it may still give
abbrev pub IsBounded : Option ℕ → Type 0
IsBounded None = ⊥
IsBounded (Some bound) = bound < 2 ^ 64

-- these bytes were read, from the front of what was left
abbrev pub Reads : Option (List ℕ) → Option (List ℕ) → List ℕ → Type 0
Reads before after bytes = (left : List ℕ) → before ≡ Some left → (rest : List ℕ) × (left ≡ bytes ++ rest) × (after ≡ Some rest)

-- these bytes were read, to the end of the input
abbrev pub ReadsAll : Option (List ℕ) → Option (List ℕ) → List ℕ → Type 0
ReadsAll before after bytes = (left : List ℕ) → before ≡ Some left → (bytes ≡ left) × (after ≡ Some [])

-- The input was read to its end, and is a script of so many devices with these events.
pub record IsScriptRead (left_before left_after : Option (List ℕ)) (devices : ℕ) (events : List WorldEvent) : Type 0 where
  pub bytes : List ℕ
  pub reads : ReadsAll left_before left_after bytes
  pub script : script_of bytes ≡ Plays devices events

-- the first line that is none has this number, whatever follows these bytes
abbrev pub ShowsRefused : List ℕ → ℕ → Type 0
ShowsRefused bytes n = (rest : List ℕ) → script_of (bytes ++ rest) ≡ RefusedAt n

-- The first line that is none has this number: what was read shows it, whatever follows, or the input was read to its end.
pub record IsRefused (left_before left_after : Option (List ℕ)) (n : ℕ) : Type 0 where
  pub bytes : List ℕ
  pub reads : (Reads left_before left_after bytes × ShowsRefused bytes n) ⊎ (ReadsAll left_before left_after bytes × (script_of bytes ≡ RefusedAt n))

-- why no script was read, of a source with these bytes left and these counts of faults before and after
abbrev pub IsFault : Option (List ℕ) → Option (List ℕ) → ℕ → ℕ → ScriptFault → Type 0
IsFault left_before left_after faults_before faults_after (faults.Refused n) = IsRefused left_before left_after n
IsFault left_before left_after faults_before faults_after faults.ReadFault = Rose faults_before faults_after
IsFault left_before left_after faults_before faults_after faults.NoMemory = Unit {0}
