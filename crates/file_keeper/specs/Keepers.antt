-- What contracts see of a keeper in a file.
use Rattle.std.specs.Prelude.{◌≡◌, ℕ, Option, None, Some, Result, Ok, Err}
use Rattle.mos_edits.specs.Entries.{Entry}
use Rattle.mos_io.specs.Counts.{counted}
use Rattle.rundown_log.specs.Keeping.{Certainty}
use Rattle.rundown_log.specs.declared.keeper.KeepFault.{KeepFault}
use Rattle.rundown_log.specs.declared.keeper.KeepFault.TheVariants.{Failed, NoMemory}
use Rattle.file_keeper.specs.declared.keeper.FileKeeper.{FileKeeper}

module _ {R F D : Type 0} where
  -- the file
  abbrev pub file : FileKeeper R F D → F
  file k = k.file

  -- the faults that it has counted
  abbrev pub faults : FileKeeper R F D → ℕ
  faults k = k.faults

  -- the entry of the last append, where that failed
  abbrev pub doubt : FileKeeper R F D → Option Entry
  doubt k = k.doubt

  -- which entries stand isn't observable
  abbrev pub certainty : FileKeeper R F D → Certainty
  certainty k = record { certain = None; doubtful = doubt k }

  -- Only a failed append is counted, once, and puts its entry in doubt; want of memory changes nothing.
  abbrev pub IsAppended : FileKeeper R F D → Entry → Result (Unit {0}) KeepFault → FileKeeper R F D → Type 0
  IsAppended k e (Ok done) m = (faults m ≡ faults k) × (doubt m ≡ None)
  IsAppended k e (Err Failed) m = (faults m ≡ counted (faults k)) × (doubt m ≡ Some e)
  IsAppended k e (Err NoMemory) m = (file m ≡ file k) × (faults m ≡ faults k) × (doubt m ≡ doubt k)

  -- Nothing is in doubt behind a load.
  abbrev pub IsLoaded : FileKeeper R F D → FileKeeper R F D → Type 0
  IsLoaded k m = doubt m ≡ None

-- the count of faults behind a call that answered this one
abbrev pub count_after : KeepFault → ℕ → ℕ
count_after Failed n = counted n
count_after NoMemory n = n
