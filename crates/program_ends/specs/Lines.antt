-- The lines that say why a program ended.
use Rattle.std.specs.Prelude.{ℕ, List, ◌++◌, codes}
use Rattle.std.specs.Fmt.{decimal}
use Rattle.port_events.specs.declared.event.Side.{Side}
use Rattle.port_events.specs.declared.event.Side.TheVariants.{Upper, Lower, Editor}
use Rattle.program_ends.specs.declared.program_end.FileOf.{FileOf}
use Rattle.program_ends.specs.declared.program_end.FileOf.TheVariants.{Settings, Log, Objects}

-- what a file is to the program
abbrev pub file_word : FileOf → List ℕ
file_word Settings = codes "the settings"
file_word Log = codes "log"
file_word Objects = codes "objects"

-- the key of a port
abbrev pub side_word : Side → List ℕ
side_word Upper = codes "upper"
side_word Lower = codes "lower"
side_word Editor = codes "editor"

-- a file couldn't be had
abbrev pub no_file : FileOf → List ℕ → List ℕ → List ℕ
no_file file path cause = codes "NoFile: " ++ file_word file ++ codes " " ++ path ++ codes ": " ++ cause

-- another server has the journal
abbrev pub taken : List ℕ → List ℕ
taken path = no_file Log path (codes "another server has it")

-- a port couldn't be opened
abbrev pub no_port : ℕ → Side → List ℕ → List ℕ
no_port port side cause = codes "NoPort " ++ decimal port ++ codes ": " ++ cause ++ codes " (" ++ side_word side ++ codes ")"
