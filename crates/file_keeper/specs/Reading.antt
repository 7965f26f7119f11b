-- What reading a file comes to. Of a reader that doesn't tell its bytes they may be any.
use Rattle.std.specs.Prelude.{◌≡◌, ℕ, ◌+◌, ◌≤◌, List, drop, length, Option, Result, Ok, Err, ⊤}
use Rattle.std.specs.Io.KnownBytes.{Consumes, IsAtEnd}
use Rattle.journal_bytes.specs.Journals.{HasRead, ReaderState}
use Rattle.mos_edits.specs.Entries.{Entry}
use Rattle.file_keeper.specs.declared.cause.Cause.{Cause}
use Rattle.file_keeper.specs.declared.reading.Step.{Step}
use Rattle.file_keeper.specs.declared.reading.Step.TheVariants.{More, End}

-- A file that told these bytes at the start has these left now: what lies between was fed, so many bytes.
pub record HasCome (start now : Option (List ℕ)) (total : ℕ) (r : ReaderState) : Type 0 where
  pub bytes : List ℕ
  pub consumed : Consumes start now bytes
  pub count : total ≡ length bytes
  pub read : HasRead r bytes

-- the same with all bytes that the file told
abbrev pub IsWhole : Option (List ℕ) → Option (List ℕ) → ℕ → ReaderState → Type 0
IsWhole start now total r = HasCome start now total r × IsAtEnd now

-- what one more read came to
abbrev pub Steps : Option (List ℕ) → Option (List ℕ) → ℕ → ReaderState → Result Step Cause → Type 0
Steps start now total r (Ok (More n)) = HasCome start now (total + n) r
Steps start now total r (Ok End) = IsWhole start now total r
Steps start now total r (Err fault) = ⊤

-- how many bytes were read
abbrev pub count_of : Step → ℕ
count_of (More n) = n
count_of End = 0

-- these are the entries of all whole messages of some bytes, none of which was rejected, but for the first of them, so many
pub record AreRead (known : ℕ) (entries : List Entry) : Type 0 where
  pub bytes : List ℕ
  pub reader : ReaderState
  pub read : HasRead reader bytes
  pub least : known ≤ length reader.entries
  pub behind : entries ≡ drop known reader.entries
