-- A file of records and a last byte, and what it stands for whatever a crash made of it.
use Rattle.std.specs.Prelude.{◌≡◌, ◌↔◌, ℕ, ◌<◌, ◌+◌, ◌^◌, List, [], ◌∷◌, ◌++◌, length, take, drop, All, Option, Some, None}
use Rattle.std.specs.Int.{to_be_bytes, w64}
use Rattle.mos_edits.specs.Entries.{Entry}
use Rattle.journal_bytes.specs.Journals.{entry_bytes}
use Rattle.entry_spellings.specs.Spellings.{Spells}

-- a length as eight bytes, high first
unfoldable pub length_bytes : ℕ → List ℕ
length_bytes n = to_be_bytes w64 n

-- the record of a message: the byte 1, its length and itself
abbrev pub framed : List ℕ → List ℕ
framed message = 1 ∷ (length_bytes (length message) ++ message)

-- the record of an entry
abbrev pub record_bytes : Entry → List ℕ
record_bytes e = framed (entry_bytes e)

-- records, one after another
abbrev pub records : List Entry → List ℕ
records [] = []
records (e ∷ es) = record_bytes e ++ records es

-- an entry that a record can hold: its spelling is its own, and its length is a number of 64 bits
pub record IsWritable (e : Entry) : Type 0 where
  pub spelled : Spells (entry_bytes e) e
  pub fits : length (entry_bytes e) < 2 ^ 64

-- The bytes begin with the whole record of this entry, and this is behind it: at least one byte.
pub record IsRecord (bytes : List ℕ) (e : Entry) (rest : List ℕ) : Type 0 where
  pub split : bytes ≡ record_bytes e ++ rest
  pub writable : IsWritable e
  pub more : 0 < length rest

-- no whole record with a byte behind it stands at the front
abbrev pub BeginsNoRecord : List ℕ → Type 0
BeginsNoRecord bytes = (e : Entry) (rest : List ℕ) → IsRecord bytes e rest → ⊥

-- These are the entries that a file's bytes stand for: those of its whole records, up to the first byte that begins none.
-- That byte is there wherever there is a record.
pub record Scans (bytes : List ℕ) (es : List Entry) : Type 0 where
  pub end : List ℕ
  pub split : bytes ≡ records es ++ end
  pub writable : All IsWritable es
  pub stays : 0 < length es → 0 < length end
  pub over : BeginsNoRecord end

-- two files stand for the same entries
abbrev pub ScansAlike : List ℕ → List ℕ → Type 0
ScansAlike c d = (es : List Entry) → Scans c es ↔ Scans d es

-- the file as the keeper leaves it: records and a byte 0
abbrev pub at_rest : List Entry → List ℕ
at_rest es = records es ++ 0 ∷ []

-- what an append writes behind the last byte of such a file
abbrev pub staged : Entry → List ℕ
staged e = length_bytes (length (entry_bytes e)) ++ (entry_bytes e ++ 0 ∷ [])

-- ---- reading

-- behind the byte 1: the length that stands at the front
abbrev pub HasLength : List ℕ → Option ℕ → Type 0
HasLength rest (Some n) = (n < 2 ^ 64) × (rest ≡ length_bytes n ++ drop 8 rest)
HasLength rest None = length rest < 8

-- behind the byte 1: so many bytes of message stand behind their length, with a byte behind them
abbrev pub HasMessage : List ℕ → Option ℕ → Type 0
HasMessage rest (Some n) = (n < 2 ^ 64) × (rest ≡ length_bytes n ++ (take n (drop 8 rest) ++ drop (8 + n) rest)) × (8 + n < length rest)
HasMessage rest None = (message more : List ℕ) → length message < 2 ^ 64 → 0 < length more → rest ≡ length_bytes (length message) ++ (message ++ more) → ⊥

-- the entry of the record at the front, and how many bytes the record has
abbrev pub HasFirst : List ℕ → Option (Entry × ℕ) → Type 0
HasFirst bytes (Some t) = (t.1 < length bytes) × IsRecord bytes t.0 (drop t.1 bytes)
HasFirst bytes None = BeginsNoRecord bytes

-- the entries of the records read so far, and what is left to be read
pub record HasScanned (bytes : List ℕ) (es : List Entry) (rest : List ℕ) : Type 0 where
  pub split : bytes ≡ records es ++ rest
  pub writable : All IsWritable es
  pub stays : 0 < length es → 0 < length rest

-- a scan's entries, and the place of the byte that ends the file
pub record IsScan (bytes : List ℕ) (es : List Entry) (end : ℕ) : Type 0 where
  pub scans : Scans bytes es
  pub place : end ≡ length (records es)
