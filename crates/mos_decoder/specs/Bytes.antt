-- What a decoder of bytes answers.
use Rattle.std.specs.Prelude.{◌≡◌, ℕ, Bool, true, false, cond, List, [], ◌∷◌, ◌++◌, ◌+◌, ◌*◌, ◌%◌, ◌/◌, ◌<◌, ◌≤◌, length, slice_index, Option, Some, None, Result, Ok, Err, ⊤}
use Rattle.mos_fields.specs.Characters.{units_in}
use Rattle.mos_tables.specs.Events.{Event}
use Rattle.mos_lexer.specs.declared.kind.Kind.TheVariants as kinds
use Rattle.mos_lexer.specs.Units.{Reader, StreamReader, StreamRun, reads_stream, rejects_stream, start_stream, start_reader, stream_units, UnitRun, still_reads, completed, rejected_at, unit_run}
use Rattle.mos_lexer.specs.Units.{Found as FoundOf}
use Rattle.mos_reader.specs.declared.found.Found.{Found}
use Rattle.mos_reader.specs.declared.found.ReadFault.{ReadFault}
use Rattle.mos_reader.specs.declared.found.ReadFault.TheVariants.{Rejected, NoMemory}
use Rattle.mos_reader.specs.Answers.{Stream, fed_on, run_of, answer_of, stream_behind, ComesTo}
use Rattle.mos_reader.specs.Answers.{start_stream as start_units}
use Rattle.mos_decoder.specs.Inputs.{Input, whole, refused, is_odd, input_of}

-- the stream of the code units of whole pairs of bytes, an odd byte behind them, and how many messages were handed out
pub record ByteStream : Type 0 where
  pub stream : Stream
  pub odd : Option ℕ
  pub count : ℕ

abbrev pub start_bytes : ByteStream
start_bytes = record { stream = start_units; odd = None; count = 0 }

-- bytes behind an odd one
abbrev pub behind_odd : Option ℕ → List ℕ → List ℕ
behind_odd None bytes = bytes
behind_odd (Some b) bytes = b ∷ bytes

-- the odd byte behind pairs of bytes
unfoldable pub odd_in : List ℕ → Option ℕ
odd_in [] = None
odd_in (a ∷ []) = Some a
odd_in (a ∷ b ∷ bs) = odd_in bs

-- a code unit whose bytes are turned round
abbrev pub turned_round : ℕ → ℕ
turned_round n = n % 256 * 256 + n / 256

-- from the place k on, up to 32, these turned round are the code units of the bytes from the place `at` on
abbrev pub AreTurned : List ℕ → ℕ → List ℕ → ℕ → Type 0
AreTurned bytes at us k = (j : ℕ) → k ≤ j → j < 32 → turned_round (slice_index us j) ≡ slice_index bytes (at + 2 * j) * 256 + slice_index bytes (at + 2 * j + 1)

-- bytes that are fed stand behind those that were fed before
abbrev pub fed_bytes : ByteStream → List ℕ → ByteStream
fed_bytes s bytes = record { stream = fed_on s.stream.fault s.stream (units_in (behind_odd s.odd bytes)); odd = odd_in (behind_odd s.odd bytes); count = s.count }

-- ---- what was handed out

abbrev pub found_of : Found → FoundOf
found_of f = record { began = f.began; value = f.value }

-- in front of a message, behind those that were handed out
abbrev pub front : List FoundOf → ℕ → StreamReader
front found base = record { ready = found; base = base; reader = start_reader }

-- Of these bytes these messages were handed out, and what is held stands behind them.
pub record HasHanded (s : ByteStream) (bytes : List ℕ) (found : List FoundOf) : Type 0 where
  pub same : stream_units start_stream (units_in bytes) ≡ stream_units (front found s.stream.base) s.stream.held
  pub units : length (units_in bytes) ≡ s.stream.base + length s.stream.held
  pub count : s.count ≡ length found
  pub odd : s.odd ≡ odd_in bytes
  pub reads : s.stream.fault ≡ None

-- ---- the end of the input, and faults

-- Where the input ends behind so many units and an odd byte, the stream is rejected there, if it isn't before.
abbrev pub cut_run : ℕ → UnitRun → UnitRun
cut_run count (still_reads t) = rejected_at count kinds.End
cut_run count (completed began v rest) = completed began v rest
cut_run count (rejected_at place k) = rejected_at place k

-- what the units held come to where the input ends behind them, and behind an odd byte where there is one
abbrev pub last_run : Option ℕ → Stream → UnitRun
last_run None s = run_of true s
last_run (Some b) s = cut_run (length s.held) (unit_run start_reader s.held)

-- The answer at the end of the input. A stream that is read no further is answered with the fault that it has.
abbrev pub AnswersEnd : Option ℕ → Option ReadFault → Stream → Result (Option Found) ReadFault → Stream → Type 0
AnswersEnd odd (Some k) s r t = (r ≡ Err k) × (t ≡ s)
AnswersEnd odd None s r t = ComesTo (last_run odd s) s r t

-- the fault is kept exactly where it is answered
abbrev pub IsKept : Result (Option Found) ReadFault → Option ReadFault → Type 0
IsKept (Ok o) fault = fault ≡ None
IsKept (Err k) fault = fault ≡ Some k

-- ---- what an answer says

-- how many messages were handed out behind an answer
abbrev pub counted : Result (Option Found) ReadFault → ℕ → ℕ
counted (Ok (Some f)) n = n + 1
counted (Ok None) n = n
counted (Err k) n = n

-- this holds where a message is handed out
abbrev pub OnFound : Result (Option Found) ReadFault → Type 0 → Type 0
OnFound (Ok (Some f)) P = P
OnFound (Ok None) P = ⊤
OnFound (Err k) P = ⊤

-- a value that was read from the code units of a message
abbrev pub IsReadValue : List Event → Type 0
IsReadValue v = (us : List ℕ) × (began : ℕ) × (rest : List ℕ) × (unit_run start_reader us ≡ completed began v rest)

-- the value of a message that is handed out was read
abbrev pub HandsValue : Result (Option Found) ReadFault → Type 0
HandsValue (Ok (Some f)) = IsReadValue f.value
HandsValue (Ok None) = ⊤
HandsValue (Err k) = ⊤

-- What the answer says of the bytes that were fed: one more message is handed out, more is to come, or the stream of
-- their code units is rejected.
abbrev pub Tells : List ℕ → List FoundOf → Result (Option Found) ReadFault → ByteStream → Type 0
Tells bytes found (Ok (Some f)) t = HasHanded t bytes (found ++ found_of f ∷ [])
Tells bytes found (Ok None) t = HasHanded t bytes found × ((base : ℕ) × (r : Reader) × (stream_units start_stream (units_in bytes) ≡ reads_stream (record { ready = found; base = base; reader = r })))
Tells bytes found (Err (Rejected place k)) t = (s : StreamReader) × (s.ready ≡ found) × (stream_units start_stream (units_in bytes) ≡ rejects_stream s place k)
Tells bytes found (Err NoMemory) t = ⊤

-- the same where the input ends behind them
abbrev pub TellsEnd : List ℕ → List FoundOf → Result (Option Found) ReadFault → ByteStream → Type 0
TellsEnd bytes found (Ok (Some f)) t = HasHanded t bytes (found ++ found_of f ∷ [])
TellsEnd bytes found (Ok None) t = HasHanded t bytes found × (input_of bytes ≡ whole found)
TellsEnd bytes found (Err (Rejected place k)) t = input_of bytes ≡ refused found place k
TellsEnd bytes found (Err NoMemory) t = ⊤
