-- What holds of inputs.
use Rattle.std.specs.Prelude.{◌≡◌, ℕ, ◌+◌, true, List, ◌++◌, length}
use Rattle.mos_fields.specs.Characters.{units_in}
use Rattle.mos_tables.specs.Events.{Event}
use Rattle.mos_lexer.specs.declared.kind.Kind.{Kind}
use Rattle.mos_lexer.specs.declared.kind.Kind.TheVariants.{End}
use Rattle.mos_lexer.specs.Units.{Found, Reader, start_reader, still_reads, unit_run, is_resting, StreamReader, start_stream, reads_stream, rejects_stream, stream_units}
use Rattle.mos_rejections.specs.Laws.{values}
use Rattle.mos_decoder.specs.Inputs.{Input, whole, refused, input_of}
use Rattle.input_laws.specs.Words.{are_bytes, are_blank, IsStream, ReadsOn, ShowsRejection, EndsInside, IsRejected}

-- Code units that begin a message rest exactly where they are white space and U+FEFF.
abbrev pub RestsAreBlank : Type 0
RestsAreBlank = (us : List ℕ) (s : Reader) → unit_run start_reader us ≡ still_reads s → is_resting s ≡ are_blank us

-- what the machine came to, in words
abbrev pub InputIsExact : List ℕ → Input → Type 0
InputIsExact bytes (whole found) = IsStream bytes (values found)
InputIsExact bytes (refused found place k) = IsRejected bytes (values found) place k

-- Bytes that the machine takes for a whole stream are one, of the messages that it found; those that it refuses are rejected
-- behind these messages, at that place and as that.
abbrev pub InputsAreExact : Type 0
InputsAreExact = (bytes : List ℕ) → are_bytes bytes ≡ true → InputIsExact bytes (input_of bytes)

-- And a whole stream is taken for one, of just its messages.
abbrev pub StreamsAreTaken : Type 0
StreamsAreTaken = (bytes : List ℕ) (vs : List (List Event)) → IsStream bytes vs → (found : List Found) × (input_of bytes ≡ whole found) × (values found ≡ vs)

-- Bytes that show a rejection are refused so.
abbrev pub RejectionsAreTold : Type 0
RejectionsAreTold = (bytes : List ℕ) (vs : List (List Event)) (place : ℕ) (k : Kind) → are_bytes bytes ≡ true → ShowsRejection bytes vs place k
    → (found : List Found) × (input_of bytes ≡ refused found place k) × (values found ≡ vs)

-- Bytes that end inside a message are refused as that.
abbrev pub EndsAreTold : Type 0
EndsAreTold = (bytes : List ℕ) (vs : List (List Event)) (place : ℕ) → EndsInside bytes vs place → (found : List Found) × (input_of bytes ≡ refused found place End) × (values found ≡ vs)

-- A rejection is shown whatever follows.
abbrev pub RejectionsStay : Type 0
RejectionsStay = (bytes more : List ℕ) (vs : List (List Event)) (place : ℕ) (k : Kind) → ShowsRejection bytes vs place k → ShowsRejection (bytes ++ more) vs place k

-- Code units that the machine refuses show the rejection behind the messages that it read.
abbrev pub RefusalsAreShown : Type 0
RefusalsAreShown = (bytes : List ℕ) (s : StreamReader) (place : ℕ) (k : Kind) → are_bytes bytes ≡ true → stream_units start_stream (units_in bytes) ≡ rejects_stream s place k → ShowsRejection bytes (values s.ready) place k

-- What is held behind the messages that were read: with it the machine comes to the same as with all code units, of which it
-- is the end.
pub record IsHeld (bytes : List ℕ) (found : List Found) (base : ℕ) (held : List ℕ) : Type 0 where
  pub same : stream_units start_stream (units_in bytes) ≡ stream_units (record { ready = found; base = base; reader = start_reader }) held
  pub units : length (units_in bytes) ≡ base + length held

-- the code units that are held are as many as those that begin a message, and blank where these are
pub record IsPart (part held : List ℕ) : Type 0 where
  pub long : length held ≡ length part
  pub blank : are_blank held ≡ are_blank part

-- Code units that the machine reads on from are encodings of the messages that it read and begin one more, of which what is
-- held is as long and as blank.
abbrev pub StreamsGoOn : Type 0
StreamsGoOn = (bytes : List ℕ) (found : List Found) (base : ℕ) (held : List ℕ) (s : StreamReader) → are_bytes bytes ≡ true → stream_units start_stream (units_in bytes) ≡ reads_stream s → s.ready ≡ found → IsHeld bytes found base held
    → (r : ReadsOn bytes (values found)) × IsPart r.part held
