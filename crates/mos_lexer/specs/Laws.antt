-- What holds of the encodings of messages and of reading them.
use Rattle.std.specs.Prelude.{◌≡◌, ℕ, Bool, true, List, [], ◌++◌, nat_lt}
use Rattle.std.specs.List.{list_all}
use Rattle.mos_tables.specs.Events.{Event}
use Rattle.mos_lexer.specs.Encodings.{Encodes}
use Rattle.mos_lexer.specs.Units.{Reader, start_reader, UnitRun, still_reads, completed, rejected_at, unit_run, Found, StreamReader, StreamRun, reads_stream, rejects_stream, stream_units}

-- the numbers are code units
abbrev pub are_units : List ℕ → Bool
are_units us = list_all (λ (u : ℕ). nat_lt u 65536) us

-- No encoding of a message begins another one, and none encodes two values.
abbrev pub EncodingsAreApart : Type 0
EncodingsAreApart = (v w : List Event) (us more : List ℕ) → Encodes v us → Encodes w (us ++ more) → (more ≡ []) × (v ≡ w)

-- An encoding is read to its end and not beyond, as the value that it encodes.
abbrev pub EncodingsAreRead : Type 0
EncodingsAreRead = (v : List Event) (us rest : List ℕ) → Encodes v us → (began : ℕ) × (unit_run start_reader (us ++ rest) ≡ completed began v rest)

-- What is read to the end of a message is an encoding of it.
abbrev pub OnlyEncodingsAreRead : Type 0
OnlyEncodingsAreRead = (began : ℕ) (v : List Event) (us rest : List ℕ) → are_units us ≡ true → unit_run start_reader us ≡ completed began v rest
    → (x : List ℕ) × (us ≡ x ++ rest) × Encodes v x

-- behind code units that were read come further ones
abbrev pub run_on : UnitRun → List ℕ → UnitRun
run_on (still_reads s) ds = unit_run s ds
run_on (completed began v rest) ds = completed began v (rest ++ ds)
run_on (rejected_at place k) ds = rejected_at place k

-- In whichever pieces the code units come, they come to the same.
abbrev pub PiecesAreOne : Type 0
PiecesAreOne = (s : Reader) (us ds : List ℕ) → unit_run s (us ++ ds) ≡ run_on (unit_run s us) ds

-- ---- streams

-- behind code units that were read come further ones
abbrev pub stream_on : StreamRun → List ℕ → StreamRun
stream_on (reads_stream s) ds = stream_units s ds
stream_on (rejects_stream s place k) ds = rejects_stream s place k

-- In whichever pieces a stream comes, it comes to the same.
abbrev pub StreamPiecesAreOne : Type 0
StreamPiecesAreOne = (s : StreamReader) (us ds : List ℕ) → stream_units s (us ++ ds) ≡ stream_on (stream_units s us) ds

-- with these messages read before
abbrev pub behind_ready : List Found → StreamRun → StreamRun
behind_ready fs (reads_stream s) = reads_stream (record { ready = fs ++ s.ready; base = s.base; reader = s.reader })
behind_ready fs (rejects_stream s place k) = rejects_stream (record { ready = fs ++ s.ready; base = s.base; reader = s.reader }) place k

-- Messages that were handed out do not matter for what is read behind them.
abbrev pub HandedOutIsBehind : Type 0
HandedOutIsBehind = (fs gs : List Found) (base : ℕ) (r : Reader) (us : List ℕ)
    → stream_units (record { ready = fs ++ gs; base = base; reader = r }) us ≡ behind_ready fs (stream_units (record { ready = gs; base = base; reader = r }) us)
