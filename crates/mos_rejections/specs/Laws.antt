-- What holds of reading code units.
use Rattle.std.specs.Prelude.{◌≡◌, ℕ, true, List, ◌++◌, length, ◌+◌, map}
use Rattle.mos_tables.specs.Events.{Event}
use Rattle.mos_lexer.specs.declared.kind.Kind.{Kind}
use Rattle.mos_lexer.specs.Encodings.{Encodes, AreEncodings}
use Rattle.mos_lexer.specs.Units.{start_reader, UnitRun, still_reads, completed, rejected_at, unit_run, Found, StreamReader, start_stream, StreamRun, reads_stream, rejects_stream, stream_units, Reader}
use Rattle.mos_lexer.specs.Laws.{are_units}
use Rattle.mos_rejections.specs.Rejections.{IsOpen, IsRejection}

-- what the reading of one message comes to, and what of the code units is behind it
abbrev pub RunIsExact : List ℕ → UnitRun → Type 0
RunIsExact us (still_reads s) = IsOpen us
RunIsExact us (completed began v rest) = (x : List ℕ) × (us ≡ x ++ rest) × Encodes v x
RunIsExact us (rejected_at place k) = (x : List ℕ) × (rest : List ℕ) × (us ≡ x ++ rest) × IsRejection x place k

-- The reading of a message goes on while the code units begin one, comes to its end, or comes to the first that shows a
-- fault, with the place and the kind of that fault.
abbrev pub RunsAreExact : Type 0
RunsAreExact = (us : List ℕ) → are_units us ≡ true → RunIsExact us (unit_run start_reader us)

-- the values of messages that were read
abbrev pub values : List Found → List (List Event)
values fs = map (λ (f : Found). f.value) fs

-- messages one after another, and what the reading of the next one comes to
abbrev pub StreamIsExact : List ℕ → StreamRun → Type 0
StreamIsExact us (reads_stream s) = (x : List ℕ) × (r : List ℕ) × (us ≡ x ++ r) × AreEncodings (values s.ready) x × (s.base ≡ length x) × IsOpen r
StreamIsExact us (rejects_stream s place k) = (x : List ℕ) × (r : List ℕ) × (rest : List ℕ) × (near : ℕ) × (us ≡ x ++ (r ++ rest)) × AreEncodings (values s.ready) x × (place ≡ length x + near) × IsRejection r near k

-- The same of a stream of messages, with places from its beginning.
abbrev pub StreamsAreExact : Type 0
StreamsAreExact = (us : List ℕ) → are_units us ≡ true → StreamIsExact us (stream_units start_stream us)

-- Code units that begin a message, as far as they go, are read on. So the reading goes on exactly there.
abbrev pub OpenIsRead : Type 0
OpenIsRead = (us : List ℕ) → IsOpen us → (s : Reader) × (unit_run start_reader us ≡ still_reads s)

-- ---- rejections alone

-- Code units that show a rejection are read as it, whatever follows.
abbrev pub RejectionsAreRead : Type 0
RejectionsAreRead = (us rest : List ℕ) (place : ℕ) (k : Kind) → are_units us ≡ true → IsRejection us place k → unit_run start_reader (us ++ rest) ≡ rejected_at place k

-- Of the fronts of code units one at most shows a rejection, at one place and of one kind.
abbrev pub RejectionsAreOne : Type 0
RejectionsAreOne = (us vs a b : List ℕ) (p q : ℕ) (k l : Kind) → are_units us ≡ true → are_units vs ≡ true → us ++ a ≡ vs ++ b → IsRejection us p k → IsRejection vs q l → (us ≡ vs) × (p ≡ q) × (k ≡ l)

-- What shows a rejection begins no message, and no message stands at its front.
abbrev pub RejectionsAreApart : Type 0
RejectionsAreApart = (us more : List ℕ) (place : ℕ) (k : Kind) → are_units us ≡ true → IsRejection us place k
    → (IsOpen (us ++ more) → ⊥) × ((v : List Event) → Encodes v (us ++ more) → ⊥) × ((v : List Event) (x r : List ℕ) → us ≡ x ++ r → Encodes v x → ⊥)

-- Behind messages, code units that show a rejection are read as it: behind just these messages, with its place from the
-- beginning of the stream.
abbrev pub StreamRejectionsAreRead : Type 0
StreamRejectionsAreRead = (vs : List (List Event)) (x us rest : List ℕ) (near : ℕ) (k : Kind) → are_units (x ++ (us ++ rest)) ≡ true → AreEncodings vs x → IsRejection us near k
    → (s : StreamReader) × (stream_units start_stream (x ++ (us ++ rest)) ≡ rejects_stream s (length x + near) k) × (values s.ready ≡ vs)
