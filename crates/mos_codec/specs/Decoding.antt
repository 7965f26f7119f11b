-- What a decoder of envelopes answers.
use Rattle.std.specs.Prelude.{◌≡◌, ℕ, ◌+◌, ◌*◌, ◌-◌, ◌^◌, min, ◌++◌, ◌||◌, ◌&&◌, ◌==◌, Bool, true, false, List, [], ◌∷◌, length, map, Option, Some, None, Result, Ok, Err, ⊤}
use Rattle.mos_fields.specs.Characters.{units_in}
use Rattle.mos_fields.specs.Raw.{is_space}
use Rattle.mos_lexer.specs.Lexing.{byte_order_mark}
use Rattle.mos_lexer.specs.Units.{Found as FoundOf, Reader, StreamReader, reads_stream, rejects_stream, start_stream, stream_units}
use Rattle.mos_lexer.specs.declared.kind.Kind.{Kind}
use Rattle.mos_message_reading.specs.Values.{IsNamed}
use Rattle.mos_reader.specs.Answers.{fed}
use Rattle.mos_decoder.specs.Bytes.{ByteStream, HasHanded, start_bytes}
use Rattle.mos_values.specs.MessageViews.{envelope_events}
use Rattle.mos_values.specs.Sound.{IsSound}
use Rattle.mos_values.specs.declared.message.Envelope.{Envelope}
use Rattle.value_laws.specs.Ranges.{IsInRange}
use Rattle.mos_codec.specs.declared.whole.Placed.{Placed}
use Rattle.mos_codec.specs.declared.fault.DecodeFault.{DecodeFault}
use Rattle.mos_codec.specs.declared.fault.DecodeFault.TheVariants.{Refused, NoMemory}

-- A decoder: the stream of its bytes, the messages that are whole and weren't handed out yet, where the one begins that
-- was handed out last, and why nothing more is read.
pub record DecoderState : Type 0 where
  pub bytes : ByteStream
  pub ready : List Placed
  pub began : ℕ
  pub fault : Option DecodeFault

abbrev pub start_decoder : DecoderState
start_decoder = record { bytes = start_bytes; ready = []; began = 0; fault = None }

-- where a message stands, and its events
abbrev pub placed_events : Placed → FoundOf
placed_events p = record { began = p.began; value = envelope_events p.envelope }

-- these messages, and behind them those that are whole
abbrev pub with_ready : List FoundOf → List Placed → List FoundOf
with_ready found ready = found ++ map placed_events ready

-- a message as it is handed out: the name of one that is kept as it was written is that of its element, the numbers are in
-- their ranges, and it is sound
pub record IsReady (p : Placed) : Type 0 where
  pub named : IsNamed p.envelope.message
  pub in_range : IsInRange p.envelope.message
  pub sound : IsSound p.envelope.message

-- The bytes are a stream of these messages, as far as they go, and what is held stands behind the last of them.
pub record IsRead (bytes : List ℕ) (found : List FoundOf) (s : ByteStream) : Type 0 where
  pub handed : HasHanded s bytes found
  pub base : ℕ
  pub reader : Reader
  pub goes_on : stream_units start_stream (units_in bytes) ≡ reads_stream (record { ready = found; base = base; reader = reader })

-- Of these bytes these messages were handed out, and with those that are ready they are all that are whole.
pub record HasTaken (d : DecoderState) (bytes : List ℕ) (found : List FoundOf) : Type 0 where
  pub clean : d.fault ≡ None
  pub read : IsRead bytes (with_ready found d.ready) d.bytes

-- Behind these messages the stream of the bytes is rejected at this place, with this kind.
abbrev pub IsRejected : List ℕ → List FoundOf → ℕ → Kind → Type 0
IsRejected bytes found place k = (s : StreamReader) × (s.ready ≡ found) × (stream_units start_stream (units_in bytes) ≡ rejects_stream s place k)

-- What feeding says of all bytes that were fed, of which these messages were handed out: the messages that are ready are
-- the others that are whole, and the stream goes on behind them or is rejected. Without memory none is ready.
abbrev pub TellsFed : List ℕ → List FoundOf → Result (Unit {0}) DecodeFault → DecoderState → Type 0
TellsFed bytes found (Ok u) t = HasTaken t bytes found
TellsFed bytes found (Err (Refused place k)) t = IsRejected bytes (with_ready found t.ready) place k × (fed t.bytes.stream ≡ length (units_in bytes))
TellsFed bytes found (Err NoMemory) t = t.ready ≡ []

-- the fault is kept exactly where it is answered
abbrev pub IsKept : Result (Unit {0}) DecodeFault → Option DecodeFault → Type 0
IsKept (Ok u) fault = fault ≡ None
IsKept (Err k) fault = fault ≡ Some k

-- the envelope is the first of the messages that are whole
abbrev pub IsFirst : Envelope → List Placed → Type 0
IsFirst e ready = (p : Placed) × (more : List Placed) × (ready ≡ p ∷ more) × (p.envelope ≡ e)

-- the envelope is ready before all others, or there is no memory
abbrev pub ComesFirst : Envelope → Result (Unit {0}) DecodeFault → List Placed → Type 0
ComesFirst e (Ok u) ready = IsFirst e ready
ComesFirst e (Err (Refused place k)) ready = IsFirst e ready
ComesFirst e (Err NoMemory) ready = ⊤

-- The first message that is ready is handed out, if there is one.
abbrev pub HandsOut : List Placed → Option Envelope → DecoderState → DecoderState → Type 0
HandsOut [] r d t = (r ≡ None) × (t ≡ d)
HandsOut (p ∷ more) r d t = (r ≡ Some p.envelope) × (t ≡ record { bytes = d.bytes; ready = more; began = p.began; fault = d.fault })

-- the message that was handed out last, behind those before it
abbrev pub handed_more : List FoundOf → Option Envelope → ℕ → List FoundOf
handed_more found None began = found
handed_more found (Some e) began = found ++ (record { began = began; value = envelope_events e }) ∷ []

-- ---- what stands behind the last whole message

-- white space or U+FEFF
abbrev pub is_blank : ℕ → Bool
is_blank u = is_space u || (u == byte_order_mark)

unfoldable pub are_blank : List ℕ → Bool
are_blank [] = true
are_blank (u ∷ us) = is_blank u && are_blank us

abbrev pub odd_bytes : Option ℕ → ℕ
odd_bytes None = 0
odd_bytes (Some b) = 1

abbrev pub is_even : Option ℕ → Bool
is_even None = true
is_even (Some b) = false

-- nothing but white space and U+FEFF
abbrev pub rests : ByteStream → Bool
rests s = is_even s.odd && are_blank s.stream.held

-- so many bytes, or 2^64 - 1 where that is smaller
abbrev pub bytes_behind : ByteStream → ℕ
bytes_behind s = min (length s.stream.held * 2 + odd_bytes s.odd) (2 ^ 64 - 1)
