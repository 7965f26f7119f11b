-- What feeding a decoder says, in words of the grammar.
use Rattle.std.specs.Prelude.{◌≡◌, ℕ, ◌*◌, ◌+◌, ◌-◌, ◌^◌, ◌&&◌, min, List, length, Result, Ok, Err, ⊤}
use Rattle.mos_lexer.specs.Units.{Found as FoundOf, start_stream, stream_units}
use Rattle.mos_fields.specs.Characters.{units_in}
use Rattle.mos_rejections.specs.Laws.{values}
use Rattle.mos_decoder.specs.Bytes.{ByteStream, front, odd_in}
use Rattle.input_laws.specs.Words.{ReadsOn, ShowsRejection, are_blank}
use Rattle.mos_codec.specs.Decoding.{DecoderState, bytes_behind, is_even, odd_bytes, rests, with_ready}
use Rattle.mos_codec.specs.declared.fault.DecodeFault.{DecodeFault}
use Rattle.mos_codec.specs.declared.fault.DecodeFault.TheVariants.{Refused, NoMemory}

-- What is told of the code units and the odd byte behind the last whole message.
pub record TellsRest (part bytes : List ℕ) (s : ByteStream) : Type 0 where
  pub behind : bytes_behind s ≡ min (length part * 2 + odd_bytes (odd_in bytes)) (2 ^ 64 - 1)
  pub empty : rests s ≡ (is_even (odd_in bytes) && are_blank part)

-- What was held when a rejection was met is held still: with it, behind these messages, the machine comes to the same as with all
-- code units, of which it is the end.
pub record IsLeft (bytes : List ℕ) (found : List FoundOf) (s : ByteStream) : Type 0 where
  pub same : stream_units start_stream (units_in bytes) ≡ stream_units (front found s.stream.base) s.stream.held
  pub units : length (units_in bytes) ≡ s.stream.base + length s.stream.held
  pub odd : s.odd ≡ odd_in bytes

-- The bytes fed are encodings of the messages that were handed out and of those that are ready, and behind them one more is
-- begun, of which `behind` and `is_empty` tell; or they show the rejection behind encodings of these.
abbrev pub FedInWords : List ℕ → List FoundOf → Result (Unit {0}) DecodeFault → DecoderState → Type 0
FedInWords bytes found (Ok u) t = (r : ReadsOn bytes (values (with_ready found t.ready))) × TellsRest r.part bytes t.bytes
FedInWords bytes found (Err (Refused place k)) t = ShowsRejection bytes (values (with_ready found t.ready)) place k × IsLeft bytes (with_ready found t.ready) t.bytes
FedInWords bytes found (Err NoMemory) t = ⊤
