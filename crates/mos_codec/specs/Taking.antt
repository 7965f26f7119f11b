-- What taking the whole messages of a stream comes to.
use Rattle.std.specs.Prelude.{◌≡◌, ℕ, ◌++◌, List, [], ◌∷◌, length, Result, Ok, Err, ⊤}
use Rattle.mos_fields.specs.Characters.{units_in}
use Rattle.mos_lexer.specs.Units.{Found as FoundOf}
use Rattle.mos_reader.specs.declared.found.ReadFault.{ReadFault}
use Rattle.mos_reader.specs.declared.found.ReadFault.TheVariants.{Rejected, NoMemory}
use Rattle.mos_reader.specs.Answers.{fed}
use Rattle.mos_decoder.specs.Bytes.{ByteStream}
use Rattle.mos_values.specs.declared.message.Envelope.{Envelope}
use Rattle.mos_codec.specs.declared.whole.Placed.{Placed}
use Rattle.mos_codec.specs.Words.{IsLeft}
use Rattle.mos_codec.specs.Decoding.{IsReady, IsRead, IsRejected, IsFirst, placed_events, with_ready}

-- one more message stands behind those that are ready, with this place and these events
pub record IsMore (f : FoundOf) (before after : List Placed) : Type 0 where
  pub placed : Placed
  pub more : after ≡ before ++ placed ∷ []
  pub events : placed_events placed ≡ f
  pub ready : IsReady placed

-- Of these bytes these messages were handed out: those that are ready are the others that are whole, and the stream goes
-- on behind them or is rejected; or there is no memory.
abbrev pub Took : List ℕ → List FoundOf → Result (Unit {0}) ReadFault → ByteStream → List Placed → Type 0
Took bytes found (Ok u) s ready = IsRead bytes (with_ready found ready) s
Took bytes found (Err (Rejected place k)) s ready = IsRejected bytes (with_ready found ready) place k × (fed s.stream ≡ length (units_in bytes)) × IsLeft bytes (with_ready found ready) s
Took bytes found (Err NoMemory) s ready = ⊤

-- the envelope is the first that is ready, or there is no memory
abbrev pub TakesFirst : Envelope → Result (Unit {0}) ReadFault → List Placed → Type 0
TakesFirst e (Ok u) ready = IsFirst e ready
TakesFirst e (Err (Rejected place k)) ready = IsFirst e ready
TakesFirst e (Err NoMemory) ready = ⊤
