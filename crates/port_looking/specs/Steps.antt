-- The steps of looking for the first message of a connection.
use Rattle.std.specs.Prelude.{◌≡◌, ℕ, ◌<◌, ◌≤◌, ◌⊎◌, List, [], ◌++◌, length, take, Option, Some, None, Result, Ok, Err, slice_get}
use Rattle.mos_codec.specs.Decoding.{DecoderState, HasTaken, IsRejected, with_ready}
use Rattle.mos_codec.specs.declared.fault.DecodeFault.{DecodeFault}
use Rattle.mos_codec.specs.declared.fault.DecodeFault.TheVariants.{Refused, NoMemory}
use Rattle.mos_fields.specs.Characters.{Text}
use Rattle.mos_io.specs.Bytes.{IsAtEnd, Takes}
use Rattle.mos_io.specs.Counts.{Rose}
use Rattle.mos_lexer.specs.declared.kind.Kind.{Kind}
use Rattle.mos_values.specs.declared.message.Envelope.{Envelope}
use Rattle.port_session.specs.Reading.{AreMessages}
use Rattle.port_looking.specs.Looking.{BeginsWith, Looks, Names}
use Rattle.port_looking.specs.declared.looker.Lack.{Lack}
use Rattle.port_looking.specs.declared.looker.Lack.TheVariants.{Read, Memory}

-- the place of this name, or that it has none
abbrev pub StandsAt : List Text → Text → Option ℕ → Type 0
StandsAt names mos (Some i) = slice_get names i ≡ Some mos
StandsAt names mos None = (i : ℕ) → slice_get names i ≡ Some mos → ⊥

-- the device that the message names, if there is one
abbrev pub NamedBy : List Text → Option Envelope → Option ℕ → Type 0
NamedBy names None device = device ≡ None
NamedBy names (Some e) device = (d : ℕ) × (device ≡ Some d) × Names names e.mos d × (d < length names)

-- the first message in the bytes read names this device
abbrev pub NamesFirst : List Text → List ℕ → ℕ → Type 0
NamesFirst names read device = (e : Envelope) × BeginsWith read e × Names names e.mos device

-- What the messages that a decoder holds say: the device that the first of them names, whatever the bytes were that they
-- are all messages of; none where there is no message, and the decoder stays as it is.
abbrev pub FirstNames : List Text → DecoderState → DecoderState → Option ℕ → Type 0
FirstNames names d t (Some device) = ((read : List ℕ) → AreMessages read (with_ready [] d.ready) → NamesFirst names read device) × (device < length names)
FirstNames names d t None = (d.ready ≡ []) × (t ≡ d)

-- what is known once a piece was fed and its first message was looked at: a rejected stream without a message is device 0's
abbrev pub Settles : Result (Unit {0}) DecodeFault → Option ℕ → Result (Option ℕ) Lack → Type 0
Settles (Ok u) found result = result ≡ Ok found
Settles (Err (Refused place kind)) (Some device) result = result ≡ Ok (Some device)
Settles (Err (Refused place kind)) None result = result ≡ Ok (Some 0)
Settles (Err NoMemory) found result = result ≡ Err Memory

-- The bytes read say which device it is: their first message names it, or they are rejected without one and it is 0.
abbrev pub Tells : List Text → List ℕ → ℕ → Type 0
Tells names read device = (NamesFirst names read device ⊎ (((place : ℕ) × (kind : Kind) × IsRejected read [] place kind) × (device ≡ 0))) × (device < length names)

-- what feeding the decoder came to: the bytes read hold no message yet, or say which device it is
abbrev pub Fed : List Text → List ℕ → DecoderState → Result (Option ℕ) Lack → Type 0
Fed names read d (Ok None) = HasTaken d read [] × (d.ready ≡ [])
Fed names read d (Ok (Some device)) = Tells names read device
Fed names read d (Err Memory) = Unit {0}
Fed names read d (Err Read) = ⊥

-- what keeping a piece behind the bytes read before, and feeding it, came to
abbrev pub TakesIn : List Text → List ℕ → List ℕ → List ℕ → DecoderState → Result (Option ℕ) Lack → Type 0
TakesIn names front piece later d (Ok found) = (later ≡ front ++ piece) × Fed names later d (Ok found)
TakesIn names front piece later d (Err Memory) = Unit {0}
TakesIn names front piece later d (Err Read) = ⊥

-- What one read of at most so many bytes came to.
abbrev pub ReadCame : Option (List ℕ) → Option (List ℕ) → ℕ → ℕ → ℕ → List ℕ → Result ℕ Lack → Type 0
ReadCame l l' f f' most buffer (Ok n) = (n ≤ most) × (n ≤ length buffer) × Takes l l' (take n buffer) × (n ≡ 0 → IsAtEnd l)
ReadCame l l' f f' most buffer (Err Read) = Rose f f' × (l' ≡ l)
ReadCame l l' f f' most buffer (Err Memory) = ⊥

-- Since the source had `l` left, these bytes were read, no more than the budget has, and none of them ends a message.
pub record Looking (budget : ℕ) (l l' : Option (List ℕ)) (read : List ℕ) (d : DecoderState) : Type 0 where
  pub took : Takes l l' read
  pub taken : HasTaken d read []
  pub ready : d.ready ≡ []
  pub within : length read ≤ budget

-- what one read, and what is done with its bytes, came to
abbrev pub Stepped : List Text → ℕ → Option (List ℕ) → Option (List ℕ) → ℕ → ℕ → List ℕ → List ℕ → DecoderState → Result (Option ℕ) Lack → Type 0
Stepped names budget l l' f f' front later d (Ok None) = Looking budget l l' later d × (length front < length later)
Stepped names budget l l' f f' front later d (Ok (Some device)) = Takes l l' later × Looks names l' budget later device × (length later ≤ budget) × (device < length names)
Stepped names budget l l' f f' front later d (Err Read) = Rose f f' × ((read : List ℕ) × Takes l l' read)
Stepped names budget l l' f f' front later d (Err Memory) = (read : List ℕ) × Takes l l' read

-- what looking came to; `read` are the bytes that were read
abbrev pub Looked : List Text → ℕ → Option (List ℕ) → Option (List ℕ) → ℕ → ℕ → List ℕ → Result ℕ Lack → Type 0
Looked names budget l l' f f' read (Ok device) = Takes l l' read × Looks names l' budget read device × (length read ≤ budget) × (device < length names)
Looked names budget l l' f f' read (Err Read) = Rose f f' × ((piece : List ℕ) × Takes l l' piece)
Looked names budget l l' f f' read (Err Memory) = (piece : List ℕ) × Takes l l' piece
