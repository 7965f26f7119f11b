-- Which device a connection belongs to.
use Rattle.std.specs.Prelude.{◌≡◌, ℕ, ◌<◌, ◌≤◌, ◌⊎◌, List, [], ◌∷◌, length, Option, Some, slice_get}
use Rattle.mos_codec.specs.Decoding.{IsRead, IsRejected}
use Rattle.mos_decoder.specs.Bytes.{ByteStream}
use Rattle.mos_fields.specs.Characters.{Text}
use Rattle.mos_io.specs.Bytes.{IsAtEnd, Takes}
use Rattle.mos_io.specs.Counts.{Rose}
use Rattle.mos_lexer.specs.Units.{Found as FoundOf}
use Rattle.mos_lexer.specs.declared.kind.Kind.{Kind}
use Rattle.mos_values.specs.Distinct.{AreDistinct}
use Rattle.mos_values.specs.MessageViews.{envelope_events}
use Rattle.mos_values.specs.declared.message.Envelope.{Envelope}
use Rattle.port_session.specs.Reading.{AreMessages, IsWhole}
use Rattle.port_looking.specs.declared.finding.LookFault.{LookFault}
use Rattle.port_looking.specs.declared.finding.LookFault.TheVariants.{ReadFault, NoMemory}

-- the names of a server's devices
abbrev pub AreNames : List Text → Type 0
AreNames names = (0 < length names) × (length names ≤ 64) × AreDistinct names

-- The device that this mosID names: its place among the names, or 0 where it isn't there.
abbrev pub Names : List Text → Text → ℕ → Type 0
Names names mos device = (slice_get names device ≡ Some mos) ⊎ (((i : ℕ) → slice_get names i ≡ Some mos → ⊥) × (device ≡ 0))

-- the first message in the bytes read is this one, whether the stream goes on behind the others or is rejected there
pub record BeginsWith (read : List ℕ) (e : Envelope) : Type 0 where
  pub first : FoundOf
  pub more : List FoundOf
  pub events : first.value ≡ envelope_events e
  pub whole : IsWhole e
  pub messages : AreMessages read (first ∷ more)

-- why there is no message in the bytes read: the source, with `left` left, ended, or so many bytes were read as may be, or
-- the stream is rejected
abbrev pub HasNone : Option (List ℕ) → ℕ → List ℕ → Type 0
HasNone left budget read =
    ((s : ByteStream) × IsRead read [] s × (IsAtEnd left ⊎ (length read ≡ budget)))
    ⊎ ((place : ℕ) × (kind : Kind) × IsRejected read [] place kind)

-- The device of the connection of which these bytes were read, with `left` left behind them: the one that the first whole
-- message names, or 0 where none came.
abbrev pub Looks : List Text → Option (List ℕ) → ℕ → List ℕ → ℕ → Type 0
Looks names left budget read device =
    ((e : Envelope) × BeginsWith read e × Names names e.mos device)
    ⊎ (HasNone left budget read × (device ≡ 0))

-- what is left of the source where no device was found
abbrev pub Unread : {S : Type 0} (left : S → Option (List ℕ)) (faults : S → ℕ) → S → LookFault S → Type 0
Unread left faults was (ReadFault now) = Rose (faults was) (faults now) × ((read : List ℕ) × Takes (left was) (left now) read) × (faults was ≤ faults now)
Unread left faults was (NoMemory now) = ((read : List ℕ) × Takes (left was) (left now) read) × (faults was ≤ faults now)
