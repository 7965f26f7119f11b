-- Envelopes as bytes.
use Rattle.std.specs.Prelude.{ℕ, List}
use Rattle.mos_fields.specs.Characters.{bytes_of, units_in, units_of}
use Rattle.mos_lexer.specs.Encodings.{Encodes}
use Rattle.mos_message_reading.specs.Values.{IsNamed}
use Rattle.mos_tables.specs.Canonical.{canonical}
use Rattle.mos_values.specs.MessageViews.{envelope_events}
use Rattle.mos_values.specs.declared.message.Envelope.{Envelope}
use Rattle.value_laws.specs.Ranges.{IsInRange}

-- the code units of the canonical encoding
abbrev pub encoding_units : Envelope → List ℕ
encoding_units e = units_of (canonical (envelope_events e))

-- its bytes
abbrev pub encoding : Envelope → List ℕ
encoding e = bytes_of (encoding_units e)

-- The code units encode the envelope, in whichever encoding. The name of a message that is kept as it was written is that
-- of its element, and the numbers are in their ranges.
pub record EncodesEnvelope (us : List ℕ) (e : Envelope) : Type 0 where
  pub named : IsNamed e.message
  pub in_range : IsInRange e.message
  pub encodes : Encodes (envelope_events e) us

-- the code units of the bytes encode it
abbrev pub IsEncodedBy : List ℕ → Envelope → Type 0
IsEncodedBy bytes e = EncodesEnvelope (units_in bytes) e
