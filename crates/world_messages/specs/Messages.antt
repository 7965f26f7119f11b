-- The messages of a world, as bytes.
use Rattle.std.specs.Prelude.{◌≡◌, ℕ, ◌≤◌, List, ◌∷◌, length, codes, None}
use Rattle.std.specs.Fmt.{decimal}
use Rattle.mos_fields.specs.Characters.{Text}
use Rattle.mos_lexer.specs.Units.{message_limit}
use Rattle.mos_values.specs.Sound.{IsSound}
use Rattle.mos_values.specs.declared.message.Envelope.{Envelope}
use Rattle.mos_values.specs.declared.message.Message.{Message}
use Rattle.mos_codec.specs.Codec.{IsEncodedBy, encoding, encoding_units}

-- the mosID of device `d`: `m` and its number
abbrev pub mos_name : ℕ → Text
mos_name d = 109 ∷ decimal d

-- the ncsID of the server: `ncs`
abbrev pub ncs_name : Text
ncs_name = codes "ncs"

-- the envelope in which a message goes between the server and device `d`
abbrev pub world_envelope : ℕ → Message → Envelope
world_envelope d m = record { mos = mos_name d; ncs = ncs_name; message_id = None; message = m }

-- at most 128 characters
abbrev pub IsShortName : Text → Type 0
IsShortName x = length x ≤ 128

-- the bytes encode the envelope
abbrev pub Encodes : List ℕ → Envelope → Type 0
Encodes bytes e = IsEncodedBy bytes e

-- its encoding isn't too long for a message
abbrev pub IsShortEnough : Envelope → Type 0
IsShortEnough e = length (encoding_units e) ≤ message_limit

-- the bytes encode the envelope where its message is sound and its encoding isn't too long
abbrev pub EncodesIfSound : List ℕ → Envelope → Type 0
EncodesIfSound bytes e = IsSound e.message → IsShortEnough e → Encodes bytes e

-- The bytes are the canonical encoding of the message in its envelope, and encode it where it is sound and not too long.
pub record IsEncodingOf (bytes : List ℕ) (d : ℕ) (m : Message) : Type 0 where
  pub canonical : bytes ≡ encoding (world_envelope d m)
  pub encodes : EncodesIfSound bytes (world_envelope d m)
  pub named : IsShortName (mos_name d)
