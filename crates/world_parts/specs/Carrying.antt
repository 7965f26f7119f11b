-- Packets on their way, as bytes.
use Rattle.std.specs.Prelude.{◌≡◌, ℕ}
use Rattle.mos_values.specs.declared.message.Envelope.{Envelope}
use Rattle.world_messages.specs.Messages.{Encodes, IsEncodingOf}
use Rattle.world_parts.specs.declared.packet.Packet.{Packet}
use Rattle.world_parts.specs.declared.packet.EncodedPacket.{EncodedPacket}

-- the packet as it was written between the server and device `d`: the bytes are those of the message, and the tag stays
pub record IsWrittenAs (d : ℕ) (p : Packet) (u : EncodedPacket) : Type 0 where
  pub bytes : IsEncodingOf u.bytes.items d p.message
  pub tag : u.tag ≡ p.tag

-- the bytes encode an envelope
abbrev pub IsReadable : EncodedPacket → Type 0
IsReadable u = (e : Envelope) × Encodes u.bytes.items e

-- the packet as it is read: the message is that of the envelope which the bytes encode, and the tag stays
pub record IsReadAs (u : EncodedPacket) (p : Packet) : Type 0 where
  pub message : (e : Envelope) → Encodes u.bytes.items e → p.message ≡ e.message
  pub tag : p.tag ≡ u.tag
