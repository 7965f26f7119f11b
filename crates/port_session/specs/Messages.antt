-- The messages of a connection: whose they are, how one for another end is answered, and what this end's own are.
use Rattle.std.specs.Prelude.{◌≡◌, ℕ, Bool, false, codes, Some, bytes_eq}
use Rattle.std.specs.Fmt.{decimal}
use Rattle.mos_fields.specs.Characters.{Text, units_of}
use Rattle.mos_values.specs.Names.{ack, message_obj, message_rev, message_ro}
use Rattle.mos_values.specs.declared.message.Envelope.{Envelope}
use Rattle.mos_values.specs.declared.message.Message.{Message}
use Rattle.mos_values.specs.declared.message.Message.TheVariants as carried
use Rattle.mos_values.specs.declared.mos_ack.AckStatus.TheVariants.{Nack}
use Rattle.port_events.specs.declared.event.Side.{Side}
use Rattle.port_events.specs.declared.event.Side.TheVariants.{Upper, Lower, Editor}
use Rattle.port_session.specs.declared.port.Port.{Port}

-- The message is for this end: it has the port's names, on the editors' port its ncsID.
abbrev pub IsForSide : Side → Port → Envelope → Type 0
IsForSide Upper p e = (e.mos ≡ p.mos) × (e.ncs ≡ p.ncs)
IsForSide Lower p e = (e.mos ≡ p.mos) × (e.ncs ≡ p.ncs)
IsForSide Editor p e = e.ncs ≡ p.ncs

abbrev pub IsFor : Port → Envelope → Type 0
IsFor p e = IsForSide p.side p e

-- a message in the envelope of the one that it answers
abbrev pub reply : Envelope → Message → Envelope
reply e m = record { mos = e.mos; ncs = e.ncs; message_id = e.message_id; message = m }

-- ---- a message for another end

abbrev pub not_for_me : Text
not_for_me = codes "NOT FOR ME"

-- `NOT FOR ME`: by a roAck with its roID, on the lower port by a mosAck with its objID
abbrev pub refusal : Side → Message → Message
refusal Upper m = ack (message_ro m) not_for_me
refusal Lower m = carried.MosAck (record { obj = message_obj m; rev = Some (message_rev m); status = Nack; description = Some not_for_me })
refusal Editor m = ack (message_ro m) not_for_me

-- ---- this end's own messages

-- the message of this number on this connection
abbrev pub own : Port → ℕ → Message → Envelope
own p i m = record { mos = p.mos; ncs = p.ncs; message_id = Some (decimal i); message = m }

-- a roAck with the text `NOT NOW`
abbrev pub is_not_now : Message → Bool
is_not_now (carried.RoAck answer) = bytes_eq (units_of answer.status) (codes "NOT NOW")
is_not_now m = false
