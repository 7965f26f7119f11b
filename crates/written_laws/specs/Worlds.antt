-- Worlds in which all that is on its way has an encoding, which isn't too long.
use Rattle.std.specs.Prelude.{◌≡◌, ℕ, Some}
use Rattle.std.specs.List.{AllByRecursion}
use Rattle.mos_edits.specs.Entries.{Entry}
use Rattle.mos_machines.specs.Messages.{Packet}
use Rattle.mos_machines.specs.Values.{message_of}
use Rattle.mos_values.specs.declared.message.Envelope.{Envelope}
use Rattle.world_laws.specs.World.{Connection, World, WorldEvent, Effect}
use Rattle.world_laws.specs.World.PairingEvent.{Want}
use Rattle.world_laws.specs.World.WorldEvent.{Command, AtDevice}
use Rattle.world_laws.specs.World.Effect.{Wrote}
use Rattle.written_laws.specs.Laws.{IsSoundEdit, HasSoundEdits, IsSoundPacket}
use Rattle.written_laws.specs.Lengths.{IsShort, HasShortNames, KeepsFieldLimits, IsNotTooLong}

-- an event is no command, or that of a sound edit
abbrev pub IsSoundCommand : WorldEvent → Type 0
IsSoundCommand (Command e) = IsSoundEdit e.edit
IsSoundCommand e = Unit {0}

-- an event wrote no message, or one of which this holds
abbrev pub WroteOnly : (Packet → Type 0) → Effect → Type 0
WroteOnly P (Wrote p) = P p
WroteOnly P o = Unit {0}

-- it holds of the unread messages of both directions
abbrev pub CarriesOnly : (Packet → Type 0) → Connection → Type 0
CarriesOnly P x = AllByRecursion P x.to_device × AllByRecursion P x.to_server

-- The edits of the journal are sound, and that of the entry which the keeper may have beyond it; and so are the unread
-- messages of every connection of every device.
pub record IsSoundWorld (w : World) : Type 0 where
  pub journal : HasSoundEdits w.journal
  pub uncertain : (e : Entry) → w.uncertain ≡ Some e → IsSoundEdit e.edit
  pub messages : (d c : ℕ) → CarriesOnly IsSoundPacket ((w.pairings d).connections c)

-- A command is of an edit within the limits of fields, and an order is asked for by a short roID.
abbrev pub KeepsLimits : WorldEvent → Type 0
KeepsLimits (Command e) = KeepsFieldLimits e
KeepsLimits (AtDevice d (Want r)) = IsShort r
KeepsLimits e = Unit {0}

-- in an envelope with short names the message isn't too long
abbrev pub IsShortPacket : Packet → Type 0
IsShortPacket p = (v : Envelope) → v.message ≡ message_of p.message → HasShortNames v → IsNotTooLong v
