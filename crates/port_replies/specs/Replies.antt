-- The mosAck that answers a message.
use Rattle.std.specs.Prelude.{Option, Some}
use Rattle.mos_fields.specs.Characters.{Text}
use Rattle.mos_values.specs.Names.{message_obj, message_rev}
use Rattle.mos_values.specs.declared.message.Message.{Message}
use Rattle.mos_values.specs.declared.message.Message.TheVariants as carried
use Rattle.mos_values.specs.declared.mos_ack.AckStatus.{AckStatus}

-- The mosAck that answers a message: it carries the objID and the objRev of the message, this status, and this text as its
-- description, which is there also where it is empty.
abbrev pub mos_ack : Message → AckStatus → Text → Message
mos_ack m status text = carried.MosAck (record { obj = message_obj m; rev = Some (message_rev m); status = status; description = Some text })
