-- What messages name: the order, and the object, as fields of their own.
use Rattle.std.specs.Prelude.{ℕ, [], Option, None, Some}
use Rattle.mos_fields.specs.Characters.{Text}
use Rattle.mos_values.specs.declared.message.Message.{Message}
use Rattle.mos_values.specs.declared.message.Message.TheVariants as messages

-- the text, or an empty one
abbrev pub text_or_none : Option Text → Text
text_or_none None = []
text_or_none (Some text) = text

-- the number, or 0
abbrev pub number_or_none : Option ℕ → ℕ
number_or_none None = 0
number_or_none (Some n) = n

-- the roID that a message has as a field of its own, or an empty one
abbrev pub message_ro : Message → Text
message_ro (messages.RoCreate body) = body.header.ro
message_ro (messages.RoReplace body) = body.header.ro
message_ro (messages.RoList body) = body.header.ro
message_ro (messages.RoMetadataReplace patch) = patch.ro
message_ro (messages.RoDelete ro) = ro
message_ro (messages.RoReq ro) = ro
message_ro (messages.RoElementStat status) = status.ro
message_ro (messages.RoElementAction ro action) = ro
message_ro (messages.RoReadyToAir ro air) = ro
message_ro (messages.RoAck answer) = answer.ro
message_ro (messages.RoStorySend story) = story.ro
message_ro m = []

-- the objID that a message has as a field of its own, or an empty one
abbrev pub message_obj : Message → Text
message_obj (messages.MosObj obj) = obj.id
message_obj (messages.MosReqObj id) = id
message_obj (messages.MosAck answer) = answer.obj
message_obj (messages.RoElementStat status) = text_or_none status.obj
message_obj m = []

-- the objRev that a message has as a field of its own, or 0
abbrev pub message_rev : Message → ℕ
message_rev (messages.MosObj obj) = number_or_none obj.rev
message_rev (messages.MosAck answer) = number_or_none answer.rev
message_rev m = 0

-- a roAck of this order and status
abbrev pub ack : Text → Text → Message
ack ro status = messages.RoAck (record { ro = ro; status = status; groups = [] })
