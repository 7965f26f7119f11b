-- Which messages are about machines and media objects.
use Rattle.std.specs.Prelude.{Bool, true, false, List, [], if◌then◌else◌}
use Rattle.mos_tables.specs.Events.{Event}
use Rattle.mos_values.specs.MessageViews.{message_events}
use Rattle.mos_values.specs.declared.message.Message.{Message}
use Rattle.mos_values.specs.declared.message.Message.TheVariants as messages

-- a message of Profiles 0 and 1
abbrev pub is_object : Message → Bool
is_object (messages.Heartbeat time) = true
is_object messages.ReqMachInfo = true
is_object (messages.ListMachInfo info) = true
is_object (messages.MosAck ack) = true
is_object (messages.MosObj obj) = true
is_object (messages.MosReqObj obj) = true
is_object (messages.MosReqAll pause) = true
is_object (messages.MosListAll objs) = true
is_object m = false

-- its element; nothing for a message of another kind
abbrev pub object_events : Message → List Event
object_events m = if is_object m then message_events m else []
