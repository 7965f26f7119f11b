-- Which messages are about running orders.
use Rattle.std.specs.Prelude.{Bool, true, false, List, [], if◌then◌else◌}
use Rattle.mos_tables.specs.Events.{Event}
use Rattle.mos_values.specs.MessageViews.{message_events}
use Rattle.mos_values.specs.declared.message.Message.{Message}
use Rattle.mos_values.specs.declared.message.Message.TheVariants as messages

-- a message of Profiles 2 and 4
abbrev pub is_order : Message → Bool
is_order (messages.RoCreate body) = true
is_order (messages.RoReplace body) = true
is_order (messages.RoList body) = true
is_order (messages.RoMetadataReplace patch) = true
is_order (messages.RoDelete ro) = true
is_order (messages.RoReq ro) = true
is_order messages.RoReqAll = true
is_order (messages.RoListAll headers) = true
is_order (messages.RoElementStat stat) = true
is_order (messages.RoElementAction ro action) = true
is_order (messages.RoReadyToAir ro air) = true
is_order (messages.RoAck ack) = true
is_order (messages.RoStorySend story) = true
is_order m = false

-- its element; nothing for a message of another kind
abbrev pub order_events : Message → List Event
order_events m = if is_order m then message_events m else []
