-- What answers an editor's message that carries no edit.
use Rattle.std.specs.Prelude.{List}
use Rattle.mos_edits.specs.Entries.{Entry, order_now, headers}
use Rattle.mos_machines.specs.Messages.{message_ro}
use Rattle.mos_machines.specs.Values.{seen, ack}
use Rattle.mos_values.specs.declared.message.Message.{Message}
use Rattle.mos_values.specs.declared.message.Message.TheVariants as carried
use Rattle.port_replies.specs.Ports.{not_supported_text, order_said}

-- the orders as they are, to an editor
abbrev pub reply_to : List Entry → Message → Message
reply_to journal (carried.Heartbeat time) = carried.Heartbeat time
reply_to journal (carried.RoReq ro) = order_said ro (order_now journal ro)
reply_to journal carried.RoReqAll = carried.RoListAll (headers journal)
reply_to journal message = ack (message_ro (seen message)) not_supported_text
