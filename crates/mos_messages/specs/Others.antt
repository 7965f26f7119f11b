-- Messages of names that no table has.
use Rattle.std.specs.Prelude.{List, []}
use Rattle.mos_tables.specs.Events.{Event}
use Rattle.mos_values.specs.MessageViews.{message_events}
use Rattle.mos_values.specs.declared.message.Message.{Message}
use Rattle.mos_values.specs.declared.message.Message.TheVariants as messages

-- the element of such a message, as it was written; nothing for another message
abbrev pub other_events : Message → List Event
other_events (messages.Other name other) = message_events (messages.Other name other)
other_events m = []
