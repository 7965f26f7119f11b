use Rattle.std.proofs.Common.{Option, sym, ap, ◌∙◌}
use Rattle.mos_events.specs.declared.message_name.MessageName.{MessageName}
use Rattle.mos_columns.specs.Messages.{record_if}
use Rattle.mos_columns.proofs.MessageLaws.{message_is}
use Rattle.mos_columns.proofs.messages.find_message.Goals as goal

pub returns : goal.returns
returns c o = message_is c.args.name.now o ∙ ap (λ (m : Option MessageName). record_if o m) (sym c.find_named.ensures)
