use Rattle.mos_values.specs.MessageViews.{message_events}
use Rattle.mos_writer.proofs.EncodedLemmas.{three_written}
use Rattle.mos_messages.proofs.Parts.{message_is}
use Rattle.mos_messages.proofs.encoding.write_message.Goals as goal

pub returns : goal.returns
returns c = three_written _ _ _ (message_events c.args.m.now) c.args.out.now.items _ _ _ (message_is c.args.m.now) c.in_ok-append_order.ensures.written c.in_ok-append_object.ensures.written c.in_ok-write_other.ensures
