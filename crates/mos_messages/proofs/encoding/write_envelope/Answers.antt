use Rattle.std.proofs.Common.{codes, refl}
use Rattle.mos_values.specs.MessageViews.{envelope_events}
use Rattle.mos_writer.proofs.EncodedLemmas.{element_written, both_parts, element_of_parts}
use Rattle.mos_messages.proofs.encoding.write_envelope.Goals as goal

pub returns : goal.returns
unfolding envelope_events
returns c = element_of_parts (codes "mos") _ _ c.args.out.now.items _ _ _ _ refl c.in_ok-push_start.ensures c.in_ok-write_names.ensures c.in_ok-write_message.ensures c.in_ok-push_end.ensures
