use Rattle.std.proofs.Common.{codes, refl, ap, [], ◌∷◌, ◌++◌}
use Rattle.mos_values.specs.Views.{body_events, element_stat_events, headers_events, patch_events, ro_ack_events, story_send_events}
use Rattle.mos_writer.proofs.EncodedLemmas.{element_written}
use Rattle.mos_order_msgs.proofs.messages.write_ro_ack.Goals as goal

pub returns : goal.returns
returns c = element_written (codes "roAck") _ _ c.args.out.now.items _ _ _ refl refl c.in_ok-push_start.ensures c.in_ok-write_ack.ensures c.in_ok-push_end.ensures
