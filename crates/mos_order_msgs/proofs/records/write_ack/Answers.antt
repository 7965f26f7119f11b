use Rattle.std.proofs.Common.{◌≡◌, ◌++◌, refl, sym, ap, ◌∙◌}
use Rattle.mos_values.specs.Views.{ro_ack_events, groups_events}
use Rattle.mos_writer.proofs.EncodedLemmas.{three_written, joined_events}
use Rattle.mos_order_msgs.proofs.records.write_ack.Goals as goal

pub returns : goal.returns
unfolding ro_ack_events
returns c = three_written _ _ _ (ro_ack_events c.args.ack.now) c.args.out.now.items _ _ _ (joined_events refl (sym (ap groups_events c.as_slice.ensures))) c.in_ok-write_opt_id.ensures c.in_ok-write_slug.ensures c.in_ok-write_groups.ensures
