use Rattle.mos_writer.proofs.EncodedLemmas.{both_parts}
use Rattle.mos_order_msgs.proofs.messages.write_ready_inside.Goals as goal

pub returns : goal.returns
returns c = both_parts _ _ c.args.out.now.items _ _ c.in_ok-write_id.ensures c.in_ok-write_air.ensures
