use Rattle.mos_order_reading.proofs.Taken.{head_taken}
use Rattle.mos_order_reading.proofs.acks.take_head.Goals as goal

pub slug-requires : goal.slug-requires
slug-requires c = (head_taken _ _ _ _ _ c.requires c.take_leaf-ro.ensures.taken c.take_leaf-ro.ensures.left c.take_leaf-status.ensures.taken c.take_leaf-status.ensures.left).status
