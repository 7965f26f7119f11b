use Rattle.mos_order_reading.proofs.Walk.{accepted_ahead}
use Rattle.mos_order_reading.proofs.acks.ack_of.Goals as goal

pub take_head-head-requires : goal.take_head-head-requires
take_head-head-requires c = accepted_ahead c.requires.0 c.args.cursor c.requires.1
