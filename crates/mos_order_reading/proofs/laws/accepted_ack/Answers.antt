use Rattle.mos_order_reading.proofs.Walk.{accepted_ahead}
use Rattle.mos_order_reading.proofs.laws.accepted_ack.Goals as goal

pub returns : goal.returns
returns c = accepted_ahead
