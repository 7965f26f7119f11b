use Rattle.shared_machine.proofs.RuleSteps.{closes}
use Rattle.shared_machine.proofs.table.take_out.Goals as goal

pub returns : goal.returns
returns g c = closes _ _ _ _ c.args.seat.id c.args.seat.me.0 c.args.ticket _ _ c.take-slot.result c.requires.2 c.close_with-closed.ensures.values.2 c.take-slot.ensures.value
