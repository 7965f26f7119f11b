use Rattle.element_action.proofs.CheckLemmas.{refused_there}
use Rattle.element_action.proofs.copying.check_act.Goals as goal

pub returns : goal.returns
returns c = refused_there c.args.ro.now c.args.ro.now c.args.order.now c.args.action.now c.check.result c.check.ensures
