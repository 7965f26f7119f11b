use Rattle.mos_edits.specs.Actions.{act}
use Rattle.mos_edits.specs.Orders.{shape, form_of, taken_out}
use Rattle.element_action.specs.Answers.{takes_memory}
use Rattle.element_action.proofs.ScriptLemmas.{answered}
use Rattle.element_action.proofs.actions.act.Goals as goal

pub returns-clause-ok : goal.returns-clause-ok
returns-clause-ok c =
    let o = c.args.order.now in
    let a = form_of c.args.action.now in
    answered (takes_memory a) (taken_out a) (act shape a o.stories) o c.act_by_form.new.order c.act_by_form.result c.act_by_form.ensures
