use Rattle.std.proofs.Common.{◌≡◌, [], IfOk, subst}
use Rattle.mos_edits.specs.Rows.{look}
use Rattle.mos_values.specs.Distinct.{story_ids}
use Rattle.script_numbers.specs.Numbers.{numbers_on}
use Rattle.script_numbers.proofs.JournalNumbers.{in-force}
use Rattle.script_numbers.proofs.numbers.ScriptNumbers.in_order.Goals as goal

pub returns : goal.returns
returns c = λ journal n h.
    subst (λ ks. IfOk c.numbers_of.result (λ v. v.items ≡ ks)) (in-force journal c.args.self.now c.args.ro.now c.args.order.now n h)
    (subst (λ rows. IfOk c.numbers_of.result (λ v. v.items ≡ numbers_on (story_ids c.args.order.now.stories) (look [] rows c.args.ro.now))) c.self.view_is c.numbers_of.ensures)
