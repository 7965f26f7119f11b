use Rattle.std.proofs.Common.{◌≡◌, [], IfOk, sym, ap, subst, ◌∙◌}
use Rattle.mos_values.specs.Distinct.{story_ids}
use Rattle.script_numbers.specs.Numbers.{numbers_on}
use Rattle.script_numbers.proofs.RowLemmas.{look-some, look-none, numbers-none}
use Rattle.script_numbers.proofs.orders.numbers_of.Goals as goal

pub returns-in-Some : goal.returns-in-Some
returns-in-Some c =
    subst (λ rows. IfOk c.numbers_in_order.result (λ v. v.items ≡ numbers_on (story_ids c.args.order.now.stories) rows))
    (sym (look-some [] c.args.ro.now c.args.orders.now c.in-Some.stories.now (sym c.in-Some.ensures))) c.numbers_in_order.ensures

pub returns-in-None : goal.returns-in-None
returns-in-None c =
    let ids = story_ids c.args.order.now.stories in
    c.new.ensures.items ∙ sym (ap (numbers_on ids) (look-none [] c.args.ro.now c.args.orders.now (sym c.in-None.ensures)) ∙ numbers-none ids)
