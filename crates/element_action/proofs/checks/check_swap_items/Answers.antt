use Rattle.std.proofs.Common.{true, sym, ap, ◌∙◌}
use Rattle.std.specs.Option.{option_map}
use Rattle.mos_edits.specs.KeyedLists.ListAction.{Swap}
use Rattle.element_action.specs.Answers.{named}
use Rattle.element_action.proofs.FormLemmas.{item_fault, item_result}
use Rattle.element_action.proofs.checks.check_swap_items.Goals as goal

pub returns-in-Some : goal.returns-in-Some
returns-in-Some c =
    let found = sym c.find_swap_fault.ensures ∙ ap (λ o. option_map named o) c.in-Some.is in
    item_fault true c.args.story.now (Swap c.args.first.now c.args.second.now) c.args.order.now.stories (named c.in-Some.fault) c.told.result found c.told.ensures

pub returns-in-None : goal.returns-in-None
returns-in-None c =
    let found = sym c.find_swap_fault.ensures ∙ ap (λ o. option_map named o) c.in-None.is in
    item_result c.args.story.now (Swap c.args.first.now c.args.second.now) c.args.order.now.stories found
