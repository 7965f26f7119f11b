use Rattle.std.proofs.Common.{false, refl, sym, ap, ◌∙◌}
use Rattle.std.specs.Option.{option_map}
use Rattle.mos_edits.specs.KeyedLists.ListAction.{Swap}
use Rattle.mos_edits.specs.Orders.{Order}
use Rattle.element_action.specs.Answers.{named}
use Rattle.element_action.proofs.FormLemmas.{item_fault, item_done}
use Rattle.element_action.proofs.item_forms.swap.Goals as goal

pub returns-in-Some : goal.returns-in-Some
returns-in-Some c =
    let found = sym c.find_swap_fault.ensures ∙ ap (λ o. option_map named o) c.in-Some.is in
    (item_fault false c.args.story.now (Swap c.args.first.now c.args.second.now) c.args.order.now.stories (named c.in-Some.fault) c.told.result found c.told.ensures, refl)

pub returns-in-None : goal.returns-in-None
returns-in-None c =
    let found = sym c.find_swap_fault.ensures ∙ ap (λ o. option_map named o) c.in-None.is in (
      item_done c.args.story.now (Swap c.args.first.now c.args.second.now) c.args.order.now.stories c.swap_items.new.order.stories found (ap (λ (o : Order). o.stories) c.swap_items.ensures),
      ap (λ (o : Order). o.header) c.swap_items.ensures,
      ap (λ (o : Order). o.scripts) c.swap_items.ensures,
    )
