use Rattle.std.proofs.Common.{List, sym, ap, ◌∙◌}
use Rattle.mos_edits.specs.Orders.{Story}
use Rattle.element_action.proofs.ItemMoveLemmas.{story_within, item_within, brought_some, brought_none}
use Rattle.element_action.proofs.item_moves.bring.Goals as goal

pub swap_items-requires-clause-story : goal.swap_items-requires-clause-story
swap_items-requires-clause-story c = story_within c.args.story.now c.args.order.now.stories c.args.i c.requires.here

pub swap_items-requires-clause-b : goal.swap_items-requires-clause-b
swap_items-requires-clause-b c =
    item_within c.args.story.now c.args.order.now.stories c.args.i c.requires.here c.args.id.now c.in-Some.from (sym c.item_place.ensures.place ∙ c.in-Some.is)

pub returns-in-Some : goal.returns-in-Some
returns-in-Some c =
    c.swap_items.ensures
    ∙ ap (λ (l : List Story). record c.args.order.now { stories = l })
    (brought_some c.args.story.now c.args.order.now.stories c.args.i c.requires.here c.args.id.now c.args.at c.in-Some.from (sym c.item_place.ensures.place ∙ c.in-Some.is))

pub returns-in-None : goal.returns-in-None
returns-in-None c =
    ap (λ (l : List Story). record c.args.order.now { stories = l })
    (brought_none c.args.story.now c.args.order.now.stories c.args.i c.requires.here c.args.id.now c.args.at (sym c.item_place.ensures.place ∙ c.in-None.is))
