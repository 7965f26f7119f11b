use Rattle.std.proofs.Common.{List, sym, ap, ◌∙◌}
use Rattle.mos_edits.specs.KeyedLists.{without}
use Rattle.mos_edits.specs.Orders.{Story, shape}
use Rattle.running_order.proofs.Lists.{OnOk-map}
use Rattle.element_action.proofs.ItemSteps.{no_story}
use Rattle.element_action.proofs.ItemMoveLemmas.{there_at, removed_here}
use Rattle.element_action.proofs.item_moves.remove_at_once.Goals as goal

pub remove_at-requires-clause-here : goal.remove_at-requires-clause-here
remove_at-requires-clause-here c = sym c.story_place.ensures.place ∙ c.in-Some.is

pub remove_at-requires-clause-there : goal.remove_at-requires-clause-there
remove_at-requires-clause-there c =
    there_at c.args.story.now c.args.order.now.stories c.in-Some.i (sym c.story_place.ensures.place ∙ c.in-Some.is) c.args.sources.now c.requires

pub returns-in-Some-clause-ok : goal.returns-in-Some-clause-ok
returns-in-Some-clause-ok c =
    let here = sym c.story_place.ensures.place ∙ c.in-Some.is in
    OnOk-map c.remove_at.result
    (λ e. e ∙ ap (λ (l : List Story). record c.args.order.now { stories = l }) (removed_here c.args.story.now c.args.order.now.stories c.in-Some.i here c.args.sources.now))
    c.remove_at.ensures.ok

pub returns-in-None-clause-ok : goal.returns-in-None-clause-ok
returns-in-None-clause-ok c =
    ap (λ (l : List Story). record c.args.order.now { stories = l })
    (sym (no_story c.args.story.now c.args.order.now.stories (without shape.item_id c.args.sources.now) (sym c.story_place.ensures.place ∙ c.in-None.is)))
