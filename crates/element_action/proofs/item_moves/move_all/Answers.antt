use Rattle.std.proofs.Common.{List, [], ap, ◌∙◌}
use Rattle.mos_edits.specs.Orders.{Order, Story, shape}
use Rattle.mos_values.specs.Distinct.{item_ids}
use Rattle.element_action.specs.Levels.{edit_story}
use Rattle.element_action.specs.Targets.{moved_all}
use Rattle.element_action.proofs.ItemLemmas.{items_in}
use Rattle.element_action.proofs.MoveLemmas.{moves_are}
use Rattle.element_action.proofs.SourceLemmas.{missing-none, place-apart}
use Rattle.element_action.proofs.item_moves.move_all.Goals as goal

pub returns-then-are_few : goal.returns-then-are_few
returns-then-are_few c =
    let ss = c.args.order.now.stories in
    let story = c.args.story.now in
    let there = item_ids (items_in story ss) in
    let ids = c.args.sources.now in
    let t = c.args.target.now in
    let d = (missing-none there [] ids c.requires.there).0 in
    let a = place-apart there ids t c.requires.apart in
    c.move_items.ensures
    ∙ ap (λ (l : List Story). record c.args.order.now { stories = l }) (λ j. edit_story story (λ items. moves_are shape.item_id t ids items d a j) ss)

pub returns-in-Err : goal.returns-in-Err
returns-in-Err c =
    let ss = c.args.order.now.stories in
    let story = c.args.story.now in
    let there = item_ids (items_in story ss) in
    let ids = c.args.sources.now in
    let t = c.args.target.now in
    let d = (missing-none there [] ids c.requires.there).0 in
    let a = place-apart there ids t c.requires.apart in
    c.move_items-in-Err.ensures ∙ ap (λ (o : Order). record o { stories = edit_story story (moved_all shape.item_id t ids) o.stories }) c.in-Err.ensures.err
    ∙ ap (λ (l : List Story). record c.args.order.now { stories = l }) (λ j. edit_story story (λ items. moves_are shape.item_id t ids items d a j) ss)
