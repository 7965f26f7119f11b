use Rattle.std.proofs.Common.{List, [], ap, ◌∙◌}
use Rattle.mos_edits.specs.Orders.{Order, Story, shape}
use Rattle.mos_values.specs.Distinct.{story_ids}
use Rattle.element_action.specs.Targets.{moved_all}
use Rattle.element_action.proofs.MoveLemmas.{moves_are}
use Rattle.element_action.proofs.SourceLemmas.{missing-none, place-apart}
use Rattle.element_action.proofs.story_moves.move_all.Goals as goal

pub returns-then-are_few : goal.returns-then-are_few
returns-then-are_few c =
    let ss = c.args.order.now.stories in
    let ids = c.args.sources.now in
    let t = c.args.target.now in
    c.move_stories.ensures
    ∙ ap (λ (l : List Story). record c.args.order.now { stories = l }) (moves_are shape.story_id t ids ss (missing-none (story_ids ss) [] ids c.requires.there).0 (place-apart (story_ids ss) ids t c.requires.apart))

pub returns-in-Err : goal.returns-in-Err
returns-in-Err c =
    let ss = c.args.order.now.stories in
    let ids = c.args.sources.now in
    let t = c.args.target.now in
    c.move_stories-in-Err.ensures ∙ ap (λ (o : Order). record o { stories = moved_all shape.story_id t ids o.stories }) c.in-Err.ensures.err
    ∙ ap (λ (l : List Story). record c.args.order.now { stories = l }) (moves_are shape.story_id t ids ss (missing-none (story_ids ss) [] ids c.requires.there).0 (place-apart (story_ids ss) ids t c.requires.apart))
