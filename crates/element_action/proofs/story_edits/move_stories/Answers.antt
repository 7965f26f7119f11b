use Rattle.std.proofs.Common.{◌+◌, drop, sym, ap, ◌∙◌}
use Rattle.mos_edits.specs.Orders.{Order, shape}
use Rattle.element_action.specs.Targets.{moved_all}
use Rattle.element_action.proofs.LoopLemmas.{moves_next, moves_end}
use Rattle.element_action.proofs.story_edits.move_stories.Goals as goal

pub loop-id-preserved : goal.loop-id-preserved
loop-id-preserved c =
    record {
      header = ap (λ (o : Order). o.header) c.move_story.ensures ∙ c.loop-id.invariant.header;
      scripts = ap (λ (o : Order). o.scripts) c.move_story.ensures ∙ c.loop-id.invariant.scripts;
      rest = ap (λ (o : Order). moved_all shape.story_id c.args.target.now (drop (c.loop-id.id-index + 1) c.args.ids.now) o.stories) c.move_story.ensures
          ∙ moves_next shape.story_id c.args.target.now c.args.ids.now c.loop-id.id-index c.id-item.result c.loop-id.order.stories c.loop-id-test.true c.id-item.is ∙ c.loop-id.invariant.rest;
    }

pub returns : goal.returns
returns c =
    let rest = sym (moves_end shape.story_id c.args.target.now c.args.ids.now c.loop-id.id-index c.loop-id.order.stories c.loop-id-test.false) ∙ c.loop-id.invariant.rest in
    λ j. record { header = c.loop-id.invariant.header j; stories = rest j; scripts = c.loop-id.invariant.scripts j }
