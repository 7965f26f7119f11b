use Rattle.std.proofs.Common.{[], ◌∷◌, ◌+◌, drop, sym, ap, ◌∙◌}
use Rattle.mos_edits.specs.KeyedLists.{without}
use Rattle.mos_edits.specs.Orders.{Order, shape}
use Rattle.element_action.specs.Levels.{edit_story}
use Rattle.element_action.proofs.ItemLemmas.{edit_twice, edit_nothing}
use Rattle.element_action.proofs.LoopLemmas.{removals_next, removals_end}
use Rattle.element_action.proofs.item_edits.remove_items.Goals as goal

pub loop-id-preserved : goal.loop-id-preserved
loop-id-preserved c =
    let story = c.args.story.now in
    let k = c.loop-id.id-index in
    let ids = c.args.ids.now in
    let ss = c.loop-id.order.stories in
    let id = c.id-item.result in
    record {
      header = ap (λ (o : Order). o.header) c.remove_item.ensures ∙ c.loop-id.invariant.header;
      scripts = ap (λ (o : Order). o.scripts) c.remove_item.ensures ∙ c.loop-id.invariant.scripts;
      rest = ap (λ (o : Order). edit_story story (without shape.item_id (drop (k + 1) ids)) o.stories) c.remove_item.ensures
          ∙ edit_twice story ss (without shape.item_id (id ∷ [])) (without shape.item_id (drop (k + 1) ids))
          ∙ (λ j. edit_story story (λ items. removals_next shape.item_id ids k id items c.loop-id-test.true c.id-item.is j) ss) ∙ c.loop-id.invariant.rest;
    }

pub returns : goal.returns
returns c =
    let story = c.args.story.now in
    let ss = c.loop-id.order.stories in
    let done = (λ j. edit_story story (λ items. removals_end shape.item_id c.args.ids.now c.loop-id.id-index items c.loop-id-test.false j) ss) ∙ edit_nothing story ss in
    let rest = sym done ∙ c.loop-id.invariant.rest in
    λ j. record { header = c.loop-id.invariant.header j; stories = rest j; scripts = c.loop-id.invariant.scripts j }
