use Rattle.std.proofs.Common.{◌≡◌, ◌+◌, List, [], ◌∷◌, None, drop, sym, ap, subst, ◌∙◌}
use Rattle.mos_edits.specs.Texts.{Text}
use Rattle.mos_edits.specs.KeyedLists.{without, first_missing}
use Rattle.mos_edits.specs.Orders.{Order, Story, StorySend, shape}
use Rattle.mos_values.specs.Distinct.{story_ids}
use Rattle.order_table.specs.Rows.{without_rows}
use Rattle.element_action.proofs.LoopLemmas.{next, removals_next, removals_end}
use Rattle.element_action.proofs.ScriptLemmas.{missing_first}
use Rattle.element_action.proofs.SourceLemmas.{ids_without}
use Rattle.element_action.proofs.story_edits.remove_stories.Goals as goal

pub remove_story-requires : goal.remove_story-requires
remove_story-requires c =
    let ids = c.args.ids.now in
    let k = c.loop-id.id-index in
    let id = c.id-item.result in
    let there = story_ids c.loop-id.order.stories in
    let left = subst (λ l. first_missing there [] l ≡ None) (next ids k id c.loop-id-test.true c.id-item.is) c.loop-id.invariant.there in
    (missing_first id (drop (k + 1) ids) there left).0

pub loop-id-preserved : goal.loop-id-preserved
loop-id-preserved c =
    let ids = c.args.ids.now in
    let k = c.loop-id.id-index in
    let id = c.id-item.result in
    let ss = c.loop-id.order.stories in
    let left = subst (λ l. first_missing (story_ids ss) [] l ≡ None) (next ids k id c.loop-id-test.true c.id-item.is) c.loop-id.invariant.there in
    let is = ap (λ (o : Order). o.stories) c.remove_story.ensures in
    let names : story_ids c.remove_story.new.order.stories ≡ without (λ x. x) (id ∷ []) (story_ids ss) = ap (λ (l : List Story). story_ids l) is ∙ ids_without shape.story_id (id ∷ []) ss in
    record {
      header = ap (λ (o : Order). o.header) c.remove_story.ensures ∙ c.loop-id.invariant.header;
      rows = ap (λ (o : Order). without_rows (drop (k + 1) ids) o.scripts) c.remove_story.ensures
          ∙ removals_next (λ (row : Text × StorySend). row.0) ids k id c.loop-id.order.scripts c.loop-id-test.true c.id-item.is ∙ c.loop-id.invariant.rows;
      there = subst (λ l. first_missing l [] (drop (k + 1) ids) ≡ None) (sym names) (missing_first id (drop (k + 1) ids) (story_ids ss) left).1;
      rest = ap (λ (o : Order). without shape.story_id (drop (k + 1) ids) o.stories) c.remove_story.ensures
          ∙ removals_next shape.story_id ids k id ss c.loop-id-test.true c.id-item.is ∙ c.loop-id.invariant.rest;
    }

pub returns : goal.returns
returns c =
    let rest = sym (removals_end shape.story_id c.args.ids.now c.loop-id.id-index c.loop-id.order.stories c.loop-id-test.false) ∙ c.loop-id.invariant.rest in
    let rows = sym (removals_end (λ (row : Text × StorySend). row.0) c.args.ids.now c.loop-id.id-index c.loop-id.order.scripts c.loop-id-test.false) ∙ c.loop-id.invariant.rows in
    λ j. record { header = c.loop-id.invariant.header j; stories = rest j; scripts = rows j }
