use Rattle.std.proofs.Common.{◌-◌, ◌≤◌, length, take, drop, sym, ap, subst, ◌∙◌}
use Rattle.mos_edits.specs.Orders.{Order, shape}
use Rattle.mos_values.specs.Distinct.{story_ids}
use Rattle.order_table.specs.Rows.{without_rows}
use Rattle.element_action.specs.Targets.{gathered}
use Rattle.element_action.proofs.GatherLemmas.{fewer, removed_together}
use Rattle.element_action.proofs.ScriptLemmas.{removed_ids}
use Rattle.element_action.proofs.story_moves.remove_at_once.Goals as goal

pub overflow_sub-left : goal.overflow_sub-left
overflow_sub-left c =
    let ss = c.args.order.now.stories in
    let long = c.len.ensures ∙ ap (λ (o : Order). length o.stories) c.in_ok-gather_stories.ensures.ok in
    subst (λ n. length c.args.sources.now ≤ n) (sym long) (fewer shape.story_id c.args.sources.now ss c.len-end.result c.requires c.len-end.ensures)

pub returns-clause-ok : goal.returns-clause-ok
returns-clause-ok c =
    let ss = c.args.order.now.stories in
    let sources = c.args.sources.now in
    let n = c.len-end.result in
    let all = gathered shape.story_id n sources ss in
    let is = ap (λ (o : Order). o.stories) c.in_ok-gather_stories.ensures.ok in
    let same = ap (λ (o : Order). o.scripts) c.in_ok-gather_stories.ensures.ok in
    let long = c.len.ensures ∙ ap length is in
    let head = ap (λ (o : Order). o.header) c.truncate.ensures ∙ ap (λ (o : Order). o.header) c.in_ok-gather_stories.ensures.ok in
    let left = ap (λ (o : Order). o.stories) c.truncate.ensures ∙ (λ j. take (long j - length sources) (is j)) ∙ removed_together shape.story_id sources ss n c.requires c.len-end.ensures in
    let rows = ap (λ (o : Order). o.scripts) c.truncate.ensures ∙ (λ j. without_rows (story_ids (drop (long j - length sources) (is j))) (same j))
    ∙ ap (λ l. without_rows l c.args.order.now.scripts) (removed_ids sources ss n c.requires c.len-end.ensures) in
    λ j. record { header = head j; stories = left j; scripts = rows j }
