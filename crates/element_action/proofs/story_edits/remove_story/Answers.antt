use Rattle.std.proofs.Common.{sym, ◌∙◌}
use Rattle.mos_edits.specs.Orders.{shape}
use Rattle.mos_edits.proofs.Distinct.{is-distinct}
use Rattle.mos_values.specs.Distinct.{story_ids}
use Rattle.order_table.specs.Rows.{without_rows}
use Rattle.element_action.proofs.PlaceLemmas.{place_stands, place_none, remove_place}
use Rattle.element_action.proofs.ScriptLemmas.{stands_ids}
use Rattle.element_action.proofs.story_edits.remove_story.Goals as goal

pub unreachable-requires : goal.unreachable-requires
unreachable-requires c =
    let ss = c.args.order.now.stories in
    let absent = place_none shape.story_id c.args.id.now ss (sym c.story_place.ensures.place ∙ c.in-None.is) in
    let there = c.requires in
    absurd (cc)

pub returns : goal.returns
returns c =
    let ss = c.args.order.now.stories in
    let id = c.args.id.now in
    let there = place_stands shape.story_id id ss c.in-Some.at (sym c.story_place.ensures.place ∙ c.in-Some.is) in
    let left = remove_place shape.story_id id ss c.in-Some.at (is-distinct (story_ids ss) c.has_distinct_stories.ensures) there in
    let gone = stands_ids id ss c.in-Some.at there in
    c.remove_story.ensures ∙ (λ j. record c.args.order.now { stories = left j; scripts = without_rows (gone j) c.args.order.now.scripts })
