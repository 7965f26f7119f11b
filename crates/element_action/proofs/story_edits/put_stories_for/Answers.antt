use Rattle.std.proofs.Common.{sym, ◌∙◌}
use Rattle.mos_edits.specs.Orders.{shape}
use Rattle.order_table.specs.Rows.{without_rows}
use Rattle.running_order.proofs.Lists.{OnOk-map}
use Rattle.element_action.proofs.PlaceLemmas.{place_stands, place_none, put_for_place}
use Rattle.element_action.proofs.ScriptLemmas.{stands_ids}
use Rattle.element_action.proofs.SourceLemmas.{replace_distinct}
use Rattle.element_action.proofs.story_edits.put_stories_for.Goals as goal

pub replace_story-requires-clause-distinct : goal.replace_story-requires-clause-distinct
replace_story-requires-clause-distinct c =
    let ss = c.args.order.now.stories in
    let there = place_stands shape.story_id c.args.target.now ss c.in-Some.at (sym c.story_place.ensures.place ∙ c.in-Some.is) in
    replace_distinct shape.story_id c.args.target.now ss c.args.stories.now c.in-Some.at c.has_distinct_stories.ensures there c.requires.beside

pub unreachable-requires : goal.unreachable-requires
unreachable-requires c =
    let ss = c.args.order.now.stories in
    let absent = place_none shape.story_id c.args.target.now ss (sym c.story_place.ensures.place ∙ c.in-None.is) in
    let there = c.requires.there in
    absurd (cc)

pub returns-clause-ok : goal.returns-clause-ok
returns-clause-ok c =
    let ss = c.args.order.now.stories in
    let t = c.args.target.now in
    let there = place_stands shape.story_id t ss c.in-Some.at (sym c.story_place.ensures.place ∙ c.in-Some.is) in
    let put = sym (put_for_place shape.story_id t c.args.stories.now ss c.in-Some.at there) in
    let gone = stands_ids t ss c.in-Some.at there in
    OnOk-map c.replace_story.result
    (λ e. e ∙ (λ j. record c.args.order.now { stories = put j; scripts = without_rows (gone j) c.args.order.now.scripts }))
    c.replace_story.ensures.ok
