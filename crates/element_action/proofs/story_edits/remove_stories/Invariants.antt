use Rattle.std.proofs.Common.{◌≡◌, [], None, drop}
use Rattle.mos_edits.specs.KeyedLists.{without, first_missing}
use Rattle.mos_values.specs.Distinct.{story_ids}
use Rattle.order_table.specs.Rows.{without_rows}
use Rattle.mos_edits.specs.Orders.{shape}
use Rattle.element_action.proofs.story_edits.remove_stories.Given as goal

abbrev pub invariant-loop-id : goal.invariant-loop-id
invariant-loop-id l = record {
  header : l.order.header ≡ l.initial.order.header;
  rows : without_rows (drop l.id-index l.ids) l.order.scripts ≡ without_rows l.ids l.initial.order.scripts;
  there : first_missing (story_ids l.order.stories) [] (drop l.id-index l.ids) ≡ None;
  rest : without shape.story_id (drop l.id-index l.ids) l.order.stories ≡ without shape.story_id l.ids l.initial.order.stories;
}
