use Rattle.std.proofs.Common.{◌≡◌, drop}
use Rattle.mos_edits.specs.KeyedLists.{without}
use Rattle.mos_edits.specs.Orders.{shape}
use Rattle.element_action.specs.Levels.{edit_story}
use Rattle.element_action.proofs.item_edits.remove_items.Given as goal

abbrev pub invariant-loop-id : goal.invariant-loop-id
invariant-loop-id l = record {
  header : l.order.header ≡ l.initial.order.header;
  scripts : l.order.scripts ≡ l.initial.order.scripts;
  rest : edit_story l.story (without shape.item_id (drop l.id-index l.ids)) l.order.stories ≡ edit_story l.story (without shape.item_id l.ids) l.initial.order.stories;
}
