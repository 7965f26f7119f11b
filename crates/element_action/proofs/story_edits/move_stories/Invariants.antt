use Rattle.std.proofs.Common.{◌≡◌, drop}
use Rattle.mos_edits.specs.Orders.{shape}
use Rattle.element_action.specs.Targets.{moved_all}
use Rattle.element_action.proofs.story_edits.move_stories.Given as goal

abbrev pub invariant-loop-id : goal.invariant-loop-id
invariant-loop-id l = record {
  header : l.order.header ≡ l.initial.order.header;
  scripts : l.order.scripts ≡ l.initial.order.scripts;
  rest : moved_all shape.story_id l.target (drop l.id-index l.ids) l.order.stories ≡ moved_all shape.story_id l.target l.ids l.initial.order.stories;
}
