use Rattle.std.proofs.Common.{◌≡◌, List, length, take}
use Rattle.std.specs.List.Sorted.{IsPermutation}
use Rattle.mos_edits.specs.Orders.{Story}
use Rattle.mos_values.specs.Distinct.{story_ids}
use Rattle.element_action.proofs.story_moves.arrange.Given as goal

abbrev pub invariant-loop-k : goal.invariant-loop-k
invariant-loop-k l = record {
  header : l.order.header ≡ l.initial.order.header;
  scripts : l.order.scripts ≡ l.initial.order.scripts;
  long : length l.order.stories ≡ length l.initial.order.stories;
  rest : (ys : List Story) → IsPermutation l.initial.order.stories ys → story_ids ys ≡ l.ids → IsPermutation l.order.stories ys × (take l.k l.order.stories ≡ take l.k ys);
}
