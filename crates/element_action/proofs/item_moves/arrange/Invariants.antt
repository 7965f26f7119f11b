use Rattle.std.proofs.Common.{◌≡◌, List, length, take}
use Rattle.std.specs.List.Sorted.{IsPermutation}
use Rattle.mos_edits.specs.Orders.{Item}
use Rattle.mos_values.specs.Distinct.{item_ids}
use Rattle.running_order.specs.Places.{items_at, edit_items}
use Rattle.element_action.proofs.item_moves.arrange.Given as goal

abbrev pub invariant-loop-k : goal.invariant-loop-k
invariant-loop-k l = record {
  header : l.order.header ≡ l.initial.order.header;
  scripts : l.order.scripts ≡ l.initial.order.scripts;
  is : l.order.stories ≡ edit_items l.initial.order.stories l.i (λ old. items_at l.order.stories l.i);
  long : length (items_at l.order.stories l.i) ≡ length (items_at l.initial.order.stories l.i);
  rest : (ys : List Item) → IsPermutation (items_at l.initial.order.stories l.i) ys → item_ids ys ≡ l.ids
      → IsPermutation (items_at l.order.stories l.i) ys × (take l.k (items_at l.order.stories l.i) ≡ take l.k ys);
}
