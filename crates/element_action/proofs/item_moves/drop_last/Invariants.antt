use Rattle.std.proofs.Common.{◌≡◌, ◌-◌, ◌≤◌, take}
use Rattle.running_order.specs.Places.{edit_items}
use Rattle.element_action.proofs.item_moves.drop_last.Given as goal

abbrev pub invariant-loop-k : goal.invariant-loop-k
invariant-loop-k l = record {
  header : l.order.header ≡ l.initial.order.header;
  scripts : l.order.scripts ≡ l.initial.order.scripts;
  bound : l.k ≤ l.count;
  rest : l.order.stories ≡ edit_items l.initial.order.stories l.i (λ old. take (l.end - l.k) old);
}
