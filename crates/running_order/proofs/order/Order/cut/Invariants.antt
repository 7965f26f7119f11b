use Rattle.std.proofs.Common.{◌≡◌, ◌-◌, ◌≤◌, take}
use Rattle.running_order.proofs.order.Order.cut.Given as goal

abbrev pub invariant-loop-k : goal.invariant-loop-k
invariant-loop-k l = record {
  header : l.self.header ≡ l.initial.self.header;
  scripts : l.self.scripts ≡ l.initial.self.scripts;
  bound : l.k ≤ l.end - l.left;
  rest : l.self.stories ≡ take (l.end - l.k) l.initial.self.stories;
}
