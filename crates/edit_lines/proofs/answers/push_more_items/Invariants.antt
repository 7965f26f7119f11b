use Rattle.std.proofs.Common.{◌≡◌, ◌++◌, drop}
use Rattle.std.specs.List.{flat_map}
use Rattle.edit_lines.specs.Answers.{item_behind}
use Rattle.edit_lines.proofs.answers.push_more_items.Given as goal

abbrev pub invariant-items : goal.invariant-items
invariant-items l = l.out.items ++ flat_map item_behind (drop l.item-index l.items) ≡ l.initial.out.items ++ flat_map item_behind l.items
