use Rattle.std.proofs.Common.{◌≡◌, take}
use Rattle.object_table.proofs.table.ObjectTable.list_all.Given as goal

abbrev pub invariant-loop-object : goal.invariant-loop-object
invariant-loop-object l = l.list ≡ take l.object-index l.object-items
