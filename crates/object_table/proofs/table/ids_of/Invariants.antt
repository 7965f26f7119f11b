use Rattle.std.proofs.Common.{◌≡◌, take}
use Rattle.object_table.specs.Objects.{object_ids}
use Rattle.object_table.proofs.table.ids_of.Given as goal

abbrev pub invariant-loop-object : goal.invariant-loop-object
invariant-loop-object l = l.table ≡ object_ids (take l.object-index l.object-items)
