use Rattle.mos_columns.proofs.NamePlaces.{Compared}
use Rattle.mos_columns.proofs.names.are_eight.Given as goal

abbrev pub invariant-loop-k : goal.invariant-loop-k
invariant-loop-k l = Compared l.name l.units l.from l.k l.differ
