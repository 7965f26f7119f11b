use Rattle.std.proofs.Common.{◌≡◌, take}
use Rattle.mos_values.proofs.sequence.Sequence.try_clone.Given as goal

abbrev pub invariant-loop-t : goal.invariant-loop-t
invariant-loop-t g l = l.items.items ≡ take l.t-index l.t-items
