use Rattle.std.proofs.Common.{◌≡◌, length}
use Rattle.lower_port.specs.Taking.{take_all}
use Rattle.lower_port.proofs.taking.take_each.Given as goal

abbrev pub invariant-objects : goal.invariant-objects
invariant-objects l = take_all l.table l.rest ≡ take_all l.initial.table l.objects

abbrev pub decreases-objects : goal.decreases-objects
decreases-objects l = length l.rest
