use Rattle.std.proofs.Common.{◌≡◌, ◌≤◌, ◌-◌, length, take, drop, []}
use Rattle.mos_forms.specs.Tails.{tail_units}
use Rattle.mos_forms.proofs.tail.is_tail_by_units.Given as goal

abbrev pub invariant-loop-end : goal.invariant-loop-end
invariant-loop-end l = (l.end ≤ length l.text) × (tail_units l.name (take l.end l.text) (drop l.end l.text) ≡ tail_units l.name [] l.text)

abbrev pub decreases-loop-end : goal.decreases-loop-end
decreases-loop-end l = length l.text - l.end
