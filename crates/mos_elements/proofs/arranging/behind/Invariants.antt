use Rattle.std.proofs.Common.{◌≡◌, length}
use Rattle.mos_elements.specs.Parts.{behind, children_of}
use Rattle.mos_elements.proofs.arranging.behind.Given as goal

abbrev pub invariant-loop-rest : goal.invariant-loop-rest
invariant-loop-rest l = behind l.field (children_of l.rest) ≡ behind l.field (children_of l.children)

abbrev pub decreases-loop-rest : goal.decreases-loop-rest
decreases-loop-rest l = length l.rest
