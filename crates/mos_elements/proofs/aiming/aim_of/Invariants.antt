use Rattle.std.proofs.Common.{◌≡◌, length}
use Rattle.mos_grammar.specs.Records.{aim_of}
use Rattle.mos_elements.specs.Parts.{children_of}
use Rattle.mos_elements.proofs.aiming.aim_of.Given as goal

abbrev pub invariant-loop-rest : goal.invariant-loop-rest
invariant-loop-rest l = aim_of (children_of l.rest) ≡ aim_of (children_of l.children)

abbrev pub decreases-loop-rest : goal.decreases-loop-rest
decreases-loop-rest l = length l.rest
