use Rattle.mos_forms.proofs.TailLemmas.{NoneFound}
use Rattle.mos_forms.proofs.tail.has_no_end.Given as goal

abbrev pub invariant-loop-k : goal.invariant-loop-k
invariant-loop-k l = NoneFound l.text l.back l.from l.k l.found
