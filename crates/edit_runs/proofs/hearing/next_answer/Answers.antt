use Rattle.std.proofs.Common.{arith}
use Rattle.edit_runs.proofs.hearing.next_answer.Goals as goal

pub loop-preserved : goal.loop-preserved
loop-preserved g c = let h = c.loop.invariant.hearing in record {
  reads = λ k f given r. c.in-More.ensures.next k f given (c.loop.invariant.reads k f given r);
  hearing = (h.0, h.1, h.2, c.in-More.ensures.next h.0 h.1 h.2 h.3);
  rises = let a = c.loop.invariant.rises in let b = c.advance.ensures.rises in omega arith;
}

pub returns-in-Over-clause-heard : goal.returns-in-Over-clause-heard
returns-in-Over-clause-heard g c l f given r = c.in-Over.ensures.next l f given (c.loop.invariant.reads l f given r)
