use Rattle.std.proofs.Common.{◌∙◌}
use Rattle.port_doors.proofs.Countings.{ended_then, opened_then}
use Rattle.port_doors.proofs.accept.accept_all.Goals as goal

pub returns-in-Err-clause-door : goal.returns-in-Err-clause-door
returns-in-Err-clause-door g c = ended_then _ _ _ _ c.next.invariant.opening c.in-Err.ensures.ended

pub next-preserved : goal.next-preserved
next-preserved g c = let i = c.next.invariant in record {
  ready = c.accept_next.ensures.ready;
  pass = c.accept_next.ensures.pass ∙ i.pass;
  opening = opened_then _ _ _ i.opening c.in-Ok.ensures.started;
}
