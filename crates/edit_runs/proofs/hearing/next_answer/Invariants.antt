use Rattle.std.proofs.Common.{ℕ, ◌≤◌, List, Option}
use Rattle.mos_values.specs.declared.message.Envelope.{Envelope}
use Rattle.port_session.specs.Reading.{InletReads}
use Rattle.edit_runs.specs.Runs.{IsHearing}
use Rattle.edit_runs.proofs.hearing.next_answer.Given as goal

abbrev pub invariant-loop : goal.invariant-loop
invariant-loop g l = record {
  reads : (k : Option (List ℕ)) (f : ℕ) (given : List Envelope) → InletReads k f (g.C.Source.left l.initial.from) (g.C.Source.faults l.initial.from) l.initial.inlet given → InletReads k f (g.C.Source.left l.from) (g.C.Source.faults l.from) l.inlet given;
  hearing : IsHearing (g.C.Source.left l.from) (g.C.Source.faults l.from) l.inlet;
  rises : g.C.Source.faults l.initial.from ≤ g.C.Source.faults l.from;
}
