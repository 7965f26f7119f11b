use Rattle.std.proofs.Common.{◌≡◌, ◌≤◌, ◌-◌, length}
use Rattle.port_looking.specs.Steps.{Looking}
use Rattle.port_looking.proofs.looker.look_on.Given as goal

abbrev pub invariant-next : goal.invariant-next
invariant-next g l = record {
  looking : Looking l.budget (g.S.Source.left l.initial.source) (g.S.Source.left l.source) l.front.items l.decoder;
  rises : g.S.Source.faults l.initial.source ≤ g.S.Source.faults l.source;
  room : length l.buffer ≡ length l.initial.buffer;
}

abbrev pub decreases-next : goal.decreases-next
decreases-next g l = l.budget - length l.front.items
