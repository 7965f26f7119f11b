use Rattle.std.proofs.Common.{◌≡◌}
use Rattle.port_doors.specs.Doors.{seen_of, Opening}
use Rattle.port_doors.proofs.accept.accept_all.Given as goal

abbrev pub invariant-next : goal.invariant-next
invariant-next g l = record {
  ready : g.W.Spawner.ready l.door.spawner;
  pass : l.pass ≡ l.initial.pass;
  opening : Opening (seen_of g.L.Listener.coming g.L.Listener.faults g.W.Spawner.took g.W.Spawner.faults l.initial.door)
      (seen_of g.L.Listener.coming g.L.Listener.faults g.W.Spawner.took g.W.Spawner.faults l.door);
}
