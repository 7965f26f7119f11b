use Rattle.std.proofs.Common.{◌≡◌, ◌≤◌, ◌*◌}
use Rattle.port_links.specs.Links.{More}
use Rattle.port_doors.proofs.drivers.start_devices.Given as goal

abbrev pub invariant-loop-i : goal.invariant-loop-i
invariant-loop-i g l = record {
  ready : g.W.Spawner.ready l.drivers;
  pass : l.pass ≡ l.initial.pass;
  taken : More (g.W.Spawner.took l.initial.drivers) (g.W.Spawner.took l.drivers) (2 * l.i);
  rises : g.W.Spawner.faults l.initial.drivers ≤ g.W.Spawner.faults l.drivers;
}
