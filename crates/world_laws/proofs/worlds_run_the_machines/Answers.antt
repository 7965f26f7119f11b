use Rattle.world_laws.proofs.MachineCalls.{world-server, world-device, world-command, world-restart}
use Rattle.world_laws.proofs.worlds_run_the_machines.Goals as goal

pub returns : goal.returns
returns c = record { server = world-server; device = world-device; command = world-command; restart = world-restart }
