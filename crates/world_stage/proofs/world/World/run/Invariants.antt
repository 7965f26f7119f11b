use Rattle.std.proofs.Common.{drop}
use Rattle.world_scripts.specs.WorldEvents.{events_of}
use Rattle.world_stage.specs.Worlds.{HaveSoundEdits}
use Rattle.world_stage.proofs.Runs.{RunsOn}
use Rattle.world_stage.proofs.world.World.run.Given as goal

abbrev pub invariant-events : goal.invariant-events
invariant-events l = record { sound : HaveSoundEdits (events_of (drop l.e-index l.e-items)); runs : RunsOn l.world l.devices (events_of (drop l.e-index l.e-items)) (events_of l.events) }
