use Rattle.world_scripts.specs.WorldEvents.{event_of}
use Rattle.world_laws.specs.World.{WorldEvent, world_step}
use Rattle.world_stage.proofs.play.Play.step.Goals as goal

pub returns-in-Ok-clause-world : goal.returns-in-Ok-clause-world
returns-in-Ok-clause-world c = let m = c.requires.world in ((world_step m.0 (WorldEvent.Restart c.in-Restart.kept)).0, c.in-Ok.ensures m.0 m.1)

pub returns-in-Ok-event : goal.returns-in-Ok-event
returns-in-Ok-event c = let m = c.requires.world in record {
  world = ((world_step m.0 (event_of c.args.e.now)).0, (c.in-Ok-event.ensures m.0 m.1).0);
  step = c.in-Ok-event.ensures;
}
