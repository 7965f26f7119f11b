use Rattle.world_scripts.specs.WorldEvents.{event_of}
use Rattle.world_stage.proofs.Runs.{told-more}
use Rattle.world_stage.proofs.stage.WorldStageStage.step.Goals as goal

pub returns-clause-told : goal.returns-clause-told
returns-clause-told c = told-more c.args.self.now.world c.in-Some.world c.step.new.self (event_of c.args.e.now) c.step.result c.in-Some.is c.step.ensures.step
