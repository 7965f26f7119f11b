use Rattle.machine_answers.specs.Answers.{status_of}
use Rattle.world_scripts.specs.Outcomes.{outcome_of}
use Rattle.ncs_core.specs.Commands.{fault_status as fault_status_of}
use Rattle.world_stage.proofs.Commanded.{told-of}
use Rattle.world_stage.proofs.commanding.refused.Goals as goal

pub returns-in_ok-told_once-in-Ok : goal.returns-in_ok-told_once-in-Ok
returns-in_ok-told_once-in-Ok c = told-of (fault_status_of c.args.fault) (status_of c.in-Ok.status) (outcome_of c.in_ok-told_once-in-Ok.field-0) c.in-Ok.ensures.some c.in_ok-told_once-in-Ok.ensures
