use Rattle.mos_machines.proofs.DeviceAnswers.{read-applied, read-ready}
use Rattle.mos_machines.proofs.device.actions_that_apply_are_answered_ok.Goals as goal

pub returns : goal.returns
returns c = record { action = read-applied; ready = read-ready }
