use Rattle.mos_machines.proofs.DeviceAnswers.{read-action-fault, read-out}
use Rattle.mos_machines.proofs.device.unfit_actions_leave_the_order.Goals as goal

pub returns : goal.returns
returns c = record { fault = read-action-fault; out_of_step = read-out }
