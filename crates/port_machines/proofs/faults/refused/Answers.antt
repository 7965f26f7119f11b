use Rattle.machine_answers.specs.Answers.{status_of}
use Rattle.ncs_core.specs.Commands.{fault_status}
use Rattle.port_machines.proofs.Commanded.{tells-fault}
use Rattle.port_machines.proofs.faults.refused.Goals as goal

pub returns : goal.returns
returns c = tells-fault (fault_status c.args.fault) (status_of c.in_ok-status.status) c.args.ro.now c.answer_for-told.result c.in_ok-status.ensures.some c.answer_for-told.ensures
