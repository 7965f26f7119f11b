use Rattle.mos_machines.specs.Tables.{gate_of}
use Rattle.mos_machines.specs.Values.{seen}
use Rattle.deck_nodes.proofs.Said.{answered-comes}
use Rattle.deck_nodes.proofs.steps.answered.Goals as goal

pub returns-clause-ok : goal.returns-clause-ok
returns-clause-ok c = answered-comes (gate_of c.args.gate.now) (gate_of c.read_answer.new.self) c.args.link (seen c.args.m.now) c.in_ok-step.step c.step_answer.result c.in_ok-step.ensures.answer c.in_ok-step.ensures.step c.step_answer.ensures
