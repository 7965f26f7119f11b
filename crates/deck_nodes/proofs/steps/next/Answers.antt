use Rattle.mos_machines.specs.Tables.{gate_of}
use Rattle.deck_nodes.proofs.Said.{next-comes}
use Rattle.deck_nodes.proofs.steps.next.Goals as goal

pub returns-clause-ok : goal.returns-clause-ok
returns-clause-ok c = next-comes (gate_of c.args.gate.now) (gate_of c.next_ask.new.self) c.args.link c.args.now.now c.in_ok-sent.sent c.sent_answer.result c.in_ok-sent.ensures.answer c.in_ok-sent.ensures.step c.sent_answer.ensures
