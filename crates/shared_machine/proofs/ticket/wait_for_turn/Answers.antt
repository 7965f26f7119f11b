use Rattle.std.proofs.Common.{rules, ap, ◌∙◌}
use Rattle.shared_machine.proofs.RuleSteps.{looks_at_serving}
use Rattle.shared_machine.proofs.ticket.wait_for_turn.Goals as goal

pub load-serving-requires : goal.load-serving-requires
load-serving-requires g c = (search rules, search rules, looks_at_serving _ _ _ _ _ _ _ c.take_ticket-ticket.result (ap (λ m. m.0.turn) c.loop.invariant.2 ∙ ap (λ m. m.0.turn) c.take_ticket-ticket.ensures.2))
