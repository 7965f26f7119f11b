use Rattle.std.proofs.Common.{rules, refl, ap, ◌∙◌}
use Rattle.shared_machine.proofs.RuleSteps.{takes_ticket}
use Rattle.shared_machine.proofs.ticket.take_ticket.Goals as goal

pub compare_exchange-found-requires : goal.compare_exchange-found-requires
compare_exchange-found-requires g c = (search rules, search rules, takes_ticket _ _ _ _ _ _ _ _ _ (ap (λ m. m.0.turn) c.loop.invariant.2 ∙ c.requires.2) refl (search rules))
