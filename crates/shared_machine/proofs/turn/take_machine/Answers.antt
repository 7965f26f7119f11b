use Rattle.std.proofs.Common.{rules, ◌∷◌, false, ap, ◌∙◌}
use Rattle.shared_machine.specs.Turns.{with_turn, ticket_of}
use Rattle.shared_machine.specs.declared.turn_state.TurnState.TheVariants.{HoldsMachine}
use Rattle.shared_machine.proofs.RuleSteps.{takes_machine}
use Rattle.shared_machine.proofs.turn.take_machine.Goals as goal

pub load-requires : goal.load-requires
load-requires g c = (search rules, search rules, takes_machine _ _ _ _ _ _ _ c.args.ticket c.requires.2)

pub returns : goal.returns
returns g c = let t = c.load.ensures.2 in
    (c.load.ensures.0, c.load.ensures.1, (t.0, λ i. ((t.2 ∙ ap (λ n. with_turn c.args.seat.now.me.0 (HoldsMachine n t.0.machine false)) (ap ticket_of c.requires.2)) i, (t.1 ∙ ap (λ l. (0, t.0) ∷ l) c.requires.3) i)))
