use Rattle.std.proofs.Common.{rules, ap, ◌∙◌}
use Rattle.atomic_table.specs.Table.{rest}
use Rattle.shared_machine.proofs.RuleSteps.{passes_turn}
use Rattle.shared_machine.proofs.turn.pass_turn.Goals as goal

pub fetch_add-served-requires : goal.fetch_add-served-requires
fetch_add-served-requires g c = let h = c.requires.held in
    (search rules, search rules, passes_turn _ _ _ _ (λ x y z. g.met.M.Machine.refusal_transitive x.0 y.0 z.0) _ _ _ h.3 h.0 h.1 h.2 h.5 h.4 h.6)

pub returns : goal.returns
returns g c = let t = c.fetch_add-served.ensures.2 in
    (c.fetch_add-served.ensures.0, c.fetch_add-served.ensures.1, λ i. (t.1 i, (t.0 ∙ ap rest c.requires.held.5) i))
