use Rattle.std.proofs.Common.{ap, ◌∙◌}
use Rattle.mos_machines.specs.Device.{gate_want}
use Rattle.mos_machines.specs.Tables.{gate_of, look, unknown_order}
use Rattle.gateway_core.specs.Parts.{asking_of, confirmation_of, wanted_order}
use Rattle.gateway_core.specs.contracts.gate.Gate.{the_view}
use Rattle.gateway_core.proofs.TableSteps.{asked-after, on-ok, wanted}
use Rattle.gateway_core.proofs.gate.Gate.want.Goals as goal

pub invariant_of-self : goal.invariant_of-self
invariant_of-self c = asked-after c.want_in.result c.args.ro.now (wanted_order (look unknown_order c.self.inside.orders c.args.ro.now)) (asking_of c.self.inside.out) c.self.inside.orders c.want_in.new.orders c.want_in.ensures.ok c.want_in.ensures.err c.self.invariant

pub returns-clause-ok : goal.returns-clause-ok
returns-clause-ok c =
    let g = c.self.inside in
    on-ok c.want_in.result c.want_in.ensures.ok (λ e.
    ap (λ rows. gate_of (record { upper = g.upper; link = g.link; out = asking_of g.out; want_all = g.want_all; confirm = confirmation_of g.confirm; note = g.note; orders = rows })) e
    ∙ (wanted (the_view g) c.args.ro.now ∙ ap (λ t. gate_want c.args.ro.now (gate_of t)) c.self.view_is))
