use Rattle.std.proofs.Common.{ap, ◌∙◌}
use Rattle.mos_machines.specs.Steps.{ServerState, with_peer}
use Rattle.ncs_core.specs.Answers.{peer_listed}
use Rattle.ncs_core.proofs.ncs.Ncs.give_list.Goals as goal

pub returns-clause-step : goal.returns-clause-step
returns-clause-step g c = c.set_listed.ensures.step ∙ ap (λ (s : ServerState). with_peer s c.args.d (peer_listed s.journal c.args.ro.now (s.peers c.args.d))) c.reserve_view.ensures.same
