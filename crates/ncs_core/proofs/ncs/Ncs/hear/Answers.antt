use Rattle.std.proofs.Common.{◌≡◌, true, sym, ap, ◌∙◌}
use Rattle.mos_machines.specs.Messages.{is_link}
use Rattle.mos_machines.specs.Server.{PeerState}
use Rattle.mos_machines.specs.Steps.{is_lower}
use Rattle.mos_machines.specs.Values.{seen}
use Rattle.ncs_core.specs.State.{NcsTables, ncs_of}
use Rattle.ncs_core.proofs.PeerRows.{peer-here, on-ok, if-ok-is}
use Rattle.ncs_core.proofs.HearSteps.{heard-says, heard-state}
use Rattle.ncs_core.proofs.ncs.Ncs.hear.Goals as goal

pub returns-clause-answer : goal.returns-clause-answer
returns-clause-answer g c =
    let t : NcsTables _ = c.args.self.now in
    let same : c.self.inside.peers.items ≡ t.server.peers = ap (λ (n : NcsTables _). n.server.peers) c.self.view_is in
    let asked = peer-here c.self.inside.peers.items t.server.peers c.args.d c.index.result.now same c.requires c.index.ensures in
    let low : is_lower (ncs_of t) c.args.d c.args.link ≡ true = ap (λ (p : PeerState). is_link p.link c.args.link) (sym asked) ∙ (sym c.is_lower.ensures ∙ c.if-not-is_lower.false) in
    if-ok-is c.hear_current.result _ _ (heard-says (ncs_of t) c.args.d c.args.link (seen c.args.m.now) low) c.hear_current.ensures.answer

pub returns-clause-step : goal.returns-clause-step
returns-clause-step g c =
    let t : NcsTables _ = c.args.self.now in
    let same : c.self.inside.peers.items ≡ t.server.peers = ap (λ (n : NcsTables _). n.server.peers) c.self.view_is in
    let asked = peer-here c.self.inside.peers.items t.server.peers c.args.d c.index.result.now same c.requires c.index.ensures in
    let low : is_lower (ncs_of t) c.args.d c.args.link ≡ true = ap (λ (p : PeerState). is_link p.link c.args.link) (sym asked) ∙ (sym c.is_lower.ensures ∙ c.if-not-is_lower.false) in
    on-ok c.hear_current.result c.hear_current.ensures.step (λ e. e ∙ heard-state (ncs_of t) c.args.d c.args.link (seen c.args.m.now) low)
