use Rattle.std.proofs.Common.{◌≡◌, true, false, sym, ap, ◌∙◌}
use Rattle.mos_machines.specs.Server.{PeerState, is_busy}
use Rattle.mos_machines.specs.Steps.{with_peer}
use Rattle.mos_values.specs.declared.message.Message as values
use Rattle.machine_answers.specs.declared.answers.Heard.TheVariants as heard
use Rattle.ncs_core.specs.State.{NcsTables, ncs_of}
use Rattle.ncs_core.proofs.PeerRows.{peer-here, on-ok, if-ok-is}
use Rattle.ncs_core.proofs.HearSteps.{busy-state, busy-says, free-state, free-says}
use Rattle.ncs_core.proofs.ncs.Ncs.hear_request.Goals as goal

pub returns-then-is_busy-clause-answer : goal.returns-then-is_busy-clause-answer
returns-then-is_busy-clause-answer g c =
    let t : NcsTables _ = c.args.self.now in
    let same : c.self.inside.peers.items ≡ t.server.peers = ap (λ (n : NcsTables _). n.server.peers) c.self.view_is in
    let asked = peer-here c.self.inside.peers.items t.server.peers c.args.d c.index.result.now same c.requires c.index.ensures in
    let busy : is_busy c.args.ro.now ((ncs_of t).peers c.args.d).upper ≡ true = ap (λ (p : PeerState). is_busy c.args.ro.now p.upper) (sym asked) ∙ (sym c.is_busy.ensures ∙ c.if-is_busy.true) in
    if-ok-is c.put_off.result _ _ (ap (λ (m : values.Message). heard.Say m) (busy-says t.server.journal ((ncs_of t).peers c.args.d) c.args.ro.now busy)) c.put_off.ensures.answer

pub returns-then-is_busy-clause-step : goal.returns-then-is_busy-clause-step
returns-then-is_busy-clause-step g c =
    let t : NcsTables _ = c.args.self.now in
    let same : c.self.inside.peers.items ≡ t.server.peers = ap (λ (n : NcsTables _). n.server.peers) c.self.view_is in
    let asked = peer-here c.self.inside.peers.items t.server.peers c.args.d c.index.result.now same c.requires c.index.ensures in
    let busy : is_busy c.args.ro.now ((ncs_of t).peers c.args.d).upper ≡ true = ap (λ (p : PeerState). is_busy c.args.ro.now p.upper) (sym asked) ∙ (sym c.is_busy.ensures ∙ c.if-is_busy.true) in
    on-ok c.put_off.result c.put_off.ensures.step (λ e. e ∙ ap (with_peer (ncs_of t) c.args.d) (busy-state t.server.journal ((ncs_of t).peers c.args.d) c.args.ro.now busy))

pub returns-else-is_busy-clause-answer : goal.returns-else-is_busy-clause-answer
returns-else-is_busy-clause-answer g c =
    let t : NcsTables _ = c.args.self.now in
    let same : c.self.inside.peers.items ≡ t.server.peers = ap (λ (n : NcsTables _). n.server.peers) c.self.view_is in
    let asked = peer-here c.self.inside.peers.items t.server.peers c.args.d c.index.result.now same c.requires c.index.ensures in
    let free : is_busy c.args.ro.now ((ncs_of t).peers c.args.d).upper ≡ false = ap (λ (p : PeerState). is_busy c.args.ro.now p.upper) (sym asked) ∙ (sym c.is_busy.ensures ∙ c.if-is_busy.false) in
    if-ok-is c.give_list.result _ _ (ap (λ (m : values.Message). heard.Say m) (free-says t.server.journal ((ncs_of t).peers c.args.d) c.args.ro.now free)) c.give_list.ensures.answer

pub returns-else-is_busy-clause-step : goal.returns-else-is_busy-clause-step
returns-else-is_busy-clause-step g c =
    let t : NcsTables _ = c.args.self.now in
    let same : c.self.inside.peers.items ≡ t.server.peers = ap (λ (n : NcsTables _). n.server.peers) c.self.view_is in
    let asked = peer-here c.self.inside.peers.items t.server.peers c.args.d c.index.result.now same c.requires c.index.ensures in
    let free : is_busy c.args.ro.now ((ncs_of t).peers c.args.d).upper ≡ false = ap (λ (p : PeerState). is_busy c.args.ro.now p.upper) (sym asked) ∙ (sym c.is_busy.ensures ∙ c.if-is_busy.false) in
    on-ok c.give_list.result c.give_list.ensures.step (λ e. e ∙ ap (with_peer (ncs_of t) c.args.d) (free-state t.server.journal ((ncs_of t).peers c.args.d) c.args.ro.now free))
