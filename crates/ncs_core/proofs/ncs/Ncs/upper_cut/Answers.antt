use Rattle.std.proofs.Common.{◌≡◌, ℕ, ◌<◌, ◌≤◌, List, length, set, sym, ap, subst}
use Rattle.std.proofs.lemmas.List.{length-set}
use Rattle.mos_machines.specs.Server.{PeerState}
use Rattle.mos_machines.specs.Tables.{PeerTables}
use Rattle.server_peer.specs.Dues.{IsIdleBefore}
use Rattle.server_peer.proofs.LookLaws.{idle-out}
use Rattle.ncs_core.specs.State.{NcsTables}
use Rattle.ncs_core.proofs.LookedRows.{looked-kept}
use Rattle.ncs_core.proofs.ncs.Ncs.upper_cut.Goals as goal

pub invariant_of-self : goal.invariant_of-self
invariant_of-self g c =
    let t : NcsTables _ = c.args.self.now in
    let d = c.args.d in
    let items = c.self.inside.peers.items in
    let same : items ≡ t.server.peers = ap (λ (n : NcsTables _). n.server.peers) c.self.view_is in
    let h : d < length items = subst (λ (xs : List PeerTables). d < length xs) (sym same) c.requires in
    let few : length (set items d c.upper_cut.new.self) ≤ 64 = subst (λ (n : ℕ). n ≤ 64) (sym (length-set items d c.upper_cut.new.self)) c.self.invariant.1 in
    let one : 1 ≤ length (set items d c.upper_cut.new.self) = subst (λ (n : ℕ). 1 ≤ n) (sym (length-set items d c.upper_cut.new.self)) c.self.invariant.2 in
    (c.self.invariant.0, few, one, c.self.invariant.3, looked-kept c.self.inside.journal items c.self.inside.looks d c.index_mut.result.now c.upper_cut.new.self h c.index_mut.ensures.value (λ n i. subst (λ (s : PeerState). IsIdleBefore n c.self.inside.journal s.views) (sym c.upper_cut.ensures) (idle-out n c.self.inside.journal)) c.self.invariant.4, c.self.invariant.5)
