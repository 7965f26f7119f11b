use Rattle.std.proofs.Common.{◌≡◌, Bool, IfOk, Vec, Global, ap, subst}
use Rattle.mos_edits.specs.Texts.{Text}
use Rattle.mos_fields.specs.declared.id.Id.{Id}
use Rattle.ncs_core.specs.Listed.{is_viewed, IsListOf}
use Rattle.ncs_core.specs.State.{NcsTables}
use Rattle.ncs_core.proofs.PeerRows.{peer-here}
use Rattle.ncs_core.proofs.ncs.Ncs.viewed_ids.Goals as goal

pub returns : goal.returns
returns g c =
    let t : NcsTables _ = c.args.self.now in
    let same : c.self.inside.peers.items ≡ t.server.peers = ap (λ (n : NcsTables _). n.server.peers) c.self.view_is in
    let journal : c.self.inside.journal ≡ t.server.journal = ap (λ (n : NcsTables _). n.server.journal) c.self.view_is in
    let here = peer-here c.self.inside.peers.items t.server.peers c.args.d c.index.result.now same c.requires c.index.ensures in
    subst (λ (test : Text → Bool). IfOk c.viewed_in.result (λ (ids : Vec Id Global). IsListOf test ids.items)) (λ i. is_viewed (journal i) (here i)) c.viewed_in.ensures
