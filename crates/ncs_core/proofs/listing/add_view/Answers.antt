use Rattle.std.proofs.Common.{sym, ◌∙◌}
use Rattle.mos_machines.specs.Tables.{row_ids, peer_of}
use Rattle.ncs_core.proofs.ListedIds.{seen-none, seen-none-shown, seen-other, seen-told}
use Rattle.ncs_core.proofs.listing.add_view.Goals as goal

pub returns-in-Out : goal.returns-in-Out
returns-in-Out c = λ r.
    let views = (peer_of c.args.peer.now).views in
    seen-none r c.args.ro.now (row_ids c.args.table.now) views (seen-none-shown (views c.args.ro.now) (sym c.in-Out.ensures))

pub returns-in_default : goal.returns-in_default
returns-in_default c =
    let views = (peer_of c.args.peer.now).views in
    seen-told c.put.result c.args.ro.now tt c.args.table.now c.put.new.self views (seen-other (views c.args.ro.now) (λ e. c.in_default.not-Out (c.view.ensures ∙ e))) c.put.ensures.ok
