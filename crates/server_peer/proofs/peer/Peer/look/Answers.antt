use Rattle.std.proofs.Common.{◌≡◌, Some, None, sym, ap, ◌∙◌, subst, arith}
use Rattle.mos_machines.specs.Tables.{PeerTables, row_ids}
use Rattle.order_table.specs.Rows.{IsAscending}
use Rattle.server_peer.specs.Dues.{first_from, StandsFrom}
use Rattle.server_peer.proofs.LookLemmas.{idle-until, within}
use Rattle.server_peer.proofs.peer.Peer.look.Goals as goal

pub returns-in-Some-clause-idle : goal.returns-in-Some-clause-idle
returns-in-Some-clause-idle c =
    let journal = c.args.journal.now in
    let p = c.args.self.now in
    let a : IsAscending (row_ids p.views) = subst (λ (t : PeerTables). IsAscending (row_ids t.views)) c.self.view_is c.has_ascending_ids.ensures in
    let e : first_from journal None p.views ≡ Some c.in-Some.due = ap (λ (t : PeerTables). first_from journal None t.views) (sym c.self.view_is) ∙ sym c.in-Some.ensures in
    let w = within journal p.views a c.in-Some.due e in
    idle-until journal p.views a c.in-Some.due.place (omega (arith, w)) (subst (λ o. StandsFrom c.in-Some.due.place o) (sym e) (omega arith))

pub returns-in-Some-clause-within : goal.returns-in-Some-clause-within
returns-in-Some-clause-within c =
    let journal = c.args.journal.now in
    let p = c.args.self.now in
    let a : IsAscending (row_ids p.views) = subst (λ (t : PeerTables). IsAscending (row_ids t.views)) c.self.view_is c.has_ascending_ids.ensures in
    let e : first_from journal None p.views ≡ Some c.in-Some.due = ap (λ (t : PeerTables). first_from journal None t.views) (sym c.self.view_is) ∙ sym c.in-Some.ensures in
    let w = within journal p.views a c.in-Some.due e in
    omega (arith, w)

pub returns-in-None-clause-idle : goal.returns-in-None-clause-idle
returns-in-None-clause-idle c =
    let journal = c.args.journal.now in
    let p = c.args.self.now in
    let a : IsAscending (row_ids p.views) = subst (λ (t : PeerTables). IsAscending (row_ids t.views)) c.self.view_is c.has_ascending_ids.ensures in
    let e : first_from journal None p.views ≡ None = ap (λ (t : PeerTables). first_from journal None t.views) (sym c.self.view_is) ∙ sym c.in-None.ensures in
    let n = c.len.ensures in
    idle-until journal p.views a c.len.result (omega (arith, n)) (subst (λ o. StandsFrom c.len.result o) (sym e) tt)
