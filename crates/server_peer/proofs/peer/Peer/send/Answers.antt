use Rattle.std.proofs.Common.{◌≡◌, Some, None, sym, ap, ◌∙◌, subst}
use Rattle.mos_machines.specs.Server.View.{Out}
use Rattle.mos_machines.specs.Tables.{PeerTables, look, row_ids, peer_of}
use Rattle.order_table.specs.Rows.{IsAscending}
use Rattle.server_peer.specs.Parts.{sent_of}
use Rattle.server_peer.specs.Dues.{first_from, IsIdleBefore}
use Rattle.server_peer.proofs.ViewRows.{on-ok, if-ok-is}
use Rattle.server_peer.proofs.SendSteps.{source-within, source-row, source-number, source-answer, source-state, next-beat}
use Rattle.server_peer.proofs.peer.Peer.send.Goals as goal

pub first_due_from-requires : goal.first_due_from-requires
first_due_from-requires c =
    subst (λ (t : PeerTables). IsIdleBefore c.args.from c.args.journal.now (look Out t.views)) (sym c.self.view_is) c.requires.idle

pub source-source-requires : goal.source-source-requires
source-source-requires c = ap (λ (t : PeerTables). first_from c.args.journal.now None t.views) (sym c.self.view_is) ∙ sym c.in-Some.ensures

pub at-requires : goal.at-requires
at-requires c =
    let journal = c.args.journal.now in
    source-within journal c.in-Some.due c.source-source.result c.source-source.ensures

pub send_entry-requires-clause-row : goal.send_entry-requires-clause-row
send_entry-requires-clause-row c =
    let journal = c.args.journal.now in
    let p = c.args.self.now in
    let a : IsAscending (row_ids p.views) = subst (λ (t : PeerTables). IsAscending (row_ids t.views)) c.self.view_is c.has_ascending_ids.ensures in
    let rows = ap (λ (t : PeerTables). t.views) c.self.view_is in
    let e : first_from journal None p.views ≡ Some c.in-Some.due = ap (first_from journal None) (sym rows) ∙ sym c.in-Some.ensures in
    source-row journal c.args.now.now p c.args.link a c.requires.link c.in-Some.due e c.source-source.result c.source-source.ensures c.at.result.now c.at.ensures

pub send_entry-requires-clause-number : goal.send_entry-requires-clause-number
send_entry-requires-clause-number c =
    let journal = c.args.journal.now in
    let p = c.args.self.now in
    let a : IsAscending (row_ids p.views) = subst (λ (t : PeerTables). IsAscending (row_ids t.views)) c.self.view_is c.has_ascending_ids.ensures in
    let rows = ap (λ (t : PeerTables). t.views) c.self.view_is in
    let e : first_from journal None p.views ≡ Some c.in-Some.due = ap (first_from journal None) (sym rows) ∙ sym c.in-Some.ensures in
    source-number journal c.args.now.now p c.args.link a c.requires.link c.in-Some.due e c.source-source.result c.source-source.ensures c.at.result.now c.at.ensures c.entries_in-count.ensures.bound

pub returns-in-Some-clause-answer : goal.returns-in-Some-clause-answer
returns-in-Some-clause-answer c =
    let journal = c.args.journal.now in
    let p = c.args.self.now in
    let a : IsAscending (row_ids p.views) = subst (λ (t : PeerTables). IsAscending (row_ids t.views)) c.self.view_is c.has_ascending_ids.ensures in
    let rows = ap (λ (t : PeerTables). t.views) c.self.view_is in
    let e : first_from journal None p.views ≡ Some c.in-Some.due = ap (first_from journal None) (sym rows) ∙ sym c.in-Some.ensures in
    if-ok-is c.send_entry.result _ _ (sym (source-answer journal c.args.now.now p c.args.link a c.requires.link c.in-Some.due e c.source-source.result c.source-source.ensures c.at.result.now c.at.ensures)) c.send_entry.ensures.answer

pub returns-in-Some-clause-step : goal.returns-in-Some-clause-step
returns-in-Some-clause-step c =
    let journal = c.args.journal.now in
    let p = c.args.self.now in
    let a : IsAscending (row_ids p.views) = subst (λ (t : PeerTables). IsAscending (row_ids t.views)) c.self.view_is c.has_ascending_ids.ensures in
    let rows = ap (λ (t : PeerTables). t.views) c.self.view_is in
    let e : first_from journal None p.views ≡ Some c.in-Some.due = ap (first_from journal None) (sym rows) ∙ sym c.in-Some.ensures in
    on-ok c.send_entry.result c.send_entry.ensures.step (λ s. ap peer_of s ∙ sym (source-state journal c.args.now.now p c.args.link a c.requires.link c.in-Some.due e c.source-source.result c.source-source.ensures c.at.result.now c.at.ensures))

pub returns-in-None-clause-answer : goal.returns-in-None-clause-answer
returns-in-None-clause-answer c =
    let journal = c.args.journal.now in
    let p = c.args.self.now in
    let a : IsAscending (row_ids p.views) = subst (λ (t : PeerTables). IsAscending (row_ids t.views)) c.self.view_is c.has_ascending_ids.ensures in
    let rows = ap (λ (t : PeerTables). t.views) c.self.view_is in
    let e : first_from journal None p.views ≡ None = ap (first_from journal None) (sym rows) ∙ sym c.in-None.ensures in
    c.send_beat.ensures.answer ∙ sym (ap (λ x. sent_of x.1) (next-beat journal c.args.now.now p c.args.link a c.requires.link e))

pub returns-in-None-clause-step : goal.returns-in-None-clause-step
returns-in-None-clause-step c =
    let journal = c.args.journal.now in
    let p = c.args.self.now in
    let a : IsAscending (row_ids p.views) = subst (λ (t : PeerTables). IsAscending (row_ids t.views)) c.self.view_is c.has_ascending_ids.ensures in
    let rows = ap (λ (t : PeerTables). t.views) c.self.view_is in
    let e : first_from journal None p.views ≡ None = ap (first_from journal None) (sym rows) ∙ sym c.in-None.ensures in
    c.send_beat.ensures.step ∙ sym (ap (λ x. x.0) (next-beat journal c.args.now.now p c.args.link a c.requires.link e))
