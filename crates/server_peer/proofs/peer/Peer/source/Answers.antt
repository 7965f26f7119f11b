use Rattle.std.proofs.Common.{◌≡◌, Some, slice_get, sym, ap, ◌∙◌, subst, refl}
use Rattle.mos_machines.specs.Server.View.{Out}
use Rattle.mos_machines.specs.Tables.{PeerTables, look, row_ids}
use Rattle.order_table.specs.Rows.{IsAscending}
use Rattle.rundown_log.specs.Positions.{positions}
use Rattle.server_peer.specs.declared.due.DueKind.{DueKind}
use Rattle.server_peer.specs.Dues.{IsScriptDue, place_number, sent_number}
use Rattle.server_peer.proofs.SendSteps.{place-within, script-there, script-source, place-source, entry-at}
use Rattle.server_peer.proofs.peer.Peer.source.Goals as goal

pub at-requires : goal.at-requires
at-requires c =
    let journal = c.args.journal.now in
    let p = c.args.self.now in
    let a : IsAscending (row_ids p.views) = subst (λ (t : PeerTables). IsAscending (row_ids t.views)) c.self.view_is c.has_ascending_ids.ensures in
    place-within journal p.views c.args.due a c.requires

pub script_place-requires : goal.script_place-requires
script_place-requires c =
    let journal = c.args.journal.now in
    let p = c.args.self.now in
    let a : IsAscending (row_ids p.views) = subst (λ (t : PeerTables). IsAscending (row_ids t.views)) c.self.view_is c.has_ascending_ids.ensures in
    let s = script-there journal p.views c.args.due a c.requires c.at.result.now c.at.ensures c.in-Script.k c.in-Script.is in
    let r = subst (λ ro. IsScriptDue journal ro c.in-Script.k (look Out p.views ro)) (sym c.ro.ensures) s in
    subst (λ (t : PeerTables). IsScriptDue journal c.ro.result.now c.in-Script.k (look Out t.views c.ro.result.now)) (sym c.self.view_is) r

pub returns-in-Script : goal.returns-in-Script
returns-in-Script c =
    let journal = c.args.journal.now in
    let p = c.args.self.now in
    let a : IsAscending (row_ids p.views) = subst (λ (t : PeerTables). IsAscending (row_ids t.views)) c.self.view_is c.has_ascending_ids.ensures in
    let g : slice_get (positions c.at.result.now.ro journal) c.in-Script.k ≡ Some c.script_place.result = ap (λ ro. slice_get (positions ro journal) c.in-Script.k) (sym c.ro.ensures) ∙ c.script_place.ensures in
    script-source journal p.views c.args.due a c.requires c.at.result.now c.at.ensures c.in-Script.k c.script_place.result c.in-Script.is g

pub returns-in-Edit : goal.returns-in-Edit
returns-in-Edit c =
    let journal = c.args.journal.now in
    let p = c.args.self.now in
    let a : IsAscending (row_ids p.views) = subst (λ (t : PeerTables). IsAscending (row_ids t.views)) c.self.view_is c.has_ascending_ids.ensures in
    let y = entry-at journal c.args.due.place (place-within journal p.views c.args.due a c.requires) in
    place-source journal p.views c.args.due a c.requires y.entry y.there (subst (λ (kind : DueKind). sent_number kind c.args.due.number ≡ place_number kind c.args.due.number) (sym c.in-Edit.is) refl)

pub returns-in-Again : goal.returns-in-Again
returns-in-Again c =
    let journal = c.args.journal.now in
    let p = c.args.self.now in
    let a : IsAscending (row_ids p.views) = subst (λ (t : PeerTables). IsAscending (row_ids t.views)) c.self.view_is c.has_ascending_ids.ensures in
    let y = entry-at journal c.args.due.place (place-within journal p.views c.args.due a c.requires) in
    place-source journal p.views c.args.due a c.requires y.entry y.there (subst (λ (kind : DueKind). sent_number kind c.args.due.number ≡ place_number kind c.args.due.number) (sym c.in-Again.is) refl)
