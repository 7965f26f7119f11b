use Rattle.std.proofs.Common.{sym, ap, ◌∙◌}
use Rattle.mos_machines.specs.Server.View.{Out}
use Rattle.mos_machines.specs.Tables.{look}
use Rattle.server_peer.specs.Dues.{due_of, at_place, here_of}
use Rattle.server_peer.proofs.ViewRows.{look-some, look-none}
use Rattle.server_peer.proofs.due.due_here.Goals as goal

pub returns-in-Some : goal.returns-in-Some
returns-in-Some c =
    let journal = c.args.journal.now in
    let rows = c.args.views.now in
    let ro = c.ro-ro.result.now in
    c.at_place.ensures
    ∙ (ap (at_place c.args.place) (c.due_of.ensures ∙ (ap (due_of journal ro) (sym (look-some ro rows c.in-Some.seen.now (sym c.in-Some.ensures))) ∙ ap (λ r. due_of journal r (look Out rows r)) c.ro-ro.ensures))
    ∙ sym (ap (here_of journal rows c.args.place) c.at.ensures))

pub returns-in-None : goal.returns-in-None
returns-in-None c =
    let journal = c.args.journal.now in
    let rows = c.args.views.now in
    let ro = c.ro-ro.result.now in
    ap (at_place c.args.place) (ap (due_of journal ro) (sym (look-none ro rows (sym c.in-None.ensures))) ∙ ap (λ r. due_of journal r (look Out rows r)) c.ro-ro.ensures)
    ∙ sym (ap (here_of journal rows c.args.place) c.at.ensures)
