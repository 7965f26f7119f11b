use Rattle.std.proofs.Common.{sym, ap, ◌∙◌, arith}
use Rattle.mos_edits.specs.Entries.{kind}
use Rattle.mos_machines.specs.Server.{is_ready}
use Rattle.rundown_log.proofs.PositionLemmas.{stands, stands-entry}
use Rattle.server_peer.proofs.ViewRows.{none-edit}
use Rattle.server_peer.proofs.ready.is_ready_at.Goals as goal

pub at-requires : goal.at-requires
at-requires c = let s = stands 0 c.args.ro.now c.args.journal.now c.args.k c.in-Some.place (sym c.in-Some.ensures) in let p = s.place in let w = s.within in omega (arith, p, w)

pub returns-in-Some : goal.returns-in-Some
returns-in-Some c =
    c.is_ready_entry.ensures
    ∙ ap (λ e. is_ready (kind e)) (stands-entry c.args.ro.now c.args.journal.now c.args.k c.in-Some.place c.at.result.now (sym c.in-Some.ensures) c.at.ensures)

pub returns-in-None : goal.returns-in-None
returns-in-None c = sym (ap (λ e. is_ready (kind e)) (none-edit 0 c.args.ro.now c.args.journal.now c.args.k (sym c.in-None.ensures)))
