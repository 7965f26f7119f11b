use Rattle.std.proofs.Common.{◌≤◌, length, ◌∙◌, arith}
use Rattle.mos_machines.specs.Server.View.{Out}
use Rattle.mos_machines.specs.Tables.{look, row_ids}
use Rattle.ncs_core.specs.Listed.{is_seen}
use Rattle.ncs_core.proofs.ListedIds.{seen-step, seen-end}
use Rattle.ncs_core.proofs.listing.add_seen.Goals as goal

pub views-preserved : goal.views-preserved
views-preserved c = λ r.
    let rows = c.args.peer.now.views in
    seen-step r (row_ids rows) (row_ids c.views.table) (row_ids c.add_view.new.table) c.views.place c.id_at.result.now (is_seen (look Out rows r)) c.id_at.ensures (c.in_ok-add_view.ensures r)
    ∙ c.views.invariant r

pub returns : goal.returns
returns c = λ r.
    let rows = c.args.peer.now.views in
    let known = c.known.ensures in
    let test = c.views-test.false in
    let past : length (row_ids rows) ≤ c.views.place = omega (arith, known, test) in
    seen-end r rows (row_ids c.args.table.now) (row_ids c.views.table) c.views.place past (c.views.invariant r)
