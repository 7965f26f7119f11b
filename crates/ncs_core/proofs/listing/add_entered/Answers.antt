use Rattle.std.proofs.Common.{ap, ◌∙◌}
use Rattle.mos_edits.specs.Texts.{Text}
use Rattle.mos_machines.specs.Tables.{put_row}
use Rattle.ncs_core.proofs.ListedIds.{entered-step}
use Rattle.ncs_core.proofs.listing.add_entered.Goals as goal

pub entries-preserved : goal.entries-preserved
entries-preserved c = λ r.
    entered-step r c.args.journal.now c.entries.place c.at.result.now tt c.entries.table c.put.new.self c.at.ensures (c.in_ok-put.ensures.ok ∙ ap (λ (q : Text). put_row q tt c.entries.table) c.ro.ensures)
    ∙ c.entries.invariant r
