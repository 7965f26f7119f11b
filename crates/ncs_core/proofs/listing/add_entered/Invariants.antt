use Rattle.std.proofs.Common.{◌≡◌, ◌-◌, ◌||◌, drop, length}
use Rattle.mos_edits.specs.Texts.{Text, has_id}
use Rattle.mos_machines.specs.Tables.{row_ids}
use Rattle.ncs_core.specs.Listed.{has_entry}
use Rattle.ncs_core.proofs.listing.add_entered.Given as goal

abbrev pub invariant-entries : goal.invariant-entries
invariant-entries l = (r : Text) → (has_id r (row_ids l.table) || has_entry (drop l.place l.journal) r) ≡ (has_id r (row_ids l.initial.table) || has_entry l.journal r)

abbrev pub decreases-entries : goal.decreases-entries
decreases-entries l = length l.journal - l.place
