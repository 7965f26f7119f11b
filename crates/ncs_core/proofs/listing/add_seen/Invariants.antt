use Rattle.std.proofs.Common.{◌≡◌, ◌-◌, ◌||◌, ◌&&◌, drop, length}
use Rattle.mos_edits.specs.Texts.{Text, has_id}
use Rattle.mos_machines.specs.Tables.{row_ids, peer_of}
use Rattle.ncs_core.specs.Listed.{is_seen}
use Rattle.ncs_core.proofs.listing.add_seen.Given as goal

abbrev pub invariant-views : goal.invariant-views
invariant-views l =
    (r : Text) → (has_id r (row_ids l.table) || (has_id r (drop l.place (row_ids l.peer.views)) && is_seen ((peer_of l.peer).views r))) ≡ (has_id r (row_ids l.initial.table) || (has_id r (row_ids l.peer.views) && is_seen ((peer_of l.peer).views r)))

abbrev pub decreases-views : goal.decreases-views
decreases-views l = length (row_ids l.peer.views) - l.place
