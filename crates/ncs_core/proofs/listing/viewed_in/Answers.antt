use Rattle.std.proofs.Common.{Vec, Global, Bool, ◌||◌, ap, ◌∙◌}
use Rattle.mos_fields.specs.declared.id.Id.{Id}
use Rattle.mos_machines.specs.Tables.{row_ids, peer_of}
use Rattle.ncs_core.specs.Listed.{has_entry, is_seen, is_viewed}
use Rattle.ncs_core.proofs.ListedIds.{has-added, listed}
use Rattle.ncs_core.proofs.listing.viewed_in.Goals as goal

pub returns : goal.returns
returns c =
    let journal = c.args.journal.now in
    let peer = peer_of c.args.peer.now in
    listed (λ (ids : Vec Id Global). ids.items) (is_viewed journal peer) (row_ids c.add_seen.new.table) (row_ids c.rows.result.now) c.ids_in.result (ap row_ids c.rows.ensures) c.has_ascending_ids.ensures
    (λ r. c.in_ok-add_seen.ensures r ∙ ap (λ (b : Bool). b || is_seen (peer.views r)) (c.in_ok-add_entered.ensures r ∙ has-added r c.new-table.result (has_entry journal r) c.new-table.ensures))
    c.ids_in.ensures
