use Rattle.std.proofs.Common.{◌≡◌, ◌++◌, drop}
use Rattle.std.specs.List.{flat_map}
use Rattle.world_scripts.specs.Listing.{order_line}
use Rattle.state_listing.proofs.listing.push_order_lines.Given as goal

abbrev pub invariant-ids : goal.invariant-ids
invariant-ids g l =
    let lines = flat_map (order_line l.ncs.server.journal) in
    l.out.items ++ lines (drop l.ro-index l.ids) ≡ l.initial.out.items ++ lines l.ids
