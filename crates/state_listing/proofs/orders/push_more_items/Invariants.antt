use Rattle.std.proofs.Common.{◌≡◌, ◌∷◌, ◌++◌, drop, string_bytes}
use Rattle.std.specs.List.{flat_map}
use Rattle.mos_edits.specs.Orders.{Item}
use Rattle.world_scripts.specs.Lines.{utf8}
use Rattle.state_listing.proofs.orders.push_more_items.Given as goal

abbrev pub invariant-items : goal.invariant-items
invariant-items l =
    string_bytes l.line ++ flat_map (λ (i : Item). 44 ∷ utf8 i.id) (drop l.item-index l.items) ≡ string_bytes l.initial.line ++ flat_map (λ (i : Item). 44 ∷ utf8 i.id) l.items
