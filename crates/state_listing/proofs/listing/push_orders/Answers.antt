use Rattle.std.proofs.Common.{◌≡◌, List, ◌++◌, OnOk, ◌∙◌, subst}
use Rattle.std.specs.List.{flat_map}
use Rattle.mos_edits.specs.Texts.{Text}
use Rattle.world_scripts.specs.Listing.{entered, order_line}
use Rattle.state_listing.proofs.ToldOrders.{entered-is}
use Rattle.state_listing.proofs.listing.push_orders.Goals as goal

pub returns : goal.returns
returns g c =
    let journal = c.args.ncs.now.server.journal in
    let told : c.deref.result.now ≡ entered journal = c.deref.ensures.value ∙ entered-is journal _ c.in_ok-ids.ensures in
    subst (λ (ids : List Text). OnOk c.push_order_lines.result (c.push_order_lines.new.out.items ≡ c.args.out.now.items ++ flat_map (order_line journal) ids)) told c.push_order_lines.ensures
