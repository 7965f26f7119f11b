use Rattle.std.proofs.Common.{◌≡◌, ◌<◌, length, sym, ap, subst, ◌∙◌}
use Rattle.indexmap.specs.IndexMap.{values}
use Rattle.mos_values.specs.Units.{capped}
use Rattle.running_order.specs.Places.{items_at}
use Rattle.running_order.specs.Sizes.{item_size, size_at}
use Rattle.running_order.proofs.Entries.{items_at-at}
use Rattle.running_order.proofs.story_table.StoryTable.item_units.Goals as goal

pub item_units-requires : goal.item_units-requires
item_units-requires c =
    let items : items_at c.args.self.now c.args.story ≡ c.index.result.now.items = ap (λ l. items_at l c.args.story) (sym c.self.view_is) ∙ items_at-at (values c.self.inside.table) c.args.story c.index.result.now c.index.ensures in
    subst (λ l. c.args.at < length l) items c.requires.within

pub returns : goal.returns
returns c =
    let items : items_at c.args.self.now c.args.story ≡ c.index.result.now.items = ap (λ l. items_at l c.args.story) (sym c.self.view_is) ∙ items_at-at (values c.self.inside.table) c.args.story c.index.result.now c.index.ensures in
    c.item_units.ensures ∙ ap (λ l. capped (size_at item_size l c.args.at)) (sym items)
