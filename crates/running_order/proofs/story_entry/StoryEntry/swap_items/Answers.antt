use Rattle.std.proofs.Common.{◌≡◌, ap, sym, subst, ◌∙◌, swap}
use Rattle.mos_values.specs.Distinct.{AreDistinct}
use Rattle.mos_values.specs.Distinct.{item_ids}
use Rattle.running_order.proofs.Ids.{story_with}
use Rattle.indexmap.proofs.ReorderLemmas.{map-swap}
use Rattle.running_order.proofs.story_entry.StoryEntry.swap_items.Goals as goal

pub put_items-requires : goal.put_items-requires
put_items-requires c =
    let items = c.self.inside.story.items in
    let list : c.swap.new.self.items ≡ swap items c.args.a c.args.b = c.swap.ensures.items ∙ ap (λ l. swap l c.args.a c.args.b) c.take_items-list.ensures.items in
    let edited : (c.swap.new.self.items) ≡ swap items c.args.a c.args.b = list in
    let ids : item_ids ((c.swap.new.self.items)) ≡ swap (item_ids items) c.args.a c.args.b = ap item_ids edited ∙ map-swap (λ i. i.id) items c.args.a c.args.b in
    let same : c.swap-2.new.self ≡ item_ids ((c.swap.new.self.items)) = c.swap-2.ensures ∙ ap (λ l. swap l c.args.a c.args.b) c.self.invariant ∙ sym ids in
    subst AreDistinct same c.has_distinct_ids.ensures

pub invariant_of-self : goal.invariant_of-self
invariant_of-self c =
    let items = c.self.inside.story.items in
    let list : c.swap.new.self.items ≡ swap items c.args.a c.args.b = c.swap.ensures.items ∙ ap (λ l. swap l c.args.a c.args.b) c.take_items-list.ensures.items in
    let edited : (c.swap.new.self.items) ≡ swap items c.args.a c.args.b = list in
    let ids : item_ids ((c.swap.new.self.items)) ≡ swap (item_ids items) c.args.a c.args.b = ap item_ids edited ∙ map-swap (λ i. i.id) items c.args.a c.args.b in
    let same : c.swap-2.new.self ≡ item_ids ((c.swap.new.self.items)) = c.swap-2.ensures ∙ ap (λ l. swap l c.args.a c.args.b) c.self.invariant ∙ sym ids in
    same ∙ ap (λ s. item_ids (s.items)) (sym c.put_items.ensures)

pub returns : goal.returns
returns c =
    let items = c.self.inside.story.items in
    let list : c.swap.new.self.items ≡ swap items c.args.a c.args.b = c.swap.ensures.items ∙ ap (λ l. swap l c.args.a c.args.b) c.take_items-list.ensures.items in
    let edited : (c.swap.new.self.items) ≡ swap items c.args.a c.args.b = list in
    let ids : item_ids ((c.swap.new.self.items)) ≡ swap (item_ids items) c.args.a c.args.b = ap item_ids edited ∙ map-swap (λ i. i.id) items c.args.a c.args.b in
    let same : c.swap-2.new.self ≡ item_ids ((c.swap.new.self.items)) = c.swap-2.ensures ∙ ap (λ l. swap l c.args.a c.args.b) c.self.invariant ∙ sym ids in
    story_with c.self.inside.story c.take_items-list.new.story c.put_items.new.story (c.swap.new.self.items) (swap items c.args.a c.args.b) c.args.self.now c.take_items-list.ensures.rest c.put_items.ensures edited c.self.view_is
    ∙ ap (λ s. record c.args.self.now { items = swap s.items c.args.a c.args.b }) c.self.view_is
