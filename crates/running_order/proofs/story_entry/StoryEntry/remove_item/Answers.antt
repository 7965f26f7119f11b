use Rattle.std.proofs.Common.{◌≡◌, ap, sym, subst, ◌∙◌, remove}
use Rattle.mos_values.specs.Distinct.{AreDistinct}
use Rattle.mos_values.specs.Distinct.{item_ids}
use Rattle.running_order.proofs.Ids.{story_with}
use Rattle.indexmap.proofs.SetLemmas.{map-remove}
use Rattle.running_order.proofs.story_entry.StoryEntry.remove_item.Goals as goal

pub put_items-requires : goal.put_items-requires
put_items-requires c =
    let items = c.self.inside.story.items in
    let list : c.remove.new.self.items ≡ remove items c.args.at = c.remove.ensures.items ∙ ap (λ l. remove l c.args.at) c.take_items-list.ensures.items in
    let edited : (c.remove.new.self.items) ≡ remove items c.args.at = list in
    let ids : item_ids ((c.remove.new.self.items)) ≡ remove (item_ids items) c.args.at = ap item_ids edited ∙ map-remove (λ i. i.id) items c.args.at in
    let same : c.remove-2.new.self ≡ item_ids ((c.remove.new.self.items)) = c.remove-2.ensures ∙ ap (λ l. remove l c.args.at) c.self.invariant ∙ sym ids in
    subst AreDistinct same c.has_distinct_ids.ensures

pub invariant_of-self : goal.invariant_of-self
invariant_of-self c =
    let items = c.self.inside.story.items in
    let list : c.remove.new.self.items ≡ remove items c.args.at = c.remove.ensures.items ∙ ap (λ l. remove l c.args.at) c.take_items-list.ensures.items in
    let edited : (c.remove.new.self.items) ≡ remove items c.args.at = list in
    let ids : item_ids ((c.remove.new.self.items)) ≡ remove (item_ids items) c.args.at = ap item_ids edited ∙ map-remove (λ i. i.id) items c.args.at in
    let same : c.remove-2.new.self ≡ item_ids ((c.remove.new.self.items)) = c.remove-2.ensures ∙ ap (λ l. remove l c.args.at) c.self.invariant ∙ sym ids in
    same ∙ ap (λ s. item_ids (s.items)) (sym c.put_items.ensures)

pub returns : goal.returns
returns c =
    let items = c.self.inside.story.items in
    let list : c.remove.new.self.items ≡ remove items c.args.at = c.remove.ensures.items ∙ ap (λ l. remove l c.args.at) c.take_items-list.ensures.items in
    let edited : (c.remove.new.self.items) ≡ remove items c.args.at = list in
    let ids : item_ids ((c.remove.new.self.items)) ≡ remove (item_ids items) c.args.at = ap item_ids edited ∙ map-remove (λ i. i.id) items c.args.at in
    let same : c.remove-2.new.self ≡ item_ids ((c.remove.new.self.items)) = c.remove-2.ensures ∙ ap (λ l. remove l c.args.at) c.self.invariant ∙ sym ids in
    story_with c.self.inside.story c.take_items-list.new.story c.put_items.new.story (c.remove.new.self.items) (remove items c.args.at) c.args.self.now c.take_items-list.ensures.rest c.put_items.ensures edited c.self.view_is
    ∙ ap (λ s. record c.args.self.now { items = remove s.items c.args.at }) c.self.view_is
