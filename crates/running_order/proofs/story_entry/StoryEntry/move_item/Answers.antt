use Rattle.std.proofs.Common.{◌≡◌, ap, sym, subst, ◌∙◌}
use Rattle.indexmap.specs.IndexMap.{move_index}
use Rattle.mos_values.specs.Distinct.{AreDistinct}
use Rattle.mos_values.specs.Distinct.{item_ids}
use Rattle.running_order.proofs.Ids.{story_with}
use Rattle.indexmap.proofs.SetLemmas.{map-move}
use Rattle.running_order.proofs.story_entry.StoryEntry.move_item.Goals as goal

pub put_items-requires : goal.put_items-requires
put_items-requires c =
    let items = c.self.inside.story.items in
    let list : c.move_in_list.new.list.items ≡ move_index items c.args.from c.args.to = c.move_in_list.ensures ∙ ap (λ l. move_index l c.args.from c.args.to) c.take_items-list.ensures.items in
    let edited : (c.move_in_list.new.list.items) ≡ move_index items c.args.from c.args.to = list in
    let ids : item_ids ((c.move_in_list.new.list.items)) ≡ move_index (item_ids items) c.args.from c.args.to = ap item_ids edited ∙ map-move (λ i. i.id) items c.args.from c.args.to in
    let same : c.move_to.new.self ≡ item_ids ((c.move_in_list.new.list.items)) = c.move_to.ensures ∙ ap (λ l. move_index l c.args.from c.args.to) c.self.invariant ∙ sym ids in
    subst AreDistinct same c.has_distinct_ids.ensures

pub invariant_of-self : goal.invariant_of-self
invariant_of-self c =
    let items = c.self.inside.story.items in
    let list : c.move_in_list.new.list.items ≡ move_index items c.args.from c.args.to = c.move_in_list.ensures ∙ ap (λ l. move_index l c.args.from c.args.to) c.take_items-list.ensures.items in
    let edited : (c.move_in_list.new.list.items) ≡ move_index items c.args.from c.args.to = list in
    let ids : item_ids ((c.move_in_list.new.list.items)) ≡ move_index (item_ids items) c.args.from c.args.to = ap item_ids edited ∙ map-move (λ i. i.id) items c.args.from c.args.to in
    let same : c.move_to.new.self ≡ item_ids ((c.move_in_list.new.list.items)) = c.move_to.ensures ∙ ap (λ l. move_index l c.args.from c.args.to) c.self.invariant ∙ sym ids in
    same ∙ ap (λ s. item_ids (s.items)) (sym c.put_items.ensures)

pub returns : goal.returns
returns c =
    let items = c.self.inside.story.items in
    let list : c.move_in_list.new.list.items ≡ move_index items c.args.from c.args.to = c.move_in_list.ensures ∙ ap (λ l. move_index l c.args.from c.args.to) c.take_items-list.ensures.items in
    let edited : (c.move_in_list.new.list.items) ≡ move_index items c.args.from c.args.to = list in
    let ids : item_ids ((c.move_in_list.new.list.items)) ≡ move_index (item_ids items) c.args.from c.args.to = ap item_ids edited ∙ map-move (λ i. i.id) items c.args.from c.args.to in
    let same : c.move_to.new.self ≡ item_ids ((c.move_in_list.new.list.items)) = c.move_to.ensures ∙ ap (λ l. move_index l c.args.from c.args.to) c.self.invariant ∙ sym ids in
    story_with c.self.inside.story c.take_items-list.new.story c.put_items.new.story (c.move_in_list.new.list.items) (move_index items c.args.from c.args.to) c.args.self.now c.take_items-list.ensures.rest c.put_items.ensures edited c.self.view_is
    ∙ ap (λ s. record c.args.self.now { items = move_index s.items c.args.from c.args.to }) c.self.view_is
