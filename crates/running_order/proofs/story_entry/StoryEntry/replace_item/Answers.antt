use Rattle.std.proofs.Common.{◌≡◌, ◌++◌, ap, sym, subst, ◌∙◌, remove}
use Rattle.std.proofs.lemmas.List.{map-append}
use Rattle.indexmap.proofs.SetLemmas.{map-remove}
use Rattle.mos_values.specs.Distinct.{AreDistinct}
use Rattle.running_order.specs.Places.{put_over}
use Rattle.mos_values.specs.Distinct.{item_ids}
use Rattle.running_order.proofs.Lists.{OnOk-map}
use Rattle.running_order.proofs.Ids.{AreDistinct-right, story_with}
use Rattle.running_order.proofs.story_entry.StoryEntry.replace_item.Goals as goal

pub table_of-requires : goal.table_of-requires
table_of-requires c =
    let new = c.args.items.now in
    let old = remove c.args.self.now.items c.args.at in
    AreDistinct-right (item_ids old) (item_ids new) (subst AreDistinct (map-append (λ i. i.id) old new) c.requires.distinct)

pub replace_both-done-requires-clause-distinct : goal.replace_both-done-requires-clause-distinct
replace_both-done-requires-clause-distinct c =
    let new = c.args.items.now in
    let old = remove c.args.self.now.items c.args.at in
    let places : item_ids c.args.self.now.items ≡ c.self.inside.places = sym (c.self.invariant ∙ ap (λ s. item_ids s.items) c.self.view_is) in
    let kept : item_ids old ≡ remove c.self.inside.places c.args.at = map-remove (λ i. i.id) c.args.self.now.items c.args.at ∙ ap (λ l. remove l c.args.at) places in
    subst AreDistinct (map-append (λ i. i.id) old new ∙ (λ j. kept j ++ sym c.in_ok-ids.ensures j)) c.requires.distinct

pub returns-clause-ok : goal.returns-clause-ok
returns-clause-ok c =
    let items = c.self.inside.story.items in
    let cloned : c.into_vec-new.result.items ≡ c.args.items.now = c.into_vec-new.ensures ∙ c.in_ok-try_clone.ensures in
    OnOk-map c.replace_both-done.result (λ (done : c.replace_both-done.new.list.items ≡ put_over c.take_items-list.result.items c.args.at c.into_vec-new.result.items).
    let edited : c.replace_both-done.new.list.items ≡ put_over items c.args.at (c.args.items.now)
    = (done ∙ (λ j. put_over (c.take_items-list.ensures.items j) c.args.at (cloned j))) in
    story_with c.self.inside.story c.take_items-list.new.story c.put_items.new.story c.replace_both-done.new.list.items (put_over items c.args.at (c.args.items.now)) c.args.self.now
    c.take_items-list.ensures.rest c.put_items.ensures edited c.self.view_is
    ∙ ap (λ s. record c.args.self.now { items = put_over s.items c.args.at (c.args.items.now) }) c.self.view_is) c.replace_both-done.ensures.list_ok
