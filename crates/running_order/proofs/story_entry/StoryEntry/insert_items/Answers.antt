use Rattle.std.proofs.Common.{◌≡◌, ◌++◌, ap, sym, subst, ◌∙◌}
use Rattle.std.proofs.lemmas.List.{map-append}
use Rattle.mos_values.specs.Distinct.{AreDistinct}
use Rattle.running_order.specs.Places.{put_in}
use Rattle.mos_values.specs.Distinct.{item_ids}
use Rattle.running_order.proofs.Lists.{OnOk-map}
use Rattle.running_order.proofs.Ids.{AreDistinct-right, story_with}
use Rattle.running_order.proofs.story_entry.StoryEntry.insert_items.Goals as goal

pub table_of-requires : goal.table_of-requires
table_of-requires c =
    let new = c.args.items.now in
    let old = c.args.self.now.items in
    AreDistinct-right (item_ids old) (item_ids new) (subst AreDistinct (map-append (λ i. i.id) old new) c.requires.distinct)

pub insert_both-done-requires-clause-distinct : goal.insert_both-done-requires-clause-distinct
insert_both-done-requires-clause-distinct c =
    let new = c.args.items.now in
    let old = c.args.self.now.items in
    let places : item_ids c.args.self.now.items ≡ c.self.inside.places = sym (c.self.invariant ∙ ap (λ s. item_ids s.items) c.self.view_is) in
    let kept : item_ids old ≡ c.self.inside.places = places in
    subst AreDistinct (map-append (λ i. i.id) old new ∙ (λ j. kept j ++ sym c.in_ok-ids.ensures j)) c.requires.distinct

pub returns-clause-ok : goal.returns-clause-ok
returns-clause-ok c =
    let items = c.self.inside.story.items in
    let cloned : c.into_vec-new.result.items ≡ c.args.items.now = c.into_vec-new.ensures ∙ c.in_ok-try_clone.ensures in
    OnOk-map c.insert_both-done.result (λ (done : c.insert_both-done.new.list.items ≡ put_in c.take_items-list.result.items c.args.at c.into_vec-new.result.items).
    let edited : c.insert_both-done.new.list.items ≡ put_in items c.args.at (c.args.items.now)
    = (done ∙ (λ j. put_in (c.take_items-list.ensures.items j) c.args.at (cloned j))) in
    story_with c.self.inside.story c.take_items-list.new.story c.put_items.new.story c.insert_both-done.new.list.items (put_in items c.args.at (c.args.items.now)) c.args.self.now
    c.take_items-list.ensures.rest c.put_items.ensures edited c.self.view_is
    ∙ ap (λ s. record c.args.self.now { items = put_in s.items c.args.at (c.args.items.now) }) c.self.view_is) c.insert_both-done.ensures.list_ok
