use Rattle.std.proofs.Common.{◌≡◌, ◌<◌, ◌++◌, map, ap, sym, subst, ◌∙◌, length, remove, slice_get, Some}
use Rattle.mos_values.specs.Distinct.{AreDistinct}
use Rattle.running_order.specs.Places.{put_over, items_at, edit_items}
use Rattle.mos_values.specs.Distinct.{item_ids}
use Rattle.running_order.proofs.Entries.{items_at-at, values-written, values-rewritten, keyed_written}
use Rattle.running_order.proofs.Lists.{OnOk-map, OnErr-map}
use Rattle.running_order.proofs.story_table.StoryTable.replace_item.Goals as goal

pub replace_item-requires-clause-within : goal.replace_item-requires-clause-within
replace_item-requires-clause-within c =
    let es = c.self.inside.table.entries in
    let s = c.index_mut-entry.result.now in
    let at : slice_get (map (λ e. e.1) es) c.args.story ≡ Some s = c.index_mut-entry.ensures.value in
    let items : items_at c.args.self.now c.args.story ≡ s.items = ap (λ l. items_at l c.args.story) (sym c.self.view_is) ∙ items_at-at (map (λ e. e.1) es) c.args.story s at in
    subst (λ l. c.args.at < length l) items c.requires.within

pub replace_item-requires-clause-distinct : goal.replace_item-requires-clause-distinct
replace_item-requires-clause-distinct c =
    let es = c.self.inside.table.entries in
    let s = c.index_mut-entry.result.now in
    let at : slice_get (map (λ e. e.1) es) c.args.story ≡ Some s = c.index_mut-entry.ensures.value in
    let items : items_at c.args.self.now c.args.story ≡ s.items = ap (λ l. items_at l c.args.story) (sym c.self.view_is) ∙ items_at-at (map (λ e. e.1) es) c.args.story s at in
    subst (λ l. AreDistinct (item_ids (remove l c.args.at ++ c.args.items.now))) items c.requires.distinct

pub invariant_of-self : goal.invariant_of-self
invariant_of-self c =
    let es = c.self.inside.table.entries in
    let s = c.index_mut-entry.result.now in
    let at : slice_get (map (λ e. e.1) es) c.args.story ≡ Some s = c.index_mut-entry.ensures.value in
    keyed_written (λ k. k.items) es c.args.story s c.replace_item.new.self at c.replace_item.ensures.same_story c.self.invariant

pub returns-clause-ok : goal.returns-clause-ok
returns-clause-ok c =
    let es = c.self.inside.table.entries in
    let s = c.index_mut-entry.result.now in
    let at : slice_get (map (λ e. e.1) es) c.args.story ≡ Some s = c.index_mut-entry.ensures.value in
    OnOk-map c.replace_item.result (λ done. values-written es c.args.story s c.replace_item.new.self (λ old. put_over old c.args.at (c.args.items.now)) at done ∙ ap (λ l. edit_items l c.args.story (λ old. put_over old c.args.at (c.args.items.now))) c.self.view_is) c.replace_item.ensures.ok

pub returns-clause-err : goal.returns-clause-err
returns-clause-err c =
    let es = c.self.inside.table.entries in
    let s = c.index_mut-entry.result.now in
    let at : slice_get (map (λ e. e.1) es) c.args.story ≡ Some s = c.index_mut-entry.ensures.value in
    OnErr-map c.replace_item.result (λ kept. values-rewritten es c.args.story s c.replace_item.new.self at kept ∙ c.self.view_is) c.replace_item.ensures.err
