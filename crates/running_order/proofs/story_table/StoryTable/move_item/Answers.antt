use Rattle.std.proofs.Common.{◌≡◌, ◌<◌, map, ap, sym, subst, ◌∙◌, length, slice_get, Some}
use Rattle.indexmap.specs.IndexMap.{move_index}
use Rattle.mos_values.specs.StoryValue.{Story}
use Rattle.running_order.specs.Places.{items_at, edit_items}
use Rattle.running_order.proofs.Entries.{items_at-at, values-written, keyed_written}
use Rattle.running_order.proofs.story_table.StoryTable.move_item.Goals as goal

pub move_item-requires-clause-from : goal.move_item-requires-clause-from
move_item-requires-clause-from c =
    let es = c.self.inside.table.entries in
    let s = c.index_mut-entry.result.now in
    let at : slice_get (map (λ e. e.1) es) c.args.story ≡ Some s = c.index_mut-entry.ensures.value in
    let items : items_at c.args.self.now c.args.story ≡ s.items = ap (λ l. items_at l c.args.story) (sym c.self.view_is) ∙ items_at-at (map (λ e. e.1) es) c.args.story s at in
    subst (λ l. c.args.from < length l) items c.requires.from

pub move_item-requires-clause-to : goal.move_item-requires-clause-to
move_item-requires-clause-to c =
    let es = c.self.inside.table.entries in
    let s = c.index_mut-entry.result.now in
    let at : slice_get (map (λ e. e.1) es) c.args.story ≡ Some s = c.index_mut-entry.ensures.value in
    let items : items_at c.args.self.now c.args.story ≡ s.items = ap (λ l. items_at l c.args.story) (sym c.self.view_is) ∙ items_at-at (map (λ e. e.1) es) c.args.story s at in
    subst (λ l. c.args.to < length l) items c.requires.to

pub invariant_of-self : goal.invariant_of-self
invariant_of-self c =
    let es = c.self.inside.table.entries in
    let s = c.index_mut-entry.result.now in
    let at : slice_get (map (λ e. e.1) es) c.args.story ≡ Some s = c.index_mut-entry.ensures.value in
    keyed_written (λ k. k.items) es c.args.story s c.move_item.new.self at (ap (λ (x : Story). x.id) c.move_item.ensures) c.self.invariant

pub returns : goal.returns
returns c =
    let es = c.self.inside.table.entries in
    let s = c.index_mut-entry.result.now in
    let at : slice_get (map (λ e. e.1) es) c.args.story ≡ Some s = c.index_mut-entry.ensures.value in
    values-written es c.args.story s c.move_item.new.self (λ old. move_index old c.args.from c.args.to) at c.move_item.ensures ∙ ap (λ l. edit_items l c.args.story (λ old. move_index old c.args.from c.args.to)) c.self.view_is
