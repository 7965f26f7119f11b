use Rattle.std.proofs.Common.{◌≡◌, ◌<◌, map, ap, sym, subst, ◌∙◌, length, remove, slice_get, Some}
use Rattle.mos_values.specs.StoryValue.{Story}
use Rattle.running_order.specs.Places.{items_at, edit_items}
use Rattle.running_order.proofs.Entries.{items_at-at, values-written, keyed_written}
use Rattle.running_order.proofs.story_table.StoryTable.remove_item.Goals as goal

pub remove_item-requires : goal.remove_item-requires
remove_item-requires c =
    let es = c.self.inside.table.entries in
    let s = c.index_mut-entry.result.now in
    let at : slice_get (map (λ e. e.1) es) c.args.story ≡ Some s = c.index_mut-entry.ensures.value in
    let items : items_at c.args.self.now c.args.story ≡ s.items = ap (λ l. items_at l c.args.story) (sym c.self.view_is) ∙ items_at-at (map (λ e. e.1) es) c.args.story s at in
    subst (λ l. c.args.at < length l) items c.requires.within

pub invariant_of-self : goal.invariant_of-self
invariant_of-self c =
    let es = c.self.inside.table.entries in
    let s = c.index_mut-entry.result.now in
    let at : slice_get (map (λ e. e.1) es) c.args.story ≡ Some s = c.index_mut-entry.ensures.value in
    keyed_written (λ k. k.items) es c.args.story s c.remove_item.new.self at (ap (λ (x : Story). x.id) c.remove_item.ensures) c.self.invariant

pub returns : goal.returns
returns c =
    let es = c.self.inside.table.entries in
    let s = c.index_mut-entry.result.now in
    let at : slice_get (map (λ e. e.1) es) c.args.story ≡ Some s = c.index_mut-entry.ensures.value in
    values-written es c.args.story s c.remove_item.new.self (λ old. remove old c.args.at) at c.remove_item.ensures ∙ ap (λ l. edit_items l c.args.story (λ old. remove old c.args.at)) c.self.view_is
