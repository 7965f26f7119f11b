use Rattle.std.proofs.Common.{◌≡◌, get_or, ap, sym, ◌∙◌}
use Rattle.mos_values.specs.Units.{capped}
use Rattle.running_order.specs.Sizes.{item_size}
use Rattle.running_order.proofs.SizeLemmas.{size_at-or, item_size-is}
use Rattle.running_order.proofs.story_entry.StoryEntry.item_units.Goals as goal

pub returns : goal.returns
returns c =
    let x = c.index-as_slice-at.result in
    let items : c.as_slice.result.now ≡ c.args.self.now.items = c.as_slice.ensures ∙ ap (λ i. i.story.items) c.self-inside.view_is ∙ ap (λ s. s.items) c.self.view_is in
    let at = size_at-or item_size c.args.self.now.items c.args.at x c.requires (c.index-as_slice-at.is ∙ ap (λ l. get_or l c.args.at x) items) in
    c.item_units.ensures ∙ ap capped (item_size-is x ∙ sym at)
