use Rattle.std.proofs.Common.{sym, ap, ◌∙◌, option_and_then}
use Rattle.running_order.specs.Places.{place_of, items_at, item_place_of}
use Rattle.mos_values.specs.Distinct.{item_ids, story_ids}
use Rattle.running_order.proofs.Entries.{items_at-at}
use Rattle.running_order.proofs.order.Order.item_place.Goals as goal

pub returns : goal.returns
returns c =
    let stories = c.self.inside.stories in
    let items = items_at-at stories c.in_ok-i.i c.in_ok-entry.entry.now (sym c.in_ok-entry.ensures) in
    record {
      place = c.item_place.ensures.place
          ∙ (λ j. place_of (c.text-2.ensures.value j) (item_ids (sym items j)))
          ∙ ap (option_and_then (λ i. place_of c.args.item.now (item_ids (items_at stories i)))) (c.in_ok-i.ensures.place ∙ ap (λ t. place_of t (story_ids stories)) c.text.ensures.value)
          ∙ ap (λ l. item_place_of l c.args.story.now c.args.item.now) (ap (λ o. o.stories) c.self.view_is);
    }
