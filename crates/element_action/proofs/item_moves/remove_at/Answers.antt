use Rattle.std.proofs.Common.{ap, ◌∙◌, length, arith}
use Rattle.mos_edits.specs.Orders.{Order, shape}
use Rattle.element_action.specs.Targets.{gathered}
use Rattle.element_action.proofs.ItemMoveLemmas.{edited_long, story_within, fewer_left, removed_once}
use Rattle.element_action.proofs.item_moves.remove_at.Goals as goal

pub item_count-end-requires : goal.item_count-end-requires
item_count-end-requires c = story_within c.args.story.now c.args.order.now.stories c.args.i c.requires.here

pub gather_items-requires-clause-within : goal.gather_items-requires-clause-within
gather_items-requires-clause-within c = omega (arith, c.item_count-end.ensures.count)

pub drop_last-requires-clause-story : goal.drop_last-requires-clause-story
drop_last-requires-clause-story c =
    let ss = c.args.order.now.stories in
    let lt = story_within c.args.story.now ss c.args.i c.requires.here in
    let long = ap length (ap (λ (o : Order). o.stories) c.in_ok-gather_items.ensures.ok) ∙ edited_long ss c.args.i (gathered shape.item_id c.item_count-end.result c.args.sources.now) in
    omega (arith, lt, long)

pub drop_last-requires-clause-within : goal.drop_last-requires-clause-within
drop_last-requires-clause-within c =
    let is = ap (λ (o : Order). o.stories) c.in_ok-gather_items.ensures.ok in
    fewer_left c.args.story.now c.args.order.now.stories c.args.i c.requires.here c.gather_items.new.order.stories c.item_count-end.result c.args.sources.now c.item_count-end.ensures.count c.requires.there is

pub returns-clause-ok : goal.returns-clause-ok
returns-clause-ok c =
    let is = ap (λ (o : Order). o.stories) c.in_ok-gather_items.ensures.ok in
    let left = ap (λ (o : Order). o.stories) c.drop_last.ensures
    ∙ removed_once c.args.story.now c.args.order.now.stories c.args.i c.requires.here c.gather_items.new.order.stories c.item_count-end.result c.args.sources.now c.item_count-end.ensures.count c.requires.there is in
    let head = ap (λ (o : Order). o.header) c.drop_last.ensures ∙ ap (λ (o : Order). o.header) c.in_ok-gather_items.ensures.ok in
    let rows = ap (λ (o : Order). o.scripts) c.drop_last.ensures ∙ ap (λ (o : Order). o.scripts) c.in_ok-gather_items.ensures.ok in
    λ j. record { header = head j; stories = left j; scripts = rows j }
