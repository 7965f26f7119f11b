use Rattle.std.proofs.Common.{◌≤◌, ◌++◌, List, length, take, drop, sym, ap, subst, ◌∙◌, arith}
use Rattle.std.proofs.lemmas.List.{length-map}
use Rattle.std.proofs.lemmas.List.Sorted.{length_permutation}
use Rattle.mos_edits.specs.KeyedLists.{without}
use Rattle.mos_edits.specs.Orders.{Item, Story, shape}
use Rattle.mos_values.specs.Distinct.{item_ids}
use Rattle.running_order.specs.Places.{items_at}
use Rattle.element_action.specs.Targets.{gathered}
use Rattle.element_action.proofs.GatherLemmas.{sources_distinct, gathered_ids, gathered_permutes}
use Rattle.element_action.proofs.ItemMoveLemmas.{edited_same, story_within}
use Rattle.element_action.proofs.item_moves.gather_items.Goals as goal

pub item_count-count-requires : goal.item_count-count-requires
item_count-count-requires c = story_within c.args.story.now c.args.order.now.stories c.args.i c.requires.here

pub ids_of-requires : goal.ids_of-requires
ids_of-requires c = story_within c.args.story.now c.args.order.now.stories c.args.i c.requires.here

pub gather-requires-clause-within : goal.gather-requires-clause-within
gather-requires-clause-within c =
    let items = items_at c.args.order.now.stories c.args.i in
    let same = c.as_slice-there.ensures ∙ c.in_ok-ids.ensures in
    subst (λ (l : List _). c.args.at ≤ length l) (sym same) (subst (λ n. c.args.at ≤ n) (sym (length-map items (λ (x : Item). x.id))) c.requires.within)

pub gather-requires-clause-distinct : goal.gather-requires-clause-distinct
gather-requires-clause-distinct c = sources_distinct (item_ids (items_at c.args.order.now.stories c.args.i)) c.args.sources.now c.requires.there

pub arrange-requires-clause-within : goal.arrange-requires-clause-within
arrange-requires-clause-within c =
    let items = items_at c.args.order.now.stories c.args.i in
    let sources = c.args.sources.now in
    let same = c.as_slice-there.ensures ∙ c.in_ok-ids.ensures in
    let ids = c.as_slice-wanted.ensures ∙ c.in_ok-list.ensures ∙ ap (λ l. without (λ x. x) sources (take c.args.at l) ++ (sources ++ without (λ x. x) sources (drop c.args.at l))) same ∙ sym (gathered_ids shape.item_id c.args.at sources items c.requires.there) in
    let all = gathered shape.item_id c.args.at sources items in
    let one = ap length ids in
    let two = length-map all shape.item_id in
    let three = length_permutation items all (gathered_permutes shape.item_id c.args.at sources items c.requires.there c.item_count-count.ensures.distinct) in
    omega (arith, one, two, three)

pub returns-clause-ok : goal.returns-clause-ok
returns-clause-ok c =
    let items = items_at c.args.order.now.stories c.args.i in
    let sources = c.args.sources.now in
    let same = c.as_slice-there.ensures ∙ c.in_ok-ids.ensures in
    let ids = c.as_slice-wanted.ensures ∙ c.in_ok-list.ensures ∙ ap (λ l. without (λ x. x) sources (take c.args.at l) ++ (sources ++ without (λ x. x) sources (drop c.args.at l))) same ∙ sym (gathered_ids shape.item_id c.args.at sources items c.requires.there) in
    let all = gathered shape.item_id c.args.at sources items in
    c.arrange.ensures all (gathered_permutes shape.item_id c.args.at sources items c.requires.there c.item_count-count.ensures.distinct) (sym ids)
    ∙ ap (λ (l : List Story). record c.args.order.now { stories = l })
    (edited_same c.args.order.now.stories c.args.i (λ old. all) (gathered shape.item_id c.args.at sources) (λ j. all))
