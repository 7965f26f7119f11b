use Rattle.std.proofs.Common.{◌≤◌, ◌++◌, List, length, take, drop, sym, ap, subst, ◌∙◌, arith}
use Rattle.std.proofs.lemmas.List.{length-map}
use Rattle.std.proofs.lemmas.List.Sorted.{length_permutation}
use Rattle.mos_edits.specs.KeyedLists.{without}
use Rattle.mos_edits.specs.Orders.{Story, shape}
use Rattle.mos_values.specs.Distinct.{story_ids}
use Rattle.element_action.specs.Targets.{gathered}
use Rattle.element_action.proofs.GatherLemmas.{sources_distinct, gathered_ids, gathered_permutes}
use Rattle.element_action.proofs.story_moves.gather_stories.Goals as goal

pub gather-requires-clause-within : goal.gather-requires-clause-within
gather-requires-clause-within c =
    let ss = c.args.order.now.stories in
    let same = c.as_slice-there.ensures ∙ c.in_ok-ids.ensures in
    subst (λ (l : List _). c.args.at ≤ length l) (sym same) (subst (λ n. c.args.at ≤ n) (sym (length-map ss (λ (s : Story). s.id))) c.requires.within)

pub gather-requires-clause-distinct : goal.gather-requires-clause-distinct
gather-requires-clause-distinct c = sources_distinct (story_ids c.args.order.now.stories) c.args.sources.now c.requires.there

pub arrange-requires : goal.arrange-requires
arrange-requires c =
    let ss = c.args.order.now.stories in
    let sources = c.args.sources.now in
    let same = c.as_slice-there.ensures ∙ c.in_ok-ids.ensures in
    let ids = c.as_slice-wanted.ensures ∙ c.in_ok-list.ensures ∙ ap (λ l. without (λ x. x) sources (take c.args.at l) ++ (sources ++ without (λ x. x) sources (drop c.args.at l))) same ∙ sym (gathered_ids shape.story_id c.args.at sources ss c.requires.there) in
    let all = gathered shape.story_id c.args.at sources ss in
    let one = ap length ids in
    let two = length-map all shape.story_id in
    let three = length_permutation ss all (gathered_permutes shape.story_id c.args.at sources ss c.requires.there c.has_distinct_stories.ensures) in
    omega (arith, one, two, three)

pub returns-clause-ok : goal.returns-clause-ok
returns-clause-ok c =
    let ss = c.args.order.now.stories in
    let sources = c.args.sources.now in
    let same = c.as_slice-there.ensures ∙ c.in_ok-ids.ensures in
    let ids = c.as_slice-wanted.ensures ∙ c.in_ok-list.ensures ∙ ap (λ l. without (λ x. x) sources (take c.args.at l) ++ (sources ++ without (λ x. x) sources (drop c.args.at l))) same ∙ sym (gathered_ids shape.story_id c.args.at sources ss c.requires.there) in
    let all = gathered shape.story_id c.args.at sources ss in
    c.arrange.ensures all (gathered_permutes shape.story_id c.args.at sources ss c.requires.there c.has_distinct_stories.ensures) (sym ids)
