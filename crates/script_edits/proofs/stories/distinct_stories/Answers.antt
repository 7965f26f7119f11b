use Rattle.std.proofs.Common.{◌≡◌, List, sym, ap, ◌∙◌}
use Rattle.mos_values.specs.StoryValue.{Story}
use Rattle.mos_values.specs.Distinct.{story_ids}
use Rattle.script_edits.specs.Words.{are_distinct}
use Rattle.script_edits.proofs.DistinctLemmas.{distinct_from_test}
use Rattle.script_edits.proofs.stories.distinct_stories.Goals as goal

pub returns-then-have_distinct_ids-clause-distinct : goal.returns-then-have_distinct_ids-clause-distinct
returns-then-have_distinct_ids-clause-distinct c =
    let e : are_distinct (story_ids c.as_slice.result.now) ≡ are_distinct (story_ids c.in-Some.stories) = ap (λ (xs : List Story). are_distinct (story_ids xs)) c.as_slice.ensures in
    distinct_from_test (story_ids c.in-Some.stories) (sym e ∙ sym c.have_distinct_ids.ensures ∙ c.if-have_distinct_ids.true)
