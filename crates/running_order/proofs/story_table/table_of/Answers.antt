use Rattle.std.proofs.Common.{◌≡◌, ◌+◌, ◌<◌, [], ◌∷◌, ◌++◌, length, take, get_or, subst, sym, ◌∙◌}
use Rattle.mos_values.specs.Distinct.{AreDistinct}
use Rattle.mos_values.specs.Distinct.{story_ids}
use Rattle.running_order.proofs.Ids.{story_ids_more, distinct_stories_more}
use Rattle.running_order.proofs.story_table.table_of.Goals as goal

pub push_copy-requires : goal.push_copy-requires
push_copy-requires c =
    let stories = c.args.stories.now in
    let k = c.loop-story.story-index in
    let x = c.story-item.result in
    let lt : k < length stories = subst (λ l. k < length l) c.as_slice-story-items.ensures c.loop-story-test.true in
    let at : x ≡ get_or stories k x = subst (λ l. x ≡ get_or l k x) c.as_slice-story-items.ensures c.story-item.is in
    let seen : story_ids ((take (k + 1) stories)) ≡ story_ids c.loop-story.table ++ x.id ∷ [] = sym (story_ids_more stories k x lt at) ∙ (λ j. story_ids (sym c.loop-story.invariant j) ++ x.id ∷ []) in
    subst AreDistinct seen (distinct_stories_more stories (k + 1) c.requires)
