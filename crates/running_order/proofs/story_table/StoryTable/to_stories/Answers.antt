use Rattle.std.proofs.Common.{◌≡◌, suc, ◌+◌, [], ◌∷◌, ◌++◌, take, ap, sym, ◌∙◌, arith}
use Rattle.indexmap.specs.IndexMap.{values}
use Rattle.running_order.proofs.Lists.{taken_next}
use Rattle.running_order.proofs.story_table.StoryTable.to_stories.Goals as goal

pub loop-i-preserved : goal.loop-i-preserved
loop-i-preserved c =
    let all = values c.self.inside.table in
    let next : suc c.loop-i.i ≡ c.loop-i.i + 1 = omega arith in
    c.in_ok-add_copy.ensures ∙ (λ j. c.loop-i.invariant j ++ c.story.ensures j ∷ [])
    ∙ sym (taken_next all c.loop-i.i c.index.result.now c.index.ensures) ∙ ap (λ k. take k all) next
