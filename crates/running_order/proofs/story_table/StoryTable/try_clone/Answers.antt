use Rattle.std.proofs.Common.{◌≡◌, suc, ◌+◌, [], ◌∷◌, ◌++◌, take, ap, sym, subst, ◌∙◌, arith}
use Rattle.std.proofs.lemmas.List.{map-append}
use Rattle.indexmap.specs.IndexMap.{values}
use Rattle.mos_values.specs.Distinct.{AreDistinct, story_ids}
use Rattle.running_order.proofs.Ids.{distinct_stories_more}
use Rattle.running_order.proofs.Lists.{taken_next}
use Rattle.running_order.proofs.story_table.StoryTable.try_clone.Goals as goal

pub push_copy-requires : goal.push_copy-requires
push_copy-requires c =
    let all = values c.self.inside.table in
    let k = c.loop-i.i in
    let x = c.index.result.now in
    let clone = c.story.result.now in
    let copied : clone ≡ x = c.story.ensures in
    let next : suc k ≡ k + 1 = omega arith in
    let more : take (k + 1) all ≡ take k all ++ x ∷ [] = ap (λ n. take n all) (sym next) ∙ taken_next all k x c.index.ensures in
    let seen : story_ids (take (k + 1) all) ≡ story_ids c.loop-i.copy ++ clone.id ∷ [] =
    ap story_ids more ∙ map-append (λ s. s.id) (take k all) (x ∷ []) ∙ (λ j. story_ids (sym c.loop-i.invariant j) ++ (sym copied j).id ∷ []) in
    subst AreDistinct seen (distinct_stories_more all (k + 1) (subst (λ ss. AreDistinct (story_ids ss)) (sym c.self.view_is) c.has_distinct_ids.ensures))

pub loop-i-preserved : goal.loop-i-preserved
loop-i-preserved c =
    let all = values c.self.inside.table in
    let copied : c.story.result.now ≡ c.index.result.now = c.story.ensures in
    let next : suc c.loop-i.i ≡ c.loop-i.i + 1 = omega arith in
    c.in_ok-push_copy.ensures ∙ (λ j. c.loop-i.invariant j ++ copied j ∷ [])
    ∙ sym (taken_next all c.loop-i.i c.index.result.now c.index.ensures) ∙ ap (λ k. take k all) next
