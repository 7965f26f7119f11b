use Rattle.std.proofs.Common.{◌≡◌, List, refl, sym, ap, subst, ◌∙◌}
use Rattle.std.specs.List.{Contains}
use Rattle.mos_values.specs.StoryValue.{Story}
use Rattle.mos_values.specs.Distinct.{story_ids}
use Rattle.mos_values.proofs.Members.{distinct_push, differs, is_so}
use Rattle.mos_values.proofs.order_body.OrderBody.push_story.Goals as goal

pub invariant_of-self-2 : goal.invariant_of-self-2
invariant_of-self-2 c =
    distinct_push (λ s. s.id) c.self.inside.stories c.push.new.self c.args.s c.self.invariant
    (λ p. differs _ _ c.if-repeats_story.false c.repeats_story.ensures (subst (λ (xs : List Story). Contains (story_ids xs) c.args.s.id) (sym c.as_slice.ensures) p))
    c.in_ok-push.ensures.ok

pub returns-then-repeats_story-clause-repeat : goal.returns-then-repeats_story-clause-repeat
returns-then-repeats_story-clause-repeat c =
    let same : c.as_slice.result.now ≡ c.args.self.now.stories = c.as_slice.ensures ∙ ap (λ v. v.stories) c.self.view_is in
    (λ e. subst (λ (xs : List Story). Contains (story_ids xs) c.args.s.id) same (is_so _ _ c.if-repeats_story.true c.repeats_story.ensures), λ p. refl)
