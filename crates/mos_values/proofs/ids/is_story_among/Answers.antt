use Rattle.mos_values.proofs.Members.{none_at_first, none_more, not_among, is_among, differs, is_so}
use Rattle.mos_values.proofs.ids.is_story_among.Goals as goal

pub loop-story-init : goal.loop-story-init
loop-story-init c = none_at_first c.args.id.now

pub loop-story-preserved : goal.loop-story-preserved
loop-story-preserved c = none_more (λ s. s.id) c.args.stories.now c.loop-story.story-index c.story-item.result c.args.id.now c.loop-story-test.true c.story-item.is c.loop-story.invariant (differs _ _ c.if-has_id.false c.has_id.ensures)

pub returns : goal.returns
returns c = not_among (λ s. s.id) c.args.stories.now c.loop-story.story-index c.args.id.now c.loop-story-test.false c.loop-story.invariant

pub returns-then-has_id : goal.returns-then-has_id
returns-then-has_id c = is_among (λ s. s.id) c.args.stories.now c.loop-story.story-index c.story-item.result c.args.id.now c.loop-story-test.true c.story-item.is (is_so _ _ c.if-has_id.true c.has_id.ensures)
