use Rattle.mos_values.specs.Sound.{IsSoundStory}
use Rattle.mos_soundness.proofs.Walks.{walk_starts, walk_goes_on, walk_stops, walk_ends}
use Rattle.mos_soundness.proofs.orders.are_sound_stories.Goals as goal

pub loop-story-init : goal.loop-story-init
loop-story-init c = walk_starts IsSoundStory c.args.stories.now

pub loop-story-preserved : goal.loop-story-preserved
loop-story-preserved c = walk_goes_on IsSoundStory c.args.stories.now c.loop-story.story-index c.story-item.result c.is_sound_story.result c.loop-story-test.true c.story-item.is c.if-not-is_sound_story.false c.is_sound_story.ensures c.loop-story.invariant

pub returns-then-not-is_sound_story : goal.returns-then-not-is_sound_story
returns-then-not-is_sound_story c = walk_stops IsSoundStory c.args.stories.now c.loop-story.story-index c.story-item.result c.is_sound_story.result c.loop-story-test.true c.story-item.is c.if-not-is_sound_story.true c.is_sound_story.ensures c.loop-story.invariant

pub returns : goal.returns
returns c = walk_ends IsSoundStory c.args.stories.now c.loop-story.story-index c.loop-story-test.false c.loop-story.invariant
