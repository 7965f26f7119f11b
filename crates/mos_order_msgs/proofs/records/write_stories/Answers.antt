use Rattle.mos_order_msgs.proofs.Lists.{stories_start, stories_step}
use Rattle.mos_order_msgs.proofs.records.write_stories.Goals as goal

pub loop-story-init : goal.loop-story-init
loop-story-init c = stories_start c.args.out.now.items

pub loop-story-preserved : goal.loop-story-preserved
loop-story-preserved c = stories_step c.args.stories.now c.loop-story.story-index c.story-item.result c.args.out.now.items c.loop-story.out.items c.write_story.new.out.items c.loop-story-test.true c.story-item.is c.loop-story.invariant c.in_ok-write_story.ensures
