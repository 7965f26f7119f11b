use Rattle.ncs_core.proofs.ListSizes.{stories-more}
use Rattle.ncs_core.proofs.limits.order_has_small_numbers.Goals as goal

pub stories-preserved : goal.stories-preserved
stories-preserved c = λ m. c.stories.invariant (stories-more c.args.order.now.stories c.stories.place c.story_at.result.now c.story_at.ensures c.story_has_small_numbers.ensures m)
