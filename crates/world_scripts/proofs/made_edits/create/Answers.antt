use Rattle.std.proofs.Common.{List, subst, sym}
use Rattle.mos_values.specs.Distinct.{AreDistinct, story_ids}
use Rattle.mos_values.specs.StoryValue.{Story}
use Rattle.world_scripts.specs.Made.{made_story}
use Rattle.world_scripts.proofs.MadeLemmas.{distinct_one}
use Rattle.world_scripts.proofs.made_edits.create.Goals as goal

pub order_with-requires : goal.order_with-requires
order_with-requires c = subst (λ (stories : List Story). AreDistinct (story_ids stories)) (sym c.in_ok-stories.ensures) (distinct_one (made_story c.args.s))
