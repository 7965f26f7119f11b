use Rattle.std.proofs.Common.{[], sym}
use Rattle.mos_story_reading.proofs.Lists.{stories_hold, stories_read, stories_distinct}
use Rattle.mos_story_reading.proofs.stories.stories_of.Goals as goal

pub read_stories-requires : goal.read_stories-requires
read_stories-requires c = stories_hold c.requires.0 [] _ c.requires.1

pub returns-clause-events : goal.returns-clause-events
returns-clause-events c = sym (stories_read c.requires.0 [] _ _ c.requires.1 c.in_ok-stories.ensures)

pub returns-clause-distinct : goal.returns-clause-distinct
returns-clause-distinct c = λ h. stories_distinct _ _ h c.in_ok-stories.ensures
