use Rattle.std.proofs.Common.{[], sym}
use Rattle.mos_story_reading.proofs.Lists.{items_hold, items_read, items_distinct}
use Rattle.mos_story_reading.proofs.items.items_of.Goals as goal

pub read_items-requires : goal.read_items-requires
read_items-requires c = items_hold c.requires.0 [] _ c.requires.1

pub returns-clause-events : goal.returns-clause-events
returns-clause-events c = sym (items_read c.requires.0 [] _ _ c.requires.1 c.in_ok-items.ensures)

pub returns-clause-distinct : goal.returns-clause-distinct
returns-clause-distinct c = λ h. items_distinct _ _ h c.in_ok-items.ensures
