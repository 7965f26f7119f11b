use Rattle.std.proofs.Common.{length}
use Rattle.mos_tables.specs.declared.table.Table.TheVariants as tables
use Rattle.mos_values.specs.Views.{story_events}
use Rattle.mos_cursor.specs.Inner.{inner_events, Holds}
use Rattle.mos_cursor.proofs.Read.{ReadSoFar}
use Rattle.mos_story_reading.proofs.stories.read_stories.Given as goal

abbrev pub invariant-next : goal.invariant-next
invariant-next l = ReadSoFar story_events inner_events (Holds tables.Story) l.fn.inner l.stories l.rest.items

abbrev pub decreases-next : goal.decreases-next
decreases-next l = length l.rest.items
