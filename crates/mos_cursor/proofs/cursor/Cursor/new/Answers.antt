use Rattle.std.proofs.Common.{reverse, ap, ◌∙◌}
use Rattle.mos_events.specs.EventView.{events_of}
use Rattle.mos_cursor.proofs.EventLists.{reversed_twice}
use Rattle.mos_cursor.proofs.cursor.Cursor.new.Goals as goal

-- the events reversed twice
pub returns : goal.returns
returns c = ap (λ xs. reverse (events_of xs)) c.reverse.ensures.items ∙ reversed_twice c.into_vec-rest.result.items ∙ c.into_vec-rest.ensures
