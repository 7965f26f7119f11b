-- Records that stand in another one after another.
use Rattle.std.specs.Prelude.{List}
use Rattle.mos_fields.specs.Characters.{Text}
use Rattle.mos_tables.specs.declared.table.Table.{Table}
use Rattle.mos_tables.specs.Events.{Event}
use Rattle.mos_cursor.specs.Accepted.{IsAccepted}
use Rattle.mos_cursor.specs.declared.slot.Nested.{Nested}

-- the events between its start and its end
abbrev pub inner_events : Nested → List Event
inner_events r = r.inner

-- they are those of a record of the table
abbrev pub Holds : Table → Nested → Type 0
Holds t r = (taken : List Text) × IsAccepted t taken r.inner
