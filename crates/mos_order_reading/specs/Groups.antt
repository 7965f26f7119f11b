-- The events of a roAck: its own fields, and then those of each group, with no element round a group.
use Rattle.std.specs.Prelude.{◌≡◌, List, [], ◌++◌}
use Rattle.mos_tables.specs.declared.column.Column.{Column}
use Rattle.mos_tables.specs.declared.table.Table.TheVariants as tables
use Rattle.mos_tables.specs.Events.{Event}
use Rattle.mos_tables.specs.Tables.{group_columns}
use Rattle.mos_cursor.specs.Accepted.{AllFit}
use Rattle.mos_cursor.specs.Parts.{Part, parts_events}

-- groups: the parts of the columns of one, and then of further ones
pub data AreGroups : List Event → Type 0 where
  no_group : AreGroups []
  one_group : {es : List Event} (ps : List Part) → AllFit tables.RoAck group_columns ps → AreGroups es → AreGroups (parts_events group_columns ps ++ es)

-- the parts of these columns, and then groups
pub record IsAhead (cs : List Column) (es : List Event) : Type 0 where
  pub parts : List Part
  pub rest : List Event
  pub fit : AllFit tables.RoAck cs parts
  pub groups : AreGroups rest
  pub events : es ≡ parts_events cs parts ++ rest
