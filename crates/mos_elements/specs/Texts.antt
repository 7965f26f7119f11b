-- What the text of a field adds to the value.
use Rattle.std.specs.Prelude.{List, Option, Some, None}
use Rattle.mos_tables.specs.Events.{Event}
use Rattle.mos_elements.specs.declared.child.Part.{Part}
use Rattle.mos_elements.specs.Parts.{part_events}

-- what a child adds, if it is one
abbrev pub events_if : Option Part → Option (List Event)
events_if None = None
events_if (Some p) = Some (part_events p)
