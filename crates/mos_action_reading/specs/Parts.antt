-- The parts of an action in memory: its order, its target and its source.
use Rattle.std.specs.Prelude.{List, [], Option, Some, None, ◌≡◌}
use Rattle.mos_fields.specs.Characters.{Text}
use Rattle.mos_fields.specs.Fields.{name_of}
use Rattle.mos_fields.specs.declared.field.Field.TheVariants as fields
use Rattle.mos_fields.specs.declared.operation.Operation.{Operation}
use Rattle.mos_fields.specs.declared.operation.Operation.TheVariants.{Delete, Swap}
use Rattle.mos_tables.specs.declared.aim.Aim.{Aim}
use Rattle.mos_tables.specs.declared.aim.Aim.TheVariants.{Nowhere}
use Rattle.mos_tables.specs.declared.column.Column.{Column}
use Rattle.mos_tables.specs.declared.column.Often.TheVariants.{Many}
use Rattle.mos_tables.specs.declared.column.Shape.TheVariants.{Record}
use Rattle.mos_tables.specs.declared.table.Table.TheVariants as tables
use Rattle.mos_tables.specs.Tables.{column}
use Rattle.mos_tables.specs.Events.{Event}
use Rattle.mos_values.specs.Parts.{element}
use Rattle.mos_cursor.specs.Accepted.{IsAccepted}
use Rattle.mos_cursor.specs.Parts.{Part, absent, one_record}
use Rattle.mos_action_reading.specs.Aims.{aim_inside}

-- a record whose start has no attributes, with the events inside
abbrev pub plain_record : List Event → Part
plain_record es = one_record (record { given = []; inner = es })

abbrev pub maybe_record : Option (List Event) → Part
maybe_record None = absent
maybe_record (Some es) = plain_record es

-- such a record, which may be absent
abbrev pub IsPlainRecord : Part → Type 0
IsPlainRecord (one_record p) = p.given ≡ []
IsPlainRecord p = ⊥

abbrev pub IsOptionalRecord : Part → Type 0
IsOptionalRecord absent = Unit {0}
IsOptionalRecord (one_record p) = p.given ≡ []
IsOptionalRecord p = ⊥

-- whole stories or items, as a source holds them
abbrev pub whole_stories : Column
whole_stories = column fields.StoryTag (Record tables.Story) Many

abbrev pub whole_items : Column
whole_items = column fields.ItemTag (Record tables.Item) Many

-- what the events inside an element_target aim at, if there is one
abbrev pub aim_at : Option (List Event) → Aim
aim_at None = Nowhere
aim_at (Some es) = aim_inside es

-- the events of an element_target with these inside, if there is one
abbrev pub target_events : Option (List Event) → List Event
target_events None = []
target_events (Some es) = element (name_of fields.ElementTarget) es

-- Only DELETE and SWAP can do without a target; where there is one, its table accepts what stands inside.
abbrev pub IsTargetOf : Operation → Option (List Event) → Type 0
IsTargetOf o (Some es) = (taken : List Text) × IsAccepted (tables.Target o) taken es
IsTargetOf Delete None = Unit {0}
IsTargetOf Swap None = Unit {0}
IsTargetOf o None = ⊥

-- The source holds what the operation and the target ask for.
abbrev pub IsSourceOf : Operation → Option (List Event) → List Event → Type 0
IsSourceOf o target es = (taken : List Text) × IsAccepted (tables.Source o (aim_at target)) taken es
