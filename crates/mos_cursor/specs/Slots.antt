-- Parts in memory.
use Rattle.std.specs.Prelude.{List, map, Option, Some, None}
use Rattle.mos_tables.specs.declared.column.Column.{Column}
use Rattle.mos_tables.specs.Events.{Event}
use Rattle.mos_cursor.specs.Taking.{TakesAll}
use Rattle.mos_events.specs.EventView.{attributes_of, element_text}
use Rattle.mos_cursor.specs.Parts.{LeafPart, RecordPart, Part, absent, one_leaf, leaves, one_raw, raws, one_record, records, message, places}
use Rattle.mos_cursor.specs.declared.slot.LeafText.{LeafText}
use Rattle.mos_cursor.specs.declared.slot.Nested.{Nested}
use Rattle.mos_cursor.specs.declared.slot.Slot.{Slot}
use Rattle.mos_cursor.specs.declared.slot.Slot.TheVariants as slots

abbrev pub leaf_of : LeafText → LeafPart
leaf_of l = record { given = attributes_of l.attribute; text = l.text }

abbrev pub record_of : Nested → RecordPart
record_of r = record { given = attributes_of r.attribute; inner = r.inner }

abbrev pub part_of : Slot → Part
part_of slots.Absent = absent
part_of (slots.Leaf l) = one_leaf (leaf_of l)
part_of (slots.Leaves ls) = leaves (map leaf_of ls)
part_of (slots.Raw x) = one_raw x
part_of (slots.Raws xs) = raws xs
part_of (slots.Record r) = one_record (record_of r)
part_of (slots.Records rs) = records (map record_of rs)
part_of (slots.Message n r) = message (element_text n) (record_of r)

abbrev pub parts_of : List Slot → List Part
parts_of ss = map part_of ss

-- a record, if there is one
abbrev pub nested_part : Option Nested → Part
nested_part None = absent
nested_part (Some r) = one_record (record_of r)

-- These slots are the parts of the columns.
pub record Filled (cs : List Column) (old : List Event) (slots : List Slot) (new : List Event) : Type 0 where
  pub taken : TakesAll (places cs) old (parts_of slots) new
