-- What each column of a table adds to a record's value: its part.
use Rattle.std.specs.Prelude.{cond, List, [], ◌∷◌, ◌++◌, map}
use Rattle.std.specs.List.{flat_map}
use Rattle.mos_fields.specs.Characters.{Text}
use Rattle.mos_fields.specs.Fields.{name_of, same_field}
use Rattle.mos_fields.specs.declared.field.Field.{Field}
use Rattle.mos_fields.specs.declared.field.Field.TheVariants as fields
use Rattle.mos_tables.specs.declared.column.Column.{Column}
use Rattle.mos_tables.specs.Events.{Attribute, Event, leaf, raw, opens, closes}
use Rattle.mos_tables.specs.Tables.{raw_list}

-- a text of a field, with the attributes that its table names
pub record LeafPart : Type 0 where
  pub given : List Attribute
  pub text : Text

-- a record inside, with the attributes that its table names, and the events between its start and its end
pub record RecordPart : Type 0 where
  pub given : List Attribute
  pub inner : List Event

-- Nothing; a text, or several; a raw element, or several; a record, or several; a message's element.
pub data Part : Type 0 where
  absent : Part
  one_leaf : LeafPart → Part
  leaves : List LeafPart → Part
  one_raw : Text → Part
  raws : List Text → Part
  one_record : RecordPart → Part
  records : List RecordPart → Part
  message : Text → RecordPart → Part

abbrev pub leaf_event : Text → LeafPart → Event
leaf_event n p = leaf n p.given p.text

-- an element with what stands in it
abbrev pub record_events : Text → RecordPart → List Event
record_events n p = opens n p.given ∷ (p.inner ++ closes n ∷ [])

-- the events that the part of a field is
abbrev pub part_events : Field → Part → List Event
part_events f absent = []
part_events f (one_leaf p) = leaf_event (name_of f) p ∷ []
part_events f (leaves ps) = map (leaf_event (name_of f)) ps
part_events f (one_raw x) = raw f x ∷ []
part_events f (raws xs) = map (raw f) xs
part_events f (one_record p) = record_events (name_of f) p
part_events f (records ps) = flat_map (record_events (name_of f)) ps
part_events f (message n p) = record_events n p

-- the parts of columns, one behind another
abbrev pub parts_events : List Column → List Part → List Event
parts_events [] ps = []
parts_events (c ∷ cs) [] = []
parts_events (c ∷ cs) (p ∷ ps) = part_events c.field p ++ parts_events cs ps

-- the elements that a table does not name, as a column
abbrev pub kept_column : Column
kept_column = raw_list fields.Kept

-- the columns, and the elements that a table does not name behind mosExternalMetadata
abbrev pub places : List Column → List Column
places [] = []
places (c ∷ cs) = cond (same_field c.field fields.Metadata) (c ∷ kept_column ∷ places cs) (c ∷ places cs)
