-- Lists of media objects, and the records that they are read from.
use Rattle.std.proofs.Common.{◌≡◌, List, [], map, refl}
use Rattle.std.specs.List.{AllByRecursion}
use Rattle.mos_fields.specs.Fields.{name_of}
use Rattle.mos_fields.specs.declared.field.Field.TheVariants as fields
use Rattle.mos_tables.specs.declared.table.Table.TheVariants as tables
use Rattle.mos_values.specs.Views.{mos_obj_events, objects_events}
use Rattle.mos_values.specs.declared.mos_obj.MosObj.{MosObj}
use Rattle.mos_cursor.specs.Accepted.{RecordsFit}
use Rattle.mos_cursor.specs.Parts.{records, part_events}
use Rattle.mos_cursor.specs.Slots.{record_of}
use Rattle.mos_cursor.specs.declared.slot.Nested.{Nested}
use Rattle.mos_cursor.specs.Inner.{inner_events, Holds}
use Rattle.mos_cursor.proofs.NestedRecords.{IsPlain, all_hold, all_elements}

plain_object : IsPlain tables.MosObj
plain_object = record { same_table = λ before. refl; no_attribute = λ g h. h }

pub objects_hold : (rs : List Nested) → RecordsFit tables.MosListAll tables.MosObj [] (map record_of rs) → AllByRecursion (Holds tables.MosObj) rs
objects_hold rs h = all_hold tables.MosListAll tables.MosObj [] rs plain_object h

pub objects_read : (rs : List Nested) (xs : List MosObj) → RecordsFit tables.MosListAll tables.MosObj [] (map record_of rs) → map mos_obj_events xs ≡ map inner_events rs
    → part_events fields.MosObjTag (records (map record_of rs)) ≡ objects_events xs
unfolding objects_events
objects_read rs xs h e = all_elements mos_obj_events (name_of fields.MosObjTag) tables.MosListAll tables.MosObj [] rs xs plain_object h e
