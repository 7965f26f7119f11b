-- The code units of objects in their canonical encoding, and how many a table may have.
use Rattle.std.specs.Prelude.{ℕ, List, codes}
use Rattle.mos_fields.specs.Fields.{name_of}
use Rattle.mos_fields.specs.declared.field.Field.TheVariants as fields
use Rattle.mos_values.specs.Parts.{element}
use Rattle.mos_values.specs.Units.{units_in}
use Rattle.mos_values.specs.Views.{mos_obj_events, objects_events}
use Rattle.mos_values.specs.declared.mos_obj.MosObj.{MosObj}

-- the code units of an element `mosObj`
unfoldable pub object_size : MosObj → ℕ
object_size o = units_in (element (name_of fields.MosObjTag) (mos_obj_events o))

-- the code units of the element `mosListAll` of these objects
unfoldable pub list_size : List MosObj → ℕ
list_size xs = units_in (element (codes "mosListAll") (objects_events xs))

-- how many it has at most
abbrev pub size_limit : ℕ
size_limit = 8000000
