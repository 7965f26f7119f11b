-- The places of a header.
use Rattle.std.specs.Prelude.{List, ◌∷◌}
use Rattle.mos_fields.specs.declared.field.Field.TheVariants as fields
use Rattle.mos_fields.specs.declared.form.Form.TheVariants as forms
use Rattle.mos_tables.specs.declared.column.Column.{Column}
use Rattle.mos_tables.specs.Tables.{required, header_columns}
use Rattle.mos_cursor.specs.Parts.{places}

-- those of a body before its stories
abbrev pub header_places : List Column
header_places = places (required fields.RoID forms.Id ∷ required fields.RoSlug forms.Slug ∷ header_columns)
