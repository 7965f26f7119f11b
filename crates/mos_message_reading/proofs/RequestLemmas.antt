-- Nothing stands in a record without fields.
use Rattle.std.proofs.Common.{◌≡◌, List, []}
use Rattle.mos_fields.specs.Characters.{Text}
use Rattle.mos_tables.specs.declared.table.Table.TheVariants as tables
use Rattle.mos_tables.specs.Events.{Event}
use Rattle.mos_grammar.specs.Records.{arranged}
use Rattle.mos_cursor.specs.Accepted.{IsAccepted}

pub none_inside : (taken : List Text) (es : List Event) → IsAccepted tables.NoFields taken es → es ≡ []
unfolding arranged
none_inside taken es a = a.value
