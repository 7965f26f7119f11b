-- Open records, each without the keys that its own key may not be: those are the keys of the record around it.
use Rattle.std.specs.Prelude.{ℕ, cond, List, [], ◌∷◌, ◌++◌}
use Rattle.mos_fields.specs.Characters.{Text}
use Rattle.mos_fields.specs.declared.field.Field.{Field}
use Rattle.mos_tables.specs.declared.column.Column.{Column}
use Rattle.mos_tables.specs.declared.table.Table.{Table}
use Rattle.mos_tables.specs.Events.{Attribute, Event}
use Rattle.mos_grammar.specs.Records.{Child, is_named, keys, seen_of, nested}
use Rattle.mos_grammar.specs.RecordMachine.{Frame}

pub record Opened : Type 0 where
  pub table : Table
  pub name : Text
  pub place : Field
  pub given : List Attribute
  pub before : List Child

-- the record behind one more child
abbrev pub added : Opened → Child → Opened
added o c = record { table = o.table; name = o.name; place = o.place; given = o.given; before = o.before ++ c ∷ [] }

-- the value of the record
abbrev pub closed : Opened → List Event
closed o = nested o.name o.given o.table o.before

-- the keys that the key of a record inside may not be
abbrev pub keys_of : Opened → List Text
keys_of o = keys o.table o.before

-- the fields that count as seen
abbrev pub seen_in : Opened → List Field
seen_in o = seen_of o.table o.before

-- the keys that a record inside these may not have, the innermost of which comes first
abbrev pub keys_beside : List Opened → List Text
keys_beside [] = []
keys_beside (o ∷ os) = keys_of o

abbrev pub frame_in : Opened → List Opened → Frame
frame_in o os = record { table = o.table; name = o.name; place = o.place; given = o.given; taken = keys_beside os; before = o.before }

abbrev pub frames_in : List Opened → List Frame
frames_in [] = []
frames_in (o ∷ os) = frame_in o os ∷ frames_in os

-- how often the field of the column with this name was seen, by the counts of all columns
abbrev pub times_by : List Column → List ℕ → Text → ℕ
times_by [] ks n = 0
times_by (c ∷ cs) [] n = 0
times_by (c ∷ cs) (k ∷ ks) n = cond (is_named c n) k (times_by cs ks n)
