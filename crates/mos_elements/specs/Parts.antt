-- Children in memory, as the grammar's.
use Rattle.std.specs.Prelude.{Bool, true, false, cond, List, [], ◌∷◌, map, not, ◌&&◌, ◌||◌}
use Rattle.mos_tables.specs.Events.{Event}
use Rattle.std.specs.List.{flat_map}
use Rattle.mos_fields.specs.Characters.{Text}
use Rattle.mos_fields.specs.Fields.{same_field}
use Rattle.mos_fields.specs.declared.field.Field.{Field}
use Rattle.mos_fields.specs.declared.field.Field.TheVariants as fields
use Rattle.mos_tables.specs.declared.column.Column.{Column}
use Rattle.mos_grammar.specs.Records.{Child as ChildOf, key_of, column_events}
use Rattle.mos_events.specs.EventView.{event_of, events_of}
use Rattle.mos_elements.specs.declared.child.Part.{Part}
use Rattle.mos_elements.specs.declared.child.Part.TheVariants.{Nothing, Single, Several}
use Rattle.mos_elements.specs.declared.child.Child.{Child}

-- what a child adds to the value
abbrev pub part_events : Part → List Event
part_events Nothing = []
part_events (Single e) = event_of e ∷ []
part_events (Several es) = events_of es.items

abbrev pub child_of : Child → ChildOf
child_of c = (c.field, part_events c.part)

abbrev pub children_of : List Child → List ChildOf
children_of cs = map child_of cs

-- the keys of children
abbrev pub keys_in : List ChildOf → List Text
keys_in cs = flat_map (λ (c : ChildOf). key_of c.1) cs

-- what the children add by columns
abbrev pub in_columns : List Column → List ChildOf → List Event
in_columns cs children = flat_map (λ (c : Column). column_events c.field children) cs

abbrev pub has_field : List Column → Field → Bool
has_field [] f = false
has_field (c ∷ cs) f = same_field c.field f || has_field cs f

-- the fields of columns are apart, and none is that of other elements
abbrev pub are_apart : List Column → Bool
are_apart [] = true
are_apart (c ∷ cs) = not (has_field cs c.field) && not (same_field c.field fields.Kept) && are_apart cs

-- what stands behind the children in front that are of a field
abbrev pub behind : Field → List ChildOf → List ChildOf
behind f [] = []
behind f (c ∷ cs) = cond (same_field f c.0) (behind f cs) (c ∷ cs)

abbrev pub are_none : List ChildOf → Bool
are_none [] = true
are_none (c ∷ cs) = false

-- the children stand in the order of these columns, and each is of one of them
abbrev pub in_order : List Column → List ChildOf → Bool
in_order [] xs = are_none xs
in_order (c ∷ cs) xs = in_order cs (behind c.field xs)
