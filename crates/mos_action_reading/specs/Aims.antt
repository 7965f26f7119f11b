-- What an element_target aims at, and what the element_source of an action holds.
use Rattle.std.specs.Prelude.{cond, List, [], ◌∷◌}
use Rattle.mos_fields.specs.Characters.{Text}
use Rattle.mos_fields.specs.declared.operation.Operation.{Operation}
use Rattle.mos_tables.specs.declared.table.Table.TheVariants as tables
use Rattle.mos_fields.specs.Fields.{name_of}
use Rattle.mos_fields.specs.declared.field.Field.TheVariants as fields
use Rattle.mos_tables.specs.declared.aim.Aim.{Aim}
use Rattle.mos_tables.specs.declared.aim.Aim.TheVariants.{Nowhere, AtStory, AtItem}
use Rattle.mos_tables.specs.Events.{Event}
use Rattle.mos_grammar.specs.Records.{has_leaf}
use Rattle.mos_cursor.specs.Accepted.{IsAccepted}
use Rattle.mos_cursor.specs.Parts.{RecordPart, Part, one_record}

-- a target with an itemID aims at an item, another one at a story
abbrev pub aim_inside : List Event → Aim
aim_inside es = cond (has_leaf (name_of fields.ItemID) es) AtItem AtStory

abbrev pub aim_of_part : Part → Aim
aim_of_part (one_record p) = aim_inside p.inner
aim_of_part p = Nowhere

-- the source that the operation and the aim ask for
pub record Held (o : Operation) (a : Aim) (p : RecordPart) : Type 0 where
  pub keys : List Text
  pub accepted : IsAccepted (tables.Source o a) keys p.inner

abbrev pub HeldBy : Operation → Aim → Part → Type 0
HeldBy o a (one_record p) = Held o a p
HeldBy o a p = ⊥

-- an order, a target and a source that fits it
abbrev pub IsAimed : Operation → List Part → Type 0
IsAimed o (ro ∷ t ∷ s ∷ []) = HeldBy o (aim_of_part t) s
IsAimed o ps = ⊥
