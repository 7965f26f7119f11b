-- Stories, as contracts see them.
use Rattle.std.specs.Prelude.{List, Option}
use Rattle.mos_fields.specs.Characters.{Text}
use Rattle.mos_values.specs.declared.item.Item.{Item}

-- a story: its ID, its fields that may be absent, its raw elements, its items
pub record Story : Type 0 where
  pub id : Text
  pub slug : Option Text
  pub num : Option Text
  pub metadata : List Text
  pub others : List Text
  pub items : List Item
