-- The sizes of stories and of items: the code units of their elements in the canonical encoding.
use Rattle.std.specs.Prelude.{◌≡◌, ℕ, zero, suc, ◌+◌, ◌≤◌, List, [], ◌∷◌}
use Rattle.mos_fields.specs.Fields.{name_of}
use Rattle.mos_fields.specs.declared.field.Field.TheVariants as fields
use Rattle.mos_values.specs.Parts.{element}
use Rattle.mos_values.specs.StoryValue.{Story}
use Rattle.mos_values.specs.Units.{units_in}
use Rattle.mos_values.specs.Views.{item_events, stories_events, story_events}
use Rattle.mos_values.specs.declared.item.Item.{Item}

-- the size of an element `story`
unfoldable pub story_size : Story → ℕ
story_size s = units_in (element (name_of fields.StoryTag) (story_events s))

-- the size of an element `item`
unfoldable pub item_size : Item → ℕ
item_size i = units_in (element (name_of fields.ItemTag) (item_events i))

-- the size of what stands at a place, 0 where nothing does
abbrev pub size_at : {X : Type 0} → (X → ℕ) → List X → ℕ → ℕ
size_at size [] i = 0
size_at size (x ∷ xs) zero = size x
size_at size (x ∷ xs) (suc i) = size_at size xs i

-- the size of all elements `story`
abbrev pub stories_size : List Story → ℕ
stories_size ss = units_in (stories_events ss)

-- the sizes `gone` of what an edit took out of the stories, and `come` of what it put in
abbrev pub IsEdited : List Story → List Story → ℕ → ℕ → Type 0
IsEdited before after gone come = (gone ≤ stories_size before) × (stories_size after + gone ≡ stories_size before + come)
