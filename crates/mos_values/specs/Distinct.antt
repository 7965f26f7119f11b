-- The IDs of stories and of items, none of which stands twice in its list.
use Rattle.std.specs.Prelude.{ℕ, List, map, AllPairs, ◌≢◌}
use Rattle.mos_fields.specs.Characters.{Text}
use Rattle.mos_values.specs.declared.item.Item.{Item}
use Rattle.mos_values.specs.StoryValue.{Story}

-- no two places have the same ID
abbrev pub AreDistinct : List Text → Type 0
AreDistinct ids = AllPairs (λ x y. x ≢ y) ids

-- the itemIDs, in order
abbrev pub item_ids : List Item → List Text
item_ids items = map (λ (i : Item). i.id) items

-- the storyIDs, in order
abbrev pub story_ids : List Story → List Text
story_ids stories = map (λ (s : Story). s.id) stories
