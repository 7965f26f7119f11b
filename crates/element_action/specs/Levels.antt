-- The list that an action edits: the stories of an order, or the items of one of its stories.
use Rattle.std.specs.Prelude.{List, [], ◌∷◌, Option, Some, None, if◌then◌else◌}
use Rattle.mos_edits.specs.Texts.{Text, same_id}
use Rattle.mos_edits.specs.KeyedLists.{ActFault, find, without, lacking}
use Rattle.mos_edits.specs.Orders.{Item, Story, shape}
use Rattle.mos_values.specs.Distinct.{story_ids, item_ids}
use Rattle.element_action.specs.declared.level.Level.{Level}
use Rattle.element_action.specs.declared.level.Level.TheVariants.{Stories, Items}

-- the items of a story that was looked for
abbrev pub items_of : Option Story → List Item
items_of None = []
items_of (Some s) = s.items

-- the identifiers of the list
abbrev pub level_ids : Level → List Story → List Text
level_ids Stories stories = story_ids stories
level_ids (Items story) stories = item_ids (items_of (find shape.story_id story.now stories))

-- the story whose items are edited has to be there
abbrev pub level_fault : Level → List Story → Option ActFault
level_fault Stories stories = None
level_fault (Items story) stories = lacking (story_ids stories) story.now

-- the stories with that edit of the items of the story that has that identifier
abbrev pub edit_story : Text → (List Item → List Item) → List Story → List Story
edit_story story edit [] = []
edit_story story edit (s ∷ ss) = if same_id story s.id then record s { items = edit s.items } ∷ ss else s ∷ edit_story story edit ss

-- the identifiers without one, where one is given
abbrev pub beside : Option Text → List Text → List Text
beside None ids = ids
beside (Some id) ids = without (λ x. x) (id ∷ []) ids
