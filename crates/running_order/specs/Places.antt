-- Edits of a list by place, and places of identifiers.
use Rattle.std.specs.Prelude.{◌≡◌, ℕ, zero, suc, List, [], ◌∷◌, ◌++◌, Option, take, drop, map, position, option_and_then}
use Rattle.mos_fields.specs.Characters.{chars_of, units_of}
use Rattle.mos_values.specs.Distinct.{item_ids, story_ids}
use Rattle.mos_values.specs.StoryValue.{Story}
use Rattle.mos_values.specs.declared.item.Item.{Item}
use Rattle.mos_edits.specs.Texts.{Text, same_id}

-- the place of an identifier in a list of identifiers, from 0
abbrev pub place_of : Text → List Text → Option ℕ
place_of id ids = position (same_id id) ids

-- `new` before the place, which may be the end
abbrev pub put_in : {X : Type 0} → List X → ℕ → List X → List X
put_in xs at new = take at xs ++ (new ++ drop at xs)

-- `new` in place of the one that stands there
abbrev pub put_over : {X : Type 0} → List X → ℕ → List X → List X
put_over xs at new = take at xs ++ (new ++ drop (suc at) xs)

-- the keys of a table are the code units of texts
abbrev pub AreKeys : List (List ℕ) → Type 0
AreKeys keys = map (λ us. units_of (chars_of us)) keys ≡ keys

-- the items of the story at a place
abbrev pub items_at : List Story → ℕ → List Item
items_at [] i = []
items_at (s ∷ ss) zero = s.items
items_at (s ∷ ss) (suc i) = items_at ss i

-- the storyID of the story at a place, where one stands there
abbrev pub ids_at : List Story → ℕ → List Text
ids_at [] i = []
ids_at (s ∷ ss) zero = s.id ∷ []
ids_at (s ∷ ss) (suc i) = ids_at ss i

-- the stories with that edit of the items of the story at a place
abbrev pub edit_items : List Story → ℕ → (List Item → List Item) → List Story
edit_items [] i edit = []
edit_items (s ∷ ss) zero edit = record s { items = edit s.items } ∷ ss
edit_items (s ∷ ss) (suc i) edit = s ∷ edit_items ss i edit

-- the place of an item in the story that has that identifier
abbrev pub item_place_of : List Story → Text → Text → Option ℕ
item_place_of stories story item = option_and_then (λ i. place_of item (item_ids (items_at stories i))) (place_of story (story_ids stories))
