-- Element actions (roElementAction) on the stories of an order: the five forms on the list of its stories, and
-- on the list of one story's items.
use Rattle.std.specs.Prelude.{List, [], ◌∷◌, Option, Some, None}
use Rattle.mos_edits.specs.Texts.{Text}
use Rattle.mos_edits.specs.KeyedLists.{Applied, ListAction, find, put_for, act_list}
use Rattle.mos_edits.specs.KeyedLists.ActFault.{Missing}
use Rattle.mos_edits.specs.KeyedLists.Applied.{Done, Fault}

-- the ten forms
pub data Action (S I : Type 0) : Type 0 where
  OnStories : (action : ListAction S) → Action S I
  OnItems : (story : Text) (action : ListAction I) → Action S I

-- what an action sees of stories of type `S` and items of type `I`
pub record Shape (S I : Type 0) : Type 0 where
  pub story_id : S → Text
  pub item_id : I → Text
  pub items : S → List I
  pub with_items : S → List I → S

-- the story `s` with its new items, at its place
abbrev pub put_items : {S I : Type 0} → Shape S I → Text → S → List S → Applied (List I) → Applied (List S)
put_items shape story s stories (Done items) = Done (put_for shape.story_id story (shape.with_items s items ∷ []) stories)
put_items shape story s stories (Fault f) = Fault f

abbrev pub act_in : {S I : Type 0} → Shape S I → Text → ListAction I → List S → Option S → Applied (List S)
act_in shape story action stories None = Fault (Missing story)
act_in shape story action stories (Some s) = put_items shape story s stories (act_list shape.item_id action (shape.items s))

-- An action on an order's stories: the new list, or the first fault. The story of an item form is looked for
-- first; no story has an empty identifier, so an empty one is missing.
abbrev pub act : {S I : Type 0} → Shape S I → Action S I → List S → Applied (List S)
act shape (OnStories action) stories = act_list shape.story_id action stories
act shape (OnItems story action) stories = act_in shape story action stories (find shape.story_id story stories)
