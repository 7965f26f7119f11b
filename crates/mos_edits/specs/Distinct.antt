-- Orders whose stories have distinct identifiers, and each of whose stories has items with distinct ones.
use Rattle.std.specs.Prelude.{List, [], ◌∷◌, Option, Some, None}
use Rattle.mos_values.specs.Distinct.{AreDistinct, story_ids, item_ids}
use Rattle.mos_edits.specs.KeyedLists.{ListAction}
use Rattle.mos_edits.specs.KeyedLists.ListAction.{Insert, Replace}
use Rattle.mos_edits.specs.Actions.{Action}
use Rattle.mos_edits.specs.Actions.Action.{OnStories}
use Rattle.mos_edits.specs.Orders.{Item, Story, Order, form_of}
use Rattle.mos_edits.specs.declared.edit.Edit.{Edit}
use Rattle.mos_edits.specs.declared.edit.Edit.TheVariants as Edits
use Rattle.mos_edits.specs.declared.edit.Edit.TheVariants.{Create, Act}

-- what holds of each element of a list
abbrev pub Each : {X : Type 0} → (X → Type 0) → List X → Type 0
Each P [] = Unit {0}
Each P (x ∷ xs) = P x × Each P xs

-- the items of each story have distinct identifiers
abbrev pub HasDistinctItems : List Story → Type 0
HasDistinctItems stories = Each (λ s. AreDistinct (item_ids s.items)) stories

abbrev pub HasDistinctIds : List Story → Type 0
HasDistinctIds stories = AreDistinct (story_ids stories) × HasDistinctItems stories

abbrev pub HasDistinctIdsIf : Option Order → Type 0
HasDistinctIdsIf None = Unit {0}
HasDistinctIdsIf (Some o) = HasDistinctIds o.stories

-- the stories that an edit brings have items with distinct identifiers; a body's stories have distinct ones too
abbrev pub SourcesOk : ListAction Story → Type 0
SourcesOk (Insert target sources) = HasDistinctItems sources
SourcesOk (Replace target sources) = HasDistinctItems sources
SourcesOk action = Unit {0}

abbrev pub ActionOk : Action Story Item → Type 0
ActionOk (OnStories action) = SourcesOk action
ActionOk action = Unit {0}

abbrev pub BringsDistinctIds : Edit → Type 0
BringsDistinctIds (Create body) = HasDistinctIds body.stories
BringsDistinctIds (Edits.Replace body) = HasDistinctIds body.stories
BringsDistinctIds (Act ro action) = ActionOk (form_of action)
BringsDistinctIds e = Unit {0}
