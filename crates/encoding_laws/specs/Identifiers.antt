-- Messages whose stories and items have IDs of their own where the tables ask for it.
use Rattle.std.specs.List.{AllByRecursion}
use Rattle.mos_values.specs.Distinct.{AreDistinct, item_ids, story_ids}
use Rattle.mos_values.specs.StoryValue.{Story}
use Rattle.mos_values.specs.OrderValue.{OrderBody}
use Rattle.mos_values.specs.declared.action.Action.{Action}
use Rattle.mos_values.specs.declared.action.Action.TheVariants.{InsertStories, ReplaceStory}
use Rattle.mos_values.specs.declared.message.Message.{Message}
use Rattle.mos_values.specs.declared.message.Message.TheVariants.{RoCreate, RoReplace, RoList, RoElementAction}

-- no two items of the story have one itemID
abbrev pub HasDistinctItems : Story → Type 0
HasDistinctItems s = AreDistinct (item_ids s.items)

-- no two stories of the order have one storyID, and the items of each are distinct
abbrev pub HasDistinctStories : OrderBody → Type 0
HasDistinctStories b = AreDistinct (story_ids b.stories) × AllByRecursion HasDistinctItems b.stories

-- of the stories that an action brings
abbrev pub BringsDistinctItems : Action → Type 0
BringsDistinctItems (InsertStories target sources) = AllByRecursion HasDistinctItems sources
BringsDistinctItems (ReplaceStory target sources) = AllByRecursion HasDistinctItems sources
BringsDistinctItems a = Unit {0}

-- Of whole orders and of stories. The values' types have this of themselves.
abbrev pub HasDistinctIdentifiers : Message → Type 0
HasDistinctIdentifiers (RoCreate body) = HasDistinctStories body
HasDistinctIdentifiers (RoReplace body) = HasDistinctStories body
HasDistinctIdentifiers (RoList body) = HasDistinctStories body
HasDistinctIdentifiers (RoElementAction ro action) = BringsDistinctItems action
HasDistinctIdentifiers m = Unit {0}
