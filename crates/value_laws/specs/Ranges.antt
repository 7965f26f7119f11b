-- Values whose numbers fit 32 bits, as those of the code's types do: a number of samples is one of 32 bits, and a revision
-- has three digits at most.
use Rattle.std.specs.Prelude.{ℕ, ◌<◌, ◌^◌, List, Option, Some, None}
use Rattle.std.specs.List.{AllByRecursion}
use Rattle.mos_values.specs.declared.action.Action.{Action}
use Rattle.mos_values.specs.declared.action.Action.TheVariants.{InsertStories, ReplaceStory, InsertItems, ReplaceItem}
use Rattle.mos_values.specs.declared.item.Item.{Item}
use Rattle.mos_values.specs.declared.message.Message.{Message}
use Rattle.mos_values.specs.declared.message.Message.TheVariants as messages
use Rattle.mos_values.specs.declared.mos_obj.MosObj.{MosObj}
use Rattle.mos_values.specs.StoryValue.{Story}

-- a number, where it is there, fits 32 bits
abbrev pub IsSmall : Option ℕ → Type 0
IsSmall None = Unit {0}
IsSmall (Some n) = n < 2 ^ 32

abbrev pub IsItemInRange : Item → Type 0
IsItemInRange i = IsSmall i.ed_start × IsSmall i.ed_dur × IsSmall i.user_timing_dur

abbrev pub AreItemsInRange : List Item → Type 0
AreItemsInRange items = AllByRecursion IsItemInRange items

abbrev pub IsStoryInRange : Story → Type 0
IsStoryInRange s = AreItemsInRange s.items

abbrev pub AreStoriesInRange : List Story → Type 0
AreStoriesInRange stories = AllByRecursion IsStoryInRange stories

abbrev pub IsObjectInRange : MosObj → Type 0
IsObjectInRange o = IsSmall o.time_base × IsSmall o.rev × IsSmall o.dur

abbrev pub AreObjectsInRange : List MosObj → Type 0
AreObjectsInRange objects = AllByRecursion IsObjectInRange objects

abbrev pub IsActionInRange : Action → Type 0
IsActionInRange (InsertStories target sources) = AreStoriesInRange sources
IsActionInRange (ReplaceStory target sources) = AreStoriesInRange sources
IsActionInRange (InsertItems story target sources) = AreItemsInRange sources
IsActionInRange (ReplaceItem story target sources) = AreItemsInRange sources
IsActionInRange a = Unit {0}

-- each number of samples and each revision of the message is small
abbrev pub IsInRange : Message → Type 0
IsInRange (messages.MosAck ack) = IsSmall ack.rev
IsInRange (messages.MosObj obj) = IsObjectInRange obj
IsInRange (messages.MosReqAll pause) = pause < 2 ^ 32
IsInRange (messages.MosListAll objs) = AreObjectsInRange objs
IsInRange (messages.RoCreate body) = AreStoriesInRange body.stories
IsInRange (messages.RoReplace body) = AreStoriesInRange body.stories
IsInRange (messages.RoList body) = AreStoriesInRange body.stories
IsInRange (messages.RoElementAction ro action) = IsActionInRange action
IsInRange m = Unit {0}
