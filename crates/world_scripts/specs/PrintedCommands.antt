-- The lines that commands are written as.
use Rattle.std.specs.Prelude.{◌≡◌, ℕ, ◌≤◌, true, List, [], ◌∷◌, ◌++◌, map, length, take, drop, ◌-◌, Option, Some, None, codes}
use Rattle.std.specs.List.{AllByRecursion, join_with_byte}
use Rattle.mos_fields.specs.Characters.{Text}
use Rattle.mos_fields.specs.declared.air.Air.TheVariants.{Ready, NotReady}
use Rattle.mos_values.specs.declared.action.Action.{Action}
use Rattle.mos_values.specs.declared.action.Action.TheVariants as actions
use Rattle.mos_edits.specs.declared.edit.Edit.{Edit}
use Rattle.mos_edits.specs.declared.edit.Edit.TheVariants as edits
use Rattle.mos_values.specs.declared.item.Item.{Item}
use Rattle.mos_values.specs.Distinct.{item_ids, story_ids}
use Rattle.mos_values.specs.OrderValue.{OrderBody}
use Rattle.mos_values.specs.StoryValue.{Story}
use Rattle.script_edits.specs.Stories.{item_named, story_named, header_named, script_named, slug_patch}
use Rattle.script_edits.specs.Words.{Word, is_name, are_names, are_distinct}

-- ---- words

-- a target; the empty one is `-`
abbrev pub target_word : Text → Word
target_word [] = codes "-"
target_word (c ∷ cs) = c ∷ cs

-- a story's name, and behind a colon the names of its items, if it has any
abbrev pub named_items : Text → List Text → Word
named_items id [] = id
named_items id (x ∷ xs) = id ++ 58 ∷ join_with_byte 44 (x ∷ xs)

abbrev pub story_word : Story → Word
story_word s = named_items s.id (item_ids s.items)

-- a slug that is given
abbrev pub slug_words : Option Text → List Word
slug_words None = []
slug_words (Some slug) = slug ∷ []

-- an action on the order `r`
abbrev pub action_words : Text → Action → List Word
action_words r (actions.InsertStories t ss) = codes "insert" ∷ r ∷ target_word t ∷ map story_word ss
action_words r (actions.ReplaceStory t ss) = codes "sub" ∷ r ∷ target_word t ∷ map story_word ss
action_words r (actions.MoveStories t ids) = codes "move" ∷ r ∷ target_word t ∷ ids
action_words r (actions.DeleteStories ids) = codes "drop" ∷ r ∷ ids
action_words r (actions.SwapStories x y) = codes "swap" ∷ r ∷ x ∷ y ∷ []
action_words r (actions.InsertItems a t is) = codes "iinsert" ∷ r ∷ a ∷ target_word t ∷ item_ids is
action_words r (actions.ReplaceItem a t is) = codes "isub" ∷ r ∷ a ∷ target_word t ∷ item_ids is
action_words r (actions.MoveItems a t ids) = codes "imove" ∷ r ∷ a ∷ target_word t ∷ ids
action_words r (actions.DeleteItems a ids) = codes "idrop" ∷ r ∷ a ∷ ids
action_words r (actions.SwapItems a x y) = codes "iswap" ∷ r ∷ a ∷ x ∷ y ∷ []

-- the text of a storyBody: what stands between the tags `<storyBody>` and `</storyBody>`
abbrev pub body_text : Text → Text
body_text b = take (length (drop 11 b) - 12) (drop 11 b)

-- the words behind `cmd`
abbrev pub edit_words : Edit → List Word
edit_words (edits.Create b) = codes "create" ∷ b.header.ro ∷ map story_word b.stories
edit_words (edits.Replace b) = codes "replace" ∷ b.header.ro ∷ map story_word b.stories
edit_words (edits.Delete r) = codes "delete" ∷ r ∷ []
edit_words (edits.Metadata p) = codes "meta" ∷ p.ro ∷ slug_words p.slug
edit_words (edits.Act r a) = action_words r a
edit_words (edits.Air r Ready) = codes "ready" ∷ r ∷ []
edit_words (edits.Air r NotReady) = codes "notready" ∷ r ∷ []
edit_words (edits.Script s) = codes "script" ∷ s.ro ∷ s.story ∷ body_text s.body ∷ []

-- The line of a command, without its line feed.
abbrev pub command_line : Edit → List ℕ
command_line e = join_with_byte 32 (codes "cmd" ∷ edit_words e)

-- ---- what a line can say

abbrev pub IsName : Text → Type 0
IsName x = is_name x ≡ true

abbrev pub IsTarget : Text → Type 0
IsTarget [] = Unit {0}
IsTarget (c ∷ cs) = IsName (c ∷ cs)

-- an item has its name alone
pub record IsSayableItem (i : Item) : Type 0 where
  pub name : IsName i.id
  pub value : i ≡ item_named i.id

abbrev pub AreSayableItems : List Item → Type 0
AreSayableItems is = AllByRecursion IsSayableItem is

-- a story has its name and its items alone
pub record IsSayableStory (s : Story) : Type 0 where
  pub name : IsName s.id
  pub items : AreSayableItems s.items
  pub distinct : are_distinct (item_ids s.items) ≡ true
  pub value : s ≡ story_named s.id s.items

abbrev pub AreSayableStories : List Story → Type 0
AreSayableStories ss = AllByRecursion IsSayableStory ss

-- an order has its name and its stories alone
pub record IsSayableOrder (b : OrderBody) : Type 0 where
  pub name : IsName b.header.ro
  pub stories : AreSayableStories b.stories
  pub distinct : are_distinct (story_ids b.stories) ≡ true
  pub header : b.header ≡ header_named b.header.ro

abbrev pub IsSayableAction : Action → Type 0
IsSayableAction (actions.InsertStories t ss) = IsTarget t × (1 ≤ length ss) × AreSayableStories ss
IsSayableAction (actions.ReplaceStory t ss) = IsTarget t × (1 ≤ length ss) × AreSayableStories ss
IsSayableAction (actions.MoveStories t ids) = IsTarget t × (1 ≤ length ids) × (are_names ids ≡ true)
IsSayableAction (actions.DeleteStories ids) = (1 ≤ length ids) × (are_names ids ≡ true)
IsSayableAction (actions.SwapStories x y) = IsName x × IsName y
IsSayableAction (actions.InsertItems a t is) = IsName a × IsTarget t × (1 ≤ length is) × AreSayableItems is
IsSayableAction (actions.ReplaceItem a t is) = IsName a × IsTarget t × (1 ≤ length is) × AreSayableItems is
IsSayableAction (actions.MoveItems a t ids) = IsName a × IsTarget t × (1 ≤ length ids) × (are_names ids ≡ true)
IsSayableAction (actions.DeleteItems a ids) = IsName a × (1 ≤ length ids) × (are_names ids ≡ true)
IsSayableAction (actions.SwapItems a x y) = IsName a × IsName x × IsName y

abbrev pub IsSayableEdit : Edit → Type 0
IsSayableEdit (edits.Create b) = IsSayableOrder b
IsSayableEdit (edits.Replace b) = IsSayableOrder b
IsSayableEdit (edits.Delete r) = IsName r
IsSayableEdit (edits.Metadata p) = IsName p.ro × ((slug : Text) × IsName slug × (p ≡ slug_patch p.ro slug))
IsSayableEdit (edits.Act r a) = IsName r × IsSayableAction a
IsSayableEdit (edits.Air r air) = IsName r
IsSayableEdit (edits.Script s) = IsName s.ro × IsName s.story × IsName (body_text s.body) × (s ≡ script_named s.ro s.story (body_text s.body))
