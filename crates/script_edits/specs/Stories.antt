-- Story words, and the items and stories that a script's words make.
use Rattle.std.specs.Prelude.{List, [], ◌∷◌, ◌++◌, map, Option, Some, None, if◌then◌else◌, ◌==◌, ◌&&◌, codes}
use Rattle.std.specs.List.{slice_split}
use Rattle.mos_fields.specs.Characters.{Text}
use Rattle.mos_values.specs.declared.header.Header.{Header}
use Rattle.mos_values.specs.declared.header.HeaderPatch.{HeaderPatch}
use Rattle.mos_values.specs.declared.item.Item.{Item}
use Rattle.mos_values.specs.Distinct.{story_ids}
use Rattle.mos_values.specs.OrderValue.{OrderBody}
use Rattle.mos_values.specs.StoryValue.{Story}
use Rattle.mos_values.specs.declared.story_send.StorySend.{StorySend}
use Rattle.script_edits.specs.Words.{Word, is_name, are_names, are_distinct, both}

-- ---- values that have IDs and little else

-- the device that has the objects of every script
abbrev pub object_owner : Text
object_owner = codes "m1"

-- the item of a name: its itemID and its objID are the name
abbrev pub item_named : Text → Item
item_named x = record {
  id = x;
  slug = None;
  obj = x;
  mos = object_owner;
  mos_abstract = None;
  obj_paths = None;
  channel = None;
  ed_start = None;
  ed_dur = None;
  user_timing_dur = None;
  trigger = None;
  macro_in = None;
  macro_out = None;
  metadata = [];
  others = [];
}

-- the story of a name, with these items
abbrev pub story_named : Text → List Item → Story
story_named id items = record { id = id; slug = None; num = None; metadata = []; others = []; items = items }

-- the header of a name: the roID and the slug are the name
abbrev pub header_named : Text → Header
header_named r = record {
  ro = r;
  slug = r;
  channel = None;
  ed_start = None;
  ed_dur = None;
  trigger = None;
  macro_in = None;
  macro_out = None;
  metadata = [];
  others = [];
}

-- the order of a name, with these stories
abbrev pub order_named : Text → List Story → OrderBody
order_named r stories = record { header = header_named r; stories = stories }

-- the storyBody that has a name for its text, as it is written
abbrev pub named_body : Text → Text
named_body x = codes "<storyBody>" ++ x ++ codes "</storyBody>"

-- the script of the story `id` in the order `r`: a storyBody that has a name for its text
abbrev pub script_named : Text → Text → Text → StorySend
script_named r id x = record {
  ro = r;
  story = id;
  slug = None;
  num = None;
  body = named_body x;
  metadata = [];
  others = [];
}

-- the header that gives the order `r` another slug
abbrev pub slug_patch : Text → Text → HeaderPatch
slug_patch r slug = record {
  ro = r;
  slug = Some slug;
  channel = None;
  ed_start = None;
  ed_dur = None;
  trigger = None;
  macro_in = None;
  macro_out = None;
  metadata = [];
  others = [];
}

-- ---- words

-- items, one for each name
abbrev pub items_of : List Word → Option (List Item)
items_of ws = if are_names ws then Some (map item_named ws) else None

-- the story of a name and of item names, none of which stands twice
abbrev pub story_with : Word → List Word → Option Story
story_with id items = if is_name id && are_names items && are_distinct items then Some (story_named id (map item_named items)) else None

-- item names have commas between them
abbrev pub item_names : Word → List Word
item_names w = slice_split (λ b. b == 44) w

-- the story of a word's parts, which have colons between them
abbrev pub story_parts : List Word → Option Story
story_parts (id ∷ []) = story_with id []
story_parts (id ∷ items ∷ []) = story_with id (item_names items)
story_parts parts = None

-- A story word: a name, perhaps with `:` and item names.
unfoldable pub story_of : Word → Option Story
story_of w = story_parts (slice_split (λ b. b == 58) w)

-- stories, one for each word
abbrev pub stories_of : List Word → Option (List Story)
stories_of [] = Some []
stories_of (w ∷ ws) = both (λ s ss. s ∷ ss) (story_of w) (stories_of ws)

-- the same where no two have one name
abbrev pub if_distinct : Option (List Story) → Option (List Story)
if_distinct None = None
if_distinct (Some stories) = if are_distinct (story_ids stories) then Some stories else None
