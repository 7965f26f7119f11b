-- What edits do to a running order. Bodies and edits are the values of mos_values.
use Rattle.std.specs.Prelude.{List, [], ◌∷◌, Bool, true, false, Option, Some, None}
use Rattle.mos_edits.specs.Texts.{Text, has_id}
use Rattle.mos_edits.specs.KeyedLists.{Applied, ListAction, without}
use Rattle.mos_edits.specs.Rows.{put_row}
use Rattle.mos_edits.specs.KeyedLists.ActFault.{Missing, AlreadyThere}
use Rattle.mos_edits.specs.KeyedLists.Applied.{Done, Fault}
use Rattle.mos_edits.specs.KeyedLists.ListAction.{Insert, Move, Swap}
use Rattle.mos_edits.specs.Actions.{Action, Shape, act}
use Rattle.mos_edits.specs.Actions.Action.{OnStories, OnItems}
use Rattle.mos_values.specs.declared.action.Action as values
use Rattle.mos_values.specs.declared.action.Action.TheVariants.{InsertStories, ReplaceStory, InsertItems, ReplaceItem, MoveStories, MoveItems, DeleteStories, DeleteItems, SwapStories, SwapItems}
use Rattle.mos_edits.specs.declared.edit.Edit.TheVariants as Edits
use Rattle.mos_edits.specs.declared.edit.Edit.TheVariants.{Create, Metadata, Act, Air, Script}
use Rattle.mos_values.specs.Distinct.{story_ids}
use Rattle.mos_edits.specs.declared.edit.Edit.{Edit}
pub use Rattle.mos_values.specs.declared.header.Header.{Header}
pub use Rattle.mos_values.specs.declared.header.HeaderPatch.{HeaderPatch}
pub use Rattle.mos_values.specs.declared.item.Item.{Item}
pub use Rattle.mos_values.specs.StoryValue.{Story}
pub use Rattle.mos_values.specs.OrderValue.{OrderBody}
pub use Rattle.mos_values.specs.declared.story_send.StorySend.{StorySend}

-- A running order: a header, stories, and the scripts of those stories that have one, by storyID, ascending.
pub record Order : Type 0 where
  pub header : Header
  pub stories : List Story
  pub scripts : List (Text × StorySend)

-- the order of a body, which carries no scripts
abbrev pub order_of : OrderBody → Order
order_of b = record { header = b.header; stories = b.stories; scripts = [] }

-- the order without its scripts, as a message carries it
abbrev pub bare : Order → OrderBody
bare o = record { header = o.header; stories = o.stories }

-- the actions' view of stories and items
abbrev pub shape : Shape Story Item
shape = record {
  story_id = λ s. s.id;
  item_id = λ i. i.id;
  items = λ s. s.items;
  with_items = λ s items. record s { items = items };
}

-- the ten variants of a roElementAction, as the five forms on the stories or on the items of a story
abbrev pub form_of : values.Action → Action Story Item
form_of (InsertStories target sources) = OnStories (Insert target sources)
form_of (ReplaceStory target sources) = OnStories (ListAction.Replace target sources)
form_of (InsertItems story target sources) = OnItems story (Insert target sources)
form_of (ReplaceItem story target sources) = OnItems story (ListAction.Replace target sources)
form_of (MoveStories target sources) = OnStories (Move target sources)
form_of (MoveItems story target sources) = OnItems story (Move target sources)
form_of (DeleteStories sources) = OnStories (ListAction.Delete sources)
form_of (DeleteItems story sources) = OnItems story (ListAction.Delete sources)
form_of (SwapStories first second) = OnStories (Swap first second)
form_of (SwapItems story first second) = OnItems story (Swap first second)

-- the roID that an edit names
abbrev pub edit_ro : Edit → Text
edit_ro (Create body) = body.header.ro
edit_ro (Edits.Replace body) = body.header.ro
edit_ro (Edits.Delete ro) = ro
edit_ro (Metadata patch) = patch.ro
edit_ro (Act ro action) = ro
edit_ro (Air ro air) = ro
edit_ro (Script script) = script.ro

abbrev pub given_or : {X : Type 0} → Option X → X → X
given_or None old = old
given_or (Some new) old = new

abbrev pub given_or_kept : {X : Type 0} → Option X → Option X → Option X
given_or_kept None old = old
given_or_kept (Some new) old = Some new

-- a list that isn't empty replaces the whole list
abbrev pub list_or_kept : List Text → List Text → List Text
list_or_kept [] old = old
list_or_kept (x ∷ xs) old = x ∷ xs

-- Each given field in place of the old one. The roID names the order and stays.
abbrev pub patched : HeaderPatch → Header → Header
patched p h = record {
  ro = h.ro;
  slug = given_or p.slug h.slug;
  channel = given_or_kept p.channel h.channel;
  ed_start = given_or_kept p.ed_start h.ed_start;
  ed_dur = given_or_kept p.ed_dur h.ed_dur;
  trigger = given_or_kept p.trigger h.trigger;
  macro_in = given_or_kept p.macro_in h.macro_in;
  macro_out = given_or_kept p.macro_out h.macro_out;
  metadata = list_or_kept p.metadata h.metadata;
  others = list_or_kept p.others h.others;
}

-- The stories that an action takes out, with which their scripts go. One that comes in has none, also where it has the
-- storyID of the one that it replaces. Every other story keeps its script.
abbrev pub taken_out : Action Story Item → List Text
taken_out (OnStories (ListAction.Replace target sources)) = target ∷ []
taken_out (OnStories (ListAction.Delete sources)) = sources
taken_out action = []

-- What an edit that applies leaves of a table by storyID, into which roStorySend writes what `written` makes of its script.
abbrev pub scripts_after : {X : Type 0} → (StorySend → X) → Edit → List (Text × X) → List (Text × X)
scripts_after written (Create body) rows = []
scripts_after written (Edits.Replace body) rows = []
scripts_after written (Edits.Delete ro) rows = []
scripts_after written (Metadata patch) rows = rows
scripts_after written (Act ro action) rows = without (λ row. row.0) (taken_out (form_of action)) rows
scripts_after written (Air ro air) rows = rows
scripts_after written (Script script) rows = put_row script.story (written script) rows

abbrev pub with_stories : Header → List (Text × StorySend) → Applied (List Story) → Applied (Option Order)
with_stories h scripts (Done stories) = Done (Some (record { header = h; stories = stories; scripts = scripts }))
with_stories h scripts (Fault f) = Fault f

-- the script of a story in place of a former one, or that the story is missing
abbrev pub with_script : Order → StorySend → Bool → Applied (Option Order)
with_script o script true = Done (Some (record { header = o.header; stories = o.stories; scripts = put_row script.story script o.scripts }))
with_script o script false = Fault (Missing script.story)

-- One edit of the order `r`, which is there or not: what it leaves, or its fault. READY and NOT READY change nothing.
unfoldable pub apply : Text → Option Order → Edit → Applied (Option Order)
apply r None (Create body) = Done (Some (order_of body))
apply r None e = Fault (Missing r)
apply r (Some o) (Create body) = Fault (AlreadyThere r)
apply r (Some o) (Edits.Replace body) = Done (Some (order_of body))
apply r (Some o) (Edits.Delete ro) = Done None
apply r (Some o) (Metadata patch) = Done (Some (record { header = patched patch o.header; stories = o.stories; scripts = o.scripts }))
apply r (Some o) (Act ro action) = with_stories o.header (scripts_after (λ script. script) (Act ro action) o.scripts) (act shape (form_of action) o.stories)
apply r (Some o) (Air ro air) = Done (Some o)
apply r (Some o) (Script script) = with_script o script (has_id script.story (story_ids o.stories))
