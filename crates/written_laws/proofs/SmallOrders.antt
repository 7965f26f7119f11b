-- Edits within the limits of fields leave orders within them.
use Rattle.std.proofs.Common.{Bool, true, false, List, [], ◌∷◌, Option, Some, None}
use Rattle.std.specs.List.{AllByRecursion}
use Rattle.mos_edits.specs.Texts.{Text, has_id}
use Rattle.mos_values.specs.Distinct.{story_ids}
use Rattle.mos_edits.specs.KeyedLists.{Applied}
use Rattle.mos_edits.specs.KeyedLists.Applied.{Done, Fault}
use Rattle.mos_edits.specs.Actions.{act}
use Rattle.mos_edits.specs.Orders.{Item, Story, Order, Header, HeaderPatch, StorySend, edit_ro, shape, form_of, scripts_after, with_stories, with_script, apply}
use Rattle.mos_edits.specs.declared.edit.Edit.{Edit}
use Rattle.mos_edits.specs.Entries.{Entry, entries, order_now, listed, with_header, headers_of, headers}
use Rattle.mos_values.specs.declared.action.Action as values
use Rattle.mos_values.specs.declared.action.Action.TheVariants as actions
use Rattle.mos_edits.specs.declared.edit.Edit.TheVariants as edits
use Rattle.mos_machines.specs.Small.{IsSmallItem, AreSmallItems, AreSmallStories}
use Rattle.written_laws.specs.Lengths.{IsShort, IsSmallAction, IsSmallEdit, IsSmallIfThere, KeepsFieldLimits}
use Rattle.written_laws.proofs.Elements.{all-map, WhereDone}
use Rattle.written_laws.proofs.Journals.{BringsAll, all-act, kept-after, all-entries}

-- ---- items and stories, in the words of lists at large

abbrev HasSmallItems : Story → Type 0
HasSmallItems s = AllByRecursion IsSmallItem s.items

items-all : (xs : List Item) → AreSmallItems xs → AllByRecursion IsSmallItem xs
items-all [] a = tt
items-all (x ∷ xs) a = (a.0, items-all xs a.1)

all-items : (xs : List Item) → AllByRecursion IsSmallItem xs → AreSmallItems xs
all-items [] a = tt
all-items (x ∷ xs) a = (a.0, all-items xs a.1)

stories-all : (ss : List Story) → AreSmallStories ss → AllByRecursion HasSmallItems ss
stories-all [] a = tt
stories-all (s ∷ ss) a = (items-all s.items a.0, stories-all ss a.1)

all-stories : (ss : List Story) → AllByRecursion HasSmallItems ss → AreSmallStories ss
all-stories [] a = tt
all-stories (s ∷ ss) a = (all-items s.items a.0, all-stories ss a.1)

small-brought : (action : values.Action) → IsSmallAction action → BringsAll HasSmallItems IsSmallItem (form_of action)
small-brought (actions.InsertStories target sources) a = stories-all sources a
small-brought (actions.ReplaceStory target sources) a = stories-all sources a
small-brought (actions.InsertItems story target sources) a = items-all sources a
small-brought (actions.ReplaceItem story target sources) a = items-all sources a
small-brought (actions.MoveStories target sources) a = tt
small-brought (actions.MoveItems story target sources) a = tt
small-brought (actions.DeleteStories sources) a = tt
small-brought (actions.DeleteItems story sources) a = tt
small-brought (actions.SwapStories first second) a = tt
small-brought (actions.SwapItems story first second) a = tt

-- ---- orders

-- the numbers of samples are small, and the roID is short
abbrev pub IsLimited : Option Order → Type 0
IsLimited None = Unit {0}
IsLimited (Some o) = AllByRecursion HasSmallItems o.stories × IsShort o.header.ro

abbrev IsLimitedEdit : Edit → Type 0
IsLimitedEdit e = IsSmallEdit e × IsShort (edit_ro e)

limited-stories : (h : Header) (scripts : List (Text × StorySend)) (x : Applied (List Story)) → IsShort h.ro → WhereDone (AllByRecursion HasSmallItems) x → WhereDone IsLimited (with_stories h scripts x)
limited-stories h scripts (Done stories) r a = (a, r)
limited-stories h scripts (Fault f) r a = tt

limited-apply : (r : Text) (o : Option Order) (e : Edit) → IsLimited o → IsLimitedEdit e → WhereDone IsLimited (apply r o e)
unfolding apply
limited-apply r None (edits.Create body) a b = (stories-all body.stories b.0, b.1)
limited-apply r None (edits.Replace body) a b = tt
limited-apply r None (edits.Delete ro) a b = tt
limited-apply r None (edits.Metadata patch) a b = tt
limited-apply r None (edits.Act ro action) a b = tt
limited-apply r None (edits.Air ro air) a b = tt
limited-apply r None (edits.Script script) a b = tt
limited-apply r (Some o) (edits.Create body) a b = tt
limited-apply r (Some o) (edits.Replace body) a b = (stories-all body.stories b.0, b.1)
limited-apply r (Some o) (edits.Delete ro) a b = tt
limited-apply r (Some o) (edits.Metadata patch) a b = a
limited-apply r (Some o) (edits.Act ro action) a b =
    limited-stories o.header (scripts_after (λ script. script) (edits.Act ro action) o.scripts) (act shape (form_of action) o.stories) a.1 (all-act HasSmallItems IsSmallItem (λ s i. i) (λ s items i j. j) (form_of action) o.stories (small-brought action b.0) a.0)
limited-apply r (Some o) (edits.Air ro air) a b = a
limited-apply r (Some o) (edits.Script script) a b = go (has_id script.story (story_ids o.stories))
  where
    go : (c : Bool) → WhereDone IsLimited (with_script o script c)
    go true = a
    go false = tt

-- ---- journals

abbrev pub AreLimited : List Entry → Type 0
AreLimited journal = AllByRecursion KeepsFieldLimits journal

pub limited-now : (journal : List Entry) (r : Text) → AreLimited journal → IsLimited (order_now journal r)
limited-now journal r a =
    kept-after IsLimited IsLimitedEdit r (limited-apply r) (entries r journal) tt
    (all-entries IsLimitedEdit r journal (all-map KeepsFieldLimits (λ e. IsLimitedEdit e.edit) (λ e k. (k.0, k.3)) journal a))

small-if : (o : Option Order) → IsLimited o → IsSmallIfThere o
small-if None a = tt
small-if (Some o) a = all-stories o.stories a.0

pub small-now : (journal : List Entry) (r : Text) → AreLimited journal → IsSmallIfThere (order_now journal r)
small-now journal r a = small-if (order_now journal r) (limited-now journal r a)

short-header : (o : Option Order) (hs : List HeaderPatch) → IsLimited o → AllByRecursion (λ h. IsShort h.ro) hs → AllByRecursion (λ h. IsShort h.ro) (with_header o hs)
short-header None hs a b = b
short-header (Some o) hs a b = (a.1, b)

headers-of : (journal : List Entry) (rs : List Text) → AreLimited journal → AllByRecursion (λ h. IsShort h.ro) (headers_of journal rs)
headers-of journal [] a = tt
headers-of journal (r ∷ rs) a = short-header (order_now journal r) (headers_of journal rs) (limited-now journal r a) (headers-of journal rs a)

pub short-headers : (journal : List Entry) → AreLimited journal → AllByRecursion (λ h. IsShort h.ro) (headers journal)
short-headers journal a = headers-of journal (listed journal) a
