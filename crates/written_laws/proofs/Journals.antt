-- Sound edits leave sound orders.
use Rattle.std.proofs.Common.{ℕ, Bool, true, false, List, [], ◌∷◌, Option, Some, None, if◌then◌else◌}
use Rattle.std.specs.List.{AllByRecursion}
use Rattle.mos_values.specs.Distinct.{story_ids}
use Rattle.mos_edits.specs.Texts.{has_id, Text, same_id}
use Rattle.mos_edits.specs.KeyedLists.{Applied, find, act_list}
use Rattle.mos_edits.specs.KeyedLists.Applied.{Done, Fault}
use Rattle.mos_edits.specs.Actions.{Action, act, act_in, put_items}
use Rattle.mos_edits.specs.Actions.Action.{OnStories, OnItems}
use Rattle.mos_edits.specs.Orders.{Item, Story, Order, Header, HeaderPatch, StorySend, shape, form_of, scripts_after, with_stories, with_script, apply}
use Rattle.mos_edits.specs.declared.edit.Edit.{Edit}
use Rattle.mos_edits.specs.Entries.{Entry, entries, edit_at, no_edit, result_or, order_from, order_after, order_now, listed, with_header, headers_of, headers}
use Rattle.mos_values.specs.declared.action.Action as values
use Rattle.mos_values.specs.declared.action.Action.TheVariants as actions
use Rattle.mos_edits.specs.declared.edit.Edit.TheVariants as edits
use Rattle.mos_values.specs.Sound.{IsSound, IsSoundItem, AreSoundItems, IsSoundStory, AreSoundStories, IsSoundAction, IsSoundBody, IsSoundPatch}
use Rattle.mos_values.specs.Views.{story_head_events}
use Rattle.written_laws.specs.Laws.{IsSoundEdit, HasSoundEdits, IsSoundOrder}
use Rattle.written_laws.proofs.Elements.{all-get, all-put_for, HoldsIn, all-find, Brings, WhereDone, all-act_list}
use Rattle.written_laws.proofs.Records.{sound-patched, sound-listed}

-- ---- actions

-- it holds of each story or item that an action brings
abbrev pub BringsAll : (Story → Type 0) → (Item → Type 0) → Action Story Item → Type 0
BringsAll P Q (OnStories action) = Brings P action
BringsAll P Q (OnItems story action) = Brings Q action

-- What holds of stories and of their items stays true of what an action makes of them.
pub all-act : (P : Story → Type 0) (Q : Item → Type 0) → ((s : Story) → P s → AllByRecursion Q s.items) → ((s : Story) (items : List Item) → P s → AllByRecursion Q items → P (record s { items = items })) → (action : Action Story Item) (stories : List Story)
    → BringsAll P Q action → AllByRecursion P stories → WhereDone (AllByRecursion P) (act shape action stories)
all-act P Q inside put (OnStories action) stories a h = all-act_list P (λ s. s.id) action stories a h
all-act P Q inside put (OnItems story action) stories a h = go (find (λ s. s.id) story stories) (all-find P (λ s. s.id) story stories h)
  where
    placed : (s : Story) (r : Applied (List Item)) → P s → WhereDone (AllByRecursion Q) r → WhereDone (AllByRecursion P) (put_items shape story s stories r)
    placed s (Fault f) i j = tt
    placed s (Done items) i j = all-put_for P (λ s. s.id) story (record s { items = items } ∷ []) stories (put s items i j, tt) h

    go : (o : Option Story) → HoldsIn P o → WhereDone (AllByRecursion P) (act_in shape story action stories o)
    go None i = tt
    go (Some s) i = placed s (act_list (λ i. i.id) action s.items) i (all-act_list Q (λ i. i.id) action s.items a (inside s i))

sound-with_items : (s : Story) (items : List Item) → IsSoundStory s → AreSoundItems items → IsSoundStory (record s { items = items })
unfolding story_head_events
sound-with_items s items a b = (a.0, b)

sound-brought : (action : values.Action) → IsSoundAction action → BringsAll IsSoundStory IsSoundItem (form_of action)
sound-brought (actions.InsertStories target sources) a = a.1
sound-brought (actions.ReplaceStory target sources) a = a.1
sound-brought (actions.InsertItems story target sources) a = a.1
sound-brought (actions.ReplaceItem story target sources) a = a.1
sound-brought (actions.MoveStories target sources) a = tt
sound-brought (actions.MoveItems story target sources) a = tt
sound-brought (actions.DeleteStories sources) a = tt
sound-brought (actions.DeleteItems story sources) a = tt
sound-brought (actions.SwapStories first second) a = tt
sound-brought (actions.SwapItems story first second) a = tt

sound-act : (action : values.Action) (stories : List Story) → IsSoundAction action → AreSoundStories stories → WhereDone AreSoundStories (act shape (form_of action) stories)
sound-act action stories a h = all-act IsSoundStory IsSoundItem (λ s i. i.1) sound-with_items (form_of action) stories (sound-brought action a) h

-- ---- edits

sound-stories : (h : Header) (scripts : List (Text × StorySend)) (x : Applied (List Story)) → ((stories : List Story) → AreSoundStories stories → IsSoundBody (record { header = h; stories = stories })) → WhereDone AreSoundStories x → WhereDone IsSoundOrder (with_stories h scripts x)
sound-stories h scripts (Done stories) f a = f stories a
sound-stories h scripts (Fault x) f a = tt

sound-apply : (r : Text) (o : Option Order) (e : Edit) → IsSoundOrder o → IsSoundEdit e → WhereDone IsSoundOrder (apply r o e)
unfolding apply IsSound
sound-apply r None (edits.Create body) a b = b
sound-apply r None (edits.Replace body) a b = tt
sound-apply r None (edits.Delete ro) a b = tt
sound-apply r None (edits.Metadata patch) a b = tt
sound-apply r None (edits.Act ro action) a b = tt
sound-apply r None (edits.Air ro air) a b = tt
sound-apply r None (edits.Script script) a b = tt
sound-apply r (Some o) (edits.Create body) a b = tt
sound-apply r (Some o) (edits.Replace body) a b = b
sound-apply r (Some o) (edits.Delete ro) a b = tt
sound-apply r (Some o) (edits.Metadata patch) a b = (sound-patched patch o.header b a.0, a.1)
sound-apply r (Some o) (edits.Act ro action) a b = sound-stories o.header (scripts_after (λ script. script) (edits.Act ro action) o.scripts) (act shape (form_of action) o.stories) (λ stories h. (a.0, h)) (sound-act action o.stories b a.1)
sound-apply r (Some o) (edits.Air ro air) a b = a
sound-apply r (Some o) (edits.Script script) a b = go (has_id script.story (story_ids o.stories))
  where
    go : (c : Bool) → WhereDone IsSoundOrder (with_script o script c)
    go true = a
    go false = tt

-- What each edit keeps of an order holds after all of them.
kept-result : (R : Option Order → Type 0) (o : Option Order) (x : Applied (Option Order)) → R o → WhereDone R x → R (result_or o x)
kept-result R o (Done p) a b = b
kept-result R o (Fault f) a b = a

kept-from : (R : Option Order → Type 0) (E : Edit → Type 0) (r : Text) → ((o : Option Order) (e : Edit) → R o → E e → WhereDone R (apply r o e)) → (o : Option Order) (es : List Edit) → R o → AllByRecursion E es → R (order_from r o es)
kept-from R E r f o [] a b = a
kept-from R E r f o (e ∷ es) a b = kept-from R E r f (result_or o (apply r o e)) es (kept-result R o (apply r o e) a (f o e a b.0)) b.1

pub kept-after : (R : Option Order → Type 0) (E : Edit → Type 0) (r : Text) → ((o : Option Order) (e : Edit) → R o → E e → WhereDone R (apply r o e)) → (es : List Edit) → R None → AllByRecursion E es → R (order_after r es)
kept-after R E r f es a b = kept-from R E r f None es a b

pub sound-after : (r : Text) (es : List Edit) → AllByRecursion IsSoundEdit es → IsSoundOrder (order_after r es)
sound-after r es a = kept-after IsSoundOrder IsSoundEdit r (sound-apply r) es tt a

-- ---- journals

pub all-entries : (E : Edit → Type 0) (r : Text) (journal : List Entry) → AllByRecursion (λ e. E e.edit) journal → AllByRecursion E (entries r journal)
all-entries E r [] a = tt
all-entries E r (x ∷ xs) a = go (same_id r x.ro) (all-entries E r xs a.1)
  where
    go : (c : Bool) → AllByRecursion E (entries r xs) → AllByRecursion E (if c then x.edit ∷ entries r xs else entries r xs)
    go true i = (a.0, i)
    go false i = i

pub sound-now : (journal : List Entry) (r : Text) → HasSoundEdits journal → IsSoundOrder (order_now journal r)
sound-now journal r a = sound-after r (entries r journal) (all-entries IsSoundEdit r journal a)

pub sound-edit : (journal : List Entry) (r : Text) (k : ℕ) → HasSoundEdits journal → IsSoundEdit (edit_at journal r k)
unfolding IsSound
sound-edit journal r k a = all-get IsSoundEdit (entries r journal) k no_edit (all-entries IsSoundEdit r journal a) tt

sound-header : (o : Option Order) (hs : List HeaderPatch) → IsSoundOrder o → AllByRecursion IsSoundPatch hs → AllByRecursion IsSoundPatch (with_header o hs)
sound-header None hs a b = b
sound-header (Some o) hs a b = (sound-listed o.header a.0, b)

headers-of : (journal : List Entry) (rs : List Text) → HasSoundEdits journal → AllByRecursion IsSoundPatch (headers_of journal rs)
headers-of journal [] a = tt
headers-of journal (r ∷ rs) a = sound-header (order_now journal r) (headers_of journal rs) (sound-now journal r a) (headers-of journal rs a)

pub sound-headers : (journal : List Entry) → HasSoundEdits journal → AllByRecursion IsSoundPatch (headers journal)
sound-headers journal a = headers-of journal (listed journal) a
