-- The items of a story that is found by its identifier.
use Rattle.std.proofs.Common.{◌≡◌, ℕ, zero, suc, List, [], ◌∷◌, ◌++◌, Bool, true, false, ◌||◌, Option, Some, None, option_and_then, refl, if◌then◌else◌, sym, ap, ◌∙◌}
use Rattle.mos_edits.specs.Texts.{Text, same_id, has_id}
use Rattle.mos_edits.specs.KeyedLists.{ActFault, ListAction, find, put_for, first_of, lacking, done_unless, list_fault, list_result}
use Rattle.mos_edits.specs.KeyedLists.Applied.{Done}
use Rattle.mos_edits.specs.Actions.{act, act_in, put_items}
use Rattle.mos_edits.specs.Actions.Action.{OnItems}
use Rattle.mos_edits.specs.Orders.{Item, Story, shape}
use Rattle.mos_values.specs.Distinct.{story_ids, item_ids}
use Rattle.running_order.specs.Places.{place_of, items_at, edit_items, item_place_of}
use Rattle.element_action.specs.Levels.{items_of, edit_story}
use Rattle.element_action.proofs.PlaceLemmas.{Stands, place_stands, place_none, find_none}

-- the items of the story that is found
abbrev pub items_in : Text → List Story → List Item
items_in story ss = items_of (find shape.story_id story ss)

-- an edit at the place is that of the story that is found
pub edit_found : (story : Text) (ss : List Story) (i : ℕ) (f : List Item → List Item) → Stands shape.story_id story ss i → edit_items ss i f ≡ edit_story story f ss
edit_found story [] i f h = absurd h
edit_found story (s ∷ ss) zero f h = rw h refl
edit_found story (s ∷ ss) (suc i) f h = rw (h.0) (ap (λ l. s ∷ l) (edit_found story ss i f h.1))

pub items_found : (story : Text) (ss : List Story) (i : ℕ) → Stands shape.story_id story ss i → items_at ss i ≡ items_in story ss
items_found story [] i h = absurd h
items_found story (s ∷ ss) zero h = rw h refl
items_found story (s ∷ ss) (suc i) h = rw (h.0) (items_found story ss i h.1)

-- edits that do the same to those items
pub edit_same : (story : Text) (ss : List Story) (f g : List Item → List Item) → f (items_in story ss) ≡ g (items_in story ss) → edit_story story f ss ≡ edit_story story g ss
edit_same story [] f g h = refl
edit_same story (s ∷ ss) f g h = go (same_id story s.id) (edit_same story ss f g) h
  where
    go : (b : Bool) → (f (items_in story ss) ≡ g (items_in story ss) → edit_story story f ss ≡ edit_story story g ss)
        → f (items_of (if b then Some s else find shape.story_id story ss)) ≡ g (items_of (if b then Some s else find shape.story_id story ss))
        → (if b then record s { items = f s.items } ∷ ss else s ∷ edit_story story f ss) ≡ (if b then record s { items = g s.items } ∷ ss else s ∷ edit_story story g ss)
    go true r h = ap (λ (l : List Item). record s { items = l } ∷ ss) h
    go false r h = ap (λ l. s ∷ l) (r h)

pub edit_nothing : (story : Text) (ss : List Story) → edit_story story (λ items. items) ss ≡ ss
edit_nothing story [] = refl
edit_nothing story (s ∷ ss) = go (same_id story s.id) (edit_nothing story ss)
  where
    go : (b : Bool) → edit_story story (λ items. items) ss ≡ ss → (if b then record s { items = s.items } ∷ ss else s ∷ edit_story story (λ items. items) ss) ≡ s ∷ ss
    go true r = refl
    go false r = ap (λ l. s ∷ l) r

-- an edit that does nothing to those items
pub edit_kept : (story : Text) (ss : List Story) (f : List Item → List Item) → f (items_in story ss) ≡ items_in story ss → edit_story story f ss ≡ ss
edit_kept story ss f h = edit_same story ss f (λ items. items) h ∙ edit_nothing story ss

-- no such story
pub edit_none : (story : Text) (ss : List Story) (f : List Item → List Item) → has_id story (story_ids ss) ≡ false → edit_story story f ss ≡ ss
edit_none story [] f h = refl
edit_none story (s ∷ ss) f h = go (same_id story s.id) (edit_none story ss f) h
  where
    go : (b : Bool) → (has_id story (story_ids ss) ≡ false → edit_story story f ss ≡ ss) → b || has_id story (story_ids ss) ≡ false → (if b then record s { items = f s.items } ∷ ss else s ∷ edit_story story f ss) ≡ s ∷ ss
    go true r h = absurd (cc)
    go false r h = ap (λ l. s ∷ l) (r h)

-- one edit after another
pub edit_twice : (story : Text) (ss : List Story) (f g : List Item → List Item) → edit_story story g (edit_story story f ss) ≡ edit_story story (λ items. g (f items)) ss
edit_twice story [] f g = refl
edit_twice story (s ∷ ss) f g = go (same_id story s.id) refl (edit_twice story ss f g)
  where
    go : (b : Bool) → same_id story s.id ≡ b → edit_story story g (edit_story story f ss) ≡ edit_story story (λ items. g (f items)) ss
        → edit_story story g (if b then record s { items = f s.items } ∷ ss else s ∷ edit_story story f ss) ≡ (if b then record s { items = g (f s.items) } ∷ ss else s ∷ edit_story story (λ items. g (f items)) ss)
    go true e r = rw e refl
    go false e r = rw e (ap (λ l. s ∷ l) r)

-- the place of an item by its story's identifier
pub item_place_is : (story item : Text) (ss : List Story) → item_place_of ss story item ≡ place_of item (item_ids (items_in story ss))
item_place_is story item ss = go (place_of story (story_ids ss)) refl
  where
    go : (o : Option ℕ) → place_of story (story_ids ss) ≡ o → option_and_then (λ i. place_of item (item_ids (items_at ss i))) o ≡ place_of item (item_ids (items_in story ss))
    go None e = rw (find_none shape.story_id story ss (place_none shape.story_id story ss e)) refl
    go (Some i) e = ap (λ l. place_of item (item_ids l)) (items_found story ss i (place_stands shape.story_id story ss i e))

put_found : (story : Text) (ss : List Story) (s : Story) (f : List Item → List Item) → find shape.story_id story ss ≡ Some s → put_for shape.story_id story (record s { items = f s.items } ∷ []) ss ≡ edit_story story f ss
put_found story [] s f h = absurd (cc)
put_found story (x ∷ ss) s f h = go (same_id story x.id) (put_found story ss s f) h
  where
    go : (b : Bool) → (find shape.story_id story ss ≡ Some s → put_for shape.story_id story (record s { items = f s.items } ∷ []) ss ≡ edit_story story f ss)
        → (if b then Some x else find shape.story_id story ss) ≡ Some s
        → (if b then (record s { items = f s.items } ∷ []) ++ ss else x ∷ put_for shape.story_id story (record s { items = f s.items } ∷ []) ss) ≡ (if b then record x { items = f x.items } ∷ ss else x ∷ edit_story story f ss)
    go true r h = let s_is : x ≡ s = cc in ap (λ (z : Story). record z { items = f z.items } ∷ ss) (sym s_is)
    go false r h = ap (λ l. x ∷ l) (r h)

find_there : (story : Text) (ss : List Story) (s : Story) → find shape.story_id story ss ≡ Some s → has_id story (story_ids ss) ≡ true
find_there story [] s h = absurd (cc)
find_there story (x ∷ ss) s h = go (same_id story x.id) (find_there story ss s) h
  where
    go : (b : Bool) → (find shape.story_id story ss ≡ Some s → has_id story (story_ids ss) ≡ true) → (if b then Some x else find shape.story_id story ss) ≡ Some s → b || has_id story (story_ids ss) ≡ true
    go true r h = refl
    go false r h = r h

find_nothing : (story : Text) (ss : List Story) → find shape.story_id story ss ≡ None → has_id story (story_ids ss) ≡ false
find_nothing story [] h = refl
find_nothing story (x ∷ ss) h = go (same_id story x.id) (find_nothing story ss) h
  where
    go : (b : Bool) → (find shape.story_id story ss ≡ None → has_id story (story_ids ss) ≡ false) → (if b then Some x else find shape.story_id story ss) ≡ None → b || has_id story (story_ids ss) ≡ false
    go true r h = absurd (cc)
    go false r h = r h

-- an action on the items of a story: the first fault of the story, the target and the sources, or that edit of the story
pub act_items : (story : Text) (action : ListAction Item) (ss : List Story)
    → act shape (OnItems story action) ss ≡ done_unless (first_of (lacking (story_ids ss) story) (list_fault shape.item_id action (item_ids (items_in story ss)))) (edit_story story (list_result shape.item_id action) ss)
act_items story action ss = go (find shape.story_id story ss) refl
  where
    put : (s : Story) → find shape.story_id story ss ≡ Some s → (o : Option ActFault)
        → put_items shape story s ss (done_unless o (list_result shape.item_id action s.items)) ≡ done_unless o (edit_story story (list_result shape.item_id action) ss)
    put s e None = ap (λ l. Done l) (put_found story ss s (list_result shape.item_id action) e)
    put s e (Some f) = refl

    go : (o : Option Story) → find shape.story_id story ss ≡ o
        → act_in shape story action ss o ≡ done_unless (first_of (lacking (story_ids ss) story) (list_fault shape.item_id action (item_ids (items_of o)))) (edit_story story (list_result shape.item_id action) ss)
    go None e = rw (find_nothing story ss e) refl
    go (Some s) e = rw (find_there story ss s e) (put s e (list_fault shape.item_id action (item_ids s.items)))
