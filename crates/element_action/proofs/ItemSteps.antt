-- Edits of the items of a story by place, as edits by identifier.
use Rattle.std.proofs.Common.{◌≡◌, ℕ, ◌<◌, ◌≤◌, List, [], ◌∷◌, ◌++◌, length, remove, false, Some, None, sym, ap, ◌∙◌, subst}
use Rattle.std.proofs.lemmas.List.{map-append}
use Rattle.std.specs.List.{swap}
use Rattle.indexmap.specs.IndexMap.{move_index}
use Rattle.mos_edits.specs.Texts.{Text, has_id}
use Rattle.mos_edits.specs.KeyedLists.{first_repeated, put_before, put_for, without, exchanged}
use Rattle.mos_edits.specs.Orders.{Item, Story, shape}
use Rattle.mos_edits.proofs.Distinct.{is-distinct}
use Rattle.mos_values.specs.Distinct.{AreDistinct, story_ids, item_ids}
use Rattle.running_order.specs.Places.{place_of, put_in, put_over, items_at, edit_items, item_place_of}
use Rattle.element_action.specs.Levels.{edit_story}
use Rattle.element_action.specs.Targets.{target_place_of, place_in, place_moved, moved}
use Rattle.element_action.proofs.PlaceLemmas.{Stands, stands_within, place_stands, place_none, remove_place, without_absent, put_for_place, put_for_absent}
use Rattle.element_action.proofs.StepLemmas.{exchange_is_swap, exchange_no_first, exchange_no_second}
use Rattle.element_action.proofs.TargetLemmas.{put_is, place_in_within, target_within, place_moved_within, moved_is, moved_none}
use Rattle.element_action.proofs.SourceLemmas.{insert_distinct, replace_distinct}
use Rattle.element_action.proofs.ItemLemmas.{items_in, edit_found, items_found, edit_same, edit_kept, edit_none, item_place_is}

module _ (story : Text) (ss : List Story) where
  -- no such story
  pub no_story : (f : List Item → List Item) → place_of story (story_ids ss) ≡ None → edit_story story f ss ≡ ss
  no_story f h = edit_none story ss f (place_none shape.story_id story ss h)

  no_item : (id : Text) → item_place_of ss story id ≡ None → has_id id (item_ids (items_in story ss)) ≡ false
  no_item id h = place_none shape.item_id id (items_in story ss) (sym (item_place_is story id ss) ∙ h)

  -- no such item
  pub removed_none : (id : Text) → item_place_of ss story id ≡ None → edit_story story (without shape.item_id (id ∷ [])) ss ≡ ss
  removed_none id h = edit_kept story ss (without shape.item_id (id ∷ [])) (without_absent shape.item_id id (items_in story ss) (no_item id h))

  pub moved_no_item : (t id : Text) → item_place_of ss story id ≡ None → edit_story story (moved shape.item_id t id) ss ≡ ss
  moved_no_item t id h = edit_kept story ss (moved shape.item_id t id) (moved_none shape.item_id t id (items_in story ss) (no_item id h))

  pub replaced_none : (t : Text) (new : List Item) → item_place_of ss story t ≡ None → edit_story story (put_for shape.item_id t new) ss ≡ ss
  replaced_none t new h = edit_kept story ss (put_for shape.item_id t new) (put_for_absent shape.item_id t new (items_in story ss) (no_item t h))

  pub swapped_no_first : (a b : Text) → item_place_of ss story a ≡ None → edit_story story (exchanged shape.item_id a b) ss ≡ ss
  swapped_no_first a b h = edit_kept story ss (exchanged shape.item_id a b) (exchange_no_first shape.item_id a b (items_in story ss) (no_item a h))

  pub swapped_no_second : (a b : Text) → item_place_of ss story b ≡ None → edit_story story (exchanged shape.item_id a b) ss ≡ ss
  swapped_no_second a b h = edit_kept story ss (exchanged shape.item_id a b) (exchange_no_second shape.item_id a b (items_in story ss) (no_item b h))

  module _ (i : ℕ) (here : place_of story (story_ids ss) ≡ Some i) where
    found : items_at ss i ≡ items_in story ss
    found = items_found story ss i (place_stands shape.story_id story ss i here)

    by_id : (f g : List Item → List Item) → f (items_in story ss) ≡ g (items_in story ss) → edit_items ss i f ≡ edit_story story g ss
    by_id f g h = edit_found story ss i f (place_stands shape.story_id story ss i here) ∙ edit_same story ss f g h

    stands : (id : Text) (at : ℕ) → item_place_of ss story id ≡ Some at → Stands shape.item_id id (items_in story ss) at
    stands id at h = place_stands shape.item_id id (items_in story ss) at (sym (item_place_is story id ss) ∙ h)

    pub removed_item : (id : Text) (at : ℕ) → item_place_of ss story id ≡ Some at → AreDistinct (item_ids (items_at ss i)) → edit_items ss i (λ old. remove old at) ≡ edit_story story (without shape.item_id (id ∷ [])) ss
    removed_item id at h d =
        by_id (λ old. remove old at) (without shape.item_id (id ∷ []))
        (remove_place shape.item_id id (items_in story ss) at (is-distinct (item_ids (items_in story ss)) (subst (λ l. AreDistinct (item_ids l)) found d)) (stands id at h))

    pub swapped_items : (a b : Text) (at bt : ℕ) → item_place_of ss story a ≡ Some at → item_place_of ss story b ≡ Some bt → AreDistinct (item_ids (items_at ss i))
        → edit_items ss i (λ old. swap old at bt) ≡ edit_story story (exchanged shape.item_id a b) ss
    swapped_items a b at bt h g d =
        by_id (λ old. swap old at bt) (exchanged shape.item_id a b)
        (sym (exchange_is_swap shape.item_id a b (items_in story ss) at bt (is-distinct (item_ids (items_in story ss)) (subst (λ l. AreDistinct (item_ids l)) found d)) (stands a at h) (stands b bt g)))

    -- what the item goes to, by the target's place
    pub to_within : (t id : Text) (from to : ℕ) → item_place_of ss story id ≡ Some from
        → to ≡ place_moved (length (items_at ss i)) from (target_place_of t (item_ids (items_in story ss))) → to < length (items_at ss i)
    to_within t id from to h e =
        let lt : from < length (items_at ss i) = subst (λ l. from < length l) (sym found) (stands_within shape.item_id id (items_in story ss) from (stands id from h)) in
        subst (λ k. k < length (items_at ss i)) (sym (e ∙ ap (λ l. place_moved (length (items_at ss i)) from (target_place_of t (item_ids l))) (sym found)))
        (place_moved_within shape.item_id (length (items_at ss i)) from (target_place_of t (item_ids (items_at ss i))) lt (target_within shape.item_id t (items_at ss i)))

    pub moved_item : (t id : Text) (from to : ℕ) → item_place_of ss story id ≡ Some from → AreDistinct (item_ids (items_at ss i))
        → to ≡ place_moved (length (items_at ss i)) from (target_place_of t (item_ids (items_in story ss)))
        → edit_items ss i (λ old. move_index old from to) ≡ edit_story story (moved shape.item_id t id) ss
    moved_item t id from to h d e =
        let is = items_in story ss in
        by_id (λ old. move_index old from to) (moved shape.item_id t id)
        (ap (λ k. move_index is from k) (e ∙ ap (λ l. place_moved (length l) from (target_place_of t (item_ids is))) found)
        ∙ moved_is shape.item_id t id is from (is-distinct (item_ids is) (subst (λ l. AreDistinct (item_ids l)) found d)) (stands id from h))

    pub at_within : (t : Text) (at : ℕ) → at ≡ place_in (length (items_at ss i)) (target_place_of t (item_ids (items_in story ss))) → at ≤ length (items_at ss i)
    at_within t at e =
        subst (λ k. k ≤ length (items_at ss i)) (sym (e ∙ ap (λ l. place_in (length (items_at ss i)) (target_place_of t (item_ids l))) (sym found))) (place_in_within shape.item_id t (items_at ss i))

    pub put_item : (t : Text) (at : ℕ) (new : List Item) → at ≡ place_in (length (items_at ss i)) (target_place_of t (item_ids (items_in story ss)))
        → edit_items ss i (λ old. put_in old at new) ≡ edit_story story (put_before shape.item_id t new) ss
    put_item t at new e =
        let is = items_in story ss in
        by_id (λ old. put_in old at new) (put_before shape.item_id t new)
        (ap (λ k. put_in is k new) (e ∙ ap (λ l. place_in (length l) (target_place_of t (item_ids is))) found) ∙ put_is shape.item_id t is new)

    pub put_distinct : (new : List Item) → AreDistinct (item_ids (items_at ss i)) → first_repeated (item_ids (items_in story ss)) [] (item_ids new) ≡ None → AreDistinct (item_ids (items_at ss i ++ new))
    put_distinct new d h =
        subst AreDistinct (sym (map-append shape.item_id (items_at ss i) new))
        (insert_distinct shape.item_id (items_at ss i) new d (subst (λ l. first_repeated (item_ids l) [] (item_ids new) ≡ None) (sym found) h))

    pub replaced_item : (t : Text) (at : ℕ) (new : List Item) → item_place_of ss story t ≡ Some at → edit_items ss i (λ old. put_over old at new) ≡ edit_story story (put_for shape.item_id t new) ss
    replaced_item t at new h = by_id (λ old. put_over old at new) (put_for shape.item_id t new) (sym (put_for_place shape.item_id t new (items_in story ss) at (stands t at h)))

    pub replaced_distinct : (t : Text) (at : ℕ) (new : List Item) → item_place_of ss story t ≡ Some at → AreDistinct (item_ids (items_at ss i))
        → first_repeated (without (λ x. x) (t ∷ []) (item_ids (items_in story ss))) [] (item_ids new) ≡ None → AreDistinct (item_ids (remove (items_at ss i) at ++ new))
    replaced_distinct t at new h d r =
        let is = items_in story ss in
        subst (λ l. AreDistinct (item_ids (remove l at ++ new))) (sym found)
        (subst AreDistinct (sym (map-append shape.item_id (remove is at) new))
        (replace_distinct shape.item_id t is new at (subst (λ l. AreDistinct (item_ids l)) found d) (stands t at h) r))
