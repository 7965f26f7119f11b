-- Edits of the items of a story at a place, one after another.
use Rattle.std.proofs.Common.{◌≡◌, ℕ, zero, suc, ◌-◌, ◌<◌, ◌≤◌, List, [], ◌∷◌, length, take, remove, Some, None, arith, refl, sym, ap, ◌∙◌, subst, length-take-le}
use Rattle.std.proofs.lemmas.List.{take_all}
use Rattle.std.specs.List.{swap}
use Rattle.std.specs.Option.{option_and_then, option_map_or}
use Rattle.mos_edits.specs.Texts.{Text}
use Rattle.mos_edits.specs.KeyedLists.{picked, put_before, without, first_missing, lacking_place}
use Rattle.mos_edits.specs.Orders.{Item, Story, shape}
use Rattle.mos_values.specs.Distinct.{story_ids, item_ids}
use Rattle.running_order.specs.Places.{place_of, items_at, edit_items, item_place_of}
use Rattle.element_action.specs.Levels.{edit_story}
use Rattle.element_action.specs.Targets.{brought, gathered, place_in, target_place_of}
use Rattle.element_action.proofs.PlaceLemmas.{place_stands, stands_within}
use Rattle.running_order.proofs.Lists.{taken_less}
use Rattle.element_action.proofs.GatherLemmas.{fewer, moved_together, removed_together}
use Rattle.element_action.proofs.ItemLemmas.{items_in, edit_found, items_found, edit_same}

-- the stories and their identifiers stay
pub edited_ids : (ss : List Story) (i : ℕ) (f : List Item → List Item) → story_ids (edit_items ss i f) ≡ story_ids ss
edited_ids [] i f = refl
edited_ids (s ∷ ss) zero f = refl
edited_ids (s ∷ ss) (suc i) f = ap (λ l. s.id ∷ l) (edited_ids ss i f)

pub edited_long : (ss : List Story) (i : ℕ) (f : List Item → List Item) → length (edit_items ss i f) ≡ length ss
edited_long [] i f = refl
edited_long (s ∷ ss) zero f = refl
edited_long (s ∷ ss) (suc i) f = ap suc (edited_long ss i f)

-- the items after an edit
pub edited_at : (ss : List Story) (i : ℕ) (f : List Item → List Item) → i < length ss → items_at (edit_items ss i f) i ≡ f (items_at ss i)
edited_at [] i f lt = absurd (omega (arith, lt))
edited_at (s ∷ ss) zero f lt = refl
edited_at (s ∷ ss) (suc i) f lt = edited_at ss i f (omega (arith, lt))

-- one edit after another
pub edited_twice : (ss : List Story) (i : ℕ) (f g : List Item → List Item) → edit_items (edit_items ss i f) i g ≡ edit_items ss i (λ old. g (f old))
edited_twice [] i f g = refl
edited_twice (s ∷ ss) zero f g = refl
edited_twice (s ∷ ss) (suc i) f g = ap (λ l. s ∷ l) (edited_twice ss i f g)

-- an edit that leaves the items
pub edited_none : (ss : List Story) (i : ℕ) → edit_items ss i (λ old. items_at ss i) ≡ ss
edited_none [] i = refl
edited_none (s ∷ ss) zero = refl
edited_none (s ∷ ss) (suc i) = ap (λ l. s ∷ l) (edited_none ss i)

-- edits that do the same to those items
pub edited_same : (ss : List Story) (i : ℕ) (f g : List Item → List Item) → f (items_at ss i) ≡ g (items_at ss i) → edit_items ss i f ≡ edit_items ss i g
edited_same [] i f g h = refl
edited_same (s ∷ ss) zero f g h = ap (λ (l : List Item). record s { items = l } ∷ ss) h
edited_same (s ∷ ss) (suc i) f g h = ap (λ l. s ∷ l) (edited_same ss i f g h)

-- the stories with those items, and one edit more
pub edited_next : (from ss new : List Story) (i : ℕ) (f : List Item → List Item) → i < length ss → ss ≡ edit_items from i (λ old. items_at ss i) → new ≡ edit_items ss i f → new ≡ edit_items from i (λ old. items_at new i)
edited_next from ss new i f lt is e =
    let at : items_at new i ≡ f (items_at ss i) = ap (λ l. items_at l i) e ∙ edited_at ss i f lt in
    e ∙ ap (λ l. edit_items l i f) is ∙ edited_twice from i (λ old. items_at ss i) f ∙ (λ j. edit_items from i (λ old. sym at j))

-- one item less of those up to the end
pub dropped_next : (from ss new : List Story) (i n at : ℕ) → n ≡ suc at → n ≤ length (items_at from i) → ss ≡ edit_items from i (λ old. take n old) → new ≡ edit_items ss i (λ old. remove old at)
    → new ≡ edit_items from i (λ old. take at old)
dropped_next from ss new i n at more le is e =
    let items = items_at from i in
    let within : at < length items = omega (arith, more, le) in
    let less : remove (take n items) at ≡ take at items = ap (λ k. remove (take k items) at) more ∙ taken_less items at within in
    e ∙ ap (λ l. edit_items l i (λ old. remove old at)) is ∙ edited_twice from i (λ old. take n old) (λ old. remove old at)
    ∙ edited_same from i (λ old. remove (take n old) at) (λ old. take at old) less

pub dropped_within : (from ss : List Story) (i n : ℕ) → i < length from → n ≤ length (items_at from i) → ss ≡ edit_items from i (λ old. take n old) → length (items_at ss i) ≡ n
dropped_within from ss i n lt le is =
    ap (λ l. length (items_at l i)) is ∙ ap length (edited_at from i (λ old. take n old) lt) ∙ length-take-le n (items_at from i) le

pub none_dropped : (ss : List Story) (i n : ℕ) → length (items_at ss i) ≤ n → ss ≡ edit_items ss i (λ old. take n old)
none_dropped ss i n le = sym (edited_none ss i) ∙ edited_same ss i (λ old. items_at ss i) (λ old. take n old) (sym (take_all n (items_at ss i) le))

module _ (story : Text) (ss : List Story) (i : ℕ) (here : place_of story (story_ids ss) ≡ Some i) where
  pub story_within : i < length ss
  story_within = stands_within shape.story_id story ss i (place_stands shape.story_id story ss i here)

  found : items_at ss i ≡ items_in story ss
  found = items_found story ss i (place_stands shape.story_id story ss i here)

  by_id : (f g : List Item → List Item) → f (items_in story ss) ≡ g (items_in story ss) → edit_items ss i f ≡ edit_story story g ss
  by_id f g h = edit_found story ss i f (place_stands shape.story_id story ss i here) ∙ edit_same story ss f g h

  -- the story still stands there
  pub still_here : (new : List Story) (f : List Item → List Item) → new ≡ edit_items ss i f → place_of story (story_ids new) ≡ Some i
  still_here new f e = ap (λ l. place_of story (story_ids l)) e ∙ ap (λ l. place_of story l) (edited_ids ss i f) ∙ here

  -- the place of one of its items
  item_here : (id : Text) → item_place_of ss story id ≡ place_of id (item_ids (items_at ss i))
  item_here id = ap (λ o. option_and_then (λ n. place_of id (item_ids (items_at ss n))) o) here

  pub item_within : (id : Text) (at : ℕ) → item_place_of ss story id ≡ Some at → at < length (items_at ss i)
  item_within id at h = stands_within shape.item_id id (items_at ss i) at (place_stands shape.item_id id (items_at ss i) at (sym (item_here id) ∙ h))

  pub brought_some : (id : Text) (at from : ℕ) → item_place_of ss story id ≡ Some from → edit_items ss i (λ old. swap old at from) ≡ edit_items ss i (brought shape.item_id at id)
  brought_some id at from h =
      let items = items_at ss i in
      edited_same ss i (λ old. swap old at from) (brought shape.item_id at id) (sym (ap (λ o. option_map_or (λ k. swap items at k) o items) (sym (item_here id) ∙ h)))

  pub brought_none : (id : Text) (at : ℕ) → item_place_of ss story id ≡ None → ss ≡ edit_items ss i (brought shape.item_id at id)
  brought_none id at h =
      let items = items_at ss i in
      sym (edited_none ss i)
      ∙ edited_same ss i (λ old. items) (brought shape.item_id at id) (sym (ap (λ o. option_map_or (λ k. swap items at k) o items) (sym (item_here id) ∙ h)))

  -- the sources that are there
  pub there_at : (sources : List Text) → first_missing (item_ids (items_in story ss)) [] sources ≡ None → first_missing (item_ids (items_at ss i)) [] sources ≡ None
  there_at sources h = ap (λ l. first_missing (item_ids l) [] sources) found ∙ h

  -- gathered before the target
  pub moved_once : (t : Text) (at : ℕ) (sources : List Text) → at ≡ place_in (length (items_at ss i)) (target_place_of t (item_ids (items_in story ss))) → lacking_place (item_ids (items_in story ss)) sources t ≡ None
      → edit_items ss i (gathered shape.item_id at sources) ≡ edit_story story (λ old. put_before shape.item_id t (picked shape.item_id sources old) (without shape.item_id sources old)) ss
  moved_once t at sources e h =
      let is = items_in story ss in
      by_id (gathered shape.item_id at sources) (λ old. put_before shape.item_id t (picked shape.item_id sources old) (without shape.item_id sources old))
      (ap (λ k. gathered shape.item_id k sources is) (e ∙ ap (λ l. place_in (length l) (target_place_of t (item_ids is))) found) ∙ moved_together shape.item_id t sources is h)

  -- gathered at the end, and taken away from there
  pub fewer_left : (new : List Story) (n : ℕ) (sources : List Text) → n ≡ length (items_at ss i) → first_missing (item_ids (items_at ss i)) [] sources ≡ None → new ≡ edit_items ss i (gathered shape.item_id n sources)
      → length sources ≤ length (items_at new i)
  fewer_left new n sources e h is =
      subst (λ (l : List Item). length sources ≤ length l) (sym (ap (λ l. items_at l i) is ∙ edited_at ss i (gathered shape.item_id n sources) story_within))
      (fewer shape.item_id sources (items_at ss i) n h e)

  pub removed_once : (new : List Story) (n : ℕ) (sources : List Text) → n ≡ length (items_at ss i) → first_missing (item_ids (items_at ss i)) [] sources ≡ None → new ≡ edit_items ss i (gathered shape.item_id n sources)
      → edit_items new i (λ old. take (length old - length sources) old) ≡ edit_items ss i (without shape.item_id sources)
  removed_once new n sources e h is =
      let all = gathered shape.item_id n sources in
      ap (λ l. edit_items l i (λ old. take (length old - length sources) old)) is
      ∙ edited_twice ss i all (λ old. take (length old - length sources) old)
      ∙ edited_same ss i (λ old. take (length (all old) - length sources) (all old)) (without shape.item_id sources) (removed_together shape.item_id sources (items_at ss i) n h e)

  pub removed_here : (sources : List Text) → edit_items ss i (without shape.item_id sources) ≡ edit_story story (without shape.item_id sources) ss
  removed_here sources = by_id (without shape.item_id sources) (without shape.item_id sources) refl
