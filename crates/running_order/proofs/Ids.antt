-- The IDs of items and of stories, and what edits do to them.
use Rattle.std.proofs.Common.{◌≡◌, ℕ, ◌+◌, ◌-◌, ◌<◌, List, [], ◌∷◌, ◌++◌, length, take, get_or, refl, sym, ap, subst, ◌∙◌, arith, length-take, length-append}
use Rattle.std.proofs.lemmas.List.{map-append, take-map, take_more, get_or-take, get_or-append_right}
use Rattle.running_order.specs.Places.{put_in, put_over}
use Rattle.running_order.proofs.Lists.{map-put_in, map-put_over}
use Rattle.mos_fields.specs.Characters.{Text}
use Rattle.mos_values.specs.declared.item.Item.{Item}
use Rattle.mos_values.specs.StoryValue.{Story}
use Rattle.mos_values.specs.Distinct.{AreDistinct, item_ids, story_ids}

-- one item more, and one story more
pub ids_more : (items : List Item) (k : ℕ) (x : Item) → k < length items → x ≡ get_or items k x → item_ids (take k items) ++ x.id ∷ [] ≡ item_ids (take (k + 1) items)
ids_more items k x lt at =
    sym (ap item_ids (take_more items k x lt ∙ ap (λ y. take k items ++ y ∷ []) (sym at)) ∙ map-append (λ (i : Item). i.id) (take k items) (x ∷ []))

pub story_ids_more : (stories : List Story) (k : ℕ) (x : Story) → k < length stories → x ≡ get_or stories k x → story_ids (take k stories) ++ x.id ∷ [] ≡ story_ids (take (k + 1) stories)
story_ids_more stories k x lt at =
    sym (ap story_ids (take_more stories k x lt ∙ ap (λ y. take k stories ++ y ∷ []) (sym at)) ∙ map-append (λ (s : Story). s.id) (take k stories) (x ∷ []))

pub AreDistinct-take : (n : ℕ) (ids : List Text) → AreDistinct ids → AreDistinct (take n ids)
AreDistinct-take n ids d i j e lt within =
    let m = length-take n ids in
    let first : i < n = omega (arith, m) in
    let second : j < n = omega (arith, m) in
    let inside : j < length ids = omega (arith, m) in
    λ h. d i j e lt inside (sym (get_or-take n ids i e first) ∙ h ∙ get_or-take n ids j e second)

pub distinct_more : (items : List Item) (n : ℕ) → AreDistinct (item_ids items) → AreDistinct (item_ids (take n items))
distinct_more items n d = subst AreDistinct (take-map (λ (i : Item). i.id) n items) (AreDistinct-take n (item_ids items) d)

pub distinct_stories_more : (stories : List Story) (n : ℕ) → AreDistinct (story_ids stories) → AreDistinct (story_ids (take n stories))
distinct_stories_more stories n d = subst AreDistinct (take-map (λ (s : Story). s.id) n stories) (AreDistinct-take n (story_ids stories) d)

pub AreDistinct-right : (xs ys : List Text) → AreDistinct (xs ++ ys) → AreDistinct ys
AreDistinct-right xs ys d i j e lt within =
    let n = length xs in
    let all = length-append xs ys in
    let first : n + i - n ≡ i = omega arith in
    let second : n + j - n ≡ j = omega arith in
    let one = get_or-append_right xs ys n (n + i) e refl (omega arith) ∙ ap (λ k. get_or ys k e) first in
    let two = get_or-append_right xs ys n (n + j) e refl (omega arith) ∙ ap (λ k. get_or ys k e) second in
    λ h. d (n + i) (n + j) e (omega arith) (omega (arith, all)) (one ∙ h ∙ sym two)

-- an edit of the items is that edit of their IDs
pub ids_put_in : (items new : List Item) (at : ℕ) → item_ids (put_in items at new) ≡ put_in (item_ids items) at (item_ids new)
ids_put_in items new at = map-put_in (λ (i : Item). i.id) items at new

pub ids_put_over : (items new : List Item) (at : ℕ) → item_ids (put_over items at new) ≡ put_over (item_ids items) at (item_ids new)
ids_put_over items new at = map-put_over (λ (i : Item). i.id) items at new

-- a story that got other items in place of its own
pub story_with : (story taken after : Story) (list edited : List Item) (v : Story) → taken ≡ record story { items = [] } → after ≡ record taken { items = list }
    → list ≡ edited → story ≡ v → after ≡ record v { items = edited }
story_with story taken after list edited v out in_ e is =
    in_ ∙ ap (λ (s : Story). record s { items = list }) out ∙ ap (λ (l : List Item). record story { items = l }) e ∙ ap (λ (s : Story). record s { items = edited }) is
