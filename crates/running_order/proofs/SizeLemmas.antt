-- What edits of stories and of items change in their sizes.
use Rattle.std.proofs.Common.{◌≡◌, ℕ, zero, suc, ◌+◌, ◌*◌, ◌<◌, ◌≤◌, List, [], ◌∷◌, ◌++◌, length, take, drop, remove, swap, slice_get, get_or, Some, refl, sym, ap, ◌∙◌, arith}
use Rattle.std.specs.List.{flat_map, sum_by}
use Rattle.std.proofs.lemmas.List.{take-append-drop}
use Rattle.std.proofs.lemmas.List.Sums.{sum_by-append, sum_by-cons}
use Rattle.std.proofs.lemmas.List.Sorted.{sum_by-IsPermutation}
use Rattle.indexmap.specs.IndexMap.{move_index}
use Rattle.indexmap.proofs.MoveLemmas.{move_permutes}
use Rattle.mos_fields.specs.Fields.{name_of}
use Rattle.mos_fields.specs.declared.field.Field.TheVariants as fields
use Rattle.mos_values.specs.Parts.{element}
use Rattle.mos_values.specs.StoryValue.{Story}
use Rattle.mos_values.specs.Units.{units_in, capped}
use Rattle.mos_values.specs.Views.{item_events, items_events, story_head_events, story_events, stories_events}
use Rattle.mos_values.specs.declared.item.Item.{Item}
use Rattle.mos_values.proofs.Encoding.{units_in-append, units_in-nil, units_in_element, units_of_name}
use Rattle.running_order.specs.Places.{put_in, put_over, items_at, edit_items}
use Rattle.running_order.specs.Sizes.{story_size, item_size, size_at, stories_size, IsEdited}
use Rattle.running_order.proofs.Lists.{put_in-remove}

-- the size of a list is the sum of the sizes in it
sum_of : {X : Type 0} (g : X → _) (xs : List X) → units_in (flat_map g xs) ≡ sum_by (λ x. units_in (g x)) xs
sum_of g [] = units_in-nil
sum_of g (x ∷ xs) = units_in-append (g x) (flat_map g xs) ∙ ap (λ n. units_in (g x) + n) (sum_of g xs) ∙ sym (sum_by-cons (λ y. units_in (g y)) x xs)

pub stories_sum : (ss : List Story) → units_in (stories_events ss) ≡ sum_by story_size ss
unfolding stories_events story_size
stories_sum ss = sum_of (λ s. element (name_of fields.StoryTag) (story_events s)) ss

pub items_sum : (is : List Item) → units_in (items_events is) ≡ sum_by item_size is
unfolding items_events item_size
items_sum is = sum_of (λ i. element (name_of fields.ItemTag) (item_events i)) is

module _ {X : Type 0} (f : X → ℕ) where
  -- one at a place is a part of the sum
  pub part-remove : (xs : List X) (i : ℕ) → sum_by f (remove xs i) + size_at f xs i ≡ sum_by f xs
  part-remove [] zero = refl
  part-remove [] (suc i) = refl
  part-remove (x ∷ xs) zero =
      let e = sum_by-cons f x xs in
      omega (arith, e)
  part-remove (x ∷ xs) (suc i) =
      let e = sum_by-cons f x xs in
      let r = sum_by-cons f x (remove xs i) in
      let h = part-remove xs i in
      omega (arith, e, r, h)

  pub part-put_in : (xs : List X) (at : ℕ) (new : List X) → sum_by f (put_in xs at new) ≡ sum_by f xs + sum_by f new
  part-put_in xs at new =
      let whole = ap (sum_by f) (take-append-drop at xs) in
      let both = sum_by-append f (take at xs) (drop at xs) in
      let one = sum_by-append f (take at xs) (new ++ drop at xs) in
      let two = sum_by-append f new (drop at xs) in
      omega (arith, whole, both, one, two)

  pub part-put_over : (xs : List X) (at : ℕ) (new : List X) → at < length xs → sum_by f (put_over xs at new) + size_at f xs at ≡ sum_by f xs + sum_by f new
  part-put_over xs at new lt =
      let same = ap (sum_by f) (put_in-remove xs at new lt) in
      let put = part-put_in (remove xs at) at new in
      let gone = part-remove xs at in
      omega (arith, same, put, gone)

  pub part-move : (xs : List X) (from to : ℕ) → from < length xs → to < length xs → sum_by f (move_index xs from to) ≡ sum_by f xs
  part-move xs from to a b = sum_by-IsPermutation f xs (move_index xs from to) (move_permutes xs from to a b)

  pub part-swap : (xs : List X) (a b : ℕ) → a < length xs → b < length xs → sum_by f (swap xs a b) ≡ sum_by f xs
  part-swap xs a b p q = sum_by-IsPermutation f xs (swap xs a b) (record { moves = (a, b) ∷ []; below = (p, q, tt); is = refl })

-- a story's size is what it says of itself, and its items
size_is : (s : Story) → story_size s ≡ 2 * length (name_of fields.StoryTag) + 5 + (units_in (story_head_events s) + sum_by item_size s.items)
unfolding story_size story_events
size_is s = units_in_element (name_of fields.StoryTag) (story_head_events s ++ items_events s.items) (units_of_name fields.StoryTag)
    ∙ ap (λ n. 2 * length (name_of fields.StoryTag) + 5 + n) (units_in-append (story_head_events s) (items_events s.items) ∙ ap (λ n. units_in (story_head_events s) + n) (items_sum s.items))

head_is : (s : Story) (is : List Item) → story_head_events (record s { items = is }) ≡ story_head_events s
unfolding story_head_events
head_is s is = refl

-- other items in a story
size_with : (s : Story) (is : List Item) → story_size (record s { items = is }) + sum_by item_size s.items ≡ story_size s + sum_by item_size is
size_with s is =
    let old = size_is s in
    let new = size_is (record s { items = is }) in
    let head = ap units_in (head_is s is) in
    omega (arith, old, new, head)

-- and in the story at a place
pub part-edit : (ss : List Story) (i : ℕ) (edit : List Item → List Item) → i < length ss
    → sum_by story_size (edit_items ss i edit) + sum_by item_size (items_at ss i) ≡ sum_by story_size ss + sum_by item_size (edit (items_at ss i))
part-edit [] i edit lt = absurd (omega arith)
part-edit (s ∷ ss) zero edit lt =
    let old = sum_by-cons story_size s ss in
    let new = sum_by-cons story_size (record s { items = edit s.items }) ss in
    let one = size_with s (edit s.items) in
    omega (arith, old, new, one)
part-edit (s ∷ ss) (suc i) edit lt =
    let old = sum_by-cons story_size s ss in
    let new = sum_by-cons story_size s (edit_items ss i edit) in
    let rest = part-edit ss i edit (omega arith) in
    omega (arith, old, new, rest)

-- items of a story are a part of the stories
pub part-items : (ss : List Story) (i : ℕ) → sum_by item_size (items_at ss i) ≤ sum_by story_size ss
part-items [] i = omega arith
part-items (s ∷ ss) zero =
    let all = sum_by-cons story_size s ss in
    let one = size_is s in
    omega (arith, all, one)
part-items (s ∷ ss) (suc i) =
    let all = sum_by-cons story_size s ss in
    let rest = part-items ss i in
    omega (arith, all, rest)

-- ---- what each edit of the stories takes out and puts in

pub edited-remove : (old new : List Story) (at : ℕ) → new ≡ remove old at → IsEdited old new (size_at story_size old at) 0
edited-remove old new at is =
    let before = stories_sum old in
    let after = ap stories_size is ∙ stories_sum (remove old at) in
    let part = part-remove story_size old at in
    (omega (arith, before, part), omega (arith, before, after, part))

pub edited-put_over : (old new ss : List Story) (at : ℕ) → at < length old → new ≡ put_over old at ss → IsEdited old new (size_at story_size old at) (stories_size ss)
edited-put_over old new ss at lt is =
    let before = stories_sum old in
    let after = ap stories_size is ∙ stories_sum (put_over old at ss) in
    let put = stories_sum ss in
    let part = part-put_over story_size old at ss lt in
    let gone = part-remove story_size old at in
    (omega (arith, before, gone), omega (arith, before, after, put, part))

pub edited-remove_item : (old new : List Story) (i at : ℕ) → i < length old → new ≡ edit_items old i (λ is. remove is at) → IsEdited old new (size_at item_size (items_at old i) at) 0
edited-remove_item old new i at lt is =
    let before = stories_sum old in
    let after = ap stories_size is ∙ stories_sum (edit_items old i (λ is. remove is at)) in
    let edit = part-edit old i (λ is. remove is at) lt in
    let part = part-remove item_size (items_at old i) at in
    let all = part-items old i in
    (omega (arith, before, part, all), omega (arith, before, after, edit, part))

pub edited-replace_item : (old new : List Story) (i at : ℕ) (items : List Item) → i < length old → at < length (items_at old i) → new ≡ edit_items old i (λ is. put_over is at items)
    → IsEdited old new (size_at item_size (items_at old i) at) (units_in (items_events items))
edited-replace_item old new i at items lt within is =
    let before = stories_sum old in
    let after = ap stories_size is ∙ stories_sum (edit_items old i (λ is. put_over is at items)) in
    let put = items_sum items in
    let edit = part-edit old i (λ is. put_over is at items) lt in
    let part = part-put_over item_size (items_at old i) at items within in
    let gone = part-remove item_size (items_at old i) at in
    let all = part-items old i in
    (omega (arith, before, gone, all), omega (arith, before, after, put, edit, part))

-- what an edit only puts in
pub sum-put_in : (old new ss : List Story) (at n m r : ℕ) → new ≡ put_in old at ss → n ≡ capped (stories_size old) → m ≡ capped (stories_size ss) → r ≡ capped (n + m) → r ≡ capped (stories_size new)
sum-put_in old new ss at n m r is a b e =
    let before = stories_sum old in
    let after = ap stories_size is ∙ stories_sum (put_in old at ss) in
    let put = stories_sum ss in
    let part = part-put_in story_size old at ss in
    omega (arith, before, after, put, part, a, b, e)

pub sum-insert_items : (old new : List Story) (i at : ℕ) (items : List Item) (n m r : ℕ) → i < length old → new ≡ edit_items old i (λ is. put_in is at items)
    → n ≡ capped (stories_size old) → m ≡ capped (units_in (items_events items)) → r ≡ capped (n + m) → r ≡ capped (stories_size new)
sum-insert_items old new i at items n m r lt is a b e =
    let before = stories_sum old in
    let after = ap stories_size is ∙ stories_sum (edit_items old i (λ is. put_in is at items)) in
    let put = items_sum items in
    let edit = part-edit old i (λ is. put_in is at items) lt in
    let part = part-put_in item_size (items_at old i) at items in
    omega (arith, before, after, put, edit, part, a, b, e)

-- places that change leave the size
pub size-move : (old new : List Story) (from to : ℕ) → from < length old → to < length old → new ≡ move_index old from to → stories_size new ≡ stories_size old
size-move old new from to a b is = ap stories_size is ∙ stories_sum (move_index old from to) ∙ part-move story_size old from to a b ∙ sym (stories_sum old)

pub size-swap : (old new : List Story) (a b : ℕ) → a < length old → b < length old → new ≡ swap old a b → stories_size new ≡ stories_size old
size-swap old new a b p q is = ap stories_size is ∙ stories_sum (swap old a b) ∙ part-swap story_size old a b p q ∙ sym (stories_sum old)

same-edit : (old : List Story) (i : ℕ) (edit : List Item → List Item) → i < length old → sum_by item_size (edit (items_at old i)) ≡ sum_by item_size (items_at old i) → sum_by story_size (edit_items old i edit) ≡ sum_by story_size old
same-edit old i edit lt h = let e = part-edit old i edit lt in omega (arith, e, h)

pub size-move_item : (old new : List Story) (i from to : ℕ) → i < length old → from < length (items_at old i) → to < length (items_at old i) → new ≡ edit_items old i (λ is. move_index is from to) → stories_size new ≡ stories_size old
size-move_item old new i from to lt a b is =
    ap stories_size is ∙ stories_sum (edit_items old i (λ is. move_index is from to)) ∙ same-edit old i (λ is. move_index is from to) lt (part-move item_size (items_at old i) from to a b) ∙ sym (stories_sum old)

pub size-swap_items : (old new : List Story) (i a b : ℕ) → i < length old → a < length (items_at old i) → b < length (items_at old i) → new ≡ edit_items old i (λ is. swap is a b) → stories_size new ≡ stories_size old
size-swap_items old new i a b lt p q is =
    ap stories_size is ∙ stories_sum (edit_items old i (λ is. swap is a b)) ∙ same-edit old i (λ is. swap is a b) lt (part-swap item_size (items_at old i) a b p q) ∙ sym (stories_sum old)

-- the size of what stands at a place
pub size_at-got : {X : Type 0} (f : X → ℕ) (xs : List X) (i : ℕ) (x : X) → slice_get xs i ≡ Some x → size_at f xs i ≡ f x
size_at-got f [] i x h = absurd (cc)
size_at-got f (y ∷ ys) zero x h = let e : y ≡ x = cc in ap f e
size_at-got f (y ∷ ys) (suc i) x h = size_at-got f ys i x h

pub size_at-or : {X : Type 0} (f : X → ℕ) (xs : List X) (i : ℕ) (x : X) → i < length xs → x ≡ get_or xs i x → size_at f xs i ≡ f x
size_at-or f [] i x lt h = absurd (omega (arith, lt))
size_at-or f (y ∷ ys) zero x lt h = ap f (sym h)
size_at-or f (y ∷ ys) (suc i) x lt h = size_at-or f ys i x (omega (arith, lt)) h

pub story_size-is : (s : Story) → units_in (element (name_of fields.StoryTag) (story_events s)) ≡ story_size s
unfolding story_size
story_size-is s = refl

pub item_size-is : (i : Item) → units_in (element (name_of fields.ItemTag) (item_events i)) ≡ item_size i
unfolding item_size
item_size-is i = refl
