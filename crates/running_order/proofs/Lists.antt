-- What a map over a list says of a search in it, and how items that were appended are moved to their place.
use Rattle.std.proofs.Common.{◌≡◌, ℕ, zero, suc, ◌+◌, ◌-◌, ◌<◌, ◌≤◌, List, [], ◌∷◌, ◌++◌, length, take, drop, insert, remove, slice_get, Some, refl, sym, ap, ◌∙◌, map, arith, get_or, append_assoc, length-append, length-take-le, length-drop, take_at, drop_at, Result, Ok, Err, IsOk, OnOk, OnErr}
use Rattle.std.proofs.lemmas.List.{drop_more, take_more, map-append, take-map, drop-map, take-append-drop, take_all, drop_all, append-nil}
use Rattle.std.proofs.lemmas.List.Edits.{insert-append_right, remove-append_right}
use Rattle.std.specs.Option.{option_map_or}
use Rattle.indexmap.specs.IndexMap.{move_index}
use Rattle.running_order.specs.Places.{put_in, put_over}

module _ {X : Type 0} where
  slice_get_middle : (ps rest : List X) (x : X) → slice_get (ps ++ x ∷ rest) (length ps) ≡ Some x
  slice_get_middle [] rest x = refl
  slice_get_middle (a ∷ ps) rest x = slice_get_middle ps rest x

  -- an item moved towards the front
  pub moved_down : (ps bs rs : List X) (x : X) (from to : ℕ) → to ≡ length ps → from ≡ length ps + length bs
      → move_index (ps ++ (bs ++ x ∷ rs)) from to ≡ ps ++ x ∷ (bs ++ rs)
  moved_down ps bs rs x from to low high =
      let ys = (ps ++ bs) ++ x ∷ rs in
      let same : ys ≡ ps ++ (bs ++ x ∷ rs) = append_assoc ps bs (x ∷ rs) in
      let long : length (ps ++ bs) ≡ from = length-append ps bs ∙ sym high in
      let at : slice_get ys from ≡ Some x = ap (slice_get ys) (sym long) ∙ slice_get_middle (ps ++ bs) rs x in
      let zeroth : from - from ≡ 0 = omega arith in
      let first : to - to ≡ 0 = omega arith in
      let gone : remove ys from ≡ ps ++ (bs ++ rs) = remove-append_right (ps ++ bs) (x ∷ rs) from from long (omega arith) ∙ ap (λ k. (ps ++ bs) ++ remove (x ∷ rs) k) zeroth ∙ append_assoc ps bs rs in
      ap (λ l. move_index l from to) (sym same)
      ∙ ap (λ o. option_map_or (λ y. insert (remove ys from) to y) o ys) at
      ∙ ap (λ l. insert l to x) gone
      ∙ insert-append_right ps (bs ++ rs) to to x (sym low) (omega arith)
      ∙ ap (λ k. ps ++ insert (bs ++ rs) k x) first

  -- the list after k of the items that were appended have been moved to the place
  abbrev pub placed : List X → List X → ℕ → ℕ → List X
  placed old new at k = take at old ++ (take k new ++ (drop at old ++ drop k new))

  pub placed_next : (old new : List X) (at k : ℕ) → at ≤ length old → k < length new
      → move_index (placed old new at k) (length old + k) (at + k) ≡ placed old new at (k + 1)
  placed_next old [] at k le lt = absurd (omega arith)
  placed_next old (d ∷ ds) at k le lt =
      let new = d ∷ ds in
      let x = get_or new k d in
      let ps = take at old ++ take k new in
      let bs = drop at old in
      let rs = drop (k + 1) new in
      let split : placed old new at k ≡ ps ++ (bs ++ x ∷ rs) =
      ap (λ l. take at old ++ (take k new ++ (bs ++ l))) (drop_more new k d lt) ∙ sym (append_assoc (take at old) (take k new) (bs ++ x ∷ rs)) in
      let front : length ps ≡ at + k = length-append (take at old) (take k new) ∙ (λ j. length-take-le at old le j + length-take-le k new (let h : k ≤ length new = omega arith in h) j) in
      let back : length bs ≡ length old - at = length-drop at old in
      let whole : ps ++ x ∷ (bs ++ rs) ≡ placed old new at (k + 1) =
      append_assoc (take at old) (take k new) (x ∷ (bs ++ rs)) ∙ ap (λ l. take at old ++ l) (sym (append_assoc (take k new) (x ∷ []) (bs ++ rs)) ∙ ap (λ l. l ++ (bs ++ rs)) (sym (take_more new k d lt))) in
      ap (λ l. move_index l (length old + k) (at + k)) split ∙ moved_down ps bs rs x (length old + k) (at + k) (sym front) (omega arith) ∙ whole

module _ {X Y : Type 0} (f : X → Y) where
  pub map-put_in : (xs : List X) (at : ℕ) (new : List X) → map f (put_in xs at new) ≡ put_in (map f xs) at (map f new)
  map-put_in xs at new =
      map-append f (take at xs) (new ++ drop at xs) ∙ (λ j. sym (take-map f at xs) j ++ map-append f new (drop at xs) j)
      ∙ ap (λ l. take at (map f xs) ++ (map f new ++ l)) (sym (drop-map f at xs))

module _ {X : Type 0} (old new : List X) (at : ℕ) where
  -- before the first is moved
  pub placed_none : placed old new at 0 ≡ old ++ new
  placed_none = sym (append_assoc (take at old) (drop at old) new) ∙ ap (λ l. l ++ new) (take-append-drop at old)

  -- after the last is moved
  pub placed_all : (k : ℕ) → length new ≤ k → placed old new at k ≡ put_in old at new
  placed_all k le = (λ j. take at old ++ (take_all k new le j ++ (drop at old ++ drop_all k new le j))) ∙ ap (λ l. take at old ++ (new ++ l)) (append-nil (drop at old))

module _ {X : Type 0} where
  -- what is put in where one was removed stands in its place
  pub put_in-remove : (xs : List X) (at : ℕ) (new : List X) → at < length xs → put_in (remove xs at) at new ≡ put_over xs at new
  put_in-remove xs at new lt =
      let front : length (take at xs) ≡ at = length-take-le at xs (let h : at ≤ length xs = omega arith in h) in
      λ j. take_at (take at xs) (drop (suc at) xs) at front j ++ (new ++ drop_at (take at xs) (drop (suc at) xs) at front j)

module _ {X Y : Type 0} (f : X → Y) where
  pub map-put_over : (xs : List X) (at : ℕ) (new : List X) → map f (put_over xs at new) ≡ put_over (map f xs) at (map f new)
  map-put_over xs at new =
      map-append f (take at xs) (new ++ drop (suc at) xs) ∙ (λ j. sym (take-map f at xs) j ++ map-append f new (drop (suc at) xs) j)
      ∙ ap (λ l. take at (map f xs) ++ (map f new ++ l)) (sym (drop-map f (suc at) xs))

-- what a call that succeeded says
pub on_ok : {T E P : Type 0} (r : Result T E) → IsOk r → OnOk r P → P
on_ok (Ok v) h p = p
on_ok (Err e) h p = absurd (cc)

pub OnOk-map : {T E P Q : Type 0} (r : Result T E) → (P → Q) → OnOk r P → OnOk r Q
OnOk-map (Ok v) f p = f p
OnOk-map (Err e) f p = tt

pub OnErr-map : {T E P Q : Type 0} (r : Result T E) → (P → Q) → OnErr r P → OnErr r Q
OnErr-map (Ok v) f p = tt
OnErr-map (Err e) f p = f p

-- one item more from the front
pub taken_next : {X : Type 0} (xs : List X) (i : ℕ) (x : X) → slice_get xs i ≡ Some x → take (suc i) xs ≡ take i xs ++ x ∷ []
taken_next [] i x h = absurd (cc)
taken_next (y ∷ ys) zero x h = let e : y ≡ x = cc in ap (λ z. z ∷ []) e
taken_next (y ∷ ys) (suc i) x h = ap (λ l. y ∷ l) (taken_next ys i x h)

-- what stands at a place, read with itself as the default
pub got : {X : Type 0} (xs : List X) (i : ℕ) (x : X) → slice_get xs i ≡ Some x → x ≡ get_or xs i x
got [] i x h = absurd (cc)
got (y ∷ ys) zero x h = cc
got (y ∷ ys) (suc i) x h = got ys i x h

-- one item less at the end
pub taken_less : {X : Type 0} (xs : List X) (n : ℕ) → n < length xs → remove (take (suc n) xs) n ≡ take n xs
taken_less [] n lt = absurd (omega (arith, lt))
taken_less (x ∷ xs) zero lt = refl
taken_less (x ∷ xs) (suc n) lt = ap (λ l. x ∷ l) (taken_less xs n (omega (arith, lt)))
