-- What a board keeps beside its reports, once one is put behind them or in the place of another.
use Rattle.std.proofs.Common.{◌≡◌, ◌≢◌, ℕ, zero, suc, ◌+◌, ◌<◌, ◌≤◌, List, [], ◌∷◌, ◌++◌, length, map, get_or, slice_set, Bool, true, false, cond, Option, Some, None, refl, sym, ap, subst, ◌∙◌, ◌&&◌, if◌then◌else◌, arith, length-append}
use Rattle.std.specs.Prelude.{◌==◌, ◌-◌}
use Rattle.std.proofs.lemmas.Bool.Decides.{nat_tests}
use Rattle.mos_edits.proofs.Identifiers.{same-self}
use Rattle.mos_values.specs.Units.{capped, units_in}
use Rattle.mos_values.specs.Views.{group_events}
use Rattle.std.specs.List.{position_from, sum_by}
use Rattle.std.proofs.lemmas.List.{get_or_append_left, get_or-set_same, get_or-set_other, length-set, map-append}
use Rattle.std.proofs.lemmas.List.Sums.{sum_by-append, sum_by-cons}
use Rattle.std.proofs.Math.Seq.{get_or-append_seam, map-set_same}
use Rattle.mos_fields.specs.Characters.{Text}
use Rattle.mos_fields.specs.declared.level.Level.{Level}
use Rattle.mos_edits.specs.Texts.{same_id}
use Rattle.mos_values.specs.Names.{text_or_none}
use Rattle.mos_values.specs.declared.element_stat.ElementStat.{ElementStat}
use Rattle.status_board.specs.Board.{Report, answer_units, find_report, group_of, is_of_element, is_of_order, is_of_same, put_report, size_limit}
use Rattle.status_board.specs.Links.{behind_one, last_by}
use Rattle.status_board.specs.Numbers.{element_of, order_of}
use Rattle.status_board.specs.Tables.{AreCounted, IsKept, StandsAt}
use Rattle.status_board.proofs.Fitting.{element-fits, element-order, order-device, order-fits, order-name}
use Rattle.status_board.proofs.Places.{last-hit, last-push, last-within}
use Rattle.status_board.proofs.Sums.{answer-sum, group_size, weight}

-- ---- places

module _ {X : Type 0} (P : X → Bool) where
  stands-from : (c v : ℕ) (xs : List X) → position_from P c xs ≡ Some v → (k : ℕ) × (v ≡ c + k) × StandsAt P xs k
  stands-from c v [] h = absurd (cc)
  stands-from c v (x ∷ xs) h = go (P x) refl h (stands-from (c + 1) v xs)
    where
      go : (b : Bool) → P x ≡ b → cond b (Some c) (position_from P (c + 1) xs) ≡ Some v → (position_from P (c + 1) xs ≡ Some v → (k : ℕ) × (v ≡ c + 1 + k) × StandsAt P xs k) → (k : ℕ) × (v ≡ c + k) × StandsAt P (x ∷ xs) k
      go true e h r = let z : c ≡ v = grind (arith, h) in (0, omega (arith, z), e)
      go false e h r = let t = r h in let q = t.1 in (suc t.0, omega (arith, q), (e, t.2))

  pub stands : (v : ℕ) (xs : List X) → position_from P 0 xs ≡ Some v → StandsAt P xs v
  stands v xs h = let t = stands-from 0 v xs h in let q = t.1 in let z : t.0 ≡ v = omega (arith, q) in subst (StandsAt P xs) z t.2

  pub stands-within : (xs : List X) (n : ℕ) → StandsAt P xs n → n < length xs
  stands-within [] n h = absurd h
  stands-within (x ∷ xs) zero h = omega arith
  stands-within (x ∷ xs) (suc n) h = let r = stands-within xs n h.1 in omega (arith, r)

  pub stands-test : (xs : List X) (n : ℕ) (d : X) → StandsAt P xs n → P (get_or xs n d) ≡ true
  stands-test [] n d h = absurd h
  stands-test (x ∷ xs) zero d h = h
  stands-test (x ∷ xs) (suc n) d h = stands-test xs n d h.1

  pub last-set : (xs : List X) (i : ℕ) (x r : X) → i < length xs → x ≡ get_or xs i x → P r ≡ P x → last_by P (slice_set xs i r) ≡ last_by P xs
  last-set [] i x r lt is e = absurd (omega (arith, lt))
  last-set (y ∷ xs) zero x r lt is e = ap (λ b. behind_one b (last_by P xs)) (e ∙ ap P is)
  last-set (y ∷ xs) (suc i) x r lt is e = ap (behind_one (P y)) (last-set xs i x r (omega (arith, lt)) is e)

pub stands-put : (r : Report) (xs : List Report) (n : ℕ) → StandsAt (is_of_same r) xs n → slice_set xs n r ≡ put_report r xs
stands-put r [] n h = absurd h
stands-put r (x ∷ xs) zero h = rw h refl
stands-put r (x ∷ xs) (suc n) h = rw (h.0) (ap (λ l. x ∷ l) (stands-put r xs n h.1))

pub none-put : (r : Report) (c : ℕ) (xs : List Report) → position_from (is_of_same r) c xs ≡ None → xs ++ r ∷ [] ≡ put_report r xs
none-put r c [] h = refl
none-put r c (x ∷ xs) h = go (is_of_same r x) h (none-put r (c + 1) xs)
  where
    go : (b : Bool) → cond b (Some c) (position_from (is_of_same r) (c + 1) xs) ≡ None → (position_from (is_of_same r) (c + 1) xs ≡ None → xs ++ r ∷ [] ≡ put_report r xs) → x ∷ (xs ++ r ∷ []) ≡ (if b then r ∷ xs else x ∷ put_report r xs)
    go true e f = absurd (cc)
    go false e f = ap (λ l. x ∷ l) (f e)

pub stands-find : (d : ℕ) (ro : Text) (l : Level) (s i : Text) (xs : List Report) (n : ℕ) (x : Report) → StandsAt (is_of_element d ro l s i) xs n → find_report d ro l s i xs ≡ Some (get_or xs n x).1
stands-find d ro l s i [] n x h = absurd h
stands-find d ro l s i (y ∷ xs) zero x h = rw h refl
stands-find d ro l s i (y ∷ xs) (suc n) x h = rw (h.0) (stands-find d ro l s i xs n x h.1)

pub none-find : (d : ℕ) (ro : Text) (l : Level) (s i : Text) (c : ℕ) (xs : List Report) → position_from (is_of_element d ro l s i) c xs ≡ None → find_report d ro l s i xs ≡ None
none-find d ro l s i c [] h = refl
none-find d ro l s i c (x ∷ xs) h = go (is_of_element d ro l s i x) h (none-find d ro l s i (c + 1) xs)
  where
    go : (b : Bool) → cond b (Some c) (position_from (is_of_element d ro l s i) (c + 1) xs) ≡ None → (position_from (is_of_element d ro l s i) (c + 1) xs ≡ None → find_report d ro l s i xs ≡ None) → (if b then Some x.1 else find_report d ro l s i xs) ≡ None
    go true e f = absurd (cc)
    go false e f = f e

-- ---- sums

module _ {X : Type 0} (w : X → ℕ) where
  sum-set : (xs : List X) (i : ℕ) (x o : X) → i < length xs → x ≡ get_or xs i x → sum_by w (slice_set xs i o) + w x ≡ sum_by w xs + w o
  sum-set [] i x o lt is = absurd (omega (arith, lt))
  sum-set (y ∷ xs) zero x o lt is =
      let e = sum_by-cons w y xs in
      let n = sum_by-cons w o xs in
      let f : w x ≡ w y = ap w is in
      omega (arith, e, f, n)
  sum-set (y ∷ xs) (suc i) x o lt is =
      let e = sum_by-cons w y xs in
      let n = sum_by-cons w y (slice_set xs i o) in
      let r = sum-set xs i x o (omega (arith, lt)) is in
      omega (arith, e, n, r)

  sum-at : (xs : List X) (i : ℕ) (x : X) → i < length xs → x ≡ get_or xs i x → w x ≤ sum_by w xs
  sum-at [] i x lt is = absurd (omega (arith, lt))
  sum-at (y ∷ xs) zero x lt is = let e = sum_by-cons w y xs in let f : w x ≡ w y = ap w is in omega (arith, e, f)
  sum-at (y ∷ xs) (suc i) x lt is = let e = sum_by-cons w y xs in let r = sum-at xs i x (omega (arith, lt)) is in omega (arith, e, r)

pub weight-own : (d : ℕ) (ro : Text) (r : Report) → is_of_order d ro r ≡ true → weight d ro r ≡ group_size r
unfolding weight
weight-own d ro r h = rw h refl

pub weight-other : (d : ℕ) (ro : Text) (r : Report) → is_of_order d ro r ≡ false → weight d ro r ≡ 0
unfolding weight
weight-other d ro r h = rw h refl

pub answer-push : (d : ℕ) (ro : Text) (xs : List Report) (r : Report) → answer_units d ro (xs ++ r ∷ []) ≡ answer_units d ro xs + weight d ro r
answer-push d ro xs r =
    let a = answer-sum d ro xs in
    let b = answer-sum d ro (xs ++ r ∷ []) in
    let s = sum_by-append (weight d ro) xs (r ∷ []) in
    let e = sum_by-cons (weight d ro) r [] in
    omega (arith, a, b, s, e)

pub answer-set : (d : ℕ) (ro : Text) (xs : List Report) (i : ℕ) (x r : Report) → i < length xs → x ≡ get_or xs i x → answer_units d ro (slice_set xs i r) + weight d ro x ≡ answer_units d ro xs + weight d ro r
answer-set d ro xs i x r lt is =
    let a = answer-sum d ro xs in
    let b = answer-sum d ro (slice_set xs i r) in
    let s = sum-set (weight d ro) xs i x r lt is in
    omega (arith, a, b, s)

pub answer-at : (d : ℕ) (ro : Text) (xs : List Report) (i : ℕ) (x : Report) → i < length xs → x ≡ get_or xs i x → weight d ro x ≤ answer_units d ro xs
answer-at d ro xs i x lt is = let a = answer-sum d ro xs in let s = sum-at (weight d ro) xs i x lt is in omega (arith, a, s)

none-sum : (d : ℕ) (ro : Text) (xs : List Report) → last_by (is_of_order d ro) xs ≡ 0 → sum_by (weight d ro) xs ≡ 0
none-sum d ro [] h = refl
none-sum d ro (x ∷ xs) h = go (is_of_order d ro x) (last_by (is_of_order d ro) xs) refl refl h (none-sum d ro xs)
  where
    go : (b : Bool) (m : ℕ) → is_of_order d ro x ≡ b → last_by (is_of_order d ro) xs ≡ m → behind_one b m ≡ 0 → (last_by (is_of_order d ro) xs ≡ 0 → sum_by (weight d ro) xs ≡ 0) → sum_by (weight d ro) (x ∷ xs) ≡ 0
    go b (suc m) e f g r = absurd (omega (arith, g))
    go true zero e f g r = absurd (omega (arith, g))
    go false zero e f g r = let s = sum_by-cons (weight d ro) x xs in let w = weight-other d ro x e in let z = r f in omega (arith, s, w, z)

pub answer-none : (d : ℕ) (ro : Text) (xs : List Report) → last_by (is_of_order d ro) xs ≡ 0 → answer_units d ro xs ≡ answer_units d ro []
answer-none d ro xs h =
    let a = answer-sum d ro xs in
    let b = answer-sum d ro [] in
    let s = none-sum d ro xs h in
    omega (arith, a, b, s)

-- ---- what is counted

-- a report of the same device and order is of each order that the other is of
pub same-order : (r y : Report) → is_of_order r.0 r.1.ro y ≡ true → (d : ℕ) (ro : Text) → is_of_order d ro r ≡ is_of_order d ro y
same-order r y h d ro = ap (λ e. (d == e) && same_id ro r.1.ro) (order-device r.0 r.1.ro y h) ∙ ap (λ t. (d == y.0) && same_id ro t) (order-name r.0 r.1.ro y h)

pub same-element : (r x : Report) → is_of_same r x ≡ true → is_of_order r.0 r.1.ro x ≡ true
same-element r x h = element-order r.0 r.1.ro r.1.level (text_or_none r.1.story) (text_or_none r.1.item) x h

own : (d : ℕ) (ro : Text) (r : Report) (xs : List Report) → is_of_order d ro r ≡ true → answer_units r.0 r.1.ro xs ≡ answer_units d ro xs
own d ro r xs h = sym (ap (λ e. answer_units e ro xs) (order-device d ro r h) ∙ ap (λ t. answer_units r.0 t xs) (order-name d ro r h))

pub counted-none : AreCounted [] []
counted-none = record { each = refl; last = λ d ro i h. absurd (omega (arith, h)); within = λ d ro i h. absurd (omega (arith, h)) }

module _ (R : List Report) (us : List ℕ) (k : AreCounted R us) (r : Report) (u : ℕ) where
  pub counted-push : u ≡ answer_units r.0 r.1.ro (R ++ r ∷ []) → u ≤ size_limit → AreCounted (R ++ r ∷ []) (us ++ u ∷ [])
  counted-push e le =
      record {
        each = length-append us (u ∷ []) ∙ ap (λ n. n + 1) k.each ∙ sym (length-append R (r ∷ []));
        last = λ d ro i h. (both d ro i h).0;
        within = λ d ro i h. (both d ro i h).1;
      }
    where
      both : (d : ℕ) (ro : Text) (i : ℕ) → last_by (is_of_order d ro) (R ++ r ∷ []) ≡ suc i → (get_or (us ++ u ∷ []) i 0 ≡ answer_units d ro (R ++ r ∷ [])) × (answer_units d ro (R ++ r ∷ []) ≤ size_limit)
      both d ro i h = go (is_of_order d ro r) refl (sym (last-push (is_of_order d ro) R r) ∙ h)
        where
          go : (b : Bool) → is_of_order d ro r ≡ b → (if b then suc (length R) else last_by (is_of_order d ro) R) ≡ suc i → (get_or (us ++ u ∷ []) i 0 ≡ answer_units d ro (R ++ r ∷ [])) × (answer_units d ro (R ++ r ∷ []) ≤ size_limit)
          go true b g =
              let each = k.each in
              let z : length us ≡ i = omega (arith, g, each) in
              let o = own d ro r (R ++ r ∷ []) b in
              (ap (λ j. get_or (us ++ u ∷ []) j 0) (sym z) ∙ get_or-append_seam us u [] 0 ∙ e ∙ o, omega (arith, e, o, le))
          go false b g =
              let each = k.each in
              let w = last-within (is_of_order d ro) R in
              let lt : i < length us = omega (arith, g, w, each) in
              let p = answer-push d ro R r in
              let z = weight-other d ro r b in
              let q : answer_units d ro R ≡ answer_units d ro (R ++ r ∷ []) = omega (arith, p, z) in
              let n = k.within d ro i g in
              (get_or_append_left us (u ∷ []) 0 i lt ∙ k.last d ro i g ∙ q, omega (arith, q, n))

  pub counted-set : (i j : ℕ) (x : Report) → i < length R → x ≡ get_or R i x → is_of_same r x ≡ true → last_by (is_of_order r.0 r.1.ro) R ≡ suc j → u ≡ answer_units r.0 r.1.ro (slice_set R i r) → u ≤ size_limit → AreCounted (slice_set R i r) (slice_set us j u)
  counted-set i j x lt is same at e le =
      record {
        each = length-set us j u ∙ k.each ∙ sym (length-set R i r);
        last = λ d ro n h. (both d ro n h).0;
        within = λ d ro n h. (both d ro n h).1;
      }
    where
      both : (d : ℕ) (ro : Text) (n : ℕ) → last_by (is_of_order d ro) (slice_set R i r) ≡ suc n → (get_or (slice_set us j u) n 0 ≡ answer_units d ro (slice_set R i r)) × (answer_units d ro (slice_set R i r) ≤ size_limit)
      both d ro n h = go (is_of_order d ro r) refl (sym (last-set (is_of_order d ro) R i x r lt is (same-order r x (same-element r x same) d ro)) ∙ h)
        where
          go : (b : Bool) → is_of_order d ro r ≡ b → last_by (is_of_order d ro) R ≡ suc n → (get_or (slice_set us j u) n 0 ≡ answer_units d ro (slice_set R i r)) × (answer_units d ro (slice_set R i r) ≤ size_limit)
          go true b g =
              let each = k.each in
              let w = last-within (is_of_order r.0 r.1.ro) R in
              let s : last_by (is_of_order r.0 r.1.ro) R ≡ last_by (is_of_order d ro) R = sym (ap (λ f. last_by (is_of_order f ro) R) (order-device d ro r b) ∙ ap (λ t. last_by (is_of_order r.0 t) R) (order-name d ro r b)) in
              let z : j ≡ n = omega (arith, at, s, g) in
              let o = own d ro r (slice_set R i r) b in
              let l : j < length us = omega (arith, at, w, each) in
              (ap (λ m. get_or (slice_set us j u) m 0) (sym z) ∙ get_or-set_same us j u 0 l ∙ e ∙ o, omega (arith, e, o, le))
          go false b g =
              let p = answer-set d ro R i x r lt is in
              let c : is_of_order d ro x ≡ false = sym (same-order r x (same-element r x same) d ro) ∙ b in
              let z = weight-other d ro r b in
              let y = weight-other d ro x c in
              let q : answer_units d ro R ≡ answer_units d ro (slice_set R i r) = omega (arith, p, z, y) in
              let m = k.within d ro n g in
              let apart : n ≢ j = λ t.
              let a : is_of_order d ro (get_or R n x) ≡ true = last-hit (is_of_order d ro) R n x g in
              let f : is_of_order r.0 r.1.ro (get_or R n x) ≡ true = subst (λ v. is_of_order r.0 r.1.ro (get_or R v x) ≡ true) (sym t) (last-hit (is_of_order r.0 r.1.ro) R j x at) in
              let v : true ≡ false = sym a ∙ sym (same-order r (get_or R n x) f d ro) ∙ b in
              absurd (cc) in
              (get_or-set_other us j n u 0 apart ∙ k.last d ro n g ∙ q, omega (arith, q, m))

-- what stands at a place, whatever is given in its stead
pub at-default : {X : Type 0} (xs : List X) (i : ℕ) (a b : X) → i < length xs → get_or xs i a ≡ get_or xs i b
at-default [] i a b lt = absurd (omega (arith, lt))
at-default (x ∷ xs) zero a b lt = refl
at-default (x ∷ xs) (suc i) a b lt = at-default xs i a b (omega (arith, lt))

-- ---- what is kept

pub kept-none : (R : List Report) (us es os : List ℕ) → R ≡ [] → us ≡ [] → es ≡ [] → os ≡ [] → IsKept R us es os
kept-none R us es os a b c d = record { counted = subst (λ l. AreCounted l us) (sym a) (subst (AreCounted []) (sym b) counted-none); elements = c ∙ sym (ap (map element_of) a); orders = d ∙ sym (ap (map order_of) a) }

pub kept-push : (R R' : List Report) (us us' es es' os os' : List ℕ) (r : Report) (u n m : ℕ) → IsKept R us es os → R' ≡ R ++ r ∷ [] → us' ≡ us ++ u ∷ [] → es' ≡ es ++ n ∷ [] → os' ≡ os ++ m ∷ [] → n ≡ element_of r → m ≡ order_of r
    → u ≡ answer_units r.0 r.1.ro (R ++ r ∷ []) → u ≤ size_limit → IsKept R' us' es' os'
kept-push R R' us us' es es' os os' r u n m k a b c d e f g le =
    record {
      counted = subst (λ l. AreCounted l us') (sym a) (subst (AreCounted (R ++ r ∷ [])) (sym b) (counted-push R us k.counted r u g le));
      elements = c ∙ ap (λ l. l ++ n ∷ []) k.elements ∙ ap (λ v. map element_of R ++ v ∷ []) e ∙ sym (map-append element_of R (r ∷ [])) ∙ sym (ap (map element_of) a);
      orders = d ∙ ap (λ l. l ++ m ∷ []) k.orders ∙ ap (λ v. map order_of R ++ v ∷ []) f ∙ sym (map-append order_of R (r ∷ [])) ∙ sym (ap (map order_of) a);
    }

pub kept-set : (R R' : List Report) (us us' es os : List ℕ) (i j : ℕ) (r : Report) (u : ℕ) → IsKept R us es os → StandsAt (is_of_same r) R i → last_by (is_of_order r.0 r.1.ro) R ≡ suc j → R' ≡ slice_set R i r → us' ≡ slice_set us j u
    → u ≡ answer_units r.0 r.1.ro (slice_set R i r) → u ≤ size_limit → IsKept R' us' es os
kept-set R R' us us' es os i j r u k at l a b g le =
    let x = get_or R i r in
    let lt = stands-within (is_of_same r) R i at in
    let same = stands-test (is_of_same r) R i r at in
    let e : element_of r ≡ element_of x = sym (element-fits r.0 r.1.ro r.1.level (text_or_none r.1.story) (text_or_none r.1.item) x same) in
    let o : order_of r ≡ order_of x = sym (order-fits r.0 r.1.ro x (same-element r x same)) in
    let is : x ≡ get_or R i x = at-default R i r x lt in
    record {
      counted = subst (λ v. AreCounted v us') (sym a) (subst (AreCounted (slice_set R i r)) (sym b) (counted-set R us k.counted r u i j x lt is same l g le));
      elements = k.elements ∙ sym (map-set_same element_of R i r r e) ∙ sym (ap (map element_of) a);
      orders = k.orders ∙ sym (map-set_same order_of R i r r o) ∙ sym (ap (map order_of) a);
    }

-- there is a last one where there is one
pub last-some : {X : Type 0} (P : X → Bool) (xs : List X) (i : ℕ) (d : X) → i < length xs → P (get_or xs i d) ≡ true → 1 ≤ last_by P xs
last-some P [] i d lt h = absurd (omega (arith, lt))
last-some P (x ∷ xs) zero d lt h = go (P x) (last_by P xs) h
  where
    go : (b : Bool) (m : ℕ) → b ≡ true → 1 ≤ behind_one b m
    go true zero e = omega arith
    go false zero e = absurd (cc)
    go b (suc m) e = omega arith
last-some P (x ∷ xs) (suc i) d lt h = go (P x) (last_by P xs) (last-some P xs i d (omega (arith, lt)) h)
  where
    go : (b : Bool) (m : ℕ) → 1 ≤ m → 1 ≤ behind_one b m
    go b zero e = absurd (omega (arith, e))
    go b (suc m) e = omega arith

-- ---- the answer with a report more

self-number : (n : ℕ) → (n == n) ≡ true
self-number n = grind (arith, nat_tests)

both-true : (a b : Bool) → a ≡ true → b ≡ true → a && b ≡ true
both-true a b h k = rw h k

own-order : (r : Report) → is_of_order r.0 r.1.ro r ≡ true
own-order r = both-true (r.0 == r.0) (same_id r.1.ro r.1.ro) (self-number r.0) (same-self r.1.ro)

size-is : (r : Report) → units_in (group_events (group_of (0, r.1))) ≡ group_size r
unfolding group_size
size-is r = refl

module _ (R : List Report) (us : List ℕ) (k : AreCounted R us) (r : Report) where
  -- what stands of a report's order fits
  pub answer-fits : (i : ℕ) → i < length R → is_of_order r.0 r.1.ro (get_or R i r) ≡ true → answer_units r.0 r.1.ro R ≤ size_limit
  answer-fits i lt h =
      let s = last-some (is_of_order r.0 r.1.ro) R i r lt h in
      let e : last_by (is_of_order r.0 r.1.ro) R ≡ suc (last_by (is_of_order r.0 r.1.ro) R - 1) = omega (arith, s) in
      k.within r.0 r.1.ro (last_by (is_of_order r.0 r.1.ro) R - 1) e

  pub units-set : (i : ℕ) (x : Report) (b t a v : ℕ) → StandsAt (is_of_same r) R i → x ≡ get_or R i x → b ≡ capped (answer_units r.0 r.1.ro R) → t ≡ capped (units_in (group_events (group_of (0, x.1)))) → a ≡ capped (units_in (group_events (group_of (0, r.1))))
      → (t ≤ b) × (v ≡ capped (b - t + a) → v ≡ capped (answer_units r.0 r.1.ro (put_report r R)))
  units-set i x b t a v at is eb et ea =
      let lt = stands-within (is_of_same r) R i at in
      let here : is_of_order r.0 r.1.ro (get_or R i r) ≡ true = same-element r (get_or R i r) (stands-test (is_of_same r) R i r at) in
      let own-x : is_of_order r.0 r.1.ro x ≡ true = subst (λ y. is_of_order r.0 r.1.ro y ≡ true) (at-default R i r x lt ∙ sym is) here in
      let f = answer-fits i lt here in
      let wx = weight-own r.0 r.1.ro x own-x in
      let wr = weight-own r.0 r.1.ro r (own-order r) in
      let sx = size-is x in
      let sr = size-is r in
      let s = answer-set r.0 r.1.ro R i x r lt is in
      let m = answer-at r.0 r.1.ro R i x lt is in
      let p : answer_units r.0 r.1.ro (slice_set R i r) ≡ answer_units r.0 r.1.ro (put_report r R) = ap (answer_units r.0 r.1.ro) (stands-put r R i at) in
      (omega (arith, eb, et, f, wx, sx, m), λ e. omega (arith, e, eb, et, ea, f, wx, wr, sx, sr, s, m, p))

pub units-push : (R : List Report) (r : Report) (b a v : ℕ) → position_from (is_of_same r) 0 R ≡ None → b ≡ capped (answer_units r.0 r.1.ro R) → a ≡ capped (units_in (group_events (group_of (0, r.1)))) → v ≡ capped (b + a) → v ≡ capped (answer_units r.0 r.1.ro (put_report r R))
units-push R r b a v none eb ea e =
    let wr = weight-own r.0 r.1.ro r (own-order r) in
    let sr = size-is r in
    let s = answer-push r.0 r.1.ro R r in
    let p : answer_units r.0 r.1.ro (R ++ r ∷ []) ≡ answer_units r.0 r.1.ro (put_report r R) = ap (answer_units r.0 r.1.ro) (none-put r 0 R none) in
    omega (arith, e, eb, ea, wr, sr, s, p)

-- a number within the limit is told as it is
pub told-whole : (u n m : ℕ) → u ≡ capped n → n ≤ size_limit → m ≡ n → u ≡ m
told-whole u n m e le f = omega (arith, e, le, f)

-- the number beside the last report of an order
pub told-last : (R : List Report) (us : List ℕ) (d : ℕ) (ro : Text) (n u : ℕ) → AreCounted R us → n ≡ last_by (is_of_order d ro) R → 1 ≤ n → u ≡ get_or us (n - 1) u → u ≡ capped (answer_units d ro R)
told-last R us d ro n u k e le is =
    let l : last_by (is_of_order d ro) R ≡ suc (n - 1) = omega (arith, e, le) in
    let w = last-within (is_of_order d ro) R in
    let each = k.each in
    let lt : n - 1 < length us = omega (arith, e, le, w, each) in
    let a = k.last d ro (n - 1) l in
    let m = k.within d ro (n - 1) l in
    let z : u ≡ answer_units d ro R = is ∙ at-default us (n - 1) u 0 lt ∙ a in
    omega (arith, z, m)
