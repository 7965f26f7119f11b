-- The last place of what passes a test, and what a look-up along the places of one number may pass over.
use Rattle.std.proofs.Common.{◌≡◌, ℕ, zero, suc, ◌+◌, ◌<◌, ◌≤◌, List, [], ◌∷◌, ◌++◌, length, take, drop, map, filter, get_or, slice_set, Bool, true, false, cond, nat_eq, Option, Some, None, refl, sym, ap, subst, ◌∙◌, if◌then◌else◌, arith}
use Rattle.std.specs.Prelude.{◌==◌}
use Rattle.std.proofs.Common.{length-append}
use Rattle.std.proofs.lemmas.Bool.Decides.{nat_tests}
use Rattle.std.proofs.lemmas.List.{get_or_append_left, get_or-take, length-take, take-append-le, take_all, length-map}
use Rattle.std.proofs.Math.Seq.{get_or-append_seam, drop-cons}
use Rattle.std.proofs.lemmas.List.{drop_all, take_more}
use Rattle.std.proofs.lemmas.List.Elements.{filter-append}
use Rattle.std.specs.List.{position_from}
use Rattle.status_board.specs.Links.{AreLinked, behind_one, last_by, last_of, or_zero}

module _ {X : Type 0} (test : X → Bool) where
  pub last-push : (xs : List X) (x : X) → last_by test (xs ++ x ∷ []) ≡ (if test x then suc (length xs) else last_by test xs)
  last-push [] x = refl
  last-push (y ∷ ys) x = ap (behind_one (test y)) (last-push ys x) ∙ go (test x)
    where
      go : (b : Bool) → behind_one (test y) (if b then suc (length ys) else last_by test ys) ≡ (if b then suc (suc (length ys)) else behind_one (test y) (last_by test ys))
      go true = refl
      go false = refl

  pub last-within : (xs : List X) → last_by test xs ≤ length xs
  last-within [] = omega arith
  last-within (x ∷ xs) = go (test x) (last_by test xs) (last-within xs)
    where
      go : (b : Bool) (k : ℕ) → k ≤ length xs → behind_one b k ≤ suc (length xs)
      go true zero h = omega arith
      go false zero h = omega arith
      go b (suc k) h = omega (arith, h)

  pub last-hit : (xs : List X) (k : ℕ) (d : X) → last_by test xs ≡ suc k → test (get_or xs k d) ≡ true
  last-hit [] k d h = absurd (omega (arith, h))
  last-hit (x ∷ xs) k d h = go (test x) (last_by test xs) refl refl h (λ m. last-hit xs m d)
    where
      go : (b : Bool) (m : ℕ) → test x ≡ b → last_by test xs ≡ m → behind_one b m ≡ suc k → ((j : ℕ) → last_by test xs ≡ suc j → test (get_or xs j d) ≡ true) → test (get_or (x ∷ xs) k d) ≡ true
      go true zero e f g r = let z : 0 ≡ k = omega (arith, g) in subst (λ j. test (get_or (x ∷ xs) j d) ≡ true) z e
      go false zero e f g r = absurd (omega (arith, g))
      go b (suc m) e f g r = let z : suc m ≡ k = omega (arith, g) in subst (λ j. test (get_or (x ∷ xs) j d) ≡ true) z (r m f)

-- a number is below another, or it isn't
pub side : {Y : Type 0} (i n : ℕ) → (i < n → Y) → (n ≤ i → Y) → Y
side zero zero l r = r (omega arith)
side zero (suc n) l r = l (omega arith)
side (suc i) zero l r = r (omega arith)
side (suc i) (suc n) l r = side i n (λ h. l (omega (arith, h))) (λ h. r (omega (arith, h)))

-- one number more
pub linked-push : (f g : ℕ → Option ℕ) (older older' ns ns' : List ℕ) (n o v : ℕ) → AreLinked f older ns → o ≡ last_of n ns → ns' ≡ ns ++ n ∷ [] → older' ≡ older ++ o ∷ [] → v ≡ length ns + 1
    → ((q : ℕ) → g q ≡ cond (nat_eq n q) (Some v) (f q)) → AreLinked g older' ns'
linked-push f g older older' ns ns' n o v h p e e' w u =
    record {
      last = λ q. ap or_zero (u q) ∙ go q (nat_eq n q) ∙ sym (last-push (λ m. m == q) ns n) ∙ ap (last_of q) (sym e);
      each = ap length e' ∙ length-append older (o ∷ []) ∙ ap (λ k. k + 1) h.each ∙ sym (length-append ns (n ∷ [])) ∙ ap length (sym e);
      before = λ i lt. subst (λ l. get_or l i 0 ≡ last_of (get_or ns' i 0) (take i ns')) (sym e') (subst (λ l. get_or (older ++ o ∷ []) i 0 ≡ last_of (get_or l i 0) (take i l)) (sym e) (place i (subst (λ l. i < length l) e lt)));
    }
  where
    go : (q : ℕ) (b : Bool) → or_zero (cond b (Some v) (f q)) ≡ (if b then suc (length ns) else last_of q ns)
    go q true = omega (arith, w)
    go q false = h.last q

    place : (i : ℕ) → i < length (ns ++ n ∷ []) → get_or (older ++ o ∷ []) i 0 ≡ last_of (get_or (ns ++ n ∷ []) i 0) (take i (ns ++ n ∷ []))
    place i lt =
        let each = h.each in
        let len = length-append ns (n ∷ []) in
        side i (length ns)
        (λ l.
        get_or_append_left older (o ∷ []) 0 i (omega (arith, l, each))
        ∙ h.before i l
        ∙ ap (λ m. last_of m (take i ns)) (sym (get_or_append_left ns (n ∷ []) 0 i l))
        ∙ ap (last_of (get_or (ns ++ n ∷ []) i 0)) (sym (take-append-le i ns (n ∷ []) (omega (arith, l)))))
        (λ r.
        let z : length ns ≡ i = omega (arith, r, lt, len) in
        subst (λ j. get_or (older ++ o ∷ []) j 0 ≡ last_of (get_or (ns ++ n ∷ []) j 0) (take j (ns ++ n ∷ []))) z
        (ap (λ j. get_or (older ++ o ∷ []) j 0) (sym each)
        ∙ get_or-append_seam older o [] 0
        ∙ p
        ∙ ap (λ m. last_of m ns) (sym (get_or-append_seam ns n [] 0))
        ∙ ap (last_of (get_or (ns ++ n ∷ []) (length ns) 0)) (sym (take-append-le (length ns) ns (n ∷ []) (omega arith) ∙ take_all (length ns) ns (omega arith)))))

-- ---- along the places of one number

module _ {X : Type 0} (num : X → ℕ) (P : X → Bool) (n : ℕ) (fits : (x : X) → P x ≡ true → num x ≡ n) where
  miss : (x : X) → (num x == n) ≡ false → P x ≡ false
  miss x e = go (P x) refl
    where
      go : (b : Bool) → P x ≡ b → b ≡ false
      go true f = let h = fits x f in absurd (grind (arith, nat_tests, h, e))
      go false f = refl

  pub skip-filter : (i : ℕ) (xs : List X) → filter P (take i xs) ≡ filter P (take (last_of n (take i (map num xs))) xs)
  skip-filter zero xs = refl
  skip-filter (suc i) [] = refl
  skip-filter (suc i) (x ∷ xs) = go (last_of n (take i (map num xs))) (num x == n) (skip-filter i xs) (miss x)
    where
      go : (m : ℕ) (b : Bool) → filter P (take i xs) ≡ filter P (take m xs) → (b ≡ false → P x ≡ false) → filter P (x ∷ take i xs) ≡ filter P (take (behind_one b m) (x ∷ xs))
      go (suc m) b h f = ap (λ l. cond (P x) (x ∷ l) l) h
      go zero true h f = ap (λ l. cond (P x) (x ∷ l) l) h
      go zero false h f = rw (f refl) h

  pub skip-last : (i : ℕ) (xs : List X) → last_by P (take i xs) ≡ last_by P (take (last_of n (take i (map num xs))) xs)
  skip-last zero xs = refl
  skip-last (suc i) [] = refl
  skip-last (suc i) (x ∷ xs) = go (last_of n (take i (map num xs))) (num x == n) (skip-last i xs) (miss x)
    where
      go : (m : ℕ) (b : Bool) → last_by P (take i xs) ≡ last_by P (take m xs) → (b ≡ false → P x ≡ false) → last_by P (x ∷ take i xs) ≡ last_by P (take (behind_one b m) (x ∷ xs))
      go (suc m) b h f = ap (behind_one (P x)) h
      go zero true h f = ap (behind_one (P x)) h
      go zero false h f = ap (behind_one (P x)) h ∙ rw (f refl) refl

  pub skip-first : (c i : ℕ) (xs : List X) → position_from P (c + last_of n (take i (map num xs))) (drop (last_of n (take i (map num xs))) xs) ≡ position_from P (c + i) (drop i xs)
  skip-first c zero xs = refl
  skip-first c (suc i) [] = refl
  skip-first c (suc i) (x ∷ xs) = go (last_of n (take i (map num xs))) (num x == n) (skip-first (c + 1) i xs) (miss x)
    where
      after : c + 1 + i ≡ c + suc i
      after = omega arith

      go : (m : ℕ) (b : Bool) → position_from P (c + 1 + m) (drop m xs) ≡ position_from P (c + 1 + i) (drop i xs) → (b ≡ false → P x ≡ false)
          → position_from P (c + behind_one b m) (drop (behind_one b m) (x ∷ xs)) ≡ position_from P (c + suc i) (drop i xs)
      go (suc m) b h f = let e : c + suc (suc m) ≡ c + 1 + suc m = omega arith in ap (λ o. position_from P o (drop (suc m) xs)) e ∙ h ∙ ap (λ o. position_from P o (drop i xs)) after
      go zero true h f = let e : c + 1 ≡ c + 1 + 0 = omega arith in ap (λ o. position_from P o xs) e ∙ h ∙ ap (λ o. position_from P o (drop i xs)) after
      go zero false h f = let e : c + 0 + 1 ≡ c + 1 + 0 = omega arith in rw (f refl) (ap (λ o. position_from P o xs) e ∙ h ∙ ap (λ o. position_from P o (drop i xs)) after)

-- ---- a look-up on its way

-- a place counted from 1, at which the number stands
pub record Along {X : Type 0} (num : X → ℕ) (n : ℕ) (xs : List X) (at : ℕ) : Type 0 where
  pub within : at ≤ length xs
  pub hit : (k : ℕ) → at ≡ suc k → get_or (map num xs) k 0 ≡ n

module _ {X : Type 0} (num : X → ℕ) (n : ℕ) (xs : List X) where
  -- the last place of the number before another place
  pub along-back : (i at : ℕ) → i ≤ length xs → at ≡ last_of n (take i (map num xs)) → Along num n xs at
  along-back i at le e =
      let w = last-within (λ m. m == n) (take i (map num xs)) in
      let t = length-take i (map num xs) in
      let l = length-map xs num in
      record {
        within = omega (arith, le, e, w, t, l);
        hit = λ k h.
            let b = last-hit (λ m. m == n) (take i (map num xs)) k 0 (sym e ∙ h) in
            let lt : k < i = omega (arith, e, h, w, t, l) in
            let g : get_or (take i (map num xs)) k 0 ≡ n = grind (arith, nat_tests, b) in
            sym (get_or-take i (map num xs) k 0 lt) ∙ g;
      }

  pub along-start : (ns : List ℕ) (at : ℕ) → ns ≡ map num xs → at ≡ last_of n ns → Along num n xs at
  along-start ns at e f =
      let l = length-map xs num in
      along-back (length xs) at (omega arith) (f ∙ ap (last_of n) (e ∙ sym (take_all (length xs) (map num xs) (omega (arith, l)))))

  -- the place before one
  pub before-is : (ns : List ℕ) (here at next : ℕ) → ns ≡ map num xs → Along num n xs at → at ≡ here + 1 → next ≡ last_of (get_or ns here 0) (take here ns) → next ≡ last_of n (take here (map num xs))
  before-is ns here at next e a f g = g ∙ ap (λ l. last_of (get_or l here 0) (take here l)) e ∙ ap (λ m. last_of m (take here (map num xs))) (a.hit here (omega (arith, f)))

  pub before-less : (here at next : ℕ) → at ≡ here + 1 → next ≡ last_of n (take here (map num xs)) → next < at
  before-less here at next a e =
      let w = last-within (λ m. m == n) (take here (map num xs)) in
      let t = length-take here (map num xs) in
      omega (arith, a, e, w, t)

  module _ (P : X → Bool) (fits : (x : X) → P x ≡ true → num x ≡ n) where
    -- one report looked at, the last first: the first that passes the test among those behind
    pub first-step : (here next at : ℕ) (x : X) (found found' : Option ℕ) (same : Bool) → at ≡ here + 1 → here < length xs → x ≡ get_or xs here x → found ≡ position_from P at (drop at xs) → same ≡ P x → found' ≡ (if same then Some here else found)
        → next ≡ last_of n (take here (map num xs)) → found' ≡ position_from P next (drop next xs)
    first-step here next at x found found' same a lt is f s f' e =
        let b : suc here ≡ at = omega (arith, a) in
        let d : drop here xs ≡ x ∷ drop at xs = drop-cons xs here x lt ∙ ap (λ y. y ∷ drop (suc here) xs) (sym is) ∙ ap (λ j. x ∷ drop j xs) b in
        let step : found' ≡ position_from P here (drop here xs) =
        f' ∙ ap (λ b. if b then Some here else found) s ∙ ap (λ o. cond (P x) (Some here) o) (f ∙ ap (λ j. position_from P j (drop at xs)) a) ∙ ap (position_from P here) (sym d) in
        let skip = skip-first num P n fits 0 here xs in
        let z : 0 + here ≡ here = omega arith in
        let y : 0 + last_of n (take here (map num xs)) ≡ last_of n (take here (map num xs)) = omega arith in
        step ∙ ap (λ j. position_from P j (drop here xs)) (sym z) ∙ sym skip ∙ ap (λ j. position_from P j (drop (last_of n (take here (map num xs))) xs)) y ∙ ap (λ j. position_from P j (drop j xs)) (sym e)

    pub first-start : (at : ℕ) → at ≡ last_of n (map num xs) → None ≡ position_from P at (drop at xs)
    first-start at e =
        let skip = skip-first num P n fits 0 (length xs) xs in
        let l = length-map xs num in
        let t : take (length xs) (map num xs) ≡ map num xs = take_all (length xs) (map num xs) (omega (arith, l)) in
        let y : 0 + last_of n (map num xs) ≡ last_of n (map num xs) = omega arith in
        let g : drop (length xs) xs ≡ [] = drop_all (length xs) xs (omega arith) in
        sym (ap (position_from P (0 + length xs)) g) ∙ sym skip ∙ ap (λ l. position_from P (0 + last_of n l) (drop (last_of n l) xs)) t ∙ ap (λ j. position_from P j (drop (last_of n (map num xs)) xs)) y ∙ ap (λ j. position_from P j (drop j xs)) (sym e)

    -- the last that passes it
    pub last-start : (at : ℕ) → at ≡ last_of n (map num xs) → last_by P xs ≡ last_by P (take at xs)
    last-start at e =
        let l = length-map xs num in
        let t : take (length xs) (map num xs) ≡ map num xs = take_all (length xs) (map num xs) (omega (arith, l)) in
        ap (last_by P) (sym (take_all (length xs) xs (omega arith))) ∙ skip-last num P n fits (length xs) xs ∙ ap (λ l. last_by P (take (last_of n l) xs)) t ∙ ap (λ j. last_by P (take j xs)) (sym e)

    taken : (here at : ℕ) (x : X) → at ≡ here + 1 → here < length xs → x ≡ get_or xs here x → take at xs ≡ take here xs ++ x ∷ []
    taken here at x a lt is = ap (λ j. take j xs) a ∙ take_more xs here x lt ∙ ap (λ y. take here xs ++ y ∷ []) (sym is)

    pub last-here : (here at : ℕ) (x : X) → at ≡ here + 1 → here < length xs → x ≡ get_or xs here x → last_by P xs ≡ last_by P (take at xs) → P x ≡ true → at ≡ last_by P xs
    last-here here at x a lt is h p =
        let s = last-push P (take here xs) x in
        let t = length-take here xs in
        let q : last_by P (take here xs ++ x ∷ []) ≡ suc (length (take here xs)) = s ∙ ap (λ b. if b then suc (length (take here xs)) else last_by P (take here xs)) p in
        let r : last_by P xs ≡ suc (length (take here xs)) = h ∙ ap (last_by P) (taken here at x a lt is) ∙ q in
        omega (arith, r, a, t, lt)

    pub last-step : (here next at : ℕ) (x : X) → at ≡ here + 1 → here < length xs → x ≡ get_or xs here x → last_by P xs ≡ last_by P (take at xs) → P x ≡ false → next ≡ last_of n (take here (map num xs)) → last_by P xs ≡ last_by P (take next xs)
    last-step here next at x a lt is h p e =
        h ∙ ap (last_by P) (taken here at x a lt is) ∙ last-push P (take here xs) x ∙ ap (λ b. if b then suc (length (take here xs)) else last_by P (take here xs)) p
        ∙ skip-last num P n fits here xs ∙ ap (λ j. last_by P (take j xs)) (sym e)

    -- all that pass it
    pub all-start : (at : ℕ) → at ≡ last_of n (map num xs) → filter P xs ≡ filter P (take at xs)
    all-start at e =
        let l = length-map xs num in
        let t : take (length xs) (map num xs) ≡ map num xs = take_all (length xs) (map num xs) (omega (arith, l)) in
        ap (filter P) (sym (take_all (length xs) xs (omega arith))) ∙ skip-filter num P n fits (length xs) xs ∙ ap (λ l. filter P (take (last_of n l) xs)) t ∙ ap (λ j. filter P (take j xs)) (sym e)

    pub all-step : (here next at : ℕ) (x : X) → at ≡ here + 1 → here < length xs → x ≡ get_or xs here x → next ≡ last_of n (take here (map num xs)) → filter P (take at xs) ≡ filter P (take next xs) ++ filter P (x ∷ [])
    all-step here next at x a lt is e =
        ap (filter P) (taken here at x a lt is) ∙ filter-append P (take here xs) (x ∷ []) ∙ ap (λ l. l ++ filter P (x ∷ [])) (skip-filter num P n fits here xs ∙ ap (λ j. filter P (take j xs)) (sym e))
