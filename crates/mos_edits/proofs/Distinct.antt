-- Actions keep the identifiers of a list distinct.
use Rattle.std.proofs.Common.{◌≡◌, List, [], ◌∷◌, ◌++◌, Bool, true, false, not, ◌&&◌, ◌||◌, Option, Some, None, arith, refl, if◌then◌else◌, sym, ap, ◌∙◌, subst}
use Rattle.std.proofs.lemmas.List.{map-append}
use Rattle.mos_edits.specs.Texts.{Text, same_id, has_id}
use Rattle.mos_edits.specs.KeyedLists.{ids, find, with_found, picked, without, put_for, put_at, put_before}
use Rattle.std.specs.List.{AllByRecursion, IsDistinct as ListDistinct}
use Rattle.std.proofs.lemmas.Map.Made.{AllPairs-from_IsDistinct, IsDistinct-from_AllPairs}
use Rattle.mos_values.specs.Distinct.{AreDistinct}
use Rattle.mos_edits.proofs.Identifiers.{same-Decides, same-true, same-self, same-sym, has-append}

-- no identifier stands twice
abbrev pub IsDistinct : List Text → Type 0
IsDistinct [] = Unit {0}
IsDistinct (x ∷ xs) = (has_id x xs ≡ false) × IsDistinct xs

-- the same in the words of lists at large
all-apart : (x : Text) (xs : List Text) → has_id x xs ≡ false → AllByRecursion (λ y. same_id x y ≡ false) xs
all-apart x [] h = tt
all-apart x (y ∷ xs) h = (grind (arith, h), all-apart x xs (grind (arith, h)))

apart-all : (x : Text) (xs : List Text) → AllByRecursion (λ y. same_id x y ≡ false) xs → has_id x xs ≡ false
apart-all x [] h = refl
apart-all x (y ∷ xs) h = let r = apart-all x xs h.1 in grind (arith, h.0, r)

to-distinct : (xs : List Text) → IsDistinct xs → ListDistinct same_id xs
unfolding ListDistinct
to-distinct [] h = tt
to-distinct (x ∷ xs) h = (all-apart x xs h.0, to-distinct xs h.1)

of-distinct : (xs : List Text) → ListDistinct same_id xs → IsDistinct xs
unfolding ListDistinct
of-distinct [] h = tt
of-distinct (x ∷ xs) h = (apart-all x xs h.0, of-distinct xs h.1)

pub are-distinct : (xs : List Text) → IsDistinct xs → AreDistinct xs
are-distinct xs h = AllPairs-from_IsDistinct same-Decides xs (to-distinct xs h)

pub is-distinct : (xs : List Text) → AreDistinct xs → IsDistinct xs
is-distinct xs h = of-distinct xs (IsDistinct-from_AllPairs same-Decides xs h)

-- no identifier of the one stands in the other
abbrev pub AreDisjoint : List Text → List Text → Type 0
AreDisjoint xs ys = (x : Text) → has_id x xs ≡ true → has_id x ys ≡ false

pub distinct-append : (xs ys : List Text) → IsDistinct xs → IsDistinct ys → AreDisjoint xs ys → IsDistinct (xs ++ ys)
distinct-append [] ys d e h = e
distinct-append (x ∷ xs) ys d e h =
    let a = has-append x xs ys in
    let n : has_id x ys ≡ false = h x (grind (arith, same-self x)) in
    (grind (arith, a, n, d), distinct-append xs ys d.1 e (λ z i. h z (grind (arith, i))))

-- put_at
pub has-put_at : {X : Type 0} (key : X → Text) (t : Text) (new xs : List X) (z : Text) → has_id z (ids key (put_at key t new xs)) ≡ has_id z (ids key new) || has_id z (ids key xs)
has-put_at key t new [] z = grind arith
has-put_at key t new (x ∷ xs) z = go (same_id t (key x)) (has-put_at key t new xs z)
  where
    go : (b : Bool) → has_id z (ids key (put_at key t new xs)) ≡ has_id z (ids key new) || has_id z (ids key xs) → has_id z (ids key (if b then new ++ (x ∷ xs) else x ∷ put_at key t new xs)) ≡ has_id z (ids key new) || has_id z (ids key (x ∷ xs))
    go true h = rw (map-append key new (x ∷ xs)) (has-append z (ids key new) (ids key (x ∷ xs)))
    go false h = grind (arith, h)

pub distinct-put_at : {X : Type 0} (key : X → Text) (t : Text) (new xs : List X) → IsDistinct (ids key new) → IsDistinct (ids key xs) → AreDisjoint (ids key new) (ids key xs) → IsDistinct (ids key (put_at key t new xs))
distinct-put_at key t new [] d e h = d
distinct-put_at key t new (x ∷ xs) d e h = go (same_id t (key x)) (distinct-put_at key t new xs d e.1 (λ z i. let n = h z i in grind (arith, n)))
  where
    apart : has_id (key x) (ids key new) ≡ false
    apart = let n = h (key x) in grind (arith, n, same-self (key x))

    go : (b : Bool) → IsDistinct (ids key (put_at key t new xs)) → IsDistinct (ids key (if b then new ++ (x ∷ xs) else x ∷ put_at key t new xs))
    go true i = rw (map-append key new (x ∷ xs)) (distinct-append (ids key new) (ids key (x ∷ xs)) d e h)
    go false i = (let p = has-put_at key t new xs (key x) in grind (arith, p, apart, e), i)

pub distinct-put_before : {X : Type 0} (key : X → Text) (t : Text) (new xs : List X) → IsDistinct (ids key new) → IsDistinct (ids key xs) → AreDisjoint (ids key new) (ids key xs) → IsDistinct (ids key (put_before key t new xs))
distinct-put_before key [] new xs d e h = rw (map-append key xs new) (distinct-append (ids key xs) (ids key new) e d (λ z i. let n = h z in grind (arith, n, i)))
distinct-put_before key (c ∷ cs) new xs d e h = distinct-put_at key (c ∷ cs) new xs d e h

-- put_for
pub has-put_for : {X : Type 0} (key : X → Text) (t : Text) (new xs : List X) (z : Text) → has_id z (ids key (put_for key t new xs)) ≡ true → has_id z (ids key new) || has_id z (ids key xs) ≡ true
has-put_for key t new [] z i = absurd (cc)
has-put_for key t new (x ∷ xs) z i = go (same_id t (key x)) (has-put_for key t new xs z) i
  where
    go : (b : Bool) → (has_id z (ids key (put_for key t new xs)) ≡ true → has_id z (ids key new) || has_id z (ids key xs) ≡ true) → has_id z (ids key (if b then new ++ xs else x ∷ put_for key t new xs)) ≡ true → has_id z (ids key new) || has_id z (ids key (x ∷ xs)) ≡ true
    go true h i = let a = has-append z (ids key new) (ids key xs) in let m = map-append key new xs in let j = rw m at i in grind (arith, a, j)
    go false h i = grind (arith, h, i)

-- what stands beside the target
abbrev pub AreDisjointBut : Text → List Text → List Text → Type 0
AreDisjointBut t xs ys = (x : Text) → has_id x xs ≡ true → same_id x t ≡ false → has_id x ys ≡ false

pub distinct-put_for : {X : Type 0} (key : X → Text) (t : Text) (new xs : List X) → IsDistinct (ids key new) → IsDistinct (ids key xs) → AreDisjointBut t (ids key new) (ids key xs) → IsDistinct (ids key (put_for key t new xs))
distinct-put_for key t new [] d e h = tt
distinct-put_for key t new (x ∷ xs) d e h = go (same_id t (key x)) refl (distinct-put_for key t new xs d e.1 (λ z i s. let n = h z i s in grind (arith, n)))
  where
    go : (b : Bool) → same_id t (key x) ≡ b → IsDistinct (ids key (put_for key t new xs)) → IsDistinct (ids key (if b then new ++ xs else x ∷ put_for key t new xs))
    go true s i = rw (map-append key new xs) (distinct-append (ids key new) (ids key xs) d e.1 tail)
      where
        by : (z : Text) (b : Bool) → same_id z t ≡ b → has_id z (ids key new) ≡ true → has_id z (ids key xs) ≡ false
        by z true y j = let a = same-true z t y in let c = same-true t (key x) s in subst (λ (u : Text). has_id u (ids key xs) ≡ false) (sym (a ∙ c)) e.0
        by z false y j = let n = h z j y in grind (arith, n)

        tail : AreDisjoint (ids key new) (ids key xs)
        tail z j = by z (same_id z t) refl j
    go false s i = (kept (has_id (key x) (ids key (put_for key t new xs))) refl, i)
      where
        other : same_id (key x) t ≡ false
        other = rw (same-sym (key x) t) s

        kept : (b : Bool) → has_id (key x) (ids key (put_for key t new xs)) ≡ b → has_id (key x) (ids key (put_for key t new xs)) ≡ false
        kept false y = y
        kept true y = let p = has-put_for key t new xs (key x) y in let n = h (key x) in grind (arith, p, n, other, e, same-self (key x))

-- without
pub has-without_key : {X : Type 0} (key : X → Text) (gone : List Text) (xs : List X) (z : Text) → has_id z (ids key (without key gone xs)) ≡ has_id z (ids key xs) && not (has_id z gone)
has-without_key key gone [] z = refl
has-without_key key gone (x ∷ xs) z = go (has_id (key x) gone) refl (same_id z (key x)) refl (has-without_key key gone xs z)
  where
    go : (b : Bool) → has_id (key x) gone ≡ b → (c : Bool) → same_id z (key x) ≡ c → has_id z (ids key (without key gone xs)) ≡ has_id z (ids key xs) && not (has_id z gone)
        → has_id z (ids key (if b then without key gone xs else x ∷ without key gone xs)) ≡ has_id z (ids key (x ∷ xs)) && not (has_id z gone)
    go true g false s h = grind (arith, h, s)
    go false g false s h = grind (arith, h, s)
    go true g true s h = let z_is = same-true z (key x) s in let g2 : has_id z gone ≡ true = subst (λ (u : Text). has_id u gone ≡ true) (sym z_is) g in grind (arith, h, s, g2)
    go false g true s h = let z_is = same-true z (key x) s in let g2 : has_id z gone ≡ false = subst (λ (u : Text). has_id u gone ≡ false) (sym z_is) g in grind (arith, h, s, g2)

pub distinct-without : {X : Type 0} (key : X → Text) (gone : List Text) (xs : List X) → IsDistinct (ids key xs) → IsDistinct (ids key (without key gone xs))
distinct-without key gone [] d = tt
distinct-without key gone (x ∷ xs) d = go (has_id (key x) gone) (distinct-without key gone xs d.1)
  where
    go : (b : Bool) → IsDistinct (ids key (without key gone xs)) → IsDistinct (ids key (if b then without key gone xs else x ∷ without key gone xs))
    go true i = i
    go false i = (let w = has-without_key key gone xs (key x) in grind (arith, w, d), i)

-- find and picked
pub key-find : {X : Type 0} (key : X → Text) (id : Text) (xs : List X) (x : X) → find key id xs ≡ Some x → key x ≡ id
key-find key id [] x h = absurd (cc)
key-find key id (y ∷ xs) x h = go (same_id id (key y)) refl (key-find key id xs x) h
  where
    go : (b : Bool) → same_id id (key y) ≡ b → (find key id xs ≡ Some x → key x ≡ id) → (if b then Some y else find key id xs) ≡ Some x → key x ≡ id
    go true s r h = let y_is : y ≡ x = cc in ap key (sym y_is) ∙ sym (same-true id (key y) s)
    go false s r h = r h

pub has-picked : {X : Type 0} (key : X → Text) (ss : List Text) (xs : List X) (z : Text) → has_id z (ids key (picked key ss xs)) ≡ true → has_id z ss ≡ true
has-picked key [] xs z i = i
has-picked key (s ∷ ss) xs z i = go (find key s xs) refl (has-picked key ss xs z) i
  where
    go : (o : Option _) → find key s xs ≡ o → (has_id z (ids key (picked key ss xs)) ≡ true → has_id z ss ≡ true) → has_id z (ids key (with_found o (picked key ss xs))) ≡ true → has_id z (s ∷ ss) ≡ true
    go None f h i = let j = h i in grind (arith, j)
    go (Some x) f h i = let k = key-find key s xs x f in let j = rw k at i in grind (arith, h, j)

pub distinct-picked : {X : Type 0} (key : X → Text) (ss : List Text) (xs : List X) → IsDistinct ss → IsDistinct (ids key (picked key ss xs))
distinct-picked key [] xs d = tt
distinct-picked key (s ∷ ss) xs d = go (find key s xs) refl (distinct-picked key ss xs d.1)
  where
    go : (o : Option _) → find key s xs ≡ o → IsDistinct (ids key (picked key ss xs)) → IsDistinct (ids key (with_found o (picked key ss xs)))
    go None f i = i
    go (Some x) f i = (kept (has_id (key x) (ids key (picked key ss xs))) refl, i)
      where
        kept : (b : Bool) → has_id (key x) (ids key (picked key ss xs)) ≡ b → has_id (key x) (ids key (picked key ss xs)) ≡ false
        kept false y = y
        kept true y = let p = has-picked key ss xs (key x) y in let q : has_id s ss ≡ true = subst (λ (u : Text). has_id u ss ≡ true) (key-find key s xs x f) p in absurd (let n = d.0 in cc)
