-- SWAP exchanges two identifiers; done twice it changes nothing.
use Rattle.std.proofs.Common.{◌≡◌, List, [], ◌∷◌, map, Bool, true, false, ◌||◌, Option, Some, None, arith, refl, if◌then◌else◌, sym, ap, ◌∙◌, subst}
use Rattle.mos_edits.specs.Texts.{Text, same_id, has_id}
use Rattle.mos_edits.specs.KeyedLists.{ActFault, ids, find, exchange, exchange_found, exchanged, first_of, missing_if_not, lacking, done_unless, act_list}
use Rattle.mos_edits.specs.KeyedLists.Applied.{Done}
use Rattle.mos_edits.specs.KeyedLists.ListAction.{Swap}
use Rattle.mos_edits.proofs.Identifiers.{same-true, same-self}
use Rattle.mos_values.specs.Distinct.{AreDistinct}
use Rattle.mos_edits.proofs.Distinct.{IsDistinct, is-distinct, key-find}

abbrev pub swapped : Text → Text → Text → Text
swapped a b z = if same_id a z then b else (if same_id b z then a else z)

swapped-by : (a b z : Text) (p q : Bool) → same_id a z ≡ p → same_id b z ≡ q → swapped a b (if p then b else (if q then a else z)) ≡ z
swapped-by a b z true q s u = by (same_id a b) refl
  where
    z_is : a ≡ z
    z_is = same-true a z s

    by : (c : Bool) → same_id a b ≡ c → (if c then b else (if same_id b b then a else b)) ≡ z
    by true e = sym (same-true a b e) ∙ z_is
    by false e = rw (same-self b) z_is
swapped-by a b z false true s u = let z_is : b ≡ z = same-true b z u in rw (same-self a) z_is
swapped-by a b z false false s u = rw (s, u) refl

pub swapped-twice : (a b z : Text) → swapped a b (swapped a b z) ≡ z
swapped-twice a b z = swapped-by a b z (same_id a z) (same_id b z) refl refl

pub swapped-moves : (a b z t : Text) → same_id z (swapped a b t) ≡ same_id (swapped a b z) t
swapped-moves a b z t = both (same_id z (swapped a b t)) (same_id (swapped a b z) t) refl refl
  where
    both : (p q : Bool) → same_id z (swapped a b t) ≡ p → same_id (swapped a b z) t ≡ q → p ≡ q
    both true true e f = refl
    both false false e f = refl
    both true false e f =
        let i : z ≡ swapped a b t = same-true z (swapped a b t) e in
        let j : swapped a b z ≡ t = ap (λ (u : Text). swapped a b u) i ∙ swapped-twice a b t in
        let k : same_id (swapped a b z) t ≡ true = subst (λ (u : Text). same_id u t ≡ true) (sym j) (same-self t) in cc
    both false true e f =
        let i : swapped a b z ≡ t = same-true (swapped a b z) t f in
        let j : z ≡ swapped a b t = sym (swapped-twice a b z) ∙ ap (λ (u : Text). swapped a b u) i in
        let k : same_id z (swapped a b t) ≡ true = subst (λ (u : Text). same_id u (swapped a b t) ≡ true) (sym j) (same-self (swapped a b t)) in cc

pub has-swapped : (a b z : Text) (zs : List Text) → has_id z (map (swapped a b) zs) ≡ has_id (swapped a b z) zs
has-swapped a b z [] = refl
has-swapped a b z (t ∷ zs) = rw (swapped-moves a b z t, has-swapped a b z zs) refl

pub distinct-swapped : (a b : Text) (zs : List Text) → IsDistinct zs → IsDistinct (map (swapped a b) zs)
distinct-swapped a b [] d = tt
distinct-swapped a b (z ∷ zs) d = (rw (has-swapped a b (swapped a b z) zs, swapped-twice a b z) d.0, distinct-swapped a b zs d.1)

pub ids-exchange : {X : Type 0} (key : X → Text) (a b : Text) (x y : X) (xs : List X) → key x ≡ a → key y ≡ b → ids key (exchange key a b x y xs) ≡ map (swapped a b) (ids key xs)
ids-exchange key a b x y [] e f = refl
ids-exchange key a b x y (z ∷ xs) e f = go (same_id a (key z)) (same_id b (key z)) (ids-exchange key a b x y xs e f)
  where
    go : (p q : Bool) → ids key (exchange key a b x y xs) ≡ map (swapped a b) (ids key xs)
        → key (if p then y else (if q then x else z)) ∷ ids key (exchange key a b x y xs) ≡ (if p then b else (if q then a else key z)) ∷ map (swapped a b) (ids key xs)
    go true q h = rw (f, h) refl
    go false true h = rw (e, h) refl
    go false false h = rw h refl

pub distinct-exchanged : {X : Type 0} (key : X → Text) (a b : Text) (xs : List X) → IsDistinct (ids key xs) → IsDistinct (ids key (exchanged key a b xs))
distinct-exchanged {X = X} key a b xs d = go (find key a xs) (find key b xs) refl refl
  where
    go : (o p : Option X) → find key a xs ≡ o → find key b xs ≡ p → IsDistinct (ids key (exchange_found key a b o p xs))
    go None p e f = d
    go (Some x) None e f = d
    go (Some x) (Some y) e f = rw (ids-exchange key a b x y xs (key-find key a xs x e) (key-find key b xs y f)) (distinct-swapped a b (ids key xs) d)

-- every element with that identifier is the one that is found
abbrev Only : {X : Type 0} → (X → Text) → Text → X → List X → Type 0
Only key a x [] = Unit {0}
Only key a x (z ∷ zs) = (same_id a (key z) ≡ true → z ≡ x) × Only key a x zs

only-none : {X : Type 0} (key : X → Text) (a : Text) (x : X) (zs : List X) → has_id a (ids key zs) ≡ false → Only key a x zs
only-none key a x [] h = tt
only-none key a x (z ∷ zs) h = (λ s. absurd (grind (arith, h, s)), only-none key a x zs (grind (arith, h)))

only-found : {X : Type 0} (key : X → Text) (a : Text) (x : X) (zs : List X) → IsDistinct (ids key zs) → find key a zs ≡ Some x → Only key a x zs
only-found key a x [] d h = tt
only-found key a x (z ∷ zs) d h = go (same_id a (key z)) refl (only-found key a x zs d.1) h
  where
    go : (b : Bool) → same_id a (key z) ≡ b → (find key a zs ≡ Some x → Only key a x zs) → (if b then Some z else find key a zs) ≡ Some x → (b ≡ true → z ≡ x) × Only key a x zs
    go true s r h = let a_is = same-true a (key z) s in (λ e. cc, only-none key a x zs (rw a_is d.0))
    go false s r h = (λ e. absurd (cc), r h)

exchange-back : {X : Type 0} (key : X → Text) (a b : Text) (x y : X) (zs : List X) → key x ≡ a → key y ≡ b → (a ≡ b → x ≡ y) → Only key a x zs → Only key b y zs → exchange key a b x y (exchange key a b x y zs) ≡ zs
exchange-back key a b x y [] e f g h i = refl
exchange-back key a b x y (z ∷ zs) e f g h i = rw (exchange-back key a b x y zs e f g h.1 i.1) (go (same_id a (key z)) refl (same_id b (key z)) refl)
  where
    go : (p : Bool) → same_id a (key z) ≡ p → (q : Bool) → same_id b (key z) ≡ q → (if same_id a (key (if p then y else (if q then x else z))) then y else (if same_id b (key (if p then y else (if q then x else z))) then x else (if p then y else (if q then x else z)))) ∷ zs ≡ z ∷ zs
    go true s q t = let z_is : z ≡ x = h.0 s in rw (f, same-self b) (by (same_id a b) refl z_is)
      where
        by : (c : Bool) → same_id a b ≡ c → z ≡ x → (if c then y else x) ∷ zs ≡ z ∷ zs
        by true u z_is = rw (z_is, g (same-true a b u)) refl
        by false u z_is = rw z_is refl
    go false s true t = let z_is : z ≡ y = i.0 t in rw (e, same-self a, z_is) refl
    go false s false t = rw (s, t) refl

find-exchange : {X : Type 0} (key : X → Text) (a b : Text) (x y : X) (zs : List X) → key x ≡ a → key y ≡ b → (a ≡ b → x ≡ y) → find key b zs ≡ Some y → find key a (exchange key a b x y zs) ≡ Some x
find-exchange key a b x y [] e f g h = absurd (cc)
find-exchange key a b x y (z ∷ zs) e f g h = go (same_id a (key z)) refl (same_id b (key z)) refl (find-exchange key a b x y zs e f g) h
  where
    go : (p : Bool) → same_id a (key z) ≡ p → (q : Bool) → same_id b (key z) ≡ q → (find key b zs ≡ Some y → find key a (exchange key a b x y zs) ≡ Some x) → (if q then Some z else find key b zs) ≡ Some y
        → (if same_id a (key (if p then y else (if q then x else z))) then Some (if p then y else (if q then x else z)) else find key a (exchange key a b x y zs)) ≡ Some x
    go true s q t r h = rw f (by (same_id a b) refl q t h)
      where
        by : (c : Bool) → same_id a b ≡ c → (q : Bool) → same_id b (key z) ≡ q → (if q then Some z else find key b zs) ≡ Some y → (if c then Some y else find key a (exchange key a b x y zs)) ≡ Some x
        by true u q t h = rw (g (same-true a b u)) refl
        by false u true t h = let a_is = same-true a (key z) s in let b_is = same-true b (key z) t in let n : same_id a b ≡ true = subst (λ (v : Text). same_id a v ≡ true) (sym b_is) s in absurd (cc)
        by false u false t h = r h
    go false s true t r h = rw (e, same-self a) refl
    go false s false t r h = rw s (r h)

swap-fault : (there : List Text) (a b : Text) → first_of (lacking there a) (lacking there b) ≡ None → (has_id a there ≡ true) × (has_id b there ≡ true)
swap-fault there a b h = go (has_id a there) (has_id b there) h
  where
    go : (p q : Bool) → first_of (missing_if_not p a) (missing_if_not q b) ≡ None → (p ≡ true) × (q ≡ true)
    go true true h = (refl, refl)
    go true false h = absurd (cc)
    go false q h = absurd (cc)

pub find-has : {X : Type 0} (key : X → Text) (a : Text) (xs : List X) → has_id a (ids key xs) ≡ true → (x : X) × (find key a xs ≡ Some x)
find-has key a [] h = absurd (cc)
find-has {X = X} key a (z ∷ xs) h = go (same_id a (key z)) (find-has key a xs) h
  where
    go : (b : Bool) → (has_id a (ids key xs) ≡ true → (x : X) × (find key a xs ≡ Some x)) → b || has_id a (ids key xs) ≡ true → (x : X) × ((if b then Some z else find key a xs) ≡ Some x)
    go true r h = (z, refl)
    go false r h = r h

pub done-fault : {X : Type 0} (o : Option ActFault) (x y : X) → done_unless o x ≡ Done y → (o ≡ None) × (x ≡ y)
done-fault None x y h = (refl, cc)
done-fault (Some f) x y h = absurd (cc)

exchange-sym : {X : Type 0} (key : X → Text) (a b : Text) (x y : X) (zs : List X) → (a ≡ b → x ≡ y) → exchange key a b x y zs ≡ exchange key b a y x zs
exchange-sym key a b x y [] g = refl
exchange-sym key a b x y (z ∷ zs) g = go (same_id a (key z)) refl (same_id b (key z)) refl (exchange-sym key a b x y zs g)
  where
    go : (p : Bool) → same_id a (key z) ≡ p → (q : Bool) → same_id b (key z) ≡ q → exchange key a b x y zs ≡ exchange key b a y x zs
        → (if p then y else (if q then x else z)) ∷ exchange key a b x y zs ≡ (if q then x else (if p then y else z)) ∷ exchange key b a y x zs
    go true s true t h = rw (h, g (same-true a (key z) s ∙ sym (same-true b (key z) t))) refl
    go true s false t h = rw h refl
    go false s q t h = rw h refl

pub swap-twice : {X : Type 0} (key : X → Text) (a b : Text) (xs ys : List X) → AreDistinct (ids key xs) → act_list key (Swap a b) xs ≡ Done ys → act_list key (Swap a b) ys ≡ Done xs
swap-twice {X = X} key a b xs ys d h =
    let f = done-fault (first_of (lacking (ids key xs) a) (lacking (ids key xs) b)) (exchanged key a b xs) ys h in
    let t = swap-fault (ids key xs) a b f.0 in
    let x = find-has key a xs t.0 in
    let y = find-has key b xs t.1 in
    let kx = key-find key a xs x.0 x.1 in
    let ky = key-find key b xs y.0 y.1 in
    let same : a ≡ b → x.0 ≡ y.0 = λ e. one x.0 y.0 (sym x.1 ∙ (ap (λ (u : Text). find key u xs) e) ∙ y.1) in
    let ys_is : exchange key a b x.0 y.0 xs ≡ ys = subst (λ (o : Option X). exchange_found key a b o (Some y.0) xs ≡ ys) x.1 (subst (λ (o : Option X). exchange_found key a b (find key a xs) o xs ≡ ys) y.1 f.1) in
    subst (λ (zs : List X). act_list key (Swap a b) zs ≡ Done xs) ys_is (back x.0 y.0 t kx ky same x.1 y.1)
  where
    one : (x y : X) → Some x ≡ Some y → x ≡ y
    one x y e = cc

    back : (x y : X) → (has_id a (ids key xs) ≡ true) × (has_id b (ids key xs) ≡ true) → key x ≡ a → key y ≡ b → (a ≡ b → x ≡ y) → find key a xs ≡ Some x → find key b xs ≡ Some y → act_list key (Swap a b) (exchange key a b x y xs) ≡ Done xs
    back x y t kx ky same fx fy =
        let i = ids-exchange key a b x y xs kx ky in
        let ha : has_id a (ids key (exchange key a b x y xs)) ≡ true = rw (i, has-swapped a b a (ids key xs), same-self a) t.1 in
        let hb : has_id b (ids key (exchange key a b x y xs)) ≡ true = rw (i, has-swapped a b b (ids key xs)) (by (same_id a b) refl t) in
        let ga : find key a (exchange key a b x y xs) ≡ Some x = find-exchange key a b x y xs kx ky same fy in
        let gb : find key b (exchange key a b x y xs) ≡ Some y = gb_of x y kx ky same fx fy in
        rw (ha, hb, ga, gb, exchange-back key a b x y xs kx ky same (only-found key a x xs (is-distinct (ids key xs) d) fx) (only-found key b y xs (is-distinct (ids key xs) d) fy)) refl
      where
        by : (c : Bool) → same_id a b ≡ c → (has_id a (ids key xs) ≡ true) × (has_id b (ids key xs) ≡ true) → has_id (if c then b else (if same_id b b then a else b)) (ids key xs) ≡ true
        by true u t = t.1
        by false u t = rw (same-self b) t.0

        gb_of : (x y : X) → key x ≡ a → key y ≡ b → (a ≡ b → x ≡ y) → find key a xs ≡ Some x → find key b xs ≡ Some y → find key b (exchange key a b x y xs) ≡ Some y
        gb_of x y kx ky same fx fy = rw (exchange-sym key a b x y xs same) (find-exchange key b a y x xs ky kx (λ e. sym (same (sym e))) fx)
