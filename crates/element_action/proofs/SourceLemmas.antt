-- Sources that are looked for one after another, and what follows where none of them has a fault.
use Rattle.std.proofs.Common.{◌≡◌, ℕ, ◌+◌, ◌<◌, ◌≤◌, List, [], ◌∷◌, ◌++◌, length, take, drop, get_or, remove, Bool, true, false, not, ◌&&◌, ◌||◌, Option, Some, None, arith, refl, if◌then◌else◌, sym, ap, ◌∙◌, subst}
use Rattle.std.proofs.lemmas.List.{take_more, drop_more, drop_all}
use Rattle.mos_edits.specs.Texts.{Text, same_id, has_id}
use Rattle.mos_edits.specs.KeyedLists.{ActFault, ids, without, first_of, missing_if_not, lacking_place, first_repeated, first_missing}
use Rattle.mos_edits.specs.KeyedLists.ActFault.{Missing, AlreadyThere}
use Rattle.mos_edits.proofs.Identifiers.{same-true, same-self, has-append, has-without}
use Rattle.mos_values.specs.Distinct.{AreDistinct}
use Rattle.running_order.proofs.Ids.{AreDistinct-take}
use Rattle.mos_edits.proofs.Distinct.{IsDistinct, AreDisjoint, are-distinct, is-distinct, distinct-append, distinct-without}
use Rattle.element_action.proofs.PlaceLemmas.{Stands, remove_place}
use Rattle.element_action.proofs.MoveLemmas.{IsApart}

-- an identifier that is looked for in a list from the front
pub among_next : (id x : Text) (ss : List Text) (k : ℕ) → k < length ss → x ≡ get_or ss k x → same_id id x ≡ false → has_id id (drop k ss) ≡ has_id id (drop (k + 1) ss)
among_next id x ss k lt at h = ap (λ l. has_id id l) (drop_more ss k x lt) ∙ ap (λ u. same_id id u || has_id id (drop (k + 1) ss)) (sym at) ∙ ap (λ b. b || has_id id (drop (k + 1) ss)) h

pub among_here : (id x : Text) (ss : List Text) (k : ℕ) → k < length ss → x ≡ get_or ss k x → same_id id x ≡ true → has_id id (drop k ss) ≡ true
among_here id x ss k lt at h = ap (λ l. has_id id l) (drop_more ss k x lt) ∙ ap (λ u. same_id id u || has_id id (drop (k + 1) ss)) (sym at) ∙ ap (λ b. b || has_id id (drop (k + 1) ss)) h

pub among_end : (id : Text) (ss : List Text) (k : ℕ) → length ss ≤ k → has_id id (drop k ss) ≡ false
among_end id ss k le = ap (λ l. has_id id l) (drop_all k ss le)

-- an identifier that stands in a list beside another
pub beside_has : (id t : Text) (there : List Text) (a b : Bool) → a ≡ has_id id there → b ≡ same_id id t → a && not b ≡ has_id id (without (λ x. x) (t ∷ []) there)
beside_has id t there a b h i = (λ j. h j && not (i j)) ∙ (let w = has-without id (t ∷ []) there in grind (arith, w))

-- the same identifiers stand in both
abbrev AreAlike : List Text → List Text → Type 0
AreAlike xs ys = (z : Text) → has_id z xs ≡ has_id z ys

alike_more : (s : Text) (xs ys : List Text) → AreAlike xs ys → AreAlike (s ∷ xs) (s ∷ ys)
alike_more s xs ys h z = ap (λ b. same_id z s || b) (h z)

alike_last : (s : Text) (xs : List Text) → AreAlike (s ∷ xs) (xs ++ s ∷ [])
alike_last s xs z = let h = has-append z xs (s ∷ []) in grind (arith, h)

repeated_alike : (there xs ys ss : List Text) → AreAlike xs ys → first_repeated there xs ss ≡ first_repeated there ys ss
repeated_alike there xs ys [] h = refl
repeated_alike there xs ys (s ∷ ss) h = rw (h s, repeated_alike there (s ∷ xs) (s ∷ ys) ss (alike_more s xs ys h)) refl

missing_alike : (there xs ys ss : List Text) → AreAlike xs ys → first_missing there xs ss ≡ first_missing there ys ss
missing_alike there xs ys [] h = refl
missing_alike there xs ys (s ∷ ss) h = rw (h s, missing_alike there (s ∷ xs) (s ∷ ys) ss (alike_more s xs ys h)) refl

module _ (there ss : List Text) (k : ℕ) (d : Text) (lt : k < length ss) where
  split : drop k ss ≡ get_or ss k d ∷ drop (k + 1) ss
  split = drop_more ss k d lt

  more : take k ss ++ get_or ss k d ∷ [] ≡ take (k + 1) ss
  more = sym (take_more ss k d lt)

  -- the next source has no fault
  pub repeated_next : has_id (get_or ss k d) there ≡ false → has_id (get_or ss k d) (take k ss) ≡ false
      → first_repeated there (take k ss) (drop k ss) ≡ first_repeated there (take (k + 1) ss) (drop (k + 1) ss)
  repeated_next h i =
      let s = get_or ss k d in
      ap (λ l. first_repeated there (take k ss) l) split ∙ (λ j. if h j || i j then Some (AlreadyThere s) else first_repeated there (s ∷ take k ss) (drop (k + 1) ss))
      ∙ repeated_alike there (s ∷ take k ss) (take k ss ++ s ∷ []) (drop (k + 1) ss) (alike_last s (take k ss)) ∙ ap (λ l. first_repeated there l (drop (k + 1) ss)) more

  -- it is the first that has one
  pub repeated_here : has_id (get_or ss k d) there || has_id (get_or ss k d) (take k ss) ≡ true → first_repeated there (take k ss) (drop k ss) ≡ Some (AlreadyThere (get_or ss k d))
  repeated_here h =
      let s = get_or ss k d in
      ap (λ l. first_repeated there (take k ss) l) split ∙ (λ j. if h j then Some (AlreadyThere s) else first_repeated there (s ∷ take k ss) (drop (k + 1) ss))

  pub missing_next : has_id (get_or ss k d) there ≡ true → has_id (get_or ss k d) (take k ss) ≡ false
      → first_missing there (take k ss) (drop k ss) ≡ first_missing there (take (k + 1) ss) (drop (k + 1) ss)
  missing_next h i =
      let s = get_or ss k d in
      ap (λ l. first_missing there (take k ss) l) split ∙ (λ j. if h j && not (i j) then first_missing there (s ∷ take k ss) (drop (k + 1) ss) else Some (Missing s))
      ∙ missing_alike there (s ∷ take k ss) (take k ss ++ s ∷ []) (drop (k + 1) ss) (alike_last s (take k ss)) ∙ ap (λ l. first_missing there l (drop (k + 1) ss)) more

  pub missing_here : has_id (get_or ss k d) there && not (has_id (get_or ss k d) (take k ss)) ≡ false → first_missing there (take k ss) (drop k ss) ≡ Some (Missing (get_or ss k d))
  missing_here h =
      let s = get_or ss k d in
      ap (λ l. first_missing there (take k ss) l) split ∙ (λ j. if h j then first_missing there (s ∷ take k ss) (drop (k + 1) ss) else Some (Missing s))

-- none is left
pub repeated_end : (there ss : List Text) (k : ℕ) → length ss ≤ k → first_repeated there (take k ss) (drop k ss) ≡ None
repeated_end there ss k le = ap (λ l. first_repeated there (take k ss) l) (drop_all k ss le)

pub missing_end : (there ss : List Text) (k : ℕ) → length ss ≤ k → first_missing there (take k ss) (drop k ss) ≡ None
missing_end there ss k le = ap (λ l. first_missing there (take k ss) l) (drop_all k ss le)

-- sources that aren't there, and none of which equals one before it
pub repeated-none : (there before ss : List Text) → first_repeated there before ss ≡ None → IsDistinct ss × AreDisjoint ss there × AreDisjoint ss before
repeated-none there before [] h = (tt, λ x i. absurd (cc), λ x i. absurd (cc))
repeated-none there before (s ∷ ss) h = go (has_id s there) (has_id s before) refl refl (repeated-none there (s ∷ before) ss) h
  where
    go : (p q : Bool) → has_id s there ≡ p → has_id s before ≡ q → (first_repeated there (s ∷ before) ss ≡ None → IsDistinct ss × AreDisjoint ss there × AreDisjoint ss (s ∷ before))
        → (if p || q then Some (AlreadyThere s) else first_repeated there (s ∷ before) ss) ≡ None → IsDistinct (s ∷ ss) × AreDisjoint (s ∷ ss) there × AreDisjoint (s ∷ ss) before
    go true q e f r h = absurd (cc)
    go false true e f r h = absurd (cc)
    go false false e f r h =
        let i = r h in (
          (once (has_id s ss) refl i.2, i.0),
          λ x j. in_there x (same_id x s) refl e i.1 j,
          λ x j. in_before x (same_id x s) refl f i.2 j,
        )
      where
        once : (b : Bool) → has_id s ss ≡ b → AreDisjoint ss (s ∷ before) → has_id s ss ≡ false
        once false y d = y
        once true y d = let n = d s y in absurd (grind (arith, n, same-self s))

        in_there : (x : Text) (b : Bool) → same_id x s ≡ b → has_id s there ≡ false → AreDisjoint ss there → b || has_id x ss ≡ true → has_id x there ≡ false
        in_there x true y e d j = subst (λ (u : Text). has_id u there ≡ false) (sym (same-true x s y)) e
        in_there x false y e d j = d x j

        in_before : (x : Text) (b : Bool) → same_id x s ≡ b → has_id s before ≡ false → AreDisjoint ss (s ∷ before) → b || has_id x ss ≡ true → has_id x before ≡ false
        in_before x true y e d j = subst (λ (u : Text). has_id u before ≡ false) (sym (same-true x s y)) e
        in_before x false y e d j = let n = d x j in grind (arith, n)

pub missing-none : (there before ss : List Text) → first_missing there before ss ≡ None → IsDistinct ss × AreDisjoint ss before
missing-none there before [] h = (tt, λ x i. absurd (cc))
missing-none there before (s ∷ ss) h = go (has_id s there) (has_id s before) refl (missing-none there (s ∷ before) ss) h
  where
    go : (p q : Bool) → has_id s before ≡ q → (first_missing there (s ∷ before) ss ≡ None → IsDistinct ss × AreDisjoint ss (s ∷ before))
        → (if p && not q then first_missing there (s ∷ before) ss else Some (Missing s)) ≡ None → IsDistinct (s ∷ ss) × AreDisjoint (s ∷ ss) before
    go false q f r h = absurd (cc)
    go true true f r h = absurd (cc)
    go true false f r h = let i = r h in ((once (has_id s ss) refl i.1, i.0), λ x j. in_before x (same_id x s) refl f i.1 j)
      where
        once : (b : Bool) → has_id s ss ≡ b → AreDisjoint ss (s ∷ before) → has_id s ss ≡ false
        once false y d = y
        once true y d = let n = d s y in absurd (grind (arith, n, same-self s))

        in_before : (x : Text) (b : Bool) → same_id x s ≡ b → has_id s before ≡ false → AreDisjoint ss (s ∷ before) → b || has_id x ss ≡ true → has_id x before ≡ false
        in_before x true y f d j = subst (λ (u : Text). has_id u before ≡ false) (sym (same-true x s y)) f
        in_before x false y f d j = let n = d x j in grind (arith, n)

-- an action without a fault of its own
pub first-none : (a b : Option ActFault) → first_of a b ≡ None → (a ≡ None) × (b ≡ None)
first-none None b h = (refl, h)
first-none (Some f) b h = absurd (cc)

pub place-apart : (there ss : List Text) (t : Text) → lacking_place there ss t ≡ None → IsApart t ss
place-apart there ss [] h = tt
place-apart there ss (c ∷ cs) h = go (has_id (c ∷ cs) there) (has_id (c ∷ cs) ss) h
  where
    go : (a b : Bool) → missing_if_not (a && not b) (c ∷ cs) ≡ None → b ≡ false
    go true true h = absurd (cc)
    go true false h = refl
    go false true h = absurd (cc)
    go false false h = absurd (cc)

module _ {X : Type 0} (key : X → Text) where
  pub ids_without : (gone : List Text) (xs : List X) → ids key (without key gone xs) ≡ without (λ x. x) gone (ids key xs)
  ids_without gone [] = refl
  ids_without gone (x ∷ xs) = go (has_id (key x) gone) (ids_without gone xs)
    where
      go : (b : Bool) → ids key (without key gone xs) ≡ without (λ x. x) gone (ids key xs)
          → ids key (if b then without key gone xs else x ∷ without key gone xs) ≡ (if b then without (λ x. x) gone (ids key xs) else key x ∷ without (λ x. x) gone (ids key xs))
      go true r = r
      go false r = ap (λ l. key x ∷ l) r

  -- what is put in beside what is there
  pub insert_distinct : (xs new : List X) → AreDistinct (ids key xs) → first_repeated (ids key xs) [] (ids key new) ≡ None → AreDistinct (ids key xs ++ ids key new)
  insert_distinct xs new d h =
      let r = repeated-none (ids key xs) [] (ids key new) h in
      are-distinct (ids key xs ++ ids key new) (distinct-append (ids key xs) (ids key new) (is-distinct (ids key xs) d) r.0 (λ z i. by z (has_id z (ids key new)) refl i))
    where
      by : (z : Text) (b : Bool) → has_id z (ids key new) ≡ b → has_id z (ids key xs) ≡ true → b ≡ false
      by z true e i = let r = repeated-none (ids key xs) [] (ids key new) h in let n = r.1 z e in absurd (cc)
      by z false e i = refl

  pub replace_distinct : (t : Text) (xs new : List X) (n : ℕ) → AreDistinct (ids key xs) → Stands key t xs n → first_repeated (without (λ x. x) (t ∷ []) (ids key xs)) [] (ids key new) ≡ None
      → AreDistinct (ids key (remove xs n) ++ ids key new)
  replace_distinct t xs new n d s h =
      let i = is-distinct (ids key xs) d in
      let less = without key (t ∷ []) xs in
      let e : ids key less ≡ without (λ x. x) (t ∷ []) (ids key xs) = ids_without (t ∷ []) xs in
      subst (λ (l : List X). AreDistinct (ids key l ++ ids key new)) (sym (remove_place key t xs n i s))
      (insert_distinct less new (are-distinct (ids key less) (distinct-without key (t ∷ []) xs i)) (subst (λ (l : List Text). first_repeated l [] (ids key new) ≡ None) (sym e) h))

-- one identifier more, which isn't there yet
pub noted_distinct : (id : Text) (ts : List Text) → AreDistinct ts → has_id id ts ≡ false → AreDistinct (ts ++ id ∷ [])
noted_distinct id ts d h = are-distinct (ts ++ id ∷ []) (distinct-append ts (id ∷ []) (is-distinct ts d) (refl, tt) (λ z i. by z (same_id z id) refl i))
  where
    by : (z : Text) (b : Bool) → same_id z id ≡ b → has_id z ts ≡ true → b || false ≡ false
    by z true e i = absurd (let g : has_id id ts ≡ true = subst (λ (u : Text). has_id u ts ≡ true) (same-true z id e) i in cc)
    by z false e i = refl

-- the identifiers up to one more of them are distinct
pub next_distinct : (ts : List Text) (k : ℕ) (id : Text) → AreDistinct ts → k < length ts → id ≡ get_or ts k id → AreDistinct (take k ts ++ id ∷ [])
next_distinct ts k id d lt at = subst AreDistinct (take_more ts k id lt ∙ ap (λ u. take k ts ++ u ∷ []) (sym at)) (AreDistinct-take (k + 1) ts d)
