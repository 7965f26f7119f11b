-- MOVE and SWAP change places only; what was deleted can be put back.
use Rattle.std.proofs.Common.{◌≡◌, ℕ, List, [], ◌∷◌, ◌++◌, Bool, true, false, ◌||◌, Option, Some, None, arith, refl, if◌then◌else◌, sym, ap, ◌∙◌, subst}
use Rattle.std.specs.List.Sorted.{IsPermutation}
use Rattle.std.specs.Option.{is_some}
use Rattle.std.proofs.lemmas.List.{map-append, append-nil}
use Rattle.std.proofs.lemmas.List.Sorted.{IsPermutation-refl, IsPermutation-cons, IsPermutation-trans, IsPermutation-middle, IsPermutation-append_comm, IsPermutation-swap}
use Rattle.mos_edits.specs.Texts.{Text, same_id, has_id}
use Rattle.mos_edits.specs.KeyedLists.{ids, find, with_found, picked, without, put_at, put_before, exchanged, first_of, missing_if_not, lacking, lacking_target, lacking_place, first_missing, first_repeated, done_unless, act_list}
use Rattle.mos_edits.specs.KeyedLists.Applied.{Done}
use Rattle.mos_edits.specs.KeyedLists.ListAction.{Insert, Move, Delete, Swap}
use Rattle.mos_edits.proofs.Identifiers.{same-true, same-self, same-sym, has-append}
use Rattle.mos_edits.proofs.Distinct.{IsDistinct, AreDisjoint, is-distinct, distinct-without}
use Rattle.mos_edits.proofs.Swaps.{done-fault}
use Rattle.mos_values.specs.Distinct.{AreDistinct}
use Rattle.running_order.specs.Places.{place_of}
use Rattle.element_action.specs.Targets.{StandsFirst}
use Rattle.element_action.proofs.PlaceLemmas.{place_stands, place_has, stands_within, without_absent, without_none}
use Rattle.element_action.proofs.MoveLemmas.{without_append, without_twice, picked_without, put_at_behind}
use Rattle.element_action.proofs.SourceLemmas.{first-none, missing-none}
use Rattle.element_action.proofs.StepLemmas.{exchange_is_swap}

module _ {X : Type 0} (key : X → Text) where
  -- an element that was looked up, before the others
  found_behind : (y : X) (o : Option X) (ws xs : List X) → IsPermutation xs (with_found o ws) → IsPermutation (y ∷ xs) (with_found o (y ∷ ws))
  found_behind y None ws xs h = IsPermutation-cons y xs ws h
  found_behind y (Some x) ws xs h = IsPermutation-trans (y ∷ xs) (y ∷ x ∷ ws) (x ∷ y ∷ ws) (IsPermutation-cons y xs (x ∷ ws) h) (IsPermutation-middle (y ∷ []) x ws)

  one_picked : (s : Text) (xs : List X) → IsDistinct (ids key xs) → IsPermutation xs (with_found (find key s xs) (without key (s ∷ []) xs))
  one_picked s [] d = IsPermutation-refl []
  one_picked s (y ∷ xs) d = go (same_id s (key y)) refl (one_picked s xs d.1)
    where
      go : (b : Bool) → same_id s (key y) ≡ b → IsPermutation xs (with_found (find key s xs) (without key (s ∷ []) xs))
          → IsPermutation (y ∷ xs) (with_found (if b then Some y else find key s xs) (if has_id (key y) (s ∷ []) then without key (s ∷ []) xs else y ∷ without key (s ∷ []) xs))
      go true e r =
          let one : has_id (key y) (s ∷ []) ≡ true = rw (same-sym (key y) s, e) refl in
          let none : has_id s (ids key xs) ≡ false = subst (λ u. has_id u (ids key xs) ≡ false) (sym (same-true s (key y) e)) d.0 in
          rw (one, without_absent key s xs none) (IsPermutation-refl (y ∷ xs))
      go false e r =
          let other : has_id (key y) (s ∷ []) ≡ false = rw (same-sym (key y) s, e) refl in
          rw other (found_behind y (find key s xs) (without key (s ∷ []) xs) xs r)

  found_first : (o : Option X) (xs ps ws : List X) → IsPermutation xs (ps ++ ws) → IsPermutation (with_found o xs) (with_found o ps ++ ws)
  found_first None xs ps ws h = h
  found_first (Some x) xs ps ws h = IsPermutation-cons x xs (ps ++ ws) h

  without_nothing : (xs : List X) → without key [] xs ≡ xs
  without_nothing [] = refl
  without_nothing (x ∷ xs) = ap (λ l. x ∷ l) (without_nothing xs)

  others : (s : Text) (ss : List Text) → has_id s ss ≡ false → AreDisjoint ss (s ∷ [])
  others s ss h z i = by (same_id z s) refl
    where
      by : (b : Bool) → same_id z s ≡ b → b || false ≡ false
      by true f = let z_is = same-true z s f in absurd (let g : has_id s ss ≡ true = subst (λ u. has_id u ss ≡ true) z_is i in cc)
      by false f = refl

  -- several, and what is left
  pub all_picked : (ss : List Text) (xs : List X) → IsDistinct ss → IsDistinct (ids key xs) → IsPermutation xs (picked key ss xs ++ without key ss xs)
  all_picked [] xs e d = subst (λ (l : List X). IsPermutation xs l) (sym (without_nothing xs)) (IsPermutation-refl xs)
  all_picked (s ∷ ss) xs e d =
      let out = without key (s ∷ []) xs in
      let o = find key s xs in
      let same : picked key ss out ++ without key ss out ≡ picked key ss xs ++ without key (s ∷ ss) xs = λ j. picked_without key ss (s ∷ []) xs (others s ss e.0) j ++ without_twice key (s ∷ []) ss xs j in
      let rest = subst (λ (l : List X). IsPermutation out l) same (all_picked ss out e.1 (distinct-without key (s ∷ []) xs d)) in
      IsPermutation-trans xs (with_found o out) (with_found o (picked key ss xs) ++ without key (s ∷ ss) xs) (one_picked s xs d) (found_first o out (picked key ss xs) (without key (s ∷ ss) xs) rest)

  -- what is put in before a target
  put_at_places : (t : Text) (new xs : List X) → IsPermutation (new ++ xs) (put_at key t new xs)
  put_at_places t new [] = subst (λ (l : List X). IsPermutation (new ++ []) l) (nil new) (IsPermutation-refl (new ++ []))
    where
      nil : (l : List X) → l ++ [] ≡ l
      nil [] = refl
      nil (x ∷ l) = ap (λ r. x ∷ r) (nil l)
  put_at_places t new (x ∷ xs) = go (same_id t (key x)) (put_at_places t new xs)
    where
      go : (b : Bool) → IsPermutation (new ++ xs) (put_at key t new xs) → IsPermutation (new ++ (x ∷ xs)) (if b then new ++ (x ∷ xs) else x ∷ put_at key t new xs)
      go true r = IsPermutation-refl (new ++ (x ∷ xs))
      go false r = IsPermutation-trans (new ++ (x ∷ xs)) (x ∷ (new ++ xs)) (x ∷ put_at key t new xs) (IsPermutation-middle new x xs) (IsPermutation-cons x (new ++ xs) (put_at key t new xs) r)

  put_places : (t : Text) (new xs : List X) → IsPermutation (new ++ xs) (put_before key t new xs)
  put_places [] new xs = IsPermutation-append_comm new xs
  put_places (c ∷ cs) new xs = put_at_places (c ∷ cs) new xs

  pub move_places : (t : Text) (ss : List Text) (xs ys : List X) → AreDistinct (ids key xs) → act_list key (Move t ss) xs ≡ Done ys → IsPermutation xs ys
  move_places t ss xs ys d h =
      let p = picked key ss xs in
      let w = without key ss xs in
      let f = done-fault (first_of (lacking_place (ids key xs) ss t) (first_missing (ids key xs) [] ss)) (put_before key t p w) ys h in
      let e = missing-none (ids key xs) [] ss (first-none (lacking_place (ids key xs) ss t) (first_missing (ids key xs) [] ss) f.0).1 in
      subst (λ (l : List X). IsPermutation xs l) f.1 (IsPermutation-trans xs (p ++ w) (put_before key t p w) (all_picked ss xs e.0 (is-distinct (ids key xs) d)) (put_places t p w))

  swap_there : (there : List Text) (a b : Text) → first_of (lacking there a) (lacking there b) ≡ None → (has_id a there ≡ true) × (has_id b there ≡ true)
  swap_there there a b h = go (has_id a there) (has_id b there) h
    where
      go : (p q : Bool) → first_of (missing_if_not p a) (missing_if_not q b) ≡ None → (p ≡ true) × (q ≡ true)
      go true true h = (refl, refl)
      go true false h = absurd (cc)
      go false q h = absurd (cc)

  pub swap_places : (a b : Text) (xs ys : List X) → AreDistinct (ids key xs) → act_list key (Swap a b) xs ≡ Done ys → IsPermutation xs ys
  swap_places a b xs ys d h =
      let f = done-fault (first_of (lacking (ids key xs) a) (lacking (ids key xs) b)) (exchanged key a b xs) ys h in
      let t = swap_there (ids key xs) a b f.0 in
      go (place_of a (ids key xs)) (place_of b (ids key xs)) refl refl (place_has key a xs ∙ t.0) (place_has key b xs ∙ t.1) f.1
    where
      go : (o p : Option ℕ) → place_of a (ids key xs) ≡ o → place_of b (ids key xs) ≡ p → is_some (place_of a (ids key xs)) ≡ true → is_some (place_of b (ids key xs)) ≡ true → exchanged key a b xs ≡ ys → IsPermutation xs ys
      go None p e g i j k = absurd (let m = sym (ap (λ (q : Option ℕ). is_some q) e) ∙ i in cc)
      go (Some m) None e g i j k = absurd (let n = sym (ap (λ (q : Option ℕ). is_some q) g) ∙ j in cc)
      go (Some m) (Some n) e g i j k =
          let one = place_stands key a xs m e in
          let two = place_stands key b xs n g in
          IsPermutation-swap xs ys m n (stands_within key a xs m one) (stands_within key b xs n two) (sym k ∙ exchange_is_swap key a b xs m n (is-distinct (ids key xs) d) one two)

-- ---- what was deleted can be put back

-- identifiers all of which are there, none twice
all_there : (there before ss : List Text) → ((z : Text) → has_id z ss ≡ true → has_id z there ≡ true) → IsDistinct ss → AreDisjoint ss before → first_missing there before ss ≡ None
all_there there before [] h d n = refl
all_there there before (s ∷ ss) h d n =
    let here : has_id s there ≡ true = h s (grind (arith, same-self s)) in
    let new : has_id s before ≡ false = n s (grind (arith, same-self s)) in
    rw (here, new) (all_there there (s ∷ before) ss (λ z i. h z (grind (arith, i))) d.1 (λ z i. by z (same_id z s) refl i (n z (grind (arith, i)))))
  where
    by : (z : Text) (b : Bool) → same_id z s ≡ b → has_id z ss ≡ true → has_id z before ≡ false → b || has_id z before ≡ false
    by z true e i m = absurd (let g : has_id s ss ≡ true = subst (λ u. has_id u ss ≡ true) (same-true z s e) i in let o = d.0 in cc)
    by z false e i m = m

-- none of which is there
none_there : (there before ss : List Text) → AreDisjoint ss there → IsDistinct ss → AreDisjoint ss before → first_repeated there before ss ≡ None
none_there there before [] h d n = refl
none_there there before (s ∷ ss) h d n =
    let here : has_id s there ≡ false = h s (grind (arith, same-self s)) in
    let new : has_id s before ≡ false = n s (grind (arith, same-self s)) in
    rw (here, new) (none_there there (s ∷ before) ss (λ z i. h z (grind (arith, i))) d.1 (λ z i. by z (same_id z s) refl i (n z (grind (arith, i)))))
  where
    by : (z : Text) (b : Bool) → same_id z s ≡ b → has_id z ss ≡ true → has_id z before ≡ false → b || has_id z before ≡ false
    by z true e i m = absurd (let g : has_id s ss ≡ true = subst (λ u. has_id u ss ≡ true) (same-true z s e) i in let o = d.0 in cc)
    by z false e i m = m

-- parts of a list whose identifiers are distinct
distinct_left : (xs ys : List Text) → IsDistinct (xs ++ ys) → IsDistinct xs
distinct_left [] ys d = tt
distinct_left (x ∷ xs) ys d = (let a = has-append x xs ys in let o = d.0 in grind (arith, a, o), distinct_left xs ys d.1)

distinct_right : (xs ys : List Text) → IsDistinct (xs ++ ys) → IsDistinct ys
distinct_right [] ys d = d
distinct_right (x ∷ xs) ys d = distinct_right xs ys d.1

distinct_apart : (xs ys : List Text) → IsDistinct (xs ++ ys) → AreDisjoint xs ys
distinct_apart [] ys d z i = absurd (cc)
distinct_apart (x ∷ xs) ys d z i = by (same_id z x) refl (distinct_apart xs ys d.1 z)
  where
    by : (b : Bool) → same_id z x ≡ b → (has_id z xs ≡ true → has_id z ys ≡ false) → has_id z ys ≡ false
    by true e r = let a = has-append x xs ys in let o = d.0 in let n : has_id x ys ≡ false = grind (arith, a, o) in subst (λ u. has_id u ys ≡ false) (sym (same-true z x e)) n
    by false e r = r (grind (arith, i, e))

apart_sym : (xs ys : List Text) → AreDisjoint xs ys → AreDisjoint ys xs
apart_sym xs ys h z i = by (has_id z xs) refl
  where
    by : (b : Bool) → has_id z xs ≡ b → b ≡ false
    by true e = absurd (let n = h z e in cc)
    by false e = refl

module _ {X : Type 0} (key : X → Text) where
  ids_of : (front gone rest : List X) → ids key (front ++ (gone ++ rest)) ≡ ids key front ++ (ids key gone ++ ids key rest)
  ids_of front gone rest = map-append key front (gone ++ rest) ∙ ap (λ l. ids key front ++ l) (map-append key gone rest)

  gone_all : (gone : List Text) (xs : List X) → ((z : Text) → has_id z (ids key xs) ≡ true → has_id z gone ≡ true) → without key gone xs ≡ []
  gone_all gone [] h = refl
  gone_all gone (x ∷ xs) h =
      let here : has_id (key x) gone ≡ true = h (key x) (grind (arith, same-self (key x))) in
      rw here (gone_all gone xs (λ z i. h z (grind (arith, i))))

  -- the identifiers of the three parts are apart
  record AreApart (front gone rest : List X) : Type 0 where
    once : IsDistinct (ids key gone)
    before : AreDisjoint (ids key front) (ids key gone)
    behind : AreDisjoint (ids key rest) (ids key gone)
    around : AreDisjoint (ids key front) (ids key rest)

  parts : (front gone rest : List X) → AreDistinct (ids key (front ++ (gone ++ rest))) → AreApart front gone rest
  parts front gone rest d =
      let fs = ids key front in
      let gs = ids key gone in
      let rs = ids key rest in
      let all = subst (λ (l : List Text). IsDistinct l) (ids_of front gone rest) (is-distinct (ids key (front ++ (gone ++ rest))) d) in
      let tail = distinct_right fs (gs ++ rs) all in
      record {
        once = distinct_left gs rs tail;
        before = λ z i. let n = distinct_apart fs (gs ++ rs) all z i in let a = has-append z gs rs in grind (arith, n, a);
        behind = apart_sym gs rs (distinct_apart gs rs tail);
        around = λ z i. let n = distinct_apart fs (gs ++ rs) all z i in let a = has-append z gs rs in grind (arith, n, a);
      }

  pub deleted : (front gone rest : List X) → AreDistinct (ids key (front ++ (gone ++ rest))) → act_list key (Delete (ids key gone)) (front ++ (gone ++ rest)) ≡ Done (front ++ rest)
  deleted front gone rest d =
      let fs = ids key front in
      let gs = ids key gone in
      let rs = ids key rest in
      let p = parts front gone rest d in
      let there : (z : Text) → has_id z gs ≡ true → has_id z (fs ++ (gs ++ rs)) ≡ true = λ z i. let a = has-append z fs (gs ++ rs) in let b = has-append z gs rs in grind (arith, a, b, i) in
      let none : first_missing (ids key (front ++ (gone ++ rest))) [] gs ≡ None = ap (λ l. first_missing l [] gs) (ids_of front gone rest) ∙ all_there (fs ++ (gs ++ rs)) [] gs there p.once (λ z i. refl) in
      let tail : without key gs (gone ++ rest) ≡ rest = without_append key gs gone rest ∙ (λ j. gone_all gs gone (λ z i. i) j ++ without_none key gs rest p.behind j) in
      let left : without key gs (front ++ (gone ++ rest)) ≡ front ++ rest = without_append key gs front (gone ++ rest) ∙ (λ j. without_none key gs front p.before j ++ tail j) in
      λ j. done_unless (none j) (left j)

  target_there : (t : Text) (front rest : List X) → StandsFirst t (ids key rest) → lacking_target (ids key (front ++ rest)) t ≡ None
  target_there [] front rest h = refl
  target_there (c ∷ cs) front [] h = absurd (cc)
  target_there (c ∷ cs) front (x ∷ rest) h =
      let t = c ∷ cs in
      let first : has_id t (ids key (x ∷ rest)) ≡ true = subst (λ (u : Text). has_id t (u ∷ ids key rest) ≡ true) h.0 (grind (arith, same-self t)) in
      let a = has-append t (ids key front) (ids key (x ∷ rest)) in
      let all : has_id t (ids key (front ++ (x ∷ rest))) ≡ true = ap (λ l. has_id t l) (map-append key front (x ∷ rest)) ∙ (let g : has_id t (ids key front ++ ids key (x ∷ rest)) ≡ true = grind (arith, a, first) in g) in
      ap (λ b. missing_if_not b t) all

  put_back : (t : Text) (front gone rest : List X) → AreDisjoint (ids key front) (ids key rest) → StandsFirst t (ids key rest) → put_before key t gone (front ++ rest) ≡ front ++ (gone ++ rest)
  put_back [] front gone [] n h = (λ j. append-nil front j ++ gone) ∙ ap (λ l. front ++ l) (sym (append-nil gone))
  put_back (c ∷ cs) front gone [] n h = absurd (cc)
  put_back [] front gone (x ∷ rest) n h = absurd (h.1 refl)
  put_back (c ∷ cs) front gone (x ∷ rest) n h =
      let t = c ∷ cs in
      let same : same_id t (key x) ≡ true = subst (λ (u : Text). same_id t u ≡ true) h.0 (same-self t) in
      let first : has_id t (ids key (x ∷ rest)) ≡ true = grind (arith, same) in
      let none : has_id t (ids key front) ≡ false = apart_sym (ids key front) (ids key (x ∷ rest)) n t first in
      put_at_behind key t gone front (x ∷ rest) none ∙ ap (λ b. front ++ (if b then gone ++ (x ∷ rest) else x ∷ put_at key t gone rest)) same

  pub back : (t : Text) (front gone rest : List X) → AreDistinct (ids key (front ++ (gone ++ rest))) → StandsFirst t (ids key rest) → act_list key (Insert t gone) (front ++ rest) ≡ Done (front ++ (gone ++ rest))
  back t front gone rest d h =
      let fs = ids key front in
      let gs = ids key gone in
      let rs = ids key rest in
      let p = parts front gone rest d in
      let none : first_repeated (ids key (front ++ rest)) [] gs ≡ None =
      ap (λ l. first_repeated l [] gs) (map-append key front rest)
      ∙ none_there (fs ++ rs) [] gs (λ z i. let a = has-append z fs rs in let b = apart_sym fs gs p.before z i in let e = apart_sym rs gs p.behind z i in grind (arith, a, b, e)) p.once (λ z i. refl) in
      λ j. done_unless (first_of (target_there t front rest h j) (none j)) (put_back t front gone rest p.around h j)
