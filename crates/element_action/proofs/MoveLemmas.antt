-- Elements that are moved one after another before the same target stand there in that order.
use Rattle.std.proofs.Common.{◌≡◌, List, [], ◌∷◌, ◌++◌, Bool, true, false, ◌||◌, Option, Some, None, arith, refl, if◌then◌else◌, sym, ap, ◌∙◌, subst, append_assoc}
use Rattle.std.proofs.lemmas.List.{map-append, append-nil}
use Rattle.mos_edits.specs.Texts.{Text, same_id, has_id}
use Rattle.mos_edits.specs.KeyedLists.{ids, find, with_found, picked, without, put_at, put_before}
use Rattle.mos_edits.proofs.Identifiers.{same-true, same-self, same-sym, has-append}
use Rattle.mos_edits.proofs.Distinct.{IsDistinct, AreDisjoint, key-find}
use Rattle.element_action.specs.Targets.{moved, moved_all}
use Rattle.element_action.proofs.PlaceLemmas.{find_none}

-- the target is no identifier of the list, or it is empty
abbrev pub IsApart : Text → List Text → Type 0
IsApart [] ss = Unit {0}
IsApart (c ∷ cs) ss = has_id (c ∷ cs) ss ≡ false

module _ {X : Type 0} (key : X → Text) where
  find_left : (s : Text) (ps xs : List X) → has_id s (ids key ps) ≡ false → find key s (ps ++ xs) ≡ find key s xs
  find_left s [] xs h = refl
  find_left s (p ∷ ps) xs h = go (same_id s (key p)) (find_left s ps xs) h
    where
      go : (b : Bool) → (has_id s (ids key ps) ≡ false → find key s (ps ++ xs) ≡ find key s xs) → b || has_id s (ids key ps) ≡ false → (if b then Some p else find key s (ps ++ xs)) ≡ find key s xs
      go true r h = absurd (cc)
      go false r h = r h

  find_right : (s : Text) (xs ps : List X) → has_id s (ids key ps) ≡ false → find key s (xs ++ ps) ≡ find key s xs
  find_right s [] ps h = find_none key s ps h
  find_right s (x ∷ xs) ps h = ap (λ o. if same_id s (key x) then Some x else o) (find_right s xs ps h)

  find_put_at : (t s : Text) (ps xs : List X) → has_id s (ids key ps) ≡ false → find key s (put_at key t ps xs) ≡ find key s xs
  find_put_at t s ps [] h = find_none key s ps h
  find_put_at t s ps (x ∷ xs) h = go (same_id t (key x)) (find_put_at t s ps xs h)
    where
      go : (b : Bool) → find key s (put_at key t ps xs) ≡ find key s xs → find key s (if b then ps ++ (x ∷ xs) else x ∷ put_at key t ps xs) ≡ find key s (x ∷ xs)
      go true r = find_left s ps (x ∷ xs) h
      go false r = ap (λ o. if same_id s (key x) then Some x else o) r

  find_put : (t s : Text) (ps xs : List X) → has_id s (ids key ps) ≡ false → find key s (put_before key t ps xs) ≡ find key s xs
  find_put [] s ps xs h = find_right s xs ps h
  find_put (c ∷ cs) s ps xs h = find_put_at (c ∷ cs) s ps xs h

  pub without_append : (gone : List Text) (xs ys : List X) → without key gone (xs ++ ys) ≡ without key gone xs ++ without key gone ys
  without_append gone [] ys = refl
  without_append gone (x ∷ xs) ys = go (has_id (key x) gone) (without_append gone xs ys)
    where
      go : (b : Bool) → without key gone (xs ++ ys) ≡ without key gone xs ++ without key gone ys
          → (if b then without key gone (xs ++ ys) else x ∷ without key gone (xs ++ ys)) ≡ (if b then without key gone xs else x ∷ without key gone xs) ++ without key gone ys
      go true r = r
      go false r = ap (λ l. x ∷ l) r

  without_here : (s : Text) (xs : List X) → has_id s (ids key xs) ≡ false → without key (s ∷ []) xs ≡ xs
  without_here s [] h = refl
  without_here s (x ∷ xs) h =
      let out : has_id (key x) (s ∷ []) ≡ false = rw (same-sym (key x) s) (grind (arith, h)) in
      rw out (ap (λ l. x ∷ l) (without_here s xs (grind (arith, h))))

  without_put_at : (t s : Text) (ps xs : List X) → has_id s (ids key ps) ≡ false → same_id t s ≡ false → without key (s ∷ []) (put_at key t ps xs) ≡ put_at key t ps (without key (s ∷ []) xs)
  without_put_at t s ps [] h n = without_here s ps h
  without_put_at t s ps (x ∷ xs) h n = go (same_id t (key x)) refl (has_id (key x) (s ∷ [])) refl (without_put_at t s ps xs h n)
    where
      go : (b : Bool) → same_id t (key x) ≡ b → (c : Bool) → has_id (key x) (s ∷ []) ≡ c → without key (s ∷ []) (put_at key t ps xs) ≡ put_at key t ps (without key (s ∷ []) xs)
          → without key (s ∷ []) (if b then ps ++ (x ∷ xs) else x ∷ put_at key t ps xs) ≡ put_at key t ps (if c then without key (s ∷ []) xs else x ∷ without key (s ∷ []) xs)
      go true e true f r = let x_is = same-true t (key x) e in absurd (let g : has_id t (s ∷ []) ≡ true = subst (λ u. has_id u (s ∷ []) ≡ true) (sym x_is) f in grind (arith, g, n))
      go true e false f r = rw (without_append (s ∷ []) ps (x ∷ xs), without_here s ps h, f, e) refl
      go false e true f r = rw f r
      go false e false f r = rw (f, e) (ap (λ l. x ∷ l) r)

  without_put : (t s : Text) (ps xs : List X) → has_id s (ids key ps) ≡ false → IsApart t (s ∷ []) → without key (s ∷ []) (put_before key t ps xs) ≡ put_before key t ps (without key (s ∷ []) xs)
  without_put [] s ps xs h n = without_append (s ∷ []) xs ps ∙ ap (λ l. without key (s ∷ []) xs ++ l) (without_here s ps h)
  without_put (c ∷ cs) s ps xs h n = without_put_at (c ∷ cs) s ps xs h (grind (arith, n))

  pub put_at_absent : (t : Text) (new xs : List X) → has_id t (ids key xs) ≡ false → put_at key t new xs ≡ xs ++ new
  put_at_absent t new [] h = refl
  put_at_absent t new (x ∷ xs) h = go (same_id t (key x)) (put_at_absent t new xs) h
    where
      go : (b : Bool) → (has_id t (ids key xs) ≡ false → put_at key t new xs ≡ xs ++ new) → b || has_id t (ids key xs) ≡ false → (if b then new ++ (x ∷ xs) else x ∷ put_at key t new xs) ≡ x ∷ (xs ++ new)
      go true r h = absurd (cc)
      go false r h = ap (λ l. x ∷ l) (r h)

  pub put_at_behind : (t : Text) (new ps xs : List X) → has_id t (ids key ps) ≡ false → put_at key t new (ps ++ xs) ≡ ps ++ put_at key t new xs
  put_at_behind t new [] xs h = refl
  put_at_behind t new (p ∷ ps) xs h = go (same_id t (key p)) (put_at_behind t new ps xs) h
    where
      go : (b : Bool) → (has_id t (ids key ps) ≡ false → put_at key t new (ps ++ xs) ≡ ps ++ put_at key t new xs) → b || has_id t (ids key ps) ≡ false → (if b then new ++ (p ∷ (ps ++ xs)) else p ∷ put_at key t new (ps ++ xs)) ≡ p ∷ (ps ++ put_at key t new xs)
      go true r h = absurd (cc)
      go false r h = ap (λ l. p ∷ l) (r h)

  put_at_twice : (t : Text) (qs ps xs : List X) → has_id t (ids key ps) ≡ false → put_at key t qs (put_at key t ps xs) ≡ put_at key t (ps ++ qs) xs
  put_at_twice t qs ps [] h = put_at_absent t qs ps h
  put_at_twice t qs ps (x ∷ xs) h = go (same_id t (key x)) refl (put_at_twice t qs ps xs h)
    where
      go : (b : Bool) → same_id t (key x) ≡ b → put_at key t qs (put_at key t ps xs) ≡ put_at key t (ps ++ qs) xs
          → put_at key t qs (if b then ps ++ (x ∷ xs) else x ∷ put_at key t ps xs) ≡ (if b then (ps ++ qs) ++ (x ∷ xs) else x ∷ put_at key t (ps ++ qs) xs)
      go true e r = rw (put_at_behind t qs ps (x ∷ xs) h, e) (sym (append_assoc ps qs (x ∷ xs)))
      go false e r = rw e (ap (λ l. x ∷ l) r)

  put_twice : (t : Text) (qs ps xs : List X) → IsApart t (ids key ps) → put_before key t qs (put_before key t ps xs) ≡ put_before key t (ps ++ qs) xs
  put_twice [] qs ps xs h = append_assoc xs ps qs
  put_twice (c ∷ cs) qs ps xs h = put_at_twice (c ∷ cs) qs ps xs h

  put_at_nothing : (t : Text) (xs : List X) → put_at key t [] xs ≡ xs
  put_at_nothing t [] = refl
  put_at_nothing t (x ∷ xs) = go (same_id t (key x)) (put_at_nothing t xs)
    where
      go : (b : Bool) → put_at key t [] xs ≡ xs → (if b then [] ++ (x ∷ xs) else x ∷ put_at key t [] xs) ≡ x ∷ xs
      go true r = refl
      go false r = ap (λ l. x ∷ l) r

  pub put_nothing : (t : Text) (xs : List X) → put_before key t [] xs ≡ xs
  put_nothing [] xs = append-nil xs
  put_nothing (c ∷ cs) xs = put_at_nothing (c ∷ cs) xs

  -- what is taken out first and then
  pub without_twice : (a b : List Text) (xs : List X) → without key b (without key a xs) ≡ without key (a ++ b) xs
  without_twice a b [] = refl
  without_twice a b (x ∷ xs) = go (has_id (key x) a) refl (without_twice a b xs)
    where
      go : (p : Bool) → has_id (key x) a ≡ p → without key b (without key a xs) ≡ without key (a ++ b) xs
          → without key b (if p then without key a xs else x ∷ without key a xs) ≡ (if has_id (key x) (a ++ b) then without key (a ++ b) xs else x ∷ without key (a ++ b) xs)
      go true e r = rw (has-append (key x) a b, e) r
      go false e r = rw (has-append (key x) a b, e) (by (has_id (key x) b) r)
        where
          by : (q : Bool) → without key b (without key a xs) ≡ without key (a ++ b) xs
              → (if q then without key b (without key a xs) else x ∷ without key b (without key a xs)) ≡ (if q then without key (a ++ b) xs else x ∷ without key (a ++ b) xs)
          by true r = r
          by false r = ap (λ l. x ∷ l) r

  find_without : (s : Text) (gone : List Text) (xs : List X) → has_id s gone ≡ false → find key s (without key gone xs) ≡ find key s xs
  find_without s gone [] h = refl
  find_without s gone (x ∷ xs) h = go (has_id (key x) gone) refl (same_id s (key x)) refl (find_without s gone xs h)
    where
      go : (p : Bool) → has_id (key x) gone ≡ p → (q : Bool) → same_id s (key x) ≡ q → find key s (without key gone xs) ≡ find key s xs
          → find key s (if p then without key gone xs else x ∷ without key gone xs) ≡ (if q then Some x else find key s xs)
      go true e true f r = let x_is = same-true s (key x) f in absurd (let g : has_id s gone ≡ true = subst (λ u. has_id u gone ≡ true) (sym x_is) e in cc)
      go true e false f r = r
      go false e true f r = rw f refl
      go false e false f r = rw f r

  pub picked_without : (ss gone : List Text) (xs : List X) → AreDisjoint ss gone → picked key ss (without key gone xs) ≡ picked key ss xs
  picked_without [] gone xs d = refl
  picked_without (s ∷ ss) gone xs d =
      let here : has_id s gone ≡ false = d s (grind (arith, same-self s)) in
      let rest = picked_without ss gone xs (λ z i. d z (grind (arith, i))) in
      rw (find_without s gone xs here, rest) refl

  found_append : (o : Option X) (xs : List X) → with_found o [] ++ xs ≡ with_found o xs
  found_append None xs = refl
  found_append (Some x) xs = refl

  -- nothing that is there is looked for
  found_key : (s : Text) (xs : List X) (z : Text) → has_id z (ids key (with_found (find key s xs) [])) ≡ true → same_id z s ≡ true
  found_key s xs z i = go (find key s xs) refl i
    where
      go : (o : Option X) → find key s xs ≡ o → has_id z (ids key (with_found o [])) ≡ true → same_id z s ≡ true
      go None f i = absurd (cc)
      go (Some x) f i = let k = key-find key s xs x f in let j = rw k at i in grind (arith, j)

  apart_found : (t s : Text) (ps xs : List X) → IsApart t (ids key ps) → IsApart t (s ∷ []) → IsApart t (ids key (ps ++ with_found (find key s xs) []))
  apart_found [] s ps xs h n = tt
  apart_found (c ∷ cs) s ps xs h n =
      let t = c ∷ cs in
      let fs = with_found (find key s xs) [] in
      rw (map-append key ps fs, has-append t (ids key ps) (ids key fs), h) (go (has_id t (ids key fs)) refl)
    where
      go : (b : Bool) → has_id (c ∷ cs) (ids key (with_found (find key s xs) [])) ≡ b → b ≡ false
      go true e = let k = found_key s xs (c ∷ cs) e in absurd (grind (arith, k, n))
      go false e = refl

  apart_head : (t s : Text) (ss : List Text) → IsApart t (s ∷ ss) → IsApart t (s ∷ [])
  apart_head [] s ss h = tt
  apart_head (c ∷ cs) s ss h = grind (arith, h)

  apart_tail : (t s : Text) (ss : List Text) → IsApart t (s ∷ ss) → IsApart t ss
  apart_tail [] s ss h = tt
  apart_tail (c ∷ cs) s ss h = grind (arith, h)

  moves_from : (t : Text) (ss : List Text) (ps xs : List X) → IsDistinct ss → AreDisjoint ss (ids key ps) → IsApart t ss → IsApart t (ids key ps)
      → moved_all key t ss (put_before key t ps xs) ≡ put_before key t (ps ++ picked key ss xs) (without key ss xs)
  moves_from t [] ps xs d e n m = λ j. put_before key t (sym (append-nil ps) j) (sym (without_nothing xs) j)
    where
      without_nothing : (xs : List X) → without key [] xs ≡ xs
      without_nothing [] = refl
      without_nothing (x ∷ xs) = ap (λ l. x ∷ l) (without_nothing xs)
  moves_from t (s ∷ ss) ps xs d e n m =
      let fs = with_found (find key s xs) [] in
      let out = without key (s ∷ []) xs in
      let here : has_id s (ids key ps) ≡ false = e s (grind (arith, same-self s)) in
      let one = apart_head t s ss n in
      let step : moved key t s (put_before key t ps xs) ≡ put_before key t (ps ++ fs) out =
      (λ j. put_before key t (with_found (find_put t s ps xs here j) []) (without_put t s ps xs here one j)) ∙ put_twice t fs ps out m in
      let rest = moves_from t ss (ps ++ fs) out d.1 (apart s ss ps xs d.0 (λ z i. e z (grind (arith, i)))) (apart_tail t s ss n) (apart_found t s ps xs m one) in
      let other : AreDisjoint ss (s ∷ []) = beside s ss d.0 in
      let all : (ps ++ fs) ++ picked key ss out ≡ ps ++ picked key (s ∷ ss) xs =
      append_assoc ps fs (picked key ss out) ∙ ap (λ l. ps ++ (fs ++ l)) (picked_without ss (s ∷ []) xs other) ∙ ap (λ l. ps ++ l) (found_append (find key s xs) (picked key ss xs)) in
      ap (moved_all key t ss) step ∙ rest ∙ (λ j. put_before key t (all j) (without_twice (s ∷ []) ss xs j))
    where
      beside : (s : Text) (ss : List Text) → has_id s ss ≡ false → AreDisjoint ss (s ∷ [])
      beside s ss h z i = by (same_id z s) refl
        where
          by : (b : Bool) → same_id z s ≡ b → b || false ≡ false
          by true f = let z_is = same-true z s f in absurd (let g : has_id s ss ≡ true = subst (λ u. has_id u ss ≡ true) z_is i in cc)
          by false f = refl

      apart : (s : Text) (ss : List Text) (ps xs : List X) → has_id s ss ≡ false → AreDisjoint ss (ids key ps) → AreDisjoint ss (ids key (ps ++ with_found (find key s xs) []))
      apart s ss ps xs h e z i =
          let fs = with_found (find key s xs) [] in
          rw (map-append key ps fs, has-append z (ids key ps) (ids key fs), e z i) (by (has_id z (ids key fs)) refl)
        where
          by : (b : Bool) → has_id z (ids key (with_found (find key s xs) [])) ≡ b → b ≡ false
          by true f = let k = found_key s xs z f in let z_is = same-true z s k in absurd (let g : has_id s ss ≡ true = subst (λ u. has_id u ss ≡ true) z_is i in cc)
          by false f = refl

  apart_none : (t : Text) → IsApart t []
  apart_none [] = tt
  apart_none (c ∷ cs) = refl

  -- the moves of a MOVE, one after another
  pub moves_are : (t : Text) (ss : List Text) (xs : List X) → IsDistinct ss → IsApart t ss → moved_all key t ss xs ≡ put_before key t (picked key ss xs) (without key ss xs)
  moves_are t ss xs d n =
      ap (moved_all key t ss) (sym (put_nothing t xs)) ∙ moves_from t ss [] xs d (λ z i. refl) n (apart_none t)
