-- Actions and edits keep the identifiers of an order distinct.
use Rattle.std.proofs.Common.{◌≡◌, List, [], ◌∷◌, ◌++◌, Bool, true, false, not, ◌&&◌, ◌||◌, Option, Some, None, arith, refl, if◌then◌else◌, sym, subst}
use Rattle.mos_edits.specs.Texts.{Text, same_id, has_id}
use Rattle.mos_edits.specs.KeyedLists.{ActFault, Applied, ListAction, ids, find, with_found, picked, without, put_for, put_at, put_before, exchange, exchange_found, exchanged, first_of, lacking, lacking_target, lacking_place, first_repeated, first_missing, list_fault, list_result, act_list}
use Rattle.mos_edits.specs.KeyedLists.ActFault.{Missing, AlreadyThere}
use Rattle.mos_edits.specs.KeyedLists.Applied.{Done, Fault}
use Rattle.mos_edits.specs.KeyedLists.ListAction.{Insert, Replace, Move, Delete, Swap}
use Rattle.mos_edits.specs.Rows.{put_row}
use Rattle.mos_edits.specs.Actions.{Action, act, act_in, put_items}
use Rattle.mos_edits.specs.Actions.Action.{OnStories, OnItems}
use Rattle.mos_edits.specs.Orders.{Item, Story, Order, order_of, shape, form_of, scripts_after, with_stories, with_script, apply}
use Rattle.mos_edits.specs.declared.edit.Edit.{Edit}
use Rattle.mos_edits.specs.declared.edit.Edit.TheVariants as Edits
use Rattle.mos_edits.specs.declared.edit.Edit.TheVariants.{Create, Delete as DeleteOrder, Metadata, Act, Air, Script}
use Rattle.mos_values.specs.Distinct.{AreDistinct, story_ids, item_ids}
use Rattle.mos_edits.specs.Distinct.{Each, HasDistinctItems, HasDistinctIdsIf, SourcesOk, ActionOk, BringsDistinctIds}
use Rattle.mos_edits.proofs.Identifiers.{same-true, same-self, has-without}
use Rattle.mos_edits.proofs.Distinct.{IsDistinct, are-distinct, is-distinct, AreDisjoint, distinct-put_before, distinct-put_for, has-without_key, distinct-without, key-find, has-picked, distinct-picked}
use Rattle.mos_edits.proofs.Swaps.{distinct-exchanged, done-fault}

-- sources that aren't there, and none of which equals one before it
repeated-none : (there before ss : List Text) → first_repeated there before ss ≡ None → IsDistinct ss × AreDisjoint ss there × AreDisjoint ss before
repeated-none there before [] h = (tt, λ x i. absurd (cc), λ x i. absurd (cc))
repeated-none there before (s ∷ ss) h = go (has_id s there) (has_id s before) refl refl (repeated-none there (s ∷ before) ss) h
  where
    go : (p q : Bool) → has_id s there ≡ p → has_id s before ≡ q → (first_repeated there (s ∷ before) ss ≡ None → IsDistinct ss × AreDisjoint ss there × AreDisjoint ss (s ∷ before))
        → (if p || q then Some (AlreadyThere s) else first_repeated there (s ∷ before) ss) ≡ None → IsDistinct (s ∷ ss) × AreDisjoint (s ∷ ss) there × AreDisjoint (s ∷ ss) before
    go true q e f r h = absurd (cc)
    go false true e f r h = absurd (cc)
    go false false e f r h =
        let i = r h in (
          (once (has_id s ss) refl i.2, i.0),
          λ x j. in_there x (same_id x s) refl e i.1 j,
          λ x j. in_before x (same_id x s) refl f i.2 j,
        )
      where
        once : (b : Bool) → has_id s ss ≡ b → AreDisjoint ss (s ∷ before) → has_id s ss ≡ false
        once false y d = y
        once true y d = let n = d s y in absurd (grind (arith, n, same-self s))

        in_there : (x : Text) (b : Bool) → same_id x s ≡ b → has_id s there ≡ false → AreDisjoint ss there → b || has_id x ss ≡ true → has_id x there ≡ false
        in_there x true y e d j = subst (λ (u : Text). has_id u there ≡ false) (sym (same-true x s y)) e
        in_there x false y e d j = d x j

        in_before : (x : Text) (b : Bool) → same_id x s ≡ b → has_id s before ≡ false → AreDisjoint ss (s ∷ before) → b || has_id x ss ≡ true → has_id x before ≡ false
        in_before x true y e d j = subst (λ (u : Text). has_id u before ≡ false) (sym (same-true x s y)) e
        in_before x false y e d j = let n = d x j in grind (arith, n)

missing-none : (there before ss : List Text) → first_missing there before ss ≡ None → IsDistinct ss × AreDisjoint ss before
missing-none there before [] h = (tt, λ x i. absurd (cc))
missing-none there before (s ∷ ss) h = go (has_id s there) (has_id s before) refl (missing-none there (s ∷ before) ss) h
  where
    go : (p q : Bool) → has_id s before ≡ q → (first_missing there (s ∷ before) ss ≡ None → IsDistinct ss × AreDisjoint ss (s ∷ before))
        → (if p && not q then first_missing there (s ∷ before) ss else Some (Missing s)) ≡ None → IsDistinct (s ∷ ss) × AreDisjoint (s ∷ ss) before
    go false q f r h = absurd (cc)
    go true true f r h = absurd (cc)
    go true false f r h = let i = r h in ((once (has_id s ss) refl i.1, i.0), λ x j. in_before x (same_id x s) refl f i.1 j)
      where
        once : (b : Bool) → has_id s ss ≡ b → AreDisjoint ss (s ∷ before) → has_id s ss ≡ false
        once false y d = y
        once true y d = let n = d s y in absurd (grind (arith, n, same-self s))

        in_before : (x : Text) (b : Bool) → same_id x s ≡ b → has_id s before ≡ false → AreDisjoint ss (s ∷ before) → b || has_id x ss ≡ true → has_id x before ≡ false
        in_before x true y f d j = subst (λ (u : Text). has_id u before ≡ false) (sym (same-true x s y)) f
        in_before x false y f d j = let n = d x j in grind (arith, n)

first-none : (a b : Option ActFault) → first_of a b ≡ None → b ≡ None
first-none None b h = h
first-none (Some f) b h = absurd (cc)

-- an action on a list
distinct-result : {X : Type 0} (key : X → Text) (action : ListAction X) (xs : List X) → IsDistinct (ids key xs) → list_fault key action (ids key xs) ≡ None → IsDistinct (ids key (list_result key action xs))
distinct-result key (Insert target sources) xs d h =
    let r = repeated-none (ids key xs) [] (ids key sources) (first-none (lacking_target (ids key xs) target) (first_repeated (ids key xs) [] (ids key sources)) h) in
    distinct-put_before key target sources xs r.0 d r.1
distinct-result key (Replace target sources) xs d h =
    let r = repeated-none (without (λ id. id) (target ∷ []) (ids key xs)) [] (ids key sources) (first-none (lacking (ids key xs) target) (first_repeated (without (λ id. id) (target ∷ []) (ids key xs)) [] (ids key sources)) h) in
    distinct-put_for key target sources xs r.0 d (λ z i n. let w = has-without z (target ∷ []) (ids key xs) in let o = r.1 z i in grind (arith, w, o, n))
distinct-result key (Move target sources) xs d h =
    let r = missing-none (ids key xs) [] sources (first-none (lacking_place (ids key xs) sources target) (first_missing (ids key xs) [] sources) h) in
    distinct-put_before key target (picked key sources xs) (without key sources xs) (distinct-picked key sources xs r.0) (distinct-without key sources xs d)
    (λ z i. let p = has-picked key sources xs z i in let w = has-without_key key sources xs z in grind (arith, p, w))
distinct-result key (Delete sources) xs d h = distinct-without key sources xs d
distinct-result key (Swap a b) xs d h = distinct-exchanged key a b xs d

pub distinct-act_list : {X : Type 0} (key : X → Text) (action : ListAction X) (xs ys : List X) → AreDistinct (ids key xs) → act_list key action xs ≡ Done ys → AreDistinct (ids key ys)
distinct-act_list {X = X} key action xs ys d h =
    let f = done-fault (list_fault key action (ids key xs)) (list_result key action xs) ys h in
    subst (λ (zs : List X). AreDistinct (ids key zs)) f.1 (are-distinct (ids key (list_result key action xs)) (distinct-result key action xs (is-distinct (ids key xs) d) f.0))

-- what holds of each element of a list stays true of what actions make of it
each-append : {X : Type 0} (P : X → Type 0) (xs ys : List X) → Each P xs → Each P ys → Each P (xs ++ ys)
each-append P [] ys a b = b
each-append P (x ∷ xs) ys a b = (a.0, each-append P xs ys a.1 b)

each-put_at : {X : Type 0} (P : X → Type 0) (key : X → Text) (t : Text) (new xs : List X) → Each P new → Each P xs → Each P (put_at key t new xs)
each-put_at P key t new [] a b = a
each-put_at P key t new (x ∷ xs) a b = go (same_id t (key x)) (each-put_at P key t new xs a b.1)
  where
    go : (c : Bool) → Each P (put_at key t new xs) → Each P (if c then new ++ (x ∷ xs) else x ∷ put_at key t new xs)
    go true i = each-append P new (x ∷ xs) a b
    go false i = (b.0, i)

each-put_before : {X : Type 0} (P : X → Type 0) (key : X → Text) (t : Text) (new xs : List X) → Each P new → Each P xs → Each P (put_before key t new xs)
each-put_before P key [] new xs a b = each-append P xs new b a
each-put_before P key (c ∷ cs) new xs a b = each-put_at P key (c ∷ cs) new xs a b

each-put_for : {X : Type 0} (P : X → Type 0) (key : X → Text) (t : Text) (new xs : List X) → Each P new → Each P xs → Each P (put_for key t new xs)
each-put_for P key t new [] a b = b
each-put_for P key t new (x ∷ xs) a b = go (same_id t (key x)) (each-put_for P key t new xs a b.1)
  where
    go : (c : Bool) → Each P (put_for key t new xs) → Each P (if c then new ++ xs else x ∷ put_for key t new xs)
    go true i = each-append P new xs a b.1
    go false i = (b.0, i)

pub each-without : {X : Type 0} (P : X → Type 0) (key : X → Text) (gone : List Text) (xs : List X) → Each P xs → Each P (without key gone xs)
each-without P key gone [] a = a
each-without P key gone (x ∷ xs) a = go (has_id (key x) gone) (each-without P key gone xs a.1)
  where
    go : (c : Bool) → Each P (without key gone xs) → Each P (if c then without key gone xs else x ∷ without key gone xs)
    go true i = i
    go false i = (a.0, i)

abbrev EachIn : {X : Type 0} → (X → Type 0) → Option X → Type 0
EachIn P None = Unit {0}
EachIn P (Some x) = P x

each-find : {X : Type 0} (P : X → Type 0) (key : X → Text) (id : Text) (xs : List X) → Each P xs → EachIn P (find key id xs)
each-find P key id [] a = tt
each-find P key id (x ∷ xs) a = go (same_id id (key x)) (each-find P key id xs a.1)
  where
    go : (c : Bool) → EachIn P (find key id xs) → EachIn P (if c then Some x else find key id xs)
    go true i = a.0
    go false i = i

each-with_found : {X : Type 0} (P : X → Type 0) (o : Option X) (xs : List X) → EachIn P o → Each P xs → Each P (with_found o xs)
each-with_found P None xs a b = b
each-with_found P (Some x) xs a b = (a, b)

each-picked : {X : Type 0} (P : X → Type 0) (key : X → Text) (ss : List Text) (xs : List X) → Each P xs → Each P (picked key ss xs)
each-picked P key [] xs a = tt
each-picked P key (s ∷ ss) xs a = each-with_found P (find key s xs) (picked key ss xs) (each-find P key s xs a) (each-picked P key ss xs a)

each-exchange : {X : Type 0} (P : X → Type 0) (key : X → Text) (a b : Text) (x y : X) (zs : List X) → P x → P y → Each P zs → Each P (exchange key a b x y zs)
each-exchange P key a b x y [] p q h = tt
each-exchange P key a b x y (z ∷ zs) p q h = (go (same_id a (key z)) (same_id b (key z)), each-exchange P key a b x y zs p q h.1)
  where
    go : (c d : Bool) → P (if c then y else (if d then x else z))
    go true d = q
    go false true = p
    go false false = h.0

each-exchanged : {X : Type 0} (P : X → Type 0) (key : X → Text) (a b : Text) (xs : List X) → Each P xs → Each P (exchanged key a b xs)
each-exchanged {X = X} P key a b xs h = go (find key a xs) (find key b xs) (each-find P key a xs h) (each-find P key b xs h)
  where
    go : (o p : Option X) → EachIn P o → EachIn P p → Each P (exchange_found key a b o p xs)
    go None p i j = h
    go (Some x) None i j = h
    go (Some x) (Some y) i j = each-exchange P key a b x y xs i j h

items-result : (action : ListAction Story) (stories : List Story) → SourcesOk action → HasDistinctItems stories → HasDistinctItems (list_result (λ s. s.id) action stories)
items-result (Insert target sources) stories o h = each-put_before (λ s. AreDistinct (item_ids s.items)) (λ s. s.id) target sources stories o h
items-result (Replace target sources) stories o h = each-put_for (λ s. AreDistinct (item_ids s.items)) (λ s. s.id) target sources stories o h
items-result (Move target sources) stories o h =
    each-put_before (λ s. AreDistinct (item_ids s.items)) (λ s. s.id) target (picked (λ s. s.id) sources stories) (without (λ s. s.id) sources stories)
    (each-picked (λ s. AreDistinct (item_ids s.items)) (λ s. s.id) sources stories h) (each-without (λ s. AreDistinct (item_ids s.items)) (λ s. s.id) sources stories h)
items-result (Delete sources) stories o h = each-without (λ s. AreDistinct (item_ids s.items)) (λ s. s.id) sources stories h
items-result (Swap a b) stories o h = each-exchanged (λ s. AreDistinct (item_ids s.items)) (λ s. s.id) a b stories h

-- an action on the stories of an order
abbrev AreOk : List Story → Type 0
AreOk stories = AreDistinct (story_ids stories) × HasDistinctItems stories

ok-items : (story : Text) (action : ListAction Item) (stories ys : List Story) → AreOk stories → act_in shape story action stories (find (λ s. s.id) story stories) ≡ Done ys → AreOk ys
ok-items story action stories ys a h = go (find (λ s. s.id) story stories) refl (each-find (λ s. AreDistinct (item_ids s.items)) (λ s. s.id) story stories a.1) h
  where
    put : (s : Story) (items : List Item) → s.id ≡ story → AreDistinct (item_ids items) → AreOk (put_for (λ s. s.id) story (record s { items = items } ∷ []) stories)
    put s items k d = (
      are-distinct (story_ids (put_for (λ s. s.id) story (record s { items = items } ∷ []) stories)) (distinct-put_for (λ s. s.id) story (record s { items = items } ∷ []) stories (refl, tt) (is-distinct (story_ids stories) a.0) (λ z i n. absurd (let j = rw k at i in grind (arith, j, n)))),
      each-put_for (λ s. AreDistinct (item_ids s.items)) (λ s. s.id) story (record s { items = items } ∷ []) stories (d, tt) a.1,
    )

    inner : (s : Story) (r : Applied (List Item)) → act_list (λ i. i.id) action s.items ≡ r → s.id ≡ story → AreDistinct (item_ids s.items) → put_items shape story s stories r ≡ Done ys → AreOk ys
    inner s (Fault f) e k d h = absurd (cc)
    inner s (Done items) e k d h = let ys_is : put_for (λ s. s.id) story (record s { items = items } ∷ []) stories ≡ ys = cc in subst (λ (zs : List Story). AreOk zs) ys_is (put s items k (distinct-act_list (λ i. i.id) action s.items items d e))

    go : (o : Option Story) → find (λ s. s.id) story stories ≡ o → EachIn (λ s. AreDistinct (item_ids s.items)) o → act_in shape story action stories o ≡ Done ys → AreOk ys
    go None e i h = absurd (cc)
    go (Some s) e i h = inner s (act_list (λ i. i.id) action s.items) refl (key-find (λ s. s.id) story stories s e) i h

pub distinct-act : (action : Action Story Item) (stories ys : List Story) → ActionOk action → AreDistinct (story_ids stories) × HasDistinctItems stories → act shape action stories ≡ Done ys → AreDistinct (story_ids ys) × HasDistinctItems ys
distinct-act (OnStories action) stories ys o a h =
    let f = done-fault (list_fault (λ s. s.id) action (story_ids stories)) (list_result (λ s. s.id) action stories) ys h in
    subst (λ (zs : List Story). AreOk zs) f.1 (are-distinct (story_ids (list_result (λ s. s.id) action stories)) (distinct-result (λ s. s.id) action stories (is-distinct (story_ids stories) a.0) f.0), items-result action stories o a.1)
distinct-act (OnItems story action) stories ys o a h = ok-items story action stories ys a h

-- an edit
pub distinct-apply : (r : Text) (o p : Option Order) (e : Edit) → HasDistinctIdsIf o → BringsDistinctIds e → apply r o e ≡ Done p → HasDistinctIdsIf p
unfolding apply
distinct-apply r None p (Create body) a b h = let p_is : Some (order_of body) ≡ p = cc in subst (λ (q : Option Order). HasDistinctIdsIf q) p_is b
distinct-apply r None p (Edits.Replace body) a b h = absurd (cc)
distinct-apply r None p (DeleteOrder ro) a b h = absurd (cc)
distinct-apply r None p (Metadata patch) a b h = absurd (cc)
distinct-apply r None p (Act ro action) a b h = absurd (cc)
distinct-apply r None p (Air ro air) a b h = absurd (cc)
distinct-apply r None p (Script script) a b h = absurd (cc)
distinct-apply r (Some o) p (Create body) a b h = absurd (cc)
distinct-apply r (Some o) p (Edits.Replace body) a b h = let p_is : Some (order_of body) ≡ p = cc in subst (λ (q : Option Order). HasDistinctIdsIf q) p_is b
distinct-apply r (Some o) p (DeleteOrder ro) a b h = let p_is : None ≡ p = cc in subst (λ (q : Option Order). HasDistinctIdsIf q) p_is tt
distinct-apply r (Some o) p (Metadata patch) a b h = grind arith
distinct-apply r (Some o) p (Act ro action) a b h = go (act shape (form_of action) o.stories) refl h
  where
    go : (x : Applied (List Story)) → act shape (form_of action) o.stories ≡ x → with_stories o.header (scripts_after (λ script. script) (Act ro action) o.scripts) x ≡ Done p → HasDistinctIdsIf p
    go (Fault f) e h = absurd (cc)
    go (Done ys) e h = let p_is : Some (record { header = o.header; stories = ys; scripts = scripts_after (λ script. script) (Act ro action) o.scripts }) ≡ p = cc in subst (λ (q : Option Order). HasDistinctIdsIf q) p_is (distinct-act (form_of action) o.stories ys b a e)
distinct-apply r (Some o) p (Air ro air) a b h = let p_is : Some o ≡ p = cc in subst (λ (q : Option Order). HasDistinctIdsIf q) p_is a
distinct-apply r (Some o) p (Script script) a b h = go (has_id script.story (story_ids o.stories)) h
  where
    go : (c : Bool) → with_script o script c ≡ Done p → HasDistinctIdsIf p
    go true h = let p_is : Some (record { header = o.header; stories = o.stories; scripts = put_row script.story script o.scripts }) ≡ p = cc in subst (λ (q : Option Order). HasDistinctIdsIf q) p_is a
    go false h = absurd (cc)
