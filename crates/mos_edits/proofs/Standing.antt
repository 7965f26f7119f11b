-- A story that no action takes out stays in its order, and so does its script.
use Rattle.std.proofs.Common.{◌≡◌, List, [], ◌∷◌, ◌++◌, Bool, true, false, ◌||◌, Option, Some, None, arith, refl, if◌then◌else◌, sym, ◌∙◌, subst}
use Rattle.std.proofs.lemmas.List.{map-append}
use Rattle.mos_edits.specs.Texts.{Text, same_id, has_id}
use Rattle.mos_edits.specs.KeyedLists.{Applied, ListAction, ids, find, with_found, picked, without, put_for, put_before, exchange_found, exchanged, list_fault, list_result, act_list}
use Rattle.mos_edits.specs.KeyedLists.Applied.{Done, Fault}
use Rattle.mos_edits.specs.KeyedLists.ListAction.{Insert, Replace, Move, Delete, Swap}
use Rattle.mos_edits.specs.Actions.{Action, act, act_in, put_items}
use Rattle.mos_edits.specs.Actions.Action.{OnStories, OnItems}
use Rattle.mos_edits.specs.Distinct.{Each}
use Rattle.mos_edits.specs.Orders.{Item, Story, StorySend, Order, order_of, shape, form_of, taken_out, scripts_after, with_stories, with_script, apply}
use Rattle.mos_edits.specs.declared.edit.Edit.{Edit}
use Rattle.mos_edits.specs.Rows.{put_row}
use Rattle.mos_edits.specs.Scripts.{story_ids_of, scripts_of}
use Rattle.mos_edits.specs.declared.edit.Edit.TheVariants as Edits
use Rattle.mos_edits.specs.declared.edit.Edit.TheVariants.{Create, Delete as DeleteOrder, Metadata, Act, Air, Script}
use Rattle.mos_values.specs.Distinct.{story_ids}
use Rattle.mos_edits.proofs.Identifiers.{same-true, same-self, has-append}
use Rattle.mos_edits.proofs.Distinct.{has-put_at, has-without_key, key-find}
use Rattle.mos_edits.proofs.Swaps.{has-swapped, ids-exchange, find-has, done-fault}
use Rattle.mos_edits.proofs.KeepsDistinct.{each-without}
use Rattle.mos_edits.proofs.Rows.{each-map, each-both, each-put}

or-right : (a b : Bool) → b ≡ true → a || b ≡ true
or-right true b h = refl
or-right false b h = h

or-left : (a b : Bool) → a ≡ true → a || b ≡ true
or-left a b h = rw h refl

has-put_before : {X : Type 0} (key : X → Text) (t : Text) (new xs : List X) (z : Text) → has_id z (ids key new) || has_id z (ids key xs) ≡ true → has_id z (ids key (put_before key t new xs)) ≡ true
has-put_before key [] new xs z h = let a = has-append z (ids key xs) (ids key new) in let m = map-append key xs new in rw m (grind (arith, a, h))
has-put_before key (c ∷ cs) new xs z h = has-put_at key (c ∷ cs) new xs z ∙ h

stays-put_for : {X : Type 0} (key : X → Text) (t : Text) (new xs : List X) (z : Text) → has_id z (ids key xs) ≡ true → same_id z t ≡ false → has_id z (ids key (put_for key t new xs)) ≡ true
stays-put_for key t new [] z h n = h
stays-put_for key t new (x ∷ xs) z h n = by (same_id t (key x)) refl (same_id z (key x)) refl h (λ k. stays-put_for key t new xs z k n)
  where
    by : (b : Bool) → same_id t (key x) ≡ b → (c : Bool) → same_id z (key x) ≡ c → c || has_id z (ids key xs) ≡ true → (has_id z (ids key xs) ≡ true → has_id z (ids key (put_for key t new xs)) ≡ true) → has_id z (ids key (if b then new ++ xs else x ∷ put_for key t new xs)) ≡ true
    by true e true f h i = absurd (let t_is = same-true t (key x) e in let y : same_id z t ≡ true = subst (λ (u : Text). same_id z u ≡ true) (sym t_is) f in cc)
    by true e false f h i = let a = has-append z (ids key new) (ids key xs) in let m = map-append key new xs in rw m (grind (arith, a, h))
    by false e true f h i = or-left (same_id z (key x)) (has_id z (ids key (put_for key t new xs))) f
    by false e false f h i = or-right (same_id z (key x)) (has_id z (ids key (put_for key t new xs))) (i h)

has-picked-all : {X : Type 0} (key : X → Text) (ss : List Text) (xs : List X) (z : Text) → has_id z ss ≡ true → has_id z (ids key xs) ≡ true → has_id z (ids key (picked key ss xs)) ≡ true
has-picked-all key [] xs z h k = h
has-picked-all {X = X} key (s ∷ ss) xs z h k = by (same_id z s) refl h (λ i. has-picked-all key ss xs z i k)
  where
    more : (o : Option X) → has_id z (ids key (picked key ss xs)) ≡ true → has_id z (ids key (with_found o (picked key ss xs))) ≡ true
    more None i = i
    more (Some x) i = or-right (same_id z (key x)) (has_id z (ids key (picked key ss xs))) i

    here : z ≡ s → has_id z (ids key (with_found (find key s xs) (picked key ss xs))) ≡ true
    here e =
        let f = find-has key s xs (subst (λ (u : Text). has_id u (ids key xs) ≡ true) e k) in
        rw f.1 (or-left (same_id z (key f.0)) (has_id z (ids key (picked key ss xs))) (rw (key-find key s xs f.0 f.1) (subst (λ (u : Text). same_id z u ≡ true) e (same-self z))))

    by : (b : Bool) → same_id z s ≡ b → b || has_id z ss ≡ true → (has_id z ss ≡ true → has_id z (ids key (picked key ss xs)) ≡ true) → has_id z (ids key (with_found (find key s xs) (picked key ss xs))) ≡ true
    by true e h i = here (same-true z s e)
    by false e h i = more (find key s xs) (i h)

has-exchanged : {X : Type 0} (key : X → Text) (a b : Text) (xs : List X) (z : Text) → has_id z (ids key xs) ≡ true → has_id z (ids key (exchanged key a b xs)) ≡ true
has-exchanged {X = X} key a b xs z h = go (find key a xs) (find key b xs) refl refl
  where
    has-found : (c : Text) (x : X) (ys : List X) → find key c ys ≡ Some x → has_id c (ids key ys) ≡ true
    has-found c x [] f = absurd (cc)
    has-found c x (y ∷ ys) f = by (same_id c (key y)) (has-found c x ys) f
      where
        by : (p : Bool) → (find key c ys ≡ Some x → has_id c (ids key ys) ≡ true) → (if p then Some y else find key c ys) ≡ Some x → p || has_id c (ids key ys) ≡ true
        by true i f = refl
        by false i f = i f

    moved : has_id a (ids key xs) ≡ true → has_id b (ids key xs) ≡ true → (p q : Bool) → has_id (if p then b else (if q then a else z)) (ids key xs) ≡ true
    moved f g true q = g
    moved f g false true = f
    moved f g false false = h

    go : (o p : Option X) → find key a xs ≡ o → find key b xs ≡ p → has_id z (ids key (exchange_found key a b o p xs)) ≡ true
    go None p e f = h
    go (Some x) None e f = h
    go (Some x) (Some y) e f = rw (ids-exchange key a b x y xs (key-find key a xs x e) (key-find key b xs y f), has-swapped a b z (ids key xs)) (moved (has-found a x xs e) (has-found b y xs f) (same_id a z) (same_id b z))

abbrev pub taken : {X : Type 0} → ListAction X → List Text
taken (Replace target sources) = target ∷ []
taken (Delete sources) = sources
taken action = []

stays-result : {X : Type 0} (key : X → Text) (action : ListAction X) (xs : List X) (z : Text) → has_id z (ids key xs) ≡ true → has_id z (taken action) ≡ false → has_id z (ids key (list_result key action xs)) ≡ true
stays-result key (Insert target sources) xs z h n = has-put_before key target sources xs z (or-right (has_id z (ids key sources)) (has_id z (ids key xs)) h)
stays-result key (Replace target sources) xs z h n = stays-put_for key target sources xs z h (grind (arith, n))
stays-result key (Move target sources) xs z h n = has-put_before key target (picked key sources xs) (without key sources xs) z (by (has_id z sources) refl)
  where
    by : (b : Bool) → has_id z sources ≡ b → has_id z (ids key (picked key sources xs)) || has_id z (ids key (without key sources xs)) ≡ true
    by true e = or-left (has_id z (ids key (picked key sources xs))) (has_id z (ids key (without key sources xs))) (has-picked-all key sources xs z e h)
    by false e = or-right (has_id z (ids key (picked key sources xs))) (has_id z (ids key (without key sources xs))) (let w = has-without_key key sources xs z in grind (arith, w, h, e))
stays-result key (Delete sources) xs z h n = let w = has-without_key key sources xs z in grind (arith, w, h, n)
stays-result key (Swap a b) xs z h n = has-exchanged key a b xs z h

stays-list : (action : ListAction Story) (xs ys : List Story) (z : Text) → act_list (λ s. s.id) action xs ≡ Done ys → has_id z (story_ids xs) ≡ true → has_id z (taken action) ≡ false → has_id z (story_ids ys) ≡ true
stays-list action xs ys z a h n =
    let f = done-fault (list_fault (λ (s : Story). s.id) action (story_ids xs)) (list_result (λ s. s.id) action xs) ys a in
    subst (λ (zs : List Story). has_id z (story_ids zs) ≡ true) f.1 (stays-result (λ s. s.id) action xs z h n)

-- a story with other items keeps its place
ids-put_for : (t : Text) (s : Story) (xs : List Story) (z : Text) → s.id ≡ t → has_id z (story_ids xs) ≡ true → has_id z (story_ids (put_for (λ x. x.id) t (s ∷ []) xs)) ≡ true
ids-put_for t s xs z e h = by (same_id z t) refl
  where
    placed : (ys : List Story) → has_id t (story_ids ys) ≡ true → has_id t (story_ids (put_for (λ x. x.id) t (s ∷ []) ys)) ≡ true
    placed [] k = k
    placed (y ∷ ys) k = go (same_id t y.id) refl (placed ys) k
      where
        go : (b : Bool) → same_id t y.id ≡ b → (has_id t (story_ids ys) ≡ true → has_id t (story_ids (put_for (λ x. x.id) t (s ∷ []) ys)) ≡ true) → b || has_id t (story_ids ys) ≡ true → has_id t (story_ids (if b then s ∷ ys else y ∷ put_for (λ x. x.id) t (s ∷ []) ys)) ≡ true
        go true f i k = or-left (same_id t s.id) (has_id t (story_ids ys)) (rw e (same-self t))
        go false f i k = or-right (same_id t y.id) (has_id t (story_ids (put_for (λ x. x.id) t (s ∷ []) ys))) (i k)

    by : (b : Bool) → same_id z t ≡ b → has_id z (story_ids (put_for (λ x. x.id) t (s ∷ []) xs)) ≡ true
    by true f = let z_is = same-true z t f in subst (λ (u : Text). has_id u (story_ids (put_for (λ x. x.id) t (s ∷ []) xs)) ≡ true) (sym z_is) (placed xs (subst (λ (u : Text). has_id u (story_ids xs) ≡ true) z_is h))
    by false f = stays-put_for (λ x. x.id) t (s ∷ []) xs z h f

stays-items : (story : Text) (action : ListAction Item) (xs ys : List Story) (z : Text) → act_in shape story action xs (find (λ s. s.id) story xs) ≡ Done ys → has_id z (story_ids xs) ≡ true → has_id z (story_ids ys) ≡ true
stays-items story action xs ys z a h = go (find (λ s. s.id) story xs) refl a
  where
    inner : (s : Story) (r : Applied (List Item)) → s.id ≡ story → put_items shape story s xs r ≡ Done ys → has_id z (story_ids ys) ≡ true
    inner s (Fault f) k a = absurd (cc)
    inner s (Done items) k a = let ys_is : put_for (λ s. s.id) story (record s { items = items } ∷ []) xs ≡ ys = cc in subst (λ (zs : List Story). has_id z (story_ids zs) ≡ true) ys_is (ids-put_for story (record s { items = items }) xs z k h)

    go : (o : Option Story) → find (λ s. s.id) story xs ≡ o → act_in shape story action xs o ≡ Done ys → has_id z (story_ids ys) ≡ true
    go None e a = absurd (cc)
    go (Some s) e a = inner s (act_list (λ i. i.id) action s.items) (key-find (λ s. s.id) story xs s e) a

taken-is : (action : ListAction Story) → taken_out (OnStories action) ≡ taken action
taken-is (Insert target sources) = refl
taken-is (Replace target sources) = refl
taken-is (Move target sources) = refl
taken-is (Delete sources) = refl
taken-is (Swap a b) = refl

stays-act : (action : Action Story Item) (xs ys : List Story) (z : Text) → act shape action xs ≡ Done ys → has_id z (story_ids xs) ≡ true → has_id z (taken_out action) ≡ false → has_id z (story_ids ys) ≡ true
stays-act (OnStories action) xs ys z a h n = stays-list action xs ys z a h (rw (taken-is action) at n)
stays-act (OnItems story action) xs ys z a h n = stays-items story action xs ys z a h

-- an edit leaves rows of stories that are there
abbrev pub IsStanding : {X : Type 0} → Option Order → List (Text × X) → Type 0
IsStanding o rows = Each (λ row. has_id row.0 (story_ids_of o) ≡ true) rows

not-gone : {X : Type 0} (gone : List Text) (rows : List (Text × X)) → Each (λ row. has_id row.0 gone ≡ false) (without (λ row. row.0) gone rows)
not-gone gone [] = tt
not-gone {X = X} gone (x ∷ xs) = by (has_id x.0 gone) refl (not-gone gone xs)
  where
    by : (b : Bool) → has_id x.0 gone ≡ b → Each (λ row. has_id row.0 gone ≡ false) (without (λ row. row.0) gone xs) → Each (λ row. has_id row.0 gone ≡ false) (if b then without (λ row. row.0) gone xs else x ∷ without (λ row. row.0) gone xs)
    by true e i = i
    by false e i = (e, i)

pub stands-after : {X : Type 0} (written : StorySend → X) (r : Text) (o p : Option Order) (e : Edit) (rows : List (Text × X)) → apply r o e ≡ Done p → IsStanding o rows → IsStanding p (scripts_after written e rows)
unfolding apply
stands-after written r None p (Create body) rows h s = tt
stands-after written r None p (Edits.Replace body) rows h s = tt
stands-after written r None p (DeleteOrder ro) rows h s = tt
stands-after written r None p (Metadata patch) rows h s = absurd (cc)
stands-after written r None p (Act ro action) rows h s = absurd (cc)
stands-after written r None p (Air ro air) rows h s = absurd (cc)
stands-after written r None p (Script script) rows h s = absurd (cc)
stands-after written r (Some o) p (Create body) rows h s = tt
stands-after written r (Some o) p (Edits.Replace body) rows h s = tt
stands-after written r (Some o) p (DeleteOrder ro) rows h s = tt
stands-after written r (Some o) p (Metadata patch) rows h s = let p_is : Some _ ≡ p = done-is _ _ h in subst (λ (q : Option Order). IsStanding q rows) p_is s
  where
    done-is : (x y : Option Order) → Done x ≡ Done y → x ≡ y
    done-is x y h = cc
stands-after {X = X} written r (Some o) p (Act ro action) rows h s = go (act shape (form_of action) o.stories) refl h
  where
    go : (x : Applied (List Story)) → act shape (form_of action) o.stories ≡ x → with_stories o.header (scripts_after (λ script. script) (Act ro action) o.scripts) x ≡ Done p → IsStanding p (without (λ row. row.0) (taken_out (form_of action)) rows)
    go (Fault f) e h = absurd (cc)
    go (Done ys) e h =
        let p_is : Some (record { header = o.header; stories = ys; scripts = scripts_after (λ script. script) (Act ro action) o.scripts }) ≡ p = cc in
        let both = each-both (λ (row : Text × X). has_id row.0 (story_ids o.stories) ≡ true) (λ row. has_id row.0 (taken_out (form_of action)) ≡ false) (without (λ row. row.0) (taken_out (form_of action)) rows)
        (each-without (λ (row : Text × X). has_id row.0 (story_ids o.stories) ≡ true) (λ row. row.0) (taken_out (form_of action)) rows s) (not-gone (taken_out (form_of action)) rows) in
        subst (λ (q : Option Order). IsStanding q (without (λ row. row.0) (taken_out (form_of action)) rows)) p_is
        (each-map (λ (row : Text × X). (has_id row.0 (story_ids o.stories) ≡ true) × (has_id row.0 (taken_out (form_of action)) ≡ false)) (λ row. has_id row.0 (story_ids ys) ≡ true) (without (λ row. row.0) (taken_out (form_of action)) rows)
        (λ row k. stays-act (form_of action) o.stories ys row.0 e k.0 k.1) both)
stands-after written r (Some o) p (Air ro air) rows h s = let p_is : Some o ≡ p = cc in subst (λ (q : Option Order). IsStanding q rows) p_is s
stands-after {X = X} written r (Some o) p (Script script) rows h s = go (has_id script.story (story_ids o.stories)) refl h
  where
    go : (b : Bool) → has_id script.story (story_ids o.stories) ≡ b → with_script o script b ≡ Done p → IsStanding p (put_row script.story (written script) rows)
    go true e h =
        let p_is : Some (record { header = o.header; stories = o.stories; scripts = put_row script.story script o.scripts }) ≡ p = cc in
        subst (λ (q : Option Order). IsStanding q (put_row script.story (written script) rows)) p_is (each-put (λ (row : Text × X). has_id row.0 (story_ids o.stories) ≡ true) script.story (written script) rows e s)
    go false e h = absurd (cc)

-- what an edit leaves of the scripts themselves
pub scripts-applied : (r : Text) (o p : Option Order) (e : Edit) → apply r o e ≡ Done p → scripts_of p ≡ scripts_after (λ script. script) e (scripts_of o)
unfolding apply
scripts-applied r None p (Create body) h = let p_is : Some (order_of body) ≡ p = cc in subst (λ (q : Option Order). scripts_of q ≡ []) p_is refl
scripts-applied r None p (Edits.Replace body) h = absurd (cc)
scripts-applied r None p (DeleteOrder ro) h = absurd (cc)
scripts-applied r None p (Metadata patch) h = absurd (cc)
scripts-applied r None p (Act ro action) h = absurd (cc)
scripts-applied r None p (Air ro air) h = absurd (cc)
scripts-applied r None p (Script script) h = absurd (cc)
scripts-applied r (Some o) p (Create body) h = absurd (cc)
scripts-applied r (Some o) p (Edits.Replace body) h = let p_is : Some (order_of body) ≡ p = cc in subst (λ (q : Option Order). scripts_of q ≡ []) p_is refl
scripts-applied r (Some o) p (DeleteOrder ro) h = let p_is : None ≡ p = cc in subst (λ (q : Option Order). scripts_of q ≡ []) p_is refl
scripts-applied r (Some o) p (Metadata patch) h = grind arith
scripts-applied r (Some o) p (Act ro action) h = go (act shape (form_of action) o.stories) h
  where
    go : (x : Applied (List Story)) → with_stories o.header (scripts_after (λ script. script) (Act ro action) o.scripts) x ≡ Done p → scripts_of p ≡ scripts_after (λ script. script) (Act ro action) o.scripts
    go (Fault f) h = absurd (cc)
    go (Done ys) h = let p_is : Some (record { header = o.header; stories = ys; scripts = scripts_after (λ script. script) (Act ro action) o.scripts }) ≡ p = cc in subst (λ (q : Option Order). scripts_of q ≡ scripts_after (λ script. script) (Act ro action) o.scripts) p_is refl
scripts-applied r (Some o) p (Air ro air) h = let p_is : Some o ≡ p = cc in subst (λ (q : Option Order). scripts_of q ≡ o.scripts) p_is refl
scripts-applied r (Some o) p (Script script) h = go (has_id script.story (story_ids o.stories)) h
  where
    go : (b : Bool) → with_script o script b ≡ Done p → scripts_of p ≡ put_row script.story script o.scripts
    go true h = let p_is : Some (record { header = o.header; stories = o.stories; scripts = put_row script.story script o.scripts }) ≡ p = cc in subst (λ (q : Option Order). scripts_of q ≡ put_row script.story script o.scripts) p_is refl
    go false h = absurd (cc)
