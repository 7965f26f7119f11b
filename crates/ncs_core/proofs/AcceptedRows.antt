-- The table of orders after an edit, and whether that is accepted, are those of the journal.
use Rattle.std.proofs.Common.{◌≡◌, ℕ, Bool, true, false, List, [], ◌∷◌, ◌++◌, Option, Some, None, IsSome, Result, Ok, Err, OnOk, OnErr, IfOk, IfErr, refl, sym, ap, ◌∙◌, subst, if◌then◌else◌}
use Rattle.std.proofs.lemmas.List.{append_assoc}
use Rattle.mos_edits.specs.Texts.{Text, same_id, set_order}
use Rattle.mos_edits.specs.KeyedLists.Applied.{Done}
use Rattle.mos_edits.specs.Orders.{Order, HeaderPatch, apply}
use Rattle.mos_edits.specs.declared.edit.Edit.{Edit}
use Rattle.mos_edits.specs.Entries.{Entry, entry_of, IsEntry, result_or, order_now, refusal, over_limit, over_list, over_send, over, acceptance, IsAccepted}
use Rattle.mos_edits.specs.Sizes.{list_all_limit, list_all_units}
use Rattle.mos_edits.proofs.Identifiers.{same-true}
use Rattle.mos_edits.proofs.Journals.{order_now_push, order_now_other}
use Rattle.mos_machines.specs.Tables.{look, put_row, row_ids}
use Rattle.mos_machines.proofs.RowTables.{look-put}
use Rattle.order_table.specs.Rows.{IsAscending, find_row, value_or}
use Rattle.order_table.proofs.AscendingRows.{put-ascending}
use Rattle.order_table.proofs.Looked.{look-found, put-put, find-put}
use Rattle.ncs_core.specs.Accepting.{applied_to, rows_over, rows_after, rows_acceptance}
use Rattle.ncs_core.specs.State.{AreOrders, row_headers}
use Rattle.ncs_core.proofs.HeaderRows.{rows-headers}

-- what an edit makes of an order, or what was there
made : Entry → Option Order → Option Order
made e o = result_or o (apply e.ro o e.edit)

pub orders-after : (journal : List Entry) (e : Entry) (rows : List (Text × Option Order)) → AreOrders journal rows → AreOrders (journal ++ e ∷ []) (rows_after rows e)
unfolding made
orders-after journal e rows h r = ap (λ (l : Text → Option Order). l r) (look-put None rows e.ro (made e (look None rows e.ro))) ∙ by (same_id r e.ro) refl
  where
    by : (b : Bool) → same_id r e.ro ≡ b → (if b then made e (look None rows e.ro) else look None rows r) ≡ order_now (journal ++ e ∷ []) r
    by true s = ap (made e) (h e.ro) ∙ (sym (order_now_push journal e) ∙ ap (order_now (journal ++ e ∷ [])) (sym (same-true r e.ro s)))
    by false s = h r ∙ sym (order_now_other journal e r s)

-- the limits of all orders
limits : (journal : List Entry) (rows : List (Text × Option Order)) (e : Entry) → AreOrders journal rows → IsAscending (row_ids rows) → rows_over rows e.ro (over_send e.edit) ≡ over_limit journal e
unfolding over_limit
limits journal rows e h a =
    ap (λ (o : Option Order). over_list o (over list_all_limit (list_all_units (row_headers rows)) (over_send e.edit))) (h e.ro)
    ∙ ap (λ (hs : List HeaderPatch). over_list (order_now journal e.ro) (over list_all_limit (list_all_units hs) (over_send e.edit))) (rows-headers journal rows h a)

pub acceptance-rows : (journal : List Entry) (e : Entry) (rows : List (Text × Option Order)) → AreOrders journal rows → IsAscending (row_ids rows) → rows_acceptance rows e ≡ acceptance journal e
acceptance-rows journal e rows h a =
    ap (λ (o : Option Order). refusal (apply e.ro o e.edit) (rows_over (rows_after rows e) e.ro (over_send e.edit))) (h e.ro)
    ∙ ap (λ (u : Option ℕ). refusal (apply e.ro (order_now journal e.ro) e.edit) u) (limits (journal ++ e ∷ []) (rows_after rows e) e (orders-after journal e rows h) (put-ascending e.ro _ rows a))

-- an order that is put back
set-same : {X : Type 0} (f : Text → X) (r q : Text) → set_order f r (f r) q ≡ f q
set-same f r q = by (same_id q r) refl
  where
    by : (b : Bool) → same_id q r ≡ b → (if b then f r else f q) ≡ f q
    by true e = ap f (sym (same-true q r e))
    by false e = refl

-- a row that is written as it is looked up changes nothing
look-same : (rows : List (Text × Option Order)) (r : Text) (o : Option Order) → look None rows r ≡ o → look None (put_row r o rows) ≡ look None rows
look-same rows r o e =
    look-put None rows r o ∙ (ap (set_order (look None rows) r) (sym e) ∙ (λ i. λ q. set-same (look None rows) r q i))

pub found-order : (rows : List (Text × Option Order)) (r : Text) (o : Option Order) → find_row r rows ≡ Some o → look None rows r ≡ o
found-order rows r o h = look-found None r rows ∙ ap (value_or None) h

pub no-order : (rows : List (Text × Option Order)) (r : Text) → find_row r rows ≡ None → look None rows r ≡ None
no-order rows r h = look-found None r rows ∙ ap (value_or None) h

pub look-back : (rows after back : List (Text × Option Order)) (r : Text) (u o : Option Order) → after ≡ put_row r u rows → back ≡ put_row r o after → look None rows r ≡ o → look None back ≡ look None rows
look-back rows after back r u o a b e = ap (look None) (b ∙ (ap (put_row r o) a ∙ put-put r u o rows)) ∙ look-same rows r o e

pub orders-same : (journal : List Entry) (rows new : List (Text × Option Order)) → AreOrders journal rows → look None new ≡ look None rows → AreOrders journal new
orders-same journal rows new h e r = ap (λ (l : Text → Option Order). l r) e ∙ h r

pub row-there : (rows after : List (Text × Option Order)) (r : Text) (u : Option Order) → after ≡ put_row r u rows → IsSome (find_row r after)
row-there rows after r u a = subst (λ (xs : List (Text × Option Order)). IsSome (find_row r xs)) (sym a) (subst (λ (o : Option (Option Order)). IsSome o) (sym (find-put r u rows)) refl)

-- what a call's clauses come to, by its result
pub if-ok : {X Y : Type 0} {P Q : X → Type 0} (r : Result X Y) → IfOk r P → ((x : X) → P x → Q x) → IfOk r Q
if-ok (Ok x) h f = f x h
if-ok (Err y) h f = h

pub if-err : {X Y : Type 0} {P Q : Y → Type 0} (r : Result X Y) → IfErr r P → ((y : Y) → P y → Q y) → IfErr r Q
if-err (Ok x) h f = h
if-err (Err y) h f = f y h

pub on-err : {X Y : Type 0} {A B : Type 0} (r : Result X Y) → OnErr r A → (A → B) → OnErr r B
on-err (Ok x) a f = a
on-err (Err y) a f = f a

pub on-err-of : {X Y : Type 0} {A : Type 0} (r : Result X Y) → A → OnErr r A
on-err-of (Ok x) a = tt
on-err-of (Err y) a = a

pub on-ok : {X Y : Type 0} {A B : Type 0} (r : Result X Y) → OnOk r A → (A → B) → OnOk r B
on-ok (Ok x) a f = f a
on-ok (Err y) a f = a

-- a row for an order that has none
pub same-known : {X Y : Type 0} (o : Result X Y) (r : Text) (old new : List (Text × Option Order)) → OnOk o (new ≡ put_row r None old) → OnErr o (new ≡ old) → look None old r ≡ None → look None new ≡ look None old
same-known (Ok x) r old new e f h = ap (look None) e ∙ look-same old r None h
same-known (Err y) r old new e f h = ap (look None) f

pub rows-known : (r : Text) (old new : List (Text × Option Order)) → new ≡ put_row r None old → (o : Option Order) → put_row r o new ≡ put_row r o old
rows-known r old new e o = ap (put_row r o) e ∙ put-put r None o old

-- an edit that has no fault
module _ (rows : List (Text × Option Order)) (e : Entry) (r : Text) (o : Option Order) where
  pub done-rows : r ≡ e.ro → applied_to rows e ≡ Done o → put_row r o rows ≡ rows_after rows e
  done-rows n h = λ i. put_row (n i) (result_or (look None rows e.ro) (sym h i)) rows

  pub done-acceptance : r ≡ e.ro → applied_to rows e ≡ Done o → refusal (Done o) (rows_over (put_row r o rows) r (over_send e.edit)) ≡ rows_acceptance rows e
  done-acceptance n h = λ i. refusal (sym h i) (rows_over (done-rows n h i) (n i) (over_send e.edit))

-- an order that is edited outside its row, which is empty meanwhile
pub edited-rows : (rows known after back : List (Text × Option Order)) (r : Text) (o : Option Order) → ((x : Option Order) → put_row r x known ≡ put_row r x rows) → after ≡ put_row r None known → back ≡ put_row r o after → back ≡ put_row r o rows
edited-rows rows known after back r o k a b = b ∙ (ap (put_row r o) a ∙ (put-put r None o known ∙ k o))

pub held-order : (rows known : List (Text × Option Order)) (r q : Text) (o : Option Order) → look None known ≡ look None rows → find_row r known ≡ Some o → r ≡ q → o ≡ look None rows q
held-order rows known r q o same h n = sym (found-order known r o h) ∙ (ap (λ (l : Text → Option Order). l r) same ∙ ap (look None rows) n)

-- The table after an entry was added, where `a` is the entry `e`.
pub entry-is : (e : Entry) (d : Edit) → IsEntry e → d ≡ e.edit → entry_of d ≡ e
entry-is e d h q = ap entry_of q ∙ (λ i. record { ro = sym h i; edit = e.edit })

pub acceptance-here : (journal j : List Entry) (a e : Entry) (rows : List (Text × Option Order)) → AreOrders journal rows → IsAscending (row_ids rows) → a ≡ e → journal ≡ j → rows_acceptance rows a ≡ acceptance j e
acceptance-here journal j a e rows h asc p q = acceptance-rows journal a rows h asc ∙ (λ i. acceptance (q i) (p i))

pub orders-added : (journal new : List Entry) (a e : Entry) (rows after : List (Text × Option Order)) → AreOrders journal rows → a ≡ e → after ≡ rows_after rows a → new ≡ journal ++ e ∷ [] → AreOrders new after
orders-added journal new a e rows after h p q n =
    subst (λ (js : List Entry). AreOrders js after) (sym n) (subst (λ (rs : List (Text × Option Order)). AreOrders (journal ++ e ∷ []) rs) (sym (q ∙ ap (rows_after rows) p)) (orders-after journal e rows h))

pub edited-there : (rows after : List (Text × Option Order)) (a : Entry) (r : Text) → after ≡ rows_after rows a → r ≡ a.ro → IsSome (find_row r after)
edited-there rows after a r q p = subst (λ (x : Text). IsSome (find_row x after)) (sym p) (row-there rows after a.ro (result_or (look None rows a.ro) (applied_to rows a)) q)

-- one more entry is accepted
pub accepted-more : (before es : List Entry) (e : Entry) → IsAccepted before es → acceptance (before ++ es) e ≡ None → IsAccepted before (es ++ e ∷ [])
accepted-more before [] e h a = (subst (λ (j : List Entry). acceptance j e ≡ None) (append-none before) a, tt)
  where
    append-none : (xs : List Entry) → xs ++ [] ≡ xs
    append-none [] = refl
    append-none (x ∷ xs) = ap (λ (ys : List Entry). x ∷ ys) (append-none xs)
accepted-more before (x ∷ es) e h a = (h.0, accepted-more (before ++ x ∷ []) es e h.1 (subst (λ (j : List Entry). acceptance j e ≡ None) (sym (append_assoc before (x ∷ []) es)) a))
