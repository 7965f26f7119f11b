-- An edit that leaves all orders as they are, and what puts back what was there before an edit.
use Rattle.std.proofs.Common.{◌≡◌, Bool, true, false, List, [], ◌∷◌, Option, Some, None, refl, sym, ap, ◌∙◌, subst, if◌then◌else◌}
use Rattle.std.specs.Option.{is_some}
use Rattle.mos_edits.specs.Texts.{Text, same_id}
use Rattle.mos_edits.specs.KeyedLists.{Applied}
use Rattle.mos_edits.specs.KeyedLists.Applied.{Done}
use Rattle.mos_edits.specs.Orders.{Order, edit_ro, apply}
use Rattle.mos_edits.specs.declared.edit.Edit.{Edit}
use Rattle.mos_edits.specs.Entries.{Entry, entry_of, is_before, result_or, over_send, refusal}
use Rattle.mos_edits.proofs.Identifiers.{same-true}
use Rattle.mos_machines.specs.Tables.{look, put_row, row_ids}
use Rattle.mos_edits.specs.declared.edit.Edit.TheVariants.{Create, Replace, Delete, Metadata, Act, Air, Script}
use Rattle.order_table.specs.Rows.{IsAscending, find_row}
use Rattle.order_table.proofs.AscendingRows.{before-all, find-none}
use Rattle.ncs_core.specs.Accepting.{applied_to, rows_over, rows_after, rows_acceptance, leaves_all, former_of, restored}
use Rattle.ncs_core.specs.State.{AreOrders, all_units}
use Rattle.ncs_core.specs.declared.former.Former.{Former}
use Rattle.ncs_core.specs.declared.former.Former.TheVariants.{Same, Was}
use Rattle.ncs_core.proofs.AcceptedRows.{found-order, no-order, look-back, orders-same}
use Rattle.ncs_core.proofs.KeptUnits.{back-units}

-- a row that is written with what is in it changes nothing
put-found : (r : Text) (o : Option Order) (rows : List (Text × Option Order)) → IsAscending (row_ids rows) → find_row r rows ≡ Some o → put_row r o rows ≡ rows
put-found r o [] h e = absurd (cc)
put-found r o (x ∷ xs) h e = by (same_id r x.0) refl (is_before r x.0) refl e (put-found r o xs h.1)
  where
    by : (b : Bool) → same_id r x.0 ≡ b → (c : Bool) → is_before r x.0 ≡ c → (if b then Some x.1 else find_row r xs) ≡ Some o → (find_row r xs ≡ Some o → put_row r o xs ≡ xs)
        → (if b then (r, o) ∷ xs else (if c then (r, o) ∷ (x ∷ xs) else x ∷ put_row r o xs)) ≡ x ∷ xs
    by true s c d f i = let w : x.1 ≡ o = cc in λ j. (same-true r x.0 s j, sym w j) ∷ xs
    by false s true d f i = absurd (let n = find-none r xs (before-all r x.0 (row_ids xs) d h.0) in cc)
    by false s false d f i = ap (λ (ys : List (Text × Option Order)). x ∷ ys) (i f)

found-there : (rows : List (Text × Option Order)) (r : Text) (o : Order) → look None rows r ≡ Some o → find_row r rows ≡ Some (Some o)
found-there rows r o e = by (find_row r rows) refl
  where
    by : (f : Option (Option Order)) → find_row r rows ≡ f → find_row r rows ≡ Some (Some o)
    by None s = absurd (let n = no-order rows r s in cc)
    by (Some w) s = s ∙ ap (λ (p : Option Order). Some p) (sym (found-order rows r w s) ∙ e)

put-looked : (rows : List (Text × Option Order)) (r : Text) (o : Option Order) → IsAscending (row_ids rows) → is_some o ≡ true → look None rows r ≡ o → put_row r o rows ≡ rows
put-looked rows r None asc t e = absurd (cc)
put-looked rows r (Some o) asc t e = put-found r (Some o) rows asc (found-there rows r o e)

-- READY and NOT READY of an order that is there
air-there : (rows : List (Text × Option Order)) (e : Edit) → leaves_all rows e ≡ true → is_some (look None rows (edit_ro e)) ≡ true
air-there rows (Air ro air) t = t
air-there rows (Create body) t = absurd (cc)
air-there rows (Replace body) t = absurd (cc)
air-there rows (Delete ro) t = absurd (cc)
air-there rows (Metadata patch) t = absurd (cc)
air-there rows (Act ro action) t = absurd (cc)
air-there rows (Script script) t = absurd (cc)

air-applied : (rows : List (Text × Option Order)) (e : Edit) → leaves_all rows e ≡ true → applied_to rows (entry_of e) ≡ Done (look None rows (edit_ro e))
unfolding apply
air-applied rows (Air ro air) t = by (look None rows ro) t
  where
    by : (o : Option Order) → is_some o ≡ true → apply ro o (Air ro air) ≡ Done o
    by None t = absurd (cc)
    by (Some o) t = refl
air-applied rows (Create body) t = absurd (cc)
air-applied rows (Replace body) t = absurd (cc)
air-applied rows (Delete ro) t = absurd (cc)
air-applied rows (Metadata patch) t = absurd (cc)
air-applied rows (Act ro action) t = absurd (cc)
air-applied rows (Script script) t = absurd (cc)

module _ (rows : List (Text × Option Order)) (e : Edit) (asc : IsAscending (row_ids rows)) where
  pub air-rows : leaves_all rows e ≡ true → rows_after rows (entry_of e) ≡ rows
  air-rows t =
      ap (λ (a : Applied (Option Order)). put_row (edit_ro e) (result_or (look None rows (edit_ro e)) a) rows) (air-applied rows e t)
      ∙ put-looked rows (edit_ro e) (look None rows (edit_ro e)) asc (air-there rows e t) refl

  pub air-acceptance : leaves_all rows e ≡ true → refusal (Done (look None rows (edit_ro e))) (rows_over rows (edit_ro e) (over_send e)) ≡ rows_acceptance rows (entry_of e)
  air-acceptance t = λ i. refusal (sym (air-applied rows e t) i) (rows_over (sym (air-rows t) i) (edit_ro e) (over_send e))

  -- the orders once an edit is undone
  restored-rows : (after back : List (Text × Option Order)) (r : Text) (f : Former) → f ≡ former_of rows e → after ≡ rows_after rows (entry_of e) → r ≡ edit_ro e → back ≡ restored f r after
      → back ≡ restored (former_of rows e) (edit_ro e) (rows_after rows (entry_of e))
  restored-rows after back r f q a n b = b ∙ (λ i. restored (q i) (n i) (a i))

  look-restored : look None (restored (former_of rows e) (edit_ro e) (rows_after rows (entry_of e))) ≡ look None rows
  look-restored = by (leaves_all rows e) refl
    where
      by : (s : Bool) → leaves_all rows e ≡ s → look None (restored (if s then Same else Was (look None rows (edit_ro e))) (edit_ro e) (rows_after rows (entry_of e))) ≡ look None rows
      by true s = ap (look None) (air-rows s)
      by false s = look-back rows (rows_after rows (entry_of e)) (put_row (edit_ro e) (look None rows (edit_ro e)) (rows_after rows (entry_of e))) (edit_ro e) (result_or (look None rows (edit_ro e)) (applied_to rows (entry_of e))) (look None rows (edit_ro e)) refl refl refl

  units-restored : all_units (restored (former_of rows e) (edit_ro e) (rows_after rows (entry_of e))) ≡ all_units rows
  units-restored = by (leaves_all rows e) refl
    where
      by : (s : Bool) → leaves_all rows e ≡ s → all_units (restored (if s then Same else Was (look None rows (edit_ro e))) (edit_ro e) (rows_after rows (entry_of e))) ≡ all_units rows
      by true s = ap (λ (z : List (Text × Option Order)). all_units z) (air-rows s)
      by false s = back-units (edit_ro e) (result_or (look None rows (edit_ro e)) (applied_to rows (entry_of e))) (look None rows (edit_ro e)) rows asc refl

  pub undone-units : (after : List (Text × Option Order)) (r : Text) (f : Former) → f ≡ former_of rows e → after ≡ rows_after rows (entry_of e) → r ≡ edit_ro e → all_units (restored f r after) ≡ all_units rows
  undone-units after r f q a n = ap (λ (z : List (Text × Option Order)). all_units z) (restored-rows after (restored f r after) r f q a n refl) ∙ units-restored

  pub orders-undone : (journal new : List Entry) (after back : List (Text × Option Order)) (r : Text) (f : Former) → AreOrders journal rows → f ≡ former_of rows e → after ≡ rows_after rows (entry_of e) → r ≡ edit_ro e → back ≡ restored f r after → new ≡ journal → AreOrders new back
  orders-undone journal new after back r f h q a n b s =
      subst (λ (js : List Entry). AreOrders js back) (sym s)
      (orders-same journal rows back h (ap (look None) (restored-rows after back r f q a n b) ∙ look-restored))
