-- What a journal of accepted edits leads to fits into messages.
use Rattle.std.proofs.Common.{◌≡◌, ℕ, ◌≤◌, Bool, true, false, List, [], ◌∷◌, ◌++◌, codes, Option, Some, None, arith, refl, sym, ap, subst, if◌then◌else◌, nat_lt}
use Rattle.std.proofs.lemmas.Bool.Decides.{nat_tests}
use Rattle.std.proofs.lemmas.List.{append_assoc, append-nil}
use Rattle.mos_edits.specs.Texts.{Text, same_id}
use Rattle.mos_edits.specs.KeyedLists.{Applied}
use Rattle.mos_edits.specs.KeyedLists.Applied.{Done, Fault}
use Rattle.mos_edits.specs.Orders.{Order, OrderBody, bare, apply}
use Rattle.mos_edits.specs.declared.edit.Edit.{Edit}
use Rattle.mos_edits.specs.declared.edit.Edit.TheVariants as edits
use Rattle.mos_edits.specs.Entries.{Entry, order_now, headers, over, over_list, over_send, over_limit, refusal, acceptance, IsAccepted}
use Rattle.mos_edits.specs.Sizes.{list_units, list_all_units, send_units, list_limit, list_all_limit, send_limit, at_most_64_bits}
use Rattle.mos_edits.proofs.Identifiers.{same-true}
use Rattle.mos_edits.proofs.Journals.{accepted_applies, order_now_other}
use Rattle.mos_machines.specs.Values.{edit_message}
use Rattle.mos_values.specs.declared.message.Envelope.{Envelope}
use Rattle.mos_values.specs.declared.message.Message.{Message}
use Rattle.mos_values.specs.declared.message.Message.TheVariants as messages
use Rattle.mos_values.specs.MessageViews.{message_events}
use Rattle.mos_values.specs.Units.{units_in}
use Rattle.mos_values.specs.Views.{body_events}
use Rattle.mos_values.proofs.Encoding.{units_in_element}
use Rattle.mos_machines.specs.Small.{IsSmallOrder}
use Rattle.mos_machines.proofs.SizeLemmas.{order-units, orders-units}
use Rattle.written_laws.specs.Lengths.{HasShortNames, HasShortIds, IsSmallIfThere, IsNotTooLong}
use Rattle.written_laws.proofs.Sizes.{envelope-units}
use Rattle.written_laws.proofs.Actions.{FitsIn, FitsSend, edit-within}

-- ---- what is accepted is within both limits

abbrev pub IsWithinLimit : Option Order → Type 0
IsWithinLimit None = Unit {0}
IsWithinLimit (Some o) = list_units (bare o) ≤ list_limit

not-over : (limit units : ℕ) (next : Option ℕ) → over limit units next ≡ None → (units ≤ limit) × (next ≡ None)
not-over limit units next h = go (nat_lt limit units) refl h
  where
    go : (b : Bool) → nat_lt limit units ≡ b → (if b then Some (at_most_64_bits units) else next) ≡ None → (units ≤ limit) × (next ≡ None)
    go true e k = absurd (cc)
    go false e k = (grind (arith, nat_tests, e), k)

not-over_list : (o : Option Order) (next : Option ℕ) → over_list o next ≡ None → IsWithinLimit o × (next ≡ None)
not-over_list None next h = (tt, h)
not-over_list (Some o) next h = not-over list_limit (list_units (bare o)) next h

not-over_send : (e : Edit) → over_send e ≡ None → FitsSend send_limit e
not-over_send (edits.Create body) h = tt
not-over_send (edits.Replace body) h = tt
not-over_send (edits.Delete ro) h = tt
not-over_send (edits.Metadata patch) h = tt
not-over_send (edits.Act ro action) h = tt
not-over_send (edits.Air ro air) h = tt
not-over_send (edits.Script script) h = (not-over send_limit (send_units script) None h).0

-- every order, and the list of them all
pub record IsWithin (journal : List Entry) : Type 0 where
  pub orders : (r : Text) → IsWithinLimit (order_now journal r)
  pub lists : list_all_units (headers journal) ≤ list_all_limit

accepted-limit : (journal : List Entry) (e : Entry) → acceptance journal e ≡ None → over_limit (journal ++ e ∷ []) e ≡ None
accepted-limit journal e h = go (apply e.ro (order_now journal e.ro) e.edit) (over_limit (journal ++ e ∷ []) e) h
  where
    go : (a : Applied (Option Order)) (u : Option ℕ) → refusal a u ≡ None → u ≡ None
    go (Fault f) u k = absurd (cc)
    go (Done o) None k = refl
    go (Done o) (Some n) k = absurd (cc)

pub accepted-within : (journal : List Entry) (e : Entry) → acceptance journal e ≡ None → IsWithinLimit (order_now (journal ++ e ∷ []) e.ro) × (list_all_units (headers (journal ++ e ∷ [])) ≤ list_all_limit) × FitsSend send_limit e.edit
unfolding over_limit
accepted-within journal e h =
    let o = not-over_list (order_now (journal ++ e ∷ []) e.ro) (over list_all_limit (list_all_units (headers (journal ++ e ∷ []))) (over_send e.edit)) (accepted-limit journal e h) in
    let l = not-over list_all_limit (list_all_units (headers (journal ++ e ∷ []))) (over_send e.edit) o.1 in
    (o.0, l.0, not-over_send e.edit l.1)

pub within-push : (journal : List Entry) (e : Entry) → IsWithin journal → acceptance journal e ≡ None → IsWithin (journal ++ e ∷ [])
within-push journal e i h = record { orders = λ r. go r (same_id r e.ro) refl; lists = (accepted-within journal e h).1 }
  where
    go : (r : Text) (b : Bool) → same_id r e.ro ≡ b → IsWithinLimit (order_now (journal ++ e ∷ []) r)
    go r true s = subst (λ (z : Text). IsWithinLimit (order_now (journal ++ e ∷ []) z)) (sym (same-true r e.ro s)) (accepted-within journal e h).0
    go r false s = subst IsWithinLimit (sym (order_now_other journal e r s)) (i.orders r)

within-after : (before rest : List Entry) → IsWithin before → IsAccepted before rest → IsWithin (before ++ rest)
within-after before [] i a = rw (append-nil before) i
within-after before (e ∷ rest) i a = subst (λ (es : List Entry). IsWithin es) (append_assoc before (e ∷ []) rest) (within-after (before ++ e ∷ []) rest (within-push before e i a.0) a.1)

pub within-empty : IsWithin []
within-empty = record { orders = λ r. tt; lists = omega arith }

accepted-journal : (journal : List Entry) → IsAccepted [] journal → IsWithin journal
accepted-journal journal a = within-after [] journal within-empty a

-- ---- messages

pub fits-in : (o : Option Order) → IsWithinLimit o → IsSmallIfThere o → FitsIn list_limit o
fits-in None h s = tt
fits-in (Some o) h s =
    let u = order-units (bare o) s in
    let t = units_in_element (codes "roList") (body_events (bare o)) refl in
    omega (arith, h, u, t)

pub short-envelope : (v : Envelope) (m : Message) → v.message ≡ m → HasShortNames v → units_in (message_events m) ≤ 8200000 → IsNotTooLong v
short-envelope v m e s h =
    let a = envelope-units v s in
    let b : units_in (message_events v.message) ≡ units_in (message_events m) = ap (λ (x : Message). units_in (message_events x)) e in
    omega (arith, a, b, h)

pub edit-short : (journal : List Entry) (e : Entry) (v : Envelope) → IsAccepted [] journal → acceptance journal e ≡ None → IsSmallIfThere (order_now journal e.ro) → IsSmallIfThere (order_now (journal ++ e ∷ []) e.ro)
    → v.message ≡ edit_message e.edit → HasShortNames v → HasShortIds e.edit → IsNotTooLong v
edit-short journal e v a h b c m s k =
    let w = edit-within list_limit e.ro (order_now journal e.ro) (order_now (journal ++ e ∷ []) e.ro) e.edit (accepted_applies journal e h)
    (fits-in (order_now journal e.ro) ((accepted-journal journal a).orders e.ro) b) (fits-in (order_now (journal ++ e ∷ []) e.ro) (accepted-within journal e h).0 c) k (accepted-within journal e h).2 in
    short-envelope v (edit_message e.edit) m s (omega (arith, w))

pub list-units : (o : OrderBody) → IsSmallOrder o → list_units o ≤ list_limit → units_in (message_events (messages.RoList o)) ≤ 8200000
unfolding message_events
list-units o s h = let u = order-units o s in omega (arith, h, u)

pub order-short : (journal : List Entry) (r : Text) (o : Order) (v : Envelope) → IsAccepted [] journal → order_now journal r ≡ Some o → IsSmallOrder (bare o) → v.message ≡ messages.RoList (bare o) → HasShortNames v → IsNotTooLong v
order-short journal r o v a h b m s = short-envelope v (messages.RoList (bare o)) m s (list-units (bare o) b (subst IsWithinLimit h ((accepted-journal journal a).orders r)))

pub all-units : (journal : List Entry) → list_all_units (headers journal) ≤ list_all_limit → units_in (message_events (messages.RoListAll (headers journal))) ≤ 8200000
unfolding message_events
all-units journal h = let u = orders-units (headers journal) in omega (arith, h, u)

pub orders-short : (journal : List Entry) (v : Envelope) → IsAccepted [] journal → v.message ≡ messages.RoListAll (headers journal) → HasShortNames v → IsNotTooLong v
orders-short journal v a m s = short-envelope v (messages.RoListAll (headers journal)) m s (all-units journal (accepted-journal journal a).lists)
