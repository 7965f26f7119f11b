-- The server's journal as one list of entries, the order after the entries of one roID, and which edits are accepted.
use Rattle.std.specs.Prelude.{◌≡◌, ℕ, List, [], ◌∷◌, ◌++◌, length, take, get_or, Option, Some, None, if◌then◌else◌, nat_lt}
use Rattle.mos_edits.specs.Texts.{Text, same_id}
use Rattle.mos_edits.specs.KeyedLists.{ActFault, Applied}
use Rattle.mos_edits.specs.KeyedLists.Applied.{Done, Fault}
use Rattle.mos_edits.specs.Orders.{Order, order_of, bare, edit_ro, HeaderPatch, apply}
use Rattle.mos_edits.specs.declared.edit.Edit.{Edit}
pub use Rattle.mos_edits.specs.Rows.{is_before, insert_id}
pub use Rattle.mos_edits.specs.Scripts.{result_or}
use Rattle.mos_edits.specs.Scripts.{story_ids_of, numbers_after, numbers_of}
use Rattle.mos_edits.specs.declared.edit.Edit.TheVariants.{Create, Replace, Delete, Metadata, Act, Air, Script}
use Rattle.mos_fields.specs.declared.air.Air.TheVariants.{Ready, NotReady}
use Rattle.mos_values.specs.Headers.{patch_of}
use Rattle.mos_edits.specs.Distinct.{Each}
use Rattle.mos_edits.specs.Sizes.{list_units, list_all_units, send_units, list_limit, list_all_limit, send_limit, at_most_64_bits}

-- What the machines tell apart: an edit that says what the whole order is, one that changes the order that is
-- there, and the two of roReadyToAir.
pub data Kind : Type 0 where
  IsWhole : Kind
  IsAction : Kind
  IsReady : Kind
  IsNotReady : Kind

abbrev pub kind : Edit → Kind
kind (Create body) = IsWhole
kind (Replace body) = IsWhole
kind (Delete ro) = IsWhole
kind (Metadata patch) = IsAction
kind (Act ro action) = IsAction
kind (Air ro Ready) = IsReady
kind (Air ro NotReady) = IsNotReady
kind (Script script) = IsAction

-- what stands after a whole-order edit, whatever stood before
abbrev pub body_of : Edit → Option Order
body_of (Create body) = Some (order_of body)
body_of (Replace body) = Some (order_of body)
body_of e = None

-- an entry of the journal: an edit, and the roID that it names
pub record Entry : Type 0 where
  pub ro : Text
  pub edit : Edit

-- an edit with the roID that it names
abbrev pub entry_of : Edit → Entry
entry_of e = record { ro = edit_ro e; edit = e }

-- an entry has the roID of its edit
abbrev pub IsEntry : Entry → Type 0
IsEntry e = e.ro ≡ edit_ro e.edit

-- the edits of the entries of `r`, in their order; they are numbered from 0
abbrev pub entries : Text → List Entry → List Edit
entries r [] = []
entries r (x ∷ xs) = if same_id r x.ro then x.edit ∷ entries r xs else entries r xs

-- the number of entries of `r`
abbrev pub entry_count : List Entry → Text → ℕ
entry_count journal r = length (entries r journal)

-- what stands for an entry that isn't there
abbrev pub no_edit : Edit
no_edit = Air [] NotReady

-- the edit of entry `k` of `r`
abbrev pub edit_at : List Entry → Text → ℕ → Edit
edit_at journal r k = get_or (entries r journal) k no_edit

abbrev pub order_from : Text → Option Order → List Edit → Option Order
order_from r o [] = o
order_from r o (e ∷ es) = order_from r (result_or o (apply r o e)) es

-- The order after these edits of `r`, applied one after the other to no order.
abbrev pub order_after : Text → List Edit → Option Order
order_after r es = order_from r None es

-- the order `r` after the first `m` of its entries, and after all of them
abbrev pub order_at : List Entry → Text → ℕ → Option Order
order_at journal r m = order_after r (take m (entries r journal))

abbrev pub order_now : List Entry → Text → Option Order
order_now journal r = order_after r (entries r journal)

-- The numbers of the entries of `r` whose scripts stand in the order after the first `m` of them, in the order of its
-- stories.
abbrev pub in_force_after : Text → List Edit → List ℕ
in_force_after r es = numbers_of (story_ids_of (order_after r es)) (numbers_after r es)

abbrev pub in_force : List Entry → Text → ℕ → List ℕ
in_force journal r m = in_force_after r (take m (entries r journal))

-- The roIDs of the orders that are there, ascending.

abbrev pub insert_if : Option Order → Text → List Text → List Text
insert_if None r ros = ros
insert_if (Some o) r ros = insert_id r ros

abbrev pub listed_from : List Entry → List Entry → List Text → List Text
listed_from journal [] ros = ros
listed_from journal (x ∷ xs) ros = listed_from journal xs (insert_if (order_now journal x.ro) x.ro ros)

abbrev pub listed : List Entry → List Text
listed journal = listed_from journal journal []

abbrev pub with_header : Option Order → List HeaderPatch → List HeaderPatch
with_header None headers = headers
with_header (Some o) headers = patch_of o.header ∷ headers

abbrev pub headers_of : List Entry → List Text → List HeaderPatch
headers_of journal [] = []
headers_of journal (r ∷ rs) = with_header (order_now journal r) (headers_of journal rs)

-- the headers of the orders that are there, by roID
abbrev pub headers : List Entry → List HeaderPatch
headers journal = headers_of journal (listed journal)

-- Whether an edit is accepted.

-- why it isn't: a fault of the edit, or a limit that would be passed, with the code units that would pass it
pub data Refusal : Type 0 where
  Faulty : (fault : ActFault) → Refusal
  Full : (units : ℕ) → Refusal

abbrev pub over : ℕ → ℕ → Option ℕ → Option ℕ
over limit units next = if nat_lt limit units then Some (at_most_64_bits units) else next

abbrev pub over_list : Option Order → Option ℕ → Option ℕ
over_list None next = next
over_list (Some o) next = over list_limit (list_units (bare o)) next

abbrev pub over_send : Edit → Option ℕ
over_send (Script script) = over send_limit (send_units script) None
over_send e = None

-- The code units with which the journal, whose last entry is `e`, passes a limit: those of the roList of its order, or else
-- those of the roListAll of all orders, or else those of the roStorySend that `e` is.
unfoldable pub over_limit : List Entry → Entry → Option ℕ
over_limit journal e = over_list (order_now journal e.ro) (over list_all_limit (list_all_units (headers journal)) (over_send e.edit))

abbrev pub refusal : Applied (Option Order) → Option ℕ → Option Refusal
refusal (Fault f) units = Some (Faulty f)
refusal (Done o) (Some units) = Some (Full units)
refusal (Done o) None = None

-- Why the journal doesn't take the entry, or None where it does: a fault of the edit on the order that is there, or
-- a limit that the result would pass.
abbrev pub acceptance : List Entry → Entry → Option Refusal
acceptance journal e = refusal (apply e.ro (order_now journal e.ro) e.edit) (over_limit (journal ++ e ∷ []) e)

-- each entry of the second list is accepted after those before it
abbrev pub IsAccepted : List Entry → List Entry → Type 0
IsAccepted before [] = Unit {0}
IsAccepted before (e ∷ es) = (acceptance before e ≡ None) × IsAccepted (before ++ e ∷ []) es

abbrev pub AreEntries : List Entry → Type 0
AreEntries journal = Each IsEntry journal

-- an order that is there has that roID
abbrev pub IsNamed : Text → Option Order → Type 0
IsNamed r None = Unit {0}
IsNamed r (Some o) = o.header.ro ≡ r
