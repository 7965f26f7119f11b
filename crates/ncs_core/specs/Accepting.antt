-- Whether an edit is accepted, by the table of orders.
use Rattle.std.specs.Prelude.{◌≡◌, ℕ, List, Bool, false, Option, Some, None, if◌then◌else◌}
use Rattle.std.specs.Option.{is_some}
use Rattle.mos_edits.specs.Texts.{Text}
use Rattle.mos_edits.specs.KeyedLists.{Applied, ActFault}
use Rattle.mos_edits.specs.Orders.{Order, edit_ro, apply}
use Rattle.mos_edits.specs.declared.edit.Edit.{Edit}
use Rattle.mos_edits.specs.Entries.{Entry, Refusal, refusal, result_or, over_list, over, over_send}
use Rattle.mos_edits.specs.Sizes.{list_all_limit}
use Rattle.mos_machines.specs.Tables.{look, put_row}
use Rattle.mos_edits.specs.declared.edit.Edit.TheVariants.{Air}
use Rattle.ncs_core.specs.State.{all_units}
use Rattle.ncs_core.specs.declared.fault.CommandFault.{CommandFault}
use Rattle.ncs_core.specs.declared.fault.CommandFault.TheVariants.{Stopped, Missing, AlreadyThere, Full, StoreFault, NoMemory}
use Rattle.ncs_core.specs.declared.former.Former.{Former}
use Rattle.ncs_core.specs.declared.former.Former.TheVariants.{Same, Was}

-- The code units with which one order passes its limit, or else all orders theirs, or else what an edit passes by itself.
abbrev pub rows_over : List (Text × Option Order) → Text → Option ℕ → Option ℕ
rows_over rows r next = over_list (look None rows r) (over list_all_limit (all_units rows) next)

-- what an edit makes of its order
abbrev pub applied_to : List (Text × Option Order) → Entry → Applied (Option Order)
applied_to rows e = apply e.ro (look None rows e.ro) e.edit

-- the orders after it; they are as before where it has a fault
abbrev pub rows_after : List (Text × Option Order) → Entry → List (Text × Option Order)
rows_after rows e = put_row e.ro (result_or (look None rows e.ro) (applied_to rows e)) rows

-- why the edit isn't accepted, where these are the orders
abbrev pub rows_acceptance : List (Text × Option Order) → Entry → Option Refusal
rows_acceptance rows e = refusal (applied_to rows e) (rows_over (rows_after rows e) e.ro (over_send e.edit))

-- the answer says why the edit isn't accepted, or that memory ran out
abbrev pub IsRefusal : Option Refusal → CommandFault → Type 0
IsRefusal why Stopped = ⊥
IsRefusal why (Missing id) = why ≡ Some (Refusal.Faulty (ActFault.Missing id))
IsRefusal why (AlreadyThere id) = why ≡ Some (Refusal.Faulty (ActFault.AlreadyThere id))
IsRefusal why (Full units) = why ≡ Some (Refusal.Full units)
IsRefusal why StoreFault = ⊥
IsRefusal why NoMemory = Unit {0}

-- whether an edit leaves all orders as they are: READY and NOT READY do, of an order that is there
abbrev pub leaves_all : List (Text × Option Order) → Edit → Bool
leaves_all rows (Air ro air) = is_some (look None rows ro)
leaves_all rows e = false

-- what is put back where an edit isn't kept that was accepted: nothing, or what was in its row
abbrev pub former_of : List (Text × Option Order) → Edit → Former
former_of rows e = if leaves_all rows e then Same else Was (look None rows (edit_ro e))

-- the orders once that is put back
abbrev pub restored : Former → Text → List (Text × Option Order) → List (Text × Option Order)
restored Same r rows = rows
restored (Was o) r rows = put_row r o rows
