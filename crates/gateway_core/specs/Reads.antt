-- Reading a message of the server, on the rows of a gateway's table.
use Rattle.std.specs.Prelude.{◌≡◌, Result, IfOk, List, [], Bool, true, false, Option, Some, None, if◌then◌else◌}
use Rattle.mos_edits.specs.Texts.{Text}
use Rattle.mos_edits.specs.KeyedLists.{Applied, ActFault as EditFault}
use Rattle.mos_edits.specs.KeyedLists.Applied.{Fault}
use Rattle.mos_edits.specs.Orders.{Order, OrderBody, order_of}
use Rattle.mos_edits.specs.declared.edit.Edit.{Edit}
use Rattle.mos_edits.specs.Entries.{Entry}
use Rattle.mos_machines.specs.Messages.{Message, Status, status_text, message_ro}
use Rattle.mos_machines.specs.Messages.Message.{RoEdit}
use Rattle.mos_machines.specs.Device.{Decks, ReadResult, Phase, read_edit, ready_status}
use Rattle.mos_machines.specs.Device.Phase.{InStep, OutOfStep, Asked, Crossed}
use Rattle.mos_machines.specs.Tables.{KnownOrder, unknown_order, look, put_row}
use Rattle.mos_edits.specs.declared.edit.Edit.TheVariants as edits
use Rattle.mos_values.specs.declared.message.Message as values
use Rattle.mos_values.specs.declared.message.Message.TheVariants as carried
use Rattle.mos_values.specs.declared.ro_ack.RoAck.{RoAck}
use Rattle.mos_fields.specs.declared.air.Air.TheVariants.{Ready}
use Rattle.std.specs.declared.alloc.AllocError.{AllocError}
use Rattle.machine_answers.specs.declared.status.Status.{Status as Answer}
use Rattle.machine_answers.specs.Answers.{status_of}
use Rattle.element_action.specs.declared.fault.ActFault.{ActFault}
use Rattle.element_action.specs.declared.fault.ActFault.TheVariants.{Missing, AlreadyThere, NoMemory}
use Rattle.gateway_core.specs.declared.edits.Change.{Change}
use Rattle.gateway_core.specs.declared.edits.Change.TheVariants as changes

-- the edit that a change is
abbrev pub edit_of : Text → Change → Edit
edit_of ro (changes.Header patch) = edits.Metadata patch.now
edit_of ro (changes.Action action) = edits.Act ro action.now
edit_of ro (changes.Script script) = edits.Script script.now
edit_of ro changes.Release = edits.Air ro Ready

abbrev pub entry_at : Text → Change → Entry
entry_at ro c = record { ro = ro; edit = edit_of ro c }

-- the fault that is answered is that of the edit; or there was no memory
abbrev pub IsTold : Applied (Option Order) → ActFault → Type 0
IsTold defined (Missing id) = defined ≡ Fault (EditFault.Missing id)
IsTold defined (AlreadyThere id) = defined ≡ Fault (EditFault.AlreadyThere id)
IsTold defined NoMemory = Unit {0}

-- the answer to a change that applies
abbrev pub applied_status : Change → Decks → Status
applied_status changes.Release decks = ready_status decks
applied_status c decks = Status.Okay

-- what is known after an edit was read
abbrev pub kept : ReadResult → KnownOrder
kept x = record { held = x.held; phase = x.phase; wanted = x.wanted }

abbrev pub put_result : Text → ReadResult → List (Text × KnownOrder) → List (Text × KnownOrder)
put_result r x rows = if x.knows then put_row r (kept x) rows else rows

-- an edit, as it is read by what is known of its order
abbrev pub known_result : KnownOrder → Decks → Entry → ReadResult
known_result k decks e = read_edit k.phase decks k.held k.wanted e

-- an edit of an order that is asked for
abbrev pub asked_result : KnownOrder → ReadResult
asked_result k = record { held = k.held; phase = Crossed; wanted = k.wanted; knows = true; status = Status.NotInStep }

-- a change of an order that is out of step
abbrev pub out_result : KnownOrder → ReadResult
out_result k = record { held = k.held; phase = OutOfStep; wanted = true; knows = true; status = Status.NotInStep }

-- the order of a body, or none
abbrev pub whole_order : Option OrderBody → Option Order
whole_order None = None
whole_order (Some body) = Some (order_of body)

-- a whole order, or that there is none from now on
abbrev pub whole_by : Phase → KnownOrder → Option Order → ReadResult
whole_by InStep k o = record { held = o; phase = InStep; wanted = k.wanted; knows = true; status = Status.Okay }
whole_by OutOfStep k o = record { held = o; phase = InStep; wanted = k.wanted; knows = true; status = Status.Okay }
whole_by Asked k o = asked_result k
whole_by Crossed k o = asked_result k

-- NOT READY
abbrev pub unready_by : Phase → KnownOrder → ReadResult
unready_by InStep k = record { held = k.held; phase = InStep; wanted = k.wanted; knows = false; status = Status.Okay }
unready_by OutOfStep k = record { held = k.held; phase = OutOfStep; wanted = k.wanted; knows = false; status = Status.Okay }
unready_by Asked k = asked_result k
unready_by Crossed k = asked_result k

abbrev pub rows_result : List (Text × KnownOrder) → Decks → Entry → ReadResult
rows_result rows decks e = known_result (look unknown_order rows e.ro) decks e

abbrev pub whole_result : List (Text × KnownOrder) → Text → Option Order → ReadResult
whole_result rows r o = whole_by (look unknown_order rows r).phase (look unknown_order rows r) o

abbrev pub unready_result : List (Text × KnownOrder) → Text → ReadResult
unready_result rows r = unready_by (look unknown_order rows r).phase (look unknown_order rows r)

-- the roAck of an order
abbrev pub acked : Text → Status → RoAck
acked ro status = record { ro = ro; status = status_text status; groups = [] }

-- the rows after a message, and the roAck that answers it
abbrev pub read_rows : List (Text × KnownOrder) → Decks → Message → List (Text × KnownOrder)
read_rows rows decks (RoEdit e) = put_result e.ro (rows_result rows decks e) rows
read_rows rows decks m = rows

abbrev pub read_ack : List (Text × KnownOrder) → Decks → Message → RoAck
read_ack rows decks (RoEdit e) = acked e.ro (rows_result rows decks e).status
read_ack rows decks m = acked (message_ro m) Status.NotSupported

-- a fault's status, or no memory
abbrev pub IsRefusal : ActFault → Result Answer AllocError → Type 0
IsRefusal (Missing id) r = IfOk r (λ s. status_of s ≡ Status.Faulty (EditFault.Missing id))
IsRefusal (AlreadyThere id) r = IfOk r (λ s. status_of s ≡ Status.Faulty (EditFault.AlreadyThere id))
IsRefusal NoMemory r = IfOk r (λ s. ⊥)

abbrev pub IsRefused : Text → ActFault → Result RoAck AllocError → Type 0
IsRefused ro (Missing id) r = IfOk r (λ a. a ≡ acked ro (Status.Faulty (EditFault.Missing id)))
IsRefused ro (AlreadyThere id) r = IfOk r (λ a. a ≡ acked ro (Status.Faulty (EditFault.AlreadyThere id)))
IsRefused ro NoMemory r = IfOk r (λ a. ⊥)

abbrev pub IsHeartbeat : values.Message → Type 0
IsHeartbeat (carried.Heartbeat time) = Unit {0}
IsHeartbeat m = ⊥
