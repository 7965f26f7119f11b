-- How the parts of a gateway stand for those of the device's state.
use Rattle.std.specs.Prelude.{List, [], ◌∷◌, Bool, true, false, Option, Some, None, IsSome, if◌then◌else◌, ◌||◌}
use Rattle.mos_edits.specs.Texts.{Text}
use Rattle.mos_machines.specs.Device.{Phase as DevicePhase, GateOut, Confirmation, Decks, wants_out, wanted_phase}
use Rattle.mos_machines.specs.Device.GateOut.{NotAsking, AsksFor, AsksAll, AsksBeat}
use Rattle.mos_machines.specs.Tables.{KnownOrder}
use Rattle.order_table.specs.Rows.{find_row}
use Rattle.gateway_core.specs.declared.known.Phase.{Phase}
use Rattle.gateway_core.specs.declared.known.Phase.TheVariants.{In, Out, Asked, Crossed}
use Rattle.gateway_core.specs.declared.known.DeckState.{DeckState}
use Rattle.gateway_core.specs.declared.asking.Asking.{Asking}
use Rattle.gateway_core.specs.declared.asking.Asking.TheVariants.{Nothing, Order, All, Beat}
use Rattle.gateway_core.specs.declared.asking.Confirm.{Confirm}
use Rattle.gateway_core.specs.declared.asking.Confirm.TheVariants.{NotDue, Due, Unanswered}

abbrev pub phase_of : Phase → DevicePhase
phase_of In = DevicePhase.InStep
phase_of Out = DevicePhase.OutOfStep
phase_of Asked = DevicePhase.Asked
phase_of Crossed = DevicePhase.Crossed

abbrev pub asking_of : Asking → GateOut
asking_of Nothing = NotAsking
asking_of (Order ro) = AsksFor ro
asking_of All = AsksAll
asking_of Beat = AsksBeat

abbrev pub confirmation_of : Confirm → Confirmation
confirmation_of NotDue = Confirmation.NotDue
confirmation_of (Due ro) = Confirmation.Due ro
confirmation_of (Unanswered ro) = Confirmation.Unanswered ro

abbrev pub decks_of : DeckState → Decks
decks_of d = record { handed = d.handed; left = d.left }

-- the order that is asked for has a row
abbrev pub IsAskedKnown : GateOut → List (Text × KnownOrder) → Type 0
IsAskedKnown (AsksFor r) rows = IsSome (find_row r rows)
IsAskedKnown a rows = Unit {0}

-- an order that is out of step is wanted
abbrev pub wanting_out : KnownOrder → KnownOrder
wanting_out k = record { held = k.held; phase = k.phase; wanted = k.wanted || wants_out k.phase }

-- an order that is wanted from now on
abbrev pub wanted_order : KnownOrder → KnownOrder
wanted_order k = record { held = k.held; phase = wanted_phase k.phase; wanted = wants_out (wanted_phase k.phase) || k.wanted }

-- the first row whose order is wanted
abbrev pub first_wanted_row : List (Text × KnownOrder) → Option Text
first_wanted_row [] = None
first_wanted_row (x ∷ xs) = if x.1.wanted then Some x.0 else first_wanted_row xs

-- a confirmation that is due is sent
abbrev pub is_due : Confirmation → Bool
is_due (Confirmation.Due r) = true
is_due c = false

abbrev pub once_sent : Confirmation → Confirmation
once_sent (Confirmation.Due r) = Confirmation.Unanswered r
once_sent c = c
