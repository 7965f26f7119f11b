-- What a call answers whose definition gives a result or a fault.
use Rattle.std.specs.Prelude.{◌≡◌, List, [], ◌∷◌, Bool, true, false, Option, Result, Ok, Err}
use Rattle.mos_edits.specs.Texts.{Text}
use Rattle.mos_edits.specs.KeyedLists.{ActFault as EditFault, Applied, ListAction}
use Rattle.mos_edits.specs.KeyedLists.ListAction.{Insert, Replace}
use Rattle.mos_edits.specs.Actions.{Action}
use Rattle.mos_edits.specs.Actions.Action.{OnStories, OnItems}
use Rattle.mos_edits.specs.KeyedLists.Applied.{Done, Fault}
use Rattle.mos_edits.specs.Orders.{Story, Order, form_of}
use Rattle.mos_edits.specs.declared.edit.Edit.{Edit}
use Rattle.mos_edits.specs.declared.edit.Edit.TheVariants as edit
use Rattle.order_table.specs.Rows.{without_rows}
use Rattle.element_action.specs.declared.first_fault.FirstFault.{FirstFault}
use Rattle.element_action.specs.declared.first_fault.FirstFault.TheVariants as first
use Rattle.element_action.specs.declared.fault.ActFault.{ActFault}
use Rattle.element_action.specs.declared.fault.ActFault.TheVariants.{Missing, AlreadyThere, NoMemory}

-- a fault that was found, as the definitions name it
abbrev pub named : FirstFault → EditFault
named (first.Missing id) = EditFault.Missing id.now
named (first.AlreadyThere id) = EditFault.AlreadyThere id.now

-- the answer tells that fault, or there was no memory for its identifier
abbrev pub IsTold : EditFault → ActFault → Type 0
IsTold f (Missing id) = f ≡ EditFault.Missing id
IsTold f (AlreadyThere id) = f ≡ EditFault.AlreadyThere id
IsTold f NoMemory = Unit {0}

-- Which actions and edits take memory for their result: those that put something in, a script too, and a patch of the header.
abbrev pub puts_in : {X : Type 0} → ListAction X → Bool
puts_in (Insert target sources) = true
puts_in (Replace target sources) = true
puts_in action = false

abbrev pub takes_memory : {S I : Type 0} → Action S I → Bool
takes_memory (OnStories action) = puts_in action
takes_memory (OnItems story action) = puts_in action

abbrev pub edit_takes_memory : Edit → Bool
edit_takes_memory (edit.Act ro action) = takes_memory (form_of action)
edit_takes_memory (edit.Delete ro) = false
edit_takes_memory (edit.Air ro air) = false
edit_takes_memory e = true

abbrev pub HasFault : {X : Type 0} → Applied X → Type 0
HasFault (Done x) = ⊥
HasFault (Fault f) = Unit {0}

-- The definition has the fault that is answered. NoMemory may come in place of a fault; in place of a result, only where
-- that takes memory.
abbrev pub IsCause : {X : Type 0} → Bool → Applied X → ActFault → Type 0
IsCause takes defined (Missing id) = defined ≡ Fault (EditFault.Missing id)
IsCause takes defined (AlreadyThere id) = defined ≡ Fault (EditFault.AlreadyThere id)
IsCause true defined NoMemory = Unit {0}
IsCause false defined NoMemory = HasFault defined

abbrev pub HasResult : {X : Type 0} → Applied X → Type 0
HasResult (Done x) = Unit {0}
HasResult (Fault f) = ⊥

-- Ok exactly where the definition has a result, and else its fault; NoMemory may come in place of both
abbrev pub IsChecked : {X : Type 0} → Applied X → Result (Unit {0}) ActFault → Type 0
IsChecked defined (Ok x) = HasResult defined
IsChecked defined (Err f) = IsCause true defined f

-- the rows of scripts where the stories with these identifiers go
abbrev pub rows_left : {X : Type 0} → List Text → List (Text × X) → List (Text × X)
rows_left [] rows = rows
rows_left (id ∷ ids) rows = without_rows (id ∷ ids) rows

-- Ok with the result of the definition, the header as it was, and the scripts without those of the stories that go; or the
-- definition's fault, and the order as it was
abbrev pub IsAnswer : Bool → List Text → Applied (List Story) → Order → Order → Result (Unit {0}) ActFault → Type 0
IsAnswer takes gone defined before after (Ok x) = (defined ≡ Done after.stories) × (after.header ≡ before.header) × (after.scripts ≡ rows_left gone before.scripts)
IsAnswer takes gone defined before after (Err f) = IsCause takes defined f × (after ≡ before)

-- the same of an order that is there or not
abbrev pub IsApplied : Bool → Applied (Option Order) → Option Order → Option Order → Result (Unit {0}) ActFault → Type 0
IsApplied takes defined before after (Ok x) = defined ≡ Done after
IsApplied takes defined before after (Err f) = IsCause takes defined f × (after ≡ before)
