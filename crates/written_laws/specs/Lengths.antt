-- Edits and envelopes with short IDs, and orders that a message can hold.
use Rattle.std.specs.Prelude.{ℕ, ◌≤◌, length, Option, Some, None}
use Rattle.mos_fields.specs.Characters.{Text}
use Rattle.mos_edits.specs.Orders.{Order, bare, edit_ro}
use Rattle.mos_edits.specs.declared.edit.Edit.{Edit}
use Rattle.mos_edits.specs.Entries.{Entry}
use Rattle.mos_values.specs.declared.action.Action.{Action}
use Rattle.mos_values.specs.declared.action.Action.TheVariants.{InsertStories, ReplaceStory, InsertItems, ReplaceItem, MoveStories, MoveItems, DeleteStories, DeleteItems, SwapStories, SwapItems}
use Rattle.mos_edits.specs.declared.edit.Edit.TheVariants.{Create, Replace, Delete, Metadata, Act, Air, Script}
use Rattle.mos_values.specs.declared.message.Envelope.{Envelope}
use Rattle.mos_values.specs.MessageViews.{envelope_events}
use Rattle.mos_values.specs.Units.{units_in}
use Rattle.mos_machines.specs.Small.{AreSmallItems, AreSmallStories, IsSmallOrder}

-- the most code units that a message may have
abbrev pub message_limit : ℕ
message_limit = 8388608

-- at most 128 characters, as each ID in memory has
abbrev pub IsShort : Text → Type 0
IsShort x = length x ≤ 128

abbrev pub IsShortIfThere : Option Text → Type 0
IsShortIfThere None = Unit {0}
IsShortIfThere (Some x) = IsShort x

-- the names of both ends and the messageID
abbrev pub HasShortNames : Envelope → Type 0
HasShortNames v = IsShort v.mos × IsShort v.ncs × IsShortIfThere v.message_id

-- the IDs of an action's target, and those of an exchange; nothing is asked of the others
abbrev pub HasShortTarget : Action → Type 0
HasShortTarget (InsertStories target sources) = IsShort target
HasShortTarget (ReplaceStory target sources) = IsShort target
HasShortTarget (InsertItems story target sources) = IsShort story × IsShort target
HasShortTarget (ReplaceItem story target sources) = IsShort story × IsShort target
HasShortTarget (MoveStories target sources) = IsShort target
HasShortTarget (MoveItems story target sources) = IsShort story × IsShort target
HasShortTarget (DeleteStories sources) = Unit {0}
HasShortTarget (DeleteItems story sources) = IsShort story
HasShortTarget (SwapStories first second) = IsShort first × IsShort second
HasShortTarget (SwapItems story first second) = IsShort story × IsShort first × IsShort second

-- the roID of an edit that brings no order and no script, and the target of its action
abbrev pub HasShortIds : Edit → Type 0
HasShortIds (Create body) = Unit {0}
HasShortIds (Replace body) = Unit {0}
HasShortIds (Delete ro) = IsShort ro
HasShortIds (Metadata patch) = IsShort patch.ro
HasShortIds (Act ro action) = IsShort ro × HasShortTarget action
HasShortIds (Air ro air) = IsShort ro
HasShortIds (Script script) = Unit {0}

-- the numbers of samples that an edit brings fit 32 bits
abbrev pub IsSmallAction : Action → Type 0
IsSmallAction (InsertStories target sources) = AreSmallStories sources
IsSmallAction (ReplaceStory target sources) = AreSmallStories sources
IsSmallAction (InsertItems story target sources) = AreSmallItems sources
IsSmallAction (ReplaceItem story target sources) = AreSmallItems sources
IsSmallAction action = Unit {0}

abbrev pub IsSmallEdit : Edit → Type 0
IsSmallEdit (Create body) = IsSmallOrder body
IsSmallEdit (Replace body) = IsSmallOrder body
IsSmallEdit (Act ro action) = IsSmallAction action
IsSmallEdit e = Unit {0}

-- An entry within the limits that the fields of a message have: its numbers are small, and the IDs that it names short.
abbrev pub KeepsFieldLimits : Entry → Type 0
KeepsFieldLimits e = IsSmallEdit e.edit × HasShortIds e.edit × IsShort e.ro × IsShort (edit_ro e.edit)

-- an order that is there has numbers of samples that fit 32 bits
abbrev pub IsSmallIfThere : Option Order → Type 0
IsSmallIfThere None = Unit {0}
IsSmallIfThere (Some o) = IsSmallOrder (bare o)

-- the canonical encoding of the envelope isn't too long
abbrev pub IsNotTooLong : Envelope → Type 0
IsNotTooLong v = units_in (envelope_events v) ≤ message_limit
