-- Journals, orders and answers whose messages have an encoding.
use Rattle.std.specs.Prelude.{List, Option, Some, None}
use Rattle.std.specs.List.{AllByRecursion}
use Rattle.mos_edits.specs.Orders.{Order, bare}
use Rattle.mos_edits.specs.declared.edit.Edit.{Edit}
use Rattle.mos_edits.specs.Entries.{Entry}
use Rattle.mos_machines.specs.Messages.{Packet}
use Rattle.mos_machines.specs.Steps.{ServerEvent, StepAnswer}
use Rattle.mos_machines.specs.Steps.ServerEvent.{Command}
use Rattle.mos_machines.specs.Steps.StepAnswer.{Sent, Say}
use Rattle.mos_machines.specs.Values.{edit_message, message_of}
use Rattle.mos_values.specs.Sound.{IsSound, IsSoundBody}

-- the message that carries the edit is sound
abbrev pub IsSoundEdit : Edit → Type 0
IsSoundEdit e = IsSound (edit_message e)

-- the edit of each entry is sound
abbrev pub HasSoundEdits : List Entry → Type 0
HasSoundEdits journal = AllByRecursion (λ e. IsSoundEdit e.edit) journal

-- an order that is there is sound, but for its scripts
abbrev pub IsSoundOrder : Option Order → Type 0
IsSoundOrder None = Unit {0}
IsSoundOrder (Some o) = IsSoundBody (bare o)

-- the message that a machine wrote is sound
abbrev pub IsSoundPacket : Packet → Type 0
IsSoundPacket p = IsSound (message_of p.message)

-- a machine's answer is no message, or a sound one
abbrev pub IsSoundAnswer : StepAnswer → Type 0
IsSoundAnswer (Sent p) = IsSoundPacket p
IsSoundAnswer (Say p) = IsSoundPacket p
IsSoundAnswer a = Unit {0}

-- an event of the server is no command, or that of a sound edit
abbrev pub IsSoundEvent : ServerEvent → Type 0
IsSoundEvent (Command e) = IsSoundEdit e.edit
IsSoundEvent e = Unit {0}
