-- Where reading is in a message, in memory and as the grammar's.
use Rattle.std.specs.Prelude.{◌≡◌, List, reverse, Option, Some, None, Result, Ok, Err, ⊤}
use Rattle.mos_fields.specs.Fields.{name_of}
use Rattle.mos_tables.specs.Events.{Event}
use Rattle.mos_grammar.specs.declared.fault.Fault.{Fault}
use Rattle.mos_grammar.specs.RecordMachine.{State, at, complete, between, in_field, behind_text, in_raw}
use Rattle.mos_grammar.specs.RecordMachine.{Mode as ModeOf}
use Rattle.mos_elements.specs.Opened.{Opened, frame_in, frames_in}
use Rattle.mos_elements.specs.Parts.{part_events}
use Rattle.mos_elements.specs.Roles.{open_field_of}
use Rattle.mos_elements.specs.declared.fault.FrameFault.{FrameFault}
use Rattle.mos_elements.specs.declared.fault.FrameFault.TheVariants.{Rejected, NoMemory}
use Rattle.mos_elements.specs.declared.progress.Progress.{Progress}
use Rattle.mos_elements.specs.declared.progress.Progress.TheVariants.{More, Whole}
use Rattle.mos_elements.specs.declared.inside.Inside.{Inside}
use Rattle.mos_elements.specs.declared.mode.Mode.{Mode}
use Rattle.mos_elements.specs.declared.mode.Mode.TheVariants.{Between, InField, BehindText, InRaw, Ended}

-- in this mode, in this record, which stands in these, the innermost first
abbrev pub state_in : ModeOf → Opened → List Opened → State
state_in m o os = at m (frame_in o os) (frames_in os)

-- in memory the innermost comes last
abbrev pub state_with : ModeOf → Inside → State
state_with m s = state_in m s.inner (reverse s.outer.items)

-- in memory the mode tells too that the message is whole, with its value
abbrev pub state_at : Mode → Inside → State
state_at Between s = state_with between s
state_at (InField o) s = state_with (in_field (name_of o.field) (open_field_of o)) s
state_at (BehindText o p) s = state_with (behind_text (name_of o.field) (open_field_of o) (part_events p)) s
state_at (InRaw r) s = state_with (in_raw r.name.items r.field r.tag) s
state_at (Ended v) s = complete v

abbrev pub state_of : Inside → State
state_of s = state_at s.mode s

-- the value of a message that is whole
abbrev pub value_in : State → Option (List Event)
value_in (at m f fs) = None
value_in (complete v) = Some v

abbrev pub progress_in : State → Progress
progress_in (at m f fs) = More
progress_in (complete v) = Whole

-- what a step answered, and the state behind it
abbrev pub Stepped : Result Progress FrameFault → State → Result State Fault → Type 0
Stepped (Ok g) s r = (r ≡ Ok s) × (g ≡ progress_in s)
Stepped (Err (Rejected k)) s r = r ≡ Err k
Stepped (Err NoMemory) s r = ⊤
