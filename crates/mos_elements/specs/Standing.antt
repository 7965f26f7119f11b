-- Where reading stands, and what one more token does.
use Rattle.std.specs.Prelude.{◌≡◌, List, Result, Ok, Err, Option, Some, None}
use Rattle.mos_tables.specs.declared.table.Table.TheVariants.{Envelope}
use Rattle.mos_grammar.specs.Tokens.{Token}
use Rattle.mos_grammar.specs.declared.fault.Fault.{Fault}
use Rattle.mos_grammar.specs.RecordMachine.{at, complete, opening}
use Rattle.mos_grammar.specs.Streams.{Position, before_message, inside, before_prolog, behind_mark, behind_declaration, message_step, mos_name}
use Rattle.mos_grammar.specs.Streams.{Stage as StageOf}
use Rattle.mos_elements.specs.declared.fault.FrameFault.{FrameFault}
use Rattle.mos_elements.specs.declared.fault.FrameFault.TheVariants.{Rejected, NoMemory}
use Rattle.mos_elements.specs.declared.place.Place.{Place}
use Rattle.mos_elements.specs.declared.place.Place.TheVariants.{Before, InMessage, Failed}
use Rattle.mos_elements.specs.declared.place.Stage.{Stage}
use Rattle.mos_elements.specs.declared.place.Stage.TheVariants.{BeforeProlog, BehindMark, BehindDeclaration}
use Rattle.mos_elements.specs.declared.progress.Progress.{Progress}
use Rattle.mos_elements.specs.declared.progress.Progress.TheVariants.{More}
use Rattle.mos_elements.specs.declared.inside.Inside.{Inside}
use Rattle.mos_tables.specs.Events.{Event}
use Rattle.mos_elements.specs.States.{state_of, progress_in, value_in}

-- in front of a message or in it; or it has failed with this fault
pub data Standing : Type 0 where
  reads : Position → Standing
  failed : FrameFault → Standing

-- what a step comes to
abbrev pub progress_of : Result Position Fault → Result Progress FrameFault
progress_of (Ok (before_message g)) = Ok More
progress_of (Ok (inside s)) = Ok (progress_in s)
progress_of (Err k) = Err (Rejected k)

-- where reading stands behind it
abbrev pub standing_of : Result Position Fault → Standing
standing_of (Ok p) = reads p
standing_of (Err k) = failed (Rejected k)

-- the value of the message that is whole where reading stands
abbrev pub value_of : Standing → Option (List Event)
value_of (reads (before_message g)) = None
value_of (reads (inside s)) = value_in s
value_of (failed k) = None

-- where reading stands once that was taken
abbrev pub taken_of : Standing → Standing
taken_of (reads (before_message g)) = reads (before_message g)
taken_of (reads (inside (at m f fs))) = reads (inside (at m f fs))
taken_of (reads (inside (complete v))) = reads (before_message before_prolog)
taken_of (failed k) = failed k

-- A step is answered so, and reading stands so behind it; or there was no memory, and reading has failed.
abbrev pub TakesStep : Result Position Fault → Result Progress FrameFault → Standing → Type 0
TakesStep w (Err NoMemory) u = u ≡ failed NoMemory
TakesStep w (Err (Rejected k)) u = (w ≡ Err k) × (u ≡ failed (Rejected k))
TakesStep w (Ok g) u = (progress_of w ≡ Ok g) × (u ≡ standing_of w)

-- A token is answered so, and reading stands so behind it. Once failed, each token is answered with that fault.
abbrev pub Takes : Standing → Token → Result Progress FrameFault → Standing → Type 0
Takes (reads p) t r u = TakesStep (message_step p t) r u
Takes (failed k) t r u = (r ≡ Err k) × (u ≡ failed k)

-- ---- in memory

abbrev pub stage_of : Stage → StageOf
stage_of BeforeProlog = before_prolog
stage_of BehindMark = behind_mark
stage_of BehindDeclaration = behind_declaration

abbrev pub standing_in : Place → Inside → Standing
standing_in (Before g) s = reads (before_message (stage_of g))
standing_in InMessage s = reads (inside (state_of s))
standing_in (Failed k) s = failed k

-- still in front of the message, or at its beginning
abbrev pub position_after : Result (Option Stage) Fault → Result Position Fault
position_after (Ok (Some g)) = Ok (before_message (stage_of g))
position_after (Ok None) = Ok (inside (opening Envelope mos_name))
position_after (Err k) = Err k
