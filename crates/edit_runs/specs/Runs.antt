-- What a run comes to.
use Rattle.std.specs.Prelude.{◌≡◌, ℕ, ◌≤◌, Bool, true, false, List, [], ◌∷◌, ◌++◌, map, take, Option, None, Result, Ok, Err, ◌⊎◌}
use Rattle.mos_codec.specs.Decoding.{HasTaken}
use Rattle.mos_io.specs.Bytes.{Appends, AppendsFront, IsAtEnd}
use Rattle.mos_io.specs.Counts.{Rose}
use Rattle.mos_values.specs.declared.message.Envelope.{Envelope}
use Rattle.port_session.specs.Reading.{Halted, Halts, InletReads}
use Rattle.port_session.specs.declared.end.End.{End}
use Rattle.port_session.specs.declared.end.End.TheVariants as ends
use Rattle.port_session.specs.declared.inlet.Inlet.{Inlet}
use Rattle.line_reader.specs.Lines.{Gives, HasLast, HasNoEnd, Stands}
use Rattle.line_reader.specs.declared.reader.LineReader.{LineReader}
use Rattle.edit_lines.specs.Answers.{answer_text, is_wanted}
use Rattle.edit_lines.specs.Asked.{asked_of}
use Rattle.edit_lines.specs.Requests.{IsSent}
use Rattle.edit_lines.specs.declared.asked.Asked.{Asked}
use Rattle.edit_lines.specs.declared.request.Names.{Names}
use Rattle.edit_runs.specs.Said.{IsSaid, Said, note_text, refused_counts}
use Rattle.edit_runs.specs.Statuses.{lost_by}
use Rattle.edit_runs.specs.declared.counts.Counts.{Counts}
use Rattle.edit_runs.specs.declared.halt.Halt.{Halt}
use Rattle.edit_runs.specs.declared.halt.Halt.TheVariants as whys
use Rattle.edit_runs.specs.declared.status.EditStatus.{EditStatus}
use Rattle.edit_runs.specs.declared.status.EditStatus.TheVariants as statuses

-- ---- single calls

-- what writing a text that is told comes to
abbrev pub Wrote : Option (List ℕ) → Option (List ℕ) → ℕ → ℕ → List ℕ → Result (Unit {0}) Halt → Type 0
Wrote before after f f' text (Ok done) = Appends before after text
Wrote before after f f' text (Err whys.WriteFault) = AppendsFront before after text × Rose f f'
Wrote before after f f' text (Err whys.NoMemory) = after ≡ before
Wrote before after f f' text (Err halt) = ⊥

-- what writing a message to the connection comes to
abbrev pub Sent : Option (List ℕ) → Option (List ℕ) → ℕ → ℕ → List ℕ → Result (Unit {0}) Halt → Type 0
Sent before after f f' bytes (Ok done) = Appends before after bytes
Sent before after f f' bytes (Err whys.Unsent) = AppendsFront before after bytes × Rose f f'
Sent before after f f' bytes (Err whys.NoMemory) = after ≡ before
Sent before after f f' bytes (Err halt) = ⊥

-- what waiting for the next message of a connection comes to, behind these messages
abbrev pub Heard : Option (List ℕ) → ℕ → Option (List ℕ) → ℕ → Inlet → List Envelope → Result Envelope End → Type 0
Heard l f l' f' inlet given (Ok e) = InletReads l f l' f' inlet (given ++ e ∷ [])
Heard l f l' f' inlet given (Err end) = Halted l f l' f' inlet.budget inlet.count given end

-- an inlet that has read of a connection since something was left of it
abbrev pub IsHearing : Option (List ℕ) → ℕ → Inlet → Type 0
IsHearing l' f' inlet = (l : Option (List ℕ)) × (f : ℕ) × (given : List Envelope) × InletReads l f l' f' inlet given

-- nothing was read by an inlet
pub record IsNewInlet (inlet : Inlet) : Type 0 where
  pub nothing : HasTaken inlet.decoder [] []
  pub rejection : inlet.rejection ≡ None
  pub count : inlet.count ≡ 0

-- what telling a text comes to, of an answer that is the one that was wanted or not
abbrev pub Showed : List ℕ → Bool → Option (List ℕ) → Option (List ℕ) → ℕ → ℕ → Result Bool Halt → Type 0
Showed text good before after f f' (Ok b) = (b ≡ good) × Appends before after text
Showed text good before after f f' (Err whys.WriteFault) = AppendsFront before after text × Rose f f'
Showed text good before after f f' (Err whys.NoMemory) = after ≡ before
Showed text good before after f f' (Err halt) = ⊥

-- an answer came, and was told
pub record IsTold (l : Option (List ℕ)) (f : ℕ) (l' : Option (List ℕ)) (f' : ℕ) (inlet : Inlet) (given : List Envelope) (line : List ℕ) (sent : Envelope) (before after : Option (List ℕ)) (good : Bool) : Type 0 where
  pub answer : Envelope
  pub reads : InletReads l f l' f' inlet (given ++ answer ∷ [])
  pub good_is : good ≡ is_wanted sent answer
  pub shows : Appends before after (answer_text sent line answer)

-- a part of some text was written
abbrev pub AppendsSome : Option (List ℕ) → Option (List ℕ) → Type 0
AppendsSome before after = (text : List ℕ) × AppendsFront before after text

-- the connection gave these messages, one after another, and perhaps more behind them
pub record HasGiven (l : Option (List ℕ)) (f : ℕ) (l' : Option (List ℕ)) (f' : ℕ) (given : List Envelope) : Type 0 where
  pub more : List Envelope
  pub budget : ℕ
  pub halts : Halts l f l' f' budget (given ++ more) ends.NoMemory

-- No answer came: these messages are all that the connection gave. Behind them it ended, for a reason that shows in this one; that
-- memory ran out is another.
pub record IsHungUp (l : Option (List ℕ)) (f : ℕ) (l' : Option (List ℕ)) (f' : ℕ) (given : List Envelope) (why : Halt) : Type 0 where
  pub budget : ℕ
  pub end : End
  pub halts : Halts l f l' f' budget given end
  pub lost : lost_by end ≡ why

-- what waiting for the answer to a message and telling it comes to, behind these messages
abbrev pub HearsTold : Option (List ℕ) → ℕ → Option (List ℕ) → ℕ → Inlet → List Envelope → List ℕ → Envelope → Option (List ℕ) → Option (List ℕ) → ℕ → ℕ → Result Bool Halt → Type 0
HearsTold l f l' f' inlet given line sent before after n n' (Ok good) = IsTold l f l' f' inlet given line sent before after good
HearsTold l f l' f' inlet given line sent before after n n' (Err whys.Unheard) = IsHungUp l f l' f' given whys.Unheard × (after ≡ before)
HearsTold l f l' f' inlet given line sent before after n n' (Err whys.Unanswered) = IsHungUp l f l' f' given whys.Unanswered × (after ≡ before)
HearsTold l f l' f' inlet given line sent before after n n' (Err whys.WriteFault) = HasGiven l f l' f' given × (AppendsSome before after × Rose n n')
HearsTold l f l' f' inlet given line sent before after n n' (Err whys.NoMemory) = HasGiven l f l' f' given × (after ≡ before)
HearsTold l f l' f' inlet given line sent before after n n' (Err halt) = ⊥

-- what noting a line that is no edit comes to
abbrev pub Refuses : List ℕ → Counts → Counts → Option (List ℕ) → Option (List ℕ) → ℕ → ℕ → Result (Unit {0}) EditStatus → Type 0
Refuses line was now before after f f' (Ok done) = (now ≡ refused_counts was) × Appends before after (note_text was.place line)
Refuses line was now before after f f' (Err statuses.WriteFault) = AppendsFront before after (note_text was.place line) × Rose f f'
Refuses line was now before after f f' (Err statuses.NoMemory) = after ≡ before
Refuses line was now before after f f' (Err status) = ⊥

-- ---- the whole

-- What is left of the connection, what was written to it, what was told and what was noted, and the counts of faults of each.
pub record Sides : Type 0 where
  pub left : Option (List ℕ)
  pub heard : ℕ
  pub sent : Option (List ℕ)
  pub sends : ℕ
  pub shown : Option (List ℕ)
  pub shows : ℕ
  pub noted : Option (List ℕ)
  pub notes : ℕ

abbrev pub sides : Option (List ℕ) → ℕ → Option (List ℕ) → ℕ → Option (List ℕ) → ℕ → Option (List ℕ) → ℕ → Sides
sides l f w g k m n h = record { left = l; heard = f; sent = w; sends = g; shown = k; shows = m; noted = n; notes = h }

-- no count of faults fell
pub record Rises (was now : Sides) : Type 0 where
  pub heard : was.heard ≤ now.heard
  pub sends : was.sends ≤ now.sends
  pub shows : was.shows ≤ now.shows
  pub notes : was.notes ≤ now.notes

-- Since the sides were as they `was`, all this was said of these lines: the answers came from the connection in this order, and
-- what was sent, shown and noted was written, nothing else.
pub record Going (names : Names) (lines : List (List ℕ)) (was now : Sides) (counts : Counts) (inlet : Inlet) : Type 0 where
  pub said : Said
  pub is_said : IsSaid names lines said
  pub counts_are : counts ≡ said.counts
  pub reads : InletReads was.left was.heard now.left now.heard inlet said.answers
  pub sent : Appends was.sent now.sent said.sent
  pub shown : Appends was.shown now.shown said.shown
  pub noted : Appends was.noted now.noted said.noted
  pub rises : Rises was now

-- Why a run stops that had these answers, and at the line of which number: a write to the connection failed; a read of it failed, or
-- it ended, before the answer to the line's message came; a text that is told couldn't be written; or memory ran out.
abbrev pub Stops : Sides → Sides → List Envelope → ℕ → EditStatus → Type 0
Stops was now answers place (statuses.Unsent line) = (line ≡ place) × (Rose was.sends now.sends × HasGiven was.left was.heard now.left now.heard answers)
Stops was now answers place (statuses.Unheard line) = (line ≡ place) × IsHungUp was.left was.heard now.left now.heard answers whys.Unheard
Stops was now answers place (statuses.Unanswered line) = (line ≡ place) × IsHungUp was.left was.heard now.left now.heard answers whys.Unanswered
Stops was now answers place statuses.WriteFault = (Rose was.shows now.shows ⊎ Rose was.notes now.notes) × HasGiven was.left was.heard now.left now.heard answers
Stops was now answers place statuses.NoMemory = HasGiven was.left was.heard now.left now.heard answers
Stops was now answers place status = ⊥

-- the message of a line that asks this, where the next message has this number; or nothing
abbrev pub IsMessage : Names → ℕ → Asked → List ℕ → Type 0
IsMessage names n asked bytes = (bytes ≡ []) ⊎ ((sent : Envelope) × IsSent names n asked bytes sent)

-- All was said of these lines. Behind that, at most a front of the message of the next line was sent, and a part of one more text was
-- told, and one more noted; and the run stopped with this status.
pub record IsStopped (names : Names) (lines : List (List ℕ)) (line : List ℕ) (was now : Sides) (status : EditStatus) : Type 0 where
  pub said : Said
  pub is_said : IsSaid names lines said
  pub message : List ℕ
  pub is_message : IsMessage names said.counts.number (asked_of line) message
  pub between : Sides
  pub sent : Appends was.sent between.sent said.sent
  pub shown : Appends was.shown between.shown said.shown
  pub noted : Appends was.noted between.noted said.noted
  pub sends : AppendsFront between.sent now.sent message
  pub shows : AppendsSome between.shown now.shown
  pub notes : AppendsSome between.noted now.noted
  pub why : Stops was now said.answers said.counts.place status

-- what is done about a line comes to this, behind all that was said of the lines before it
abbrev pub Handled : Names → List (List ℕ) → List ℕ → Sides → Sides → Counts → Inlet → Result (Unit {0}) EditStatus → Type 0
Handled names lines line was now counts inlet (Ok done) = Going names (lines ++ line ∷ []) was now counts inlet
Handled names lines line was now counts inlet (Err status) = IsStopped names lines line was now status

-- ---- the lines of the input

-- what counts of lines: the front of each, which shows whether it is too long
abbrev pub fronts : ℕ → List (List ℕ) → List (List ℕ)
fronts most lines = map (take most) lines

-- Since so much was left of the input, a reader has come to the end of these lines, and all was said of them.
pub record Talking (names : Names) (l l' : Option (List ℕ)) (reader : LineReader) (was now : Sides) (counts : Counts) (inlet : Inlet) : Type 0 where
  pub lines : List (List ℕ)
  pub stands : Stands l l' reader lines
  pub going : Going names (fronts reader.most lines) was now counts inlet

-- The input is at its end, and all was said of its lines, and of what stands behind the last line feed.
pub record IsOver (names : Names) (l l' : Option (List ℕ)) (reader : LineReader) (was now : Sides) (counts : Counts) (inlet : Inlet) : Type 0 where
  pub lines : List (List ℕ)
  pub input : HasLast l l' reader lines
  pub going : Going names (fronts reader.most (lines ++ input.current ∷ [])) was now counts inlet

-- a line ends here, by a line feed or by the end of the input
abbrev pub IsLineEnd : Option (List ℕ) → List ℕ → Type 0
IsLineEnd l' [] = IsAtEnd l'
IsLineEnd l' (b ∷ rest) = b ≡ 10

-- the first line of these bytes, of which so many count
pub record IsNext (most : ℕ) (l' : Option (List ℕ)) (bytes line : List ℕ) : Type 0 where
  pub current : List ℕ
  pub rest : List ℕ
  pub is : bytes ≡ current ++ rest
  pub no_end : HasNoEnd current
  pub ended : IsLineEnd l' rest
  pub held : line ≡ take most current

-- The run stopped at the line behind these of the input.
pub record IsBroken (names : Names) (l l' : Option (List ℕ)) (most : ℕ) (was now : Sides) (status : EditStatus) : Type 0 where
  pub lines : List (List ℕ)
  pub line : List ℕ
  pub gives : Gives l l' lines
  pub next : IsNext most l' gives.behind line
  pub stopped : IsStopped names (fronts most lines) line was now status

-- Memory ran out before the line behind these of the input was whole. All was said of these, and nothing of that one.
pub record IsStarved (names : Names) (l l' : Option (List ℕ)) (most : ℕ) (was now : Sides) : Type 0 where
  pub lines : List (List ℕ)
  pub gives : Gives l l' lines
  pub counts : Counts
  pub inlet : Inlet
  pub going : Going names (fronts most lines) was now counts inlet

-- how and why a run goes no further
abbrev pub Breaks : Names → Option (List ℕ) → Option (List ℕ) → ℕ → Sides → Sides → EditStatus → Type 0
Breaks names l l' most was now statuses.NoMemory = IsBroken names l l' most was now statuses.NoMemory ⊎ IsStarved names l l' most was now
Breaks names l l' most was now status = IsBroken names l l' most was now status

-- what is done about a line that is ended comes to this
abbrev pub Taken : Names → Option (List ℕ) → Option (List ℕ) → LineReader → Sides → Sides → Counts → Inlet → Result Bool EditStatus → Type 0
Taken names l l' reader was now counts inlet (Ok true) = Talking names l l' reader was now counts inlet
Taken names l l' reader was now counts inlet (Ok false) = ⊥
Taken names l l' reader was now counts inlet (Err status) = IsBroken names l l' reader.most was now status

-- the same of what stands behind the last line feed
abbrev pub TakenLast : Names → Option (List ℕ) → Option (List ℕ) → LineReader → Sides → Sides → Counts → Inlet → Result Bool EditStatus → Type 0
TakenLast names l l' reader was now counts inlet (Ok true) = ⊥
TakenLast names l l' reader was now counts inlet (Ok false) = IsOver names l l' reader was now counts inlet
TakenLast names l l' reader was now counts inlet (Err status) = IsBroken names l l' reader.most was now status

-- what one step comes to: whether there is more of the input
abbrev pub Turned : Names → Option (List ℕ) → Option (List ℕ) → ℕ → ℕ → LineReader → Sides → Sides → Counts → Inlet → Result Bool EditStatus → Type 0
Turned names l l' f f' reader was now counts inlet (Ok true) = Talking names l l' reader was now counts inlet
Turned names l l' f f' reader was now counts inlet (Ok false) = IsOver names l l' reader was now counts inlet
Turned names l l' f f' reader was now counts inlet (Err statuses.ReadFault) = Rose f f' × Talking names l l' reader was now counts inlet
Turned names l l' f f' reader was now counts inlet (Err status) = Breaks names l l' reader.most was now status

-- ---- the end

-- so many bytes of a line count: one more than a line of an edit may have
abbrev pub line_front : ℕ
line_front = 1001

-- The input was read to its end, and all was said of its lines. `good` is whether each was passed over or had the answer that
-- it wanted.
pub record IsFinished (names : Names) (l l' : Option (List ℕ)) (was now : Sides) (good : Bool) : Type 0 where
  pub reader : LineReader
  pub counts : Counts
  pub inlet : Inlet
  pub over : IsOver names l l' reader was now counts inlet
  pub most : reader.most ≡ line_front
  pub good_is : counts.good ≡ good

-- The input failed. All was said of the lines before that, and nothing of the one that it broke off.
pub record IsCutOff (names : Names) (l l' : Option (List ℕ)) (f f' : ℕ) (was now : Sides) : Type 0 where
  pub reader : LineReader
  pub counts : Counts
  pub inlet : Inlet
  pub rose : Rose f f'
  pub talking : Talking names l l' reader was now counts inlet
  pub most : reader.most ≡ line_front

-- How a run ends, of an input with these counts of faults before and after.
abbrev pub Ends : Names → Option (List ℕ) → Option (List ℕ) → ℕ → ℕ → Sides → Sides → EditStatus → Type 0
Ends names l l' f f' was now statuses.Done = IsFinished names l l' was now true
Ends names l l' f f' was now statuses.Refused = IsFinished names l l' was now false
Ends names l l' f f' was now statuses.ReadFault = IsCutOff names l l' f f' was now
Ends names l l' f f' was now status = Breaks names l l' line_front was now status
