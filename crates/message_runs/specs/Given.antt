-- What a run of messages comes to.
use Rattle.std.specs.Prelude.{◌≡◌, ℕ, ◌≤◌, Bool, List, [], ◌∷◌, ◌++◌, length, Option, Result, Ok, Err, ◌⊎◌}
use Rattle.mos_fields.specs.Characters.{units_in}
use Rattle.mos_codec.specs.Codec.{encoding}
use Rattle.mos_io.specs.Bytes.{Appends, AppendsFront}
use Rattle.mos_io.specs.Counts.{Rose}
use Rattle.mos_values.specs.declared.message.Envelope.{Envelope}
use Rattle.port_session.specs.Reading.{Halts, InletReads}
use Rattle.port_session.specs.declared.end.End.{End}
use Rattle.port_session.specs.declared.inlet.Inlet.{Inlet}
use Rattle.edit_runs.specs.declared.halt.Halt.{Halt}
use Rattle.edit_runs.specs.declared.halt.Halt.TheVariants as whys
use Rattle.edit_runs.specs.Runs.{AppendsSome, HasGiven, IsHungUp}
use Rattle.message_runs.specs.Exchanges.{Exchange, answers_of, are_good, is_good, messages_of, sent_of, told_of}
use Rattle.message_runs.specs.MessageEnds.{ended_by}
use Rattle.message_runs.specs.declared.message_end.MessageEnd.{MessageEnd}
use Rattle.message_runs.specs.declared.message_end.MessageEnd.TheVariants.{WriteFault, Unsent, Unheard, Unanswered, NoMemory}

-- What is left of the connection, what was written to it and what was told, and the counts of faults of each.
pub record Sides : Type 0 where
  pub left : Option (List ℕ)
  pub heard : ℕ
  pub sent : Option (List ℕ)
  pub sends : ℕ
  pub shown : Option (List ℕ)
  pub shows : ℕ

abbrev pub sides : Option (List ℕ) → ℕ → Option (List ℕ) → ℕ → Option (List ℕ) → ℕ → Sides
sides l f w g k m = record { left = l; heard = f; sent = w; sends = g; shown = k; shows = m }

-- no count of faults fell
pub record Rises (was now : Sides) : Type 0 where
  pub heard : was.heard ≤ now.heard
  pub sends : was.sends ≤ now.sends
  pub shows : was.shows ≤ now.shows

-- Since the sides were as they `was`, the messages of these exchanges were sent and their answers told, nothing else. The
-- answers are what the connection gave, in this order.
pub record Going (was now : Sides) (exchanges : List Exchange) (inlet : Inlet) : Type 0 where
  pub reads : InletReads was.left was.heard now.left now.heard inlet (answers_of exchanges)
  pub sent : Appends was.sent now.sent (sent_of exchanges)
  pub shown : Appends was.shown now.shown (told_of exchanges)
  pub rises : Rises was now

-- ---- where a run stops at a message

-- A write to the connection failed: at most a front of the message was sent. Nothing was told of it.
pub record IsUnsent (was between now : Sides) (answers : List Envelope) (next : Envelope) : Type 0 where
  pub sent : AppendsFront between.sent now.sent (encoding next)
  pub rose : Rose was.sends now.sends
  pub given : HasGiven was.left was.heard now.left now.heard answers
  pub shown : now.shown ≡ between.shown

-- The message was sent, and the connection gave no answer, for this reason. Nothing was told of it.
pub record IsUnanswered (was between now : Sides) (answers : List Envelope) (next : Envelope) (why : Halt) : Type 0 where
  pub sent : Appends between.sent now.sent (encoding next)
  pub hung_up : IsHungUp was.left was.heard now.left now.heard answers why
  pub shown : now.shown ≡ between.shown

-- The message was sent, and a write of what is told failed: at most a part of one text was told.
pub record IsUntold (was between now : Sides) (answers : List Envelope) (next : Envelope) : Type 0 where
  pub sent : Appends between.sent now.sent (encoding next)
  pub shown : AppendsSome between.shown now.shown
  pub rose : Rose was.shows now.shows
  pub given : HasGiven was.left was.heard now.left now.heard answers

-- Memory ran out: at most a front of the message was sent. Nothing was told of it.
pub record IsStarved (was between now : Sides) (answers : List Envelope) (next : Envelope) : Type 0 where
  pub sent : AppendsFront between.sent now.sent (encoding next)
  pub given : HasGiven was.left was.heard now.left now.heard answers
  pub shown : now.shown ≡ between.shown

-- Why a run stops at the next message, which had these answers before, and what was done about that message.
abbrev pub Stops : Sides → Sides → Sides → List Envelope → Envelope → MessageEnd → Type 0
Stops was between now answers next Unsent = IsUnsent was between now answers next
Stops was between now answers next Unheard = IsUnanswered was between now answers next whys.Unheard
Stops was between now answers next Unanswered = IsUnanswered was between now answers next whys.Unanswered
Stops was between now answers next WriteFault = IsUntold was between now answers next
Stops was between now answers next NoMemory = IsStarved was between now answers next
Stops was between now answers next end = ⊥

-- a message was sent, and its answer was told; `good` is whether it is the one that was wanted
pub record IsAnswered (was now : Sides) (exchanges : List Exchange) (next : Envelope) (inlet : Inlet) (good : Bool) : Type 0 where
  pub answer : Envelope
  pub good_is : good ≡ is_good (record { sent = next; answer = answer })
  pub going : Going was now (exchanges ++ (record { sent = next; answer = answer }) ∷ []) inlet

-- what giving the next message comes to, behind these exchanges
abbrev pub Gives : Sides → Sides → Sides → List Exchange → Envelope → Inlet → Result Bool MessageEnd → Type 0
Gives was between now exchanges next inlet (Ok good) = IsAnswered was now exchanges next inlet good
Gives was between now exchanges next inlet (Err end) = Stops was between now (answers_of exchanges) next end

-- ---- the whole

-- Since the stream had `l` left, and had counted `f` faults, it gave the messages of these exchanges, in this order, and each was
-- given on. `good` is whether each had the answer that it wanted.
pub record Giving (l : Option (List ℕ)) (f : ℕ) (l' : Option (List ℕ)) (f' : ℕ) (was now : Sides) (good : Bool) (stream inlet : Inlet) : Type 0 where
  pub exchanges : List Exchange
  pub good_is : good ≡ are_good exchanges
  pub reads : InletReads l f l' f' stream (messages_of exchanges)
  pub going : Going was now exchanges inlet

-- The stream gives no more messages than those of these exchanges. Each was sent, was answered, and its answer was told, nothing
-- else. Why the stream gives no more says how the run ends, and where the stream is at its end, whether each message had the
-- answer that it wanted. Where it ends inside a message, the place is the number of the whole code units that it gave.
pub record IsOver (l : Option (List ℕ)) (f : ℕ) (l' : Option (List ℕ)) (f' : ℕ) (was now : Sides) (result : MessageEnd) : Type 0 where
  pub exchanges : List Exchange
  pub budget : ℕ
  pub end : End
  pub halts : Halts l f l' f' budget (messages_of exchanges) end
  pub given : HasGiven was.left was.heard now.left now.heard (answers_of exchanges)
  pub sent : Appends was.sent now.sent (sent_of exchanges)
  pub shown : Appends was.shown now.shown (told_of exchanges)
  pub result_is : result ≡ ended_by (are_good exchanges) (length (units_in halts.read)) end

-- The stream gave the messages of these exchanges, and the next one. The first were sent and answered, and their answers told; the
-- run stopped at the next one.
pub record IsStopped (l : Option (List ℕ)) (f : ℕ) (l' : Option (List ℕ)) (f' : ℕ) (was now : Sides) (result : MessageEnd) : Type 0 where
  pub exchanges : List Exchange
  pub next : Envelope
  pub stream : Inlet
  pub reads : InletReads l f l' f' stream (messages_of exchanges ++ next ∷ [])
  pub between : Sides
  pub sent : Appends was.sent between.sent (sent_of exchanges)
  pub shown : Appends was.shown between.shown (told_of exchanges)
  pub why : Stops was between now (answers_of exchanges) next result

-- How a run ends.
abbrev pub Ends : Option (List ℕ) → ℕ → Option (List ℕ) → ℕ → Sides → Sides → MessageEnd → Type 0
Ends l f l' f' was now result = IsOver l f l' f' was now result ⊎ IsStopped l f l' f' was now result

-- what giving a message of the stream comes to
abbrev pub Given : Option (List ℕ) → ℕ → Option (List ℕ) → ℕ → Sides → Sides → Bool → Inlet → Inlet → Result (Unit {0}) MessageEnd → Type 0
Given l f l' f' was now good stream inlet (Ok done) = Giving l f l' f' was now good stream inlet
Given l f l' f' was now good stream inlet (Err result) = IsStopped l f l' f' was now result

-- what one step comes to
abbrev pub Turned : Option (List ℕ) → ℕ → Option (List ℕ) → ℕ → Sides → Sides → Bool → Inlet → Inlet → Result (Unit {0}) MessageEnd → Type 0
Turned l f l' f' was now good stream inlet (Ok done) = Giving l f l' f' was now good stream inlet
Turned l f l' f' was now good stream inlet (Err result) = Ends l f l' f' was now result
