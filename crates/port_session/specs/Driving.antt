-- What is done on a connection that this end opened, and in which order.
use Rattle.std.specs.Prelude.{◌≡◌, ℕ, ◌+◌, cond, List, [], ◌∷◌, ◌++◌, Option}
use Rattle.mos_codec.specs.Codec.{encoding}
use Rattle.mos_fields.specs.declared.time.MosTime.{MosTime}
use Rattle.mos_io.specs.Paces.{Tells}
use Rattle.mos_io.specs.declared.pacer.Pace.{Pace}
use Rattle.mos_io.specs.declared.pacer.Pace.TheVariants.{Again, Beat as beat, Stop}
use Rattle.mos_values.specs.declared.message.Envelope.{Envelope}
use Rattle.mos_values.specs.declared.message.Message.{Message}
use Rattle.port_events.specs.declared.answer.PortAnswer.{PortAnswer}
use Rattle.port_events.specs.declared.answer.PortAnswer.TheVariants.{Done, Say, Nothing, Taken, Unasked as unasked, Stale as stale}
use Rattle.port_events.specs.declared.event.PortEvent.{PortEvent}
use Rattle.port_events.specs.declared.event.What.TheVariants.{Dialed, Next, Answered, Beat}
use Rattle.port_session.specs.Events.{event}
use Rattle.port_session.specs.Messages.{is_not_now, own}
use Rattle.port_session.specs.declared.end.End.TheVariants.{Stale, Unasked, Stopped}
use Rattle.port_session.specs.declared.port.Port.{Port}
use Rattle.port_session.specs.declared.stage.Stage.{Stage}
use Rattle.port_session.specs.declared.stage.Stage.TheVariants.{Begins, Ready, Writes, Awaits, Hears, Rests, Beats, Over}

-- what is done on such a connection: an event is told and answered, a message is written whole, one is read, a pause is made
pub data Act : Type 0 where
  told : (e : PortEvent) (a : PortAnswer) → Act
  wrote : (m : Envelope) → Act
  read : (m : Envelope) → Act
  paused : (pace : Pace) → Act

-- ---- the stage after an answer

abbrev pub dialed_to : PortAnswer → Stage
dialed_to (Say m) = Writes m
dialed_to stale = Over Stale
dialed_to unasked = Over Unasked
dialed_to Done = Ready
dialed_to Nothing = Ready
dialed_to Taken = Ready

abbrev pub next_to : PortAnswer → Stage
next_to (Say m) = Writes m
next_to Nothing = Rests
next_to stale = Over Stale
next_to unasked = Over Unasked
next_to Done = Ready
next_to Taken = Ready

-- a pause comes where a roAck `NOT NOW` was taken
abbrev pub answered_to : Message → PortAnswer → Stage
answered_to m Taken = cond (is_not_now m) Rests Ready
answered_to m stale = Over Stale
answered_to m unasked = Over Unasked
answered_to m Done = Ready
answered_to m Nothing = Ready
answered_to m (Say other) = Ready

abbrev pub paused_to : Pace → Stage
paused_to Again = Ready
paused_to beat = Beats
paused_to Stop = Over Stopped

abbrev pub beaten_to : PortAnswer → Stage
beaten_to stale = Over Stale
beaten_to unasked = Over Unasked
beaten_to Done = Ready
beaten_to Nothing = Ready
beaten_to Taken = Ready
beaten_to (Say m) = Ready

-- ---- the order of what is done

-- What may be done at a stage, and the stage then. `t` is the time, where it is observable; `i` is the number of the
-- last message that was written.
abbrev pub Moves : Port → Option MosTime → Stage → ℕ → Act → Stage → ℕ → Type 0
Moves p t Begins i (Act.told e a) s j = ((time : MosTime) × Tells t time × (e ≡ event p (Dialed time))) × (s ≡ dialed_to a) × (j ≡ i)
Moves p t Ready i (Act.told e a) s j = ((time : MosTime) × Tells t time × (e ≡ event p (Next time))) × (s ≡ next_to a) × (j ≡ i)
Moves p t (Writes m) i (Act.wrote w) s j = (w ≡ own p (i + 1) m) × (s ≡ Awaits) × (j ≡ i + 1)
Moves p t Awaits i (Act.read m) s j = (s ≡ Hears m) × (j ≡ i)
Moves p t (Hears m) i (Act.told e a) s j = (e ≡ event p (Answered m.message)) × (s ≡ answered_to m.message a) × (j ≡ i)
Moves p t Rests i (Act.paused pace) s j = (s ≡ paused_to pace) × (j ≡ i)
Moves p t Beats i (Act.told e a) s j = (e ≡ event p Beat) × (s ≡ beaten_to a) × (j ≡ i)
Moves p t s i x s' j = ⊥

-- these things were done, in this order
abbrev pub Drives : Port → Option MosTime → Stage → ℕ → List Act → Stage → ℕ → Type 0
Drives p t s i [] s' i' = (s' ≡ s) × (i' ≡ i)
Drives p t s i (x ∷ xs) s' i' = (mid : Stage) × (j : ℕ) × Moves p t s i x mid j × Drives p t mid j xs s' i'

-- ---- what of them is seen elsewhere

abbrev pub calls_of : List Act → List (PortEvent × PortAnswer)
calls_of [] = []
calls_of (Act.told e a ∷ xs) = (e, a) ∷ calls_of xs
calls_of (Act.wrote m ∷ xs) = calls_of xs
calls_of (Act.read m ∷ xs) = calls_of xs
calls_of (Act.paused pace ∷ xs) = calls_of xs

abbrev pub bytes_of : List Act → List ℕ
bytes_of [] = []
bytes_of (Act.told e a ∷ xs) = bytes_of xs
bytes_of (Act.wrote m ∷ xs) = encoding m ++ bytes_of xs
bytes_of (Act.read m ∷ xs) = bytes_of xs
bytes_of (Act.paused pace ∷ xs) = bytes_of xs

abbrev pub read_of : List Act → List Envelope
read_of [] = []
read_of (Act.told e a ∷ xs) = read_of xs
read_of (Act.wrote m ∷ xs) = read_of xs
read_of (Act.read m ∷ xs) = m ∷ read_of xs
read_of (Act.paused pace ∷ xs) = read_of xs

abbrev pub paces_of : List Act → List Pace
paces_of [] = []
paces_of (Act.told e a ∷ xs) = paces_of xs
paces_of (Act.wrote m ∷ xs) = paces_of xs
paces_of (Act.read m ∷ xs) = paces_of xs
paces_of (Act.paused pace ∷ xs) = pace ∷ paces_of xs
