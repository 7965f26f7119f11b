-- What is said to the answers of the gate.
use Rattle.std.proofs.Common.{◌≡◌, ℕ, Bool, true, false, Option, Some, None, refl, sym, ap, ◌∙◌}
use Rattle.mos_fields.specs.declared.time.MosTime.{MosTime}
use Rattle.mos_machines.specs.Messages.{Message, Step, is_link}
use Rattle.mos_machines.specs.Messages.Step.{Taken, Unasked}
use Rattle.mos_machines.specs.Device.{GateState, gate_got, gate_next}
use Rattle.mos_machines.specs.Steps.{DeviceStep, asked_on, device_step, gate_sent, gate_stepped, unless_stale}
use Rattle.mos_machines.specs.Steps.StepAnswer.{Stepped}
use Rattle.mos_machines.specs.Steps.DeviceEvent.{NextAsk, ReadAnswer}
use Rattle.machine_answers.specs.Answers.{asked_of, step_of}
use Rattle.machine_answers.specs.declared.answers.Sent.{Sent}
use Rattle.machine_answers.specs.declared.answers.Step.{Step as CallStep}
use Rattle.port_replies.specs.Ports.{Asked, ComesTo, said}
use Rattle.port_events.specs.declared.answer.PortAnswer.{PortAnswer}
use Rattle.deck_nodes.specs.Ports.{sent_said, step_said}

sent-is-said : (x : GateState × Option Message) → sent_said (asked_of (gate_sent x).0) ≡ said (gate_sent x).0
sent-is-said (g, None) = refl
sent-is-said (g, Some m) = refl

pub next-comes : (g h : GateState) (c : ℕ) (now : MosTime) (s : Sent) (a : PortAnswer) → s ≡ asked_of (device_step g (NextAsk c now)).0 → h ≡ (device_step g (NextAsk c now)).1 → a ≡ sent_said s
    → ComesTo DeviceStep g (Asked.Steps (NextAsk c now) said) a h
next-comes g h c now s a e n q = ((device_step g (NextAsk c now)).0, (refl, sym n), q ∙ (ap sent_said e ∙ sent-is-said (asked_on (is_link g.link c) g (gate_next now g))))

stepped-unless : (b : Bool) (g h : GateState) (st : Step) → step_said (step_of (unless_stale b g (Stepped st, h)).0) ≡ said (unless_stale b g (Stepped st, h)).0
stepped-unless true g h Taken = refl
stepped-unless true g h Unasked = refl
stepped-unless false g h st = refl

got-said : (b : Bool) (g : GateState) (x : GateState × Step) → step_said (step_of (unless_stale b g (gate_stepped x)).0) ≡ said (unless_stale b g (gate_stepped x)).0
got-said b g x = stepped-unless b g x.0 x.1

pub answered-comes : (g h : GateState) (c : ℕ) (m : Message) (st : CallStep) (a : PortAnswer) → st ≡ step_of (device_step g (ReadAnswer c m)).0 → h ≡ (device_step g (ReadAnswer c m)).1 → a ≡ step_said st
    → ComesTo DeviceStep g (Asked.Steps (ReadAnswer c m) said) a h
answered-comes g h c m st a e n q = ((device_step g (ReadAnswer c m)).0, (refl, sym n), q ∙ (ap step_said e ∙ got-said (is_link g.link c) g (gate_got g m)))
