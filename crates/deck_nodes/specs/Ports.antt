-- The gateway's port to the server while it has decks, and what is said there to the answers of the gate's calls.
use Rattle.std.specs.Prelude.{ℕ}
use Rattle.mos_edits.specs.Texts.{Text}
use Rattle.mos_machines.specs.Device.{Decks}
use Rattle.mos_machines.specs.Messages.{Status, status_text}
use Rattle.mos_machines.specs.Steps.{DeviceEvent}
use Rattle.mos_machines.specs.Values.{ack, seen}
use Rattle.machine_answers.specs.declared.answers.Step.{Step}
use Rattle.machine_answers.specs.declared.answers.Step.TheVariants as steps
use Rattle.machine_answers.specs.declared.answers.Heard.{Heard}
use Rattle.machine_answers.specs.declared.answers.Heard.TheVariants as heard
use Rattle.machine_answers.specs.declared.answers.Sent.{Sent}
use Rattle.machine_answers.specs.declared.answers.Sent.TheVariants as sent
use Rattle.port_replies.specs.Ports.{Asked, gate_upper, said}
use Rattle.port_events.specs.declared.event.What.{What}
use Rattle.port_events.specs.declared.event.What.TheVariants as whats
use Rattle.port_events.specs.declared.answer.PortAnswer.{PortAnswer}
use Rattle.port_events.specs.declared.answer.PortAnswer.TheVariants as answers

-- Of connection `c`, while the decks stand so: only a message that is read is told of them.
abbrev pub upper_with : Decks → ℕ → What → Asked DeviceEvent
upper_with decks c (whats.Heard m) = Asked.Steps (DeviceEvent.ReadUpper c (seen m) decks) said
upper_with decks c what = gate_upper c what

-- the roAck of an order, as an answer
abbrev pub acked : Text → Status → PortAnswer
acked ro status = answers.Say (ack ro (status_text status))

-- ---- what is said

abbrev pub step_said : Step → PortAnswer
step_said steps.Taken = answers.Taken
step_said steps.Stale = answers.Stale
step_said steps.Unasked = answers.Unasked

abbrev pub heard_said : Heard → PortAnswer
heard_said heard.Stale = answers.Stale
heard_said (heard.Say message) = answers.Say message

abbrev pub sent_said : Sent → PortAnswer
sent_said sent.Stale = answers.Stale
sent_said sent.Nothing = answers.Nothing
sent_said (sent.Out message tag) = answers.Say message
