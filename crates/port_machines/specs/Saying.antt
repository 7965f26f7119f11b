-- What the ports say to the answers of the server's calls.
use Rattle.std.specs.Prelude.{◌≡◌, List, map, Bool, true, false, Option, Some, None, Result, Ok, Err}
use Rattle.mos_edits.specs.Texts.{Text}
use Rattle.mos_edits.specs.Orders.{Order}
use Rattle.mos_edits.specs.Entries.{Entry, order_now}
use Rattle.mos_machines.specs.Messages.{Status, status_text}
use Rattle.mos_machines.specs.Values.{ack}
use Rattle.machine_answers.specs.declared.answers.Step.{Step}
use Rattle.machine_answers.specs.declared.answers.Step.TheVariants as steps
use Rattle.machine_answers.specs.declared.answers.Heard.{Heard}
use Rattle.machine_answers.specs.declared.answers.Heard.TheVariants as heard
use Rattle.machine_answers.specs.declared.answers.Sent.{Sent}
use Rattle.machine_answers.specs.declared.answers.Sent.TheVariants as sent
use Rattle.ncs_core.specs.Commands.{fault_status}
use Rattle.ncs_core.specs.declared.fault.CommandFault.{CommandFault}
use Rattle.ncs_core.specs.declared.fault.CommandFault.TheVariants.{StoreFault}
use Rattle.port_events.specs.declared.answer.PortAnswer.{PortAnswer}
use Rattle.port_events.specs.declared.answer.PortAnswer.TheVariants as answers

abbrev pub step_said : Step → PortAnswer
step_said steps.Taken = answers.Taken
step_said steps.Stale = answers.Stale
step_said steps.Unasked = answers.Unasked

abbrev pub heard_said : Heard → PortAnswer
heard_said heard.Stale = answers.Stale
heard_said (heard.Say message) = answers.Say message

abbrev pub sent_said : Sent → PortAnswer
sent_said sent.Stale = answers.Stale
sent_said sent.Nothing = answers.Nothing
sent_said (sent.Out message tag) = answers.Say message

-- the roAck of an order, as an answer
abbrev pub acked : Text → Status → PortAnswer
acked ro status = answers.Say (ack ro (status_text status))

-- a status is told of this order; where there is none nothing is said
abbrev pub IsToldFor : Option Status → Text → PortAnswer → Type 0
IsToldFor (Some status) ro a = a ≡ acked ro status
IsToldFor None ro a = ⊥

-- the texts of both are the same
abbrev pub IsStatusFor : Option Status → Status → Type 0
IsStatusFor (Some status) told = status_text told ≡ status_text status
IsStatusFor None told = ⊥

abbrev pub is_store_fault : CommandFault → Bool
is_store_fault StoreFault = true
is_store_fault fault = false

-- what a command is answered
abbrev pub IsTold : Result (Unit {0}) CommandFault → Text → PortAnswer → Type 0
IsTold (Ok done) ro a = a ≡ acked ro Status.Okay
IsTold (Err fault) ro a = IsToldFor (fault_status fault) ro a

-- the command left the server as it was
abbrev pub IsLeft : Result (Unit {0}) CommandFault → Type 0
IsLeft (Ok done) = ⊥
IsLeft (Err fault) = is_store_fault fault ≡ false
