-- An editor's command, and what it leaves.
use Rattle.std.proofs.Common.{◌≡◌, Option, Some, None, Result, Ok, Err, IfOk, ap, ◌∙◌}
use Rattle.mos_edits.specs.Texts.{Text}
use Rattle.mos_edits.specs.KeyedLists.{ActFault}
use Rattle.mos_edits.specs.Entries.{Entry}
use Rattle.mos_machines.specs.Messages.{Status}
use Rattle.mos_machines.specs.Steps.{ServerEvent, StepAnswer}
use Rattle.ncs_core.specs.Commands.{IsCommandStep, LeavesAfter}
use Rattle.ncs_core.specs.State.{NcsTables, devices_of, ncs_of}
use Rattle.ncs_core.specs.declared.fault.CommandFault.{CommandFault}
use Rattle.ncs_core.specs.declared.fault.CommandFault.TheVariants.{Stopped, Missing, AlreadyThere, Full, StoreFault, NoMemory}
use Rattle.port_replies.specs.Ports.{Asked, told}
use Rattle.mos_machines.specs.Values.{ack}
use Rattle.port_events.specs.declared.answer.PortAnswer.{PortAnswer}
use Rattle.port_events.specs.declared.answer.PortAnswer.TheVariants as answers
use Rattle.port_machines.specs.Saying.{IsLeft, IsStatusFor, IsTold, IsToldFor, acked}
use Rattle.port_machines.specs.Steps.{IsAnswered, IsServerRefusal}

-- it was taken, or refused, and is answered so
pub command-comes : {K : Type 0} (n m : NcsTables K) (e : Entry) (r : Result (Unit {0}) CommandFault) (a : PortAnswer) → IsCommandStep (ncs_of n) e r (ncs_of m) → LeavesAfter (ncs_of n) (ncs_of m) n.kept m.kept e r → devices_of m ≡ devices_of n → IsTold r e.ro a
    → IsAnswered n (Asked.Steps (ServerEvent.Command e) (told e.ro)) a m
command-comes n m e (Ok done) a s l d q = record { comes = (StepAnswer.Told Status.Okay, record { step = s; kept = l; devices = d }, q) }
command-comes n m e (Err Stopped) a s l d q = record { comes = (StepAnswer.Told Status.Stopped, record { step = s; kept = l.1; devices = d }, q) }
command-comes n m e (Err (Missing id)) a s l d q = record { comes = (StepAnswer.Told (Status.Faulty (ActFault.Missing id)), record { step = s; kept = l.1; devices = d }, q) }
command-comes n m e (Err (AlreadyThere id)) a s l d q = record { comes = (StepAnswer.Told (Status.Faulty (ActFault.AlreadyThere id)), record { step = s; kept = l.1; devices = d }, q) }
command-comes n m e (Err (Full units)) a s l d q = record { comes = (StepAnswer.Told (Status.Full units), record { step = s; kept = l.1; devices = d }, q) }
command-comes n m e (Err StoreFault) a s l d q = record { comes = (StepAnswer.Told Status.StoreFault, record { step = s; kept = l.1; devices = d }, q) }
command-comes n m e (Err NoMemory) a s l d q = absurd q

-- a command that isn't answered for want of memory left the server
pub command-leaves : {K : Type 0} (n m : NcsTables K) (e : Entry) (r : Result (Unit {0}) CommandFault) → IsLeft r → LeavesAfter (ncs_of n) (ncs_of m) n.kept m.kept e r → devices_of m ≡ devices_of n → IsServerRefusal n m
command-leaves n m e (Ok done) q h d = absurd q
command-leaves n m e (Err StoreFault) q h d = absurd (cc)
command-leaves n m e (Err Stopped) q h d = record { state = h.0; kept = h.1; devices = d }
command-leaves n m e (Err (Missing id)) q h d = record { state = h.0; kept = h.1; devices = d }
command-leaves n m e (Err (AlreadyThere id)) q h d = record { state = h.0; kept = h.1; devices = d }
command-leaves n m e (Err (Full units)) q h d = record { state = h.0; kept = h.1; devices = d }
command-leaves n m e (Err NoMemory) q h d = record { state = h.0; kept = h.1; devices = d }

-- what is told of a command that wasn't taken
pub tells-fault : {X : Type 0} (s : Option Status) (told : Status) (ro : Text) (b : Result PortAnswer X) → IsStatusFor s told → IfOk b (λ a. a ≡ acked ro told) → IfOk b (λ a. IsToldFor s ro a)
tells-fault (Some st) told ro (Ok a) h q = q ∙ ap (λ (t : Text). answers.Say (ack ro t)) h
tells-fault None told ro (Ok a) h q = absurd h
tells-fault s told ro (Err x) h q = tt
