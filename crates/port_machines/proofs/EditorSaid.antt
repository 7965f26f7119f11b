-- What the editors' port of the server comes to.
use Rattle.std.proofs.Common.{◌≡◌, Some, None, Result, Ok, Err, IfOk, OnErr, sym, subst}
use Rattle.mos_edits.specs.Entries.{Entry, entry_of}
use Rattle.mos_machines.specs.Steps.{ServerEvent}
use Rattle.mos_machines.specs.Values.{seen}
use Rattle.mos_edits.specs.declared.edit.Edit.{Edit}
use Rattle.mos_values.specs.declared.message.Message.{Message}
use Rattle.ncs_core.specs.Commands.{IsCommandStep, LeavesAfter}
use Rattle.ncs_core.specs.State.{NcsTables, devices_of, ncs_of}
use Rattle.ncs_core.specs.declared.fault.CommandFault.{CommandFault}
use Rattle.port_replies.specs.Ports.{Asked, editor_heard, told}
use Rattle.port_events.specs.declared.answer.PortAnswer.{PortAnswer}
use Rattle.port_events.specs.declared.answer.PortAnswer.TheVariants as answers
use Rattle.mos_edits.specs.Carried.{edit_in}
use Rattle.port_machines.specs.Editing.{reply_to}
use Rattle.port_machines.specs.Saying.{IsLeft, IsTold}
use Rattle.port_machines.specs.Steps.{IsAnswered, IsServerRefusal}
use Rattle.port_machines.proofs.Commanded.{command-comes, command-leaves}
use Rattle.port_machines.proofs.MessageEdits.{edit-asked, other-asked}
use Rattle.port_machines.proofs.ServerSaid.{says}

-- a command that is answered
pub answers-command : {K X : Type 0} (n m : NcsTables K) (e : Entry) (r : Result (Unit {0}) CommandFault) (b : Result PortAnswer X) → IsCommandStep (ncs_of n) e r (ncs_of m) → LeavesAfter (ncs_of n) (ncs_of m) n.kept m.kept e r → devices_of m ≡ devices_of n → IfOk b (λ a. IsTold r e.ro a)
    → IfOk b (λ a. IsAnswered n (Asked.Steps (ServerEvent.Command e) (told e.ro)) a m)
answers-command n m e r (Ok a) s l d q = command-comes n m e r a s l d q
answers-command n m e r (Err x) s l d q = tt

-- and one that isn't
pub leaves-command : {K X : Type 0} (n m : NcsTables K) (e : Entry) (r : Result (Unit {0}) CommandFault) (b : Result PortAnswer X) → LeavesAfter (ncs_of n) (ncs_of m) n.kept m.kept e r → devices_of m ≡ devices_of n → OnErr b (IsLeft r) → OnErr b (IsServerRefusal n m)
leaves-command n m e r (Ok a) l d q = tt
leaves-command n m e r (Err x) l d q = command-leaves n m e r q l d

-- a message with an edit
pub hears-edit : {K X : Type 0} (n m : NcsTables K) (lent x : Message) (e : Edit) (b : Result PortAnswer X) → lent ≡ x → edit_in lent ≡ Some e → IfOk b (λ a. IsAnswered n (Asked.Steps (ServerEvent.Command (entry_of e)) (told (entry_of e).ro)) a m)
    → IfOk b (λ a. IsAnswered n (editor_heard n.server.journal (seen x)) a m)
hears-edit n m lent x e b i h k =
    subst (λ (y : Message). IfOk b (λ a. IsAnswered n (editor_heard n.server.journal (seen y)) a m)) i
    (subst (λ (z : Asked ServerEvent). IfOk b (λ a. IsAnswered n z a m)) (sym (edit-asked n.server.journal lent e h)) k)

replies : {K : Type 0} (n : NcsTables K) (lent x : Message) (a : PortAnswer) → lent ≡ x → edit_in lent ≡ None → a ≡ answers.Say (reply_to n.server.journal lent) → IsAnswered n (editor_heard n.server.journal (seen x)) a n
replies n lent x a i h k =
    subst (λ (y : Message). IsAnswered n (editor_heard n.server.journal (seen y)) a n) i
    (subst (λ (z : Asked ServerEvent). IsAnswered n z a n) (sym (other-asked n.server.journal lent h)) (says n (answers.Say (reply_to n.server.journal lent)) a k))

-- a message without one
pub hears-other : {K X : Type 0} (n : NcsTables K) (lent x : Message) (b : Result PortAnswer X) → lent ≡ x → edit_in lent ≡ None → IfOk b (λ a. a ≡ answers.Say (reply_to n.server.journal lent))
    → IfOk b (λ a. IsAnswered n (editor_heard n.server.journal (seen x)) a n)
hears-other n lent x (Ok a) i h k = replies n lent x a i h k
hears-other n lent x (Err y) i h k = tt
