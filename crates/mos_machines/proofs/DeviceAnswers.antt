-- What the device answers to an edit.
use Rattle.std.proofs.Common.{◌≡◌, ℕ, true, Option, refl}
use Rattle.mos_edits.specs.KeyedLists.{ActFault}
use Rattle.mos_edits.specs.KeyedLists.Applied.{Done, Fault}
use Rattle.mos_edits.specs.Orders.{Order, apply}
use Rattle.mos_edits.specs.Entries.{kind, Entry}
use Rattle.mos_edits.specs.Entries.Kind.{IsAction, IsReady}
use Rattle.mos_edits.proofs.Identifiers.{same-self}
use Rattle.mos_machines.specs.Messages.{is_link}
use Rattle.mos_machines.specs.Messages.Status.{Okay, NotInStep, Faulty}
use Rattle.mos_machines.specs.Device.{GateState, Decks, ReadResult, read_result, ready_status}
use Rattle.mos_machines.specs.Device.Phase.{InStep, OutOfStep}
use Rattle.mos_machines.specs.Steps.{ReadsTo}

reads-by : (g : GateState) (c : ℕ) (e : Entry) (decks : Decks) (x : ReadResult) → is_link g.upper c ≡ true → read_result g decks e ≡ x → ReadsTo g c e decks x.status x.held x.phase
reads-by g c e decks x l h = rw (l, h, same-self e.ro) (refl, refl, refl)

pub read-applied : (g : GateState) (c : ℕ) (e : Entry) (decks : Decks) (p : Option Order) → is_link g.upper c ≡ true → g.phase e.ro ≡ InStep → kind e.edit ≡ IsAction → apply e.ro (g.held e.ro) e.edit ≡ Done p → ReadsTo g c e decks Okay p InStep
read-applied g c e decks p l i k a = reads-by g c e decks (record { held = p; phase = InStep; wanted = g.wanted e.ro; knows = true; status = Okay }) l (rw (i, k, a) refl)

pub read-ready : (g : GateState) (c : ℕ) (e : Entry) (decks : Decks) (p : Option Order) → is_link g.upper c ≡ true → g.phase e.ro ≡ InStep → kind e.edit ≡ IsReady → apply e.ro (g.held e.ro) e.edit ≡ Done p → ReadsTo g c e decks (ready_status decks) p InStep
read-ready g c e decks p l i k a = reads-by g c e decks (record { held = p; phase = InStep; wanted = g.wanted e.ro; knows = true; status = ready_status decks }) l (rw (i, k, a) refl)

pub read-action-fault : (g : GateState) (c : ℕ) (e : Entry) (decks : Decks) (f : ActFault) → is_link g.upper c ≡ true → g.phase e.ro ≡ InStep → kind e.edit ≡ IsAction → apply e.ro (g.held e.ro) e.edit ≡ Fault f → ReadsTo g c e decks (Faulty f) (g.held e.ro) OutOfStep
read-action-fault g c e decks f l i k a = reads-by g c e decks (record { held = g.held e.ro; phase = OutOfStep; wanted = true; knows = true; status = Faulty f }) l (rw (i, k, a) refl)

pub read-out : (g : GateState) (c : ℕ) (e : Entry) (decks : Decks) → is_link g.upper c ≡ true → g.phase e.ro ≡ OutOfStep → kind e.edit ≡ IsAction → ReadsTo g c e decks NotInStep (g.held e.ro) OutOfStep
read-out g c e decks l i k = reads-by g c e decks (record { held = g.held e.ro; phase = OutOfStep; wanted = true; knows = true; status = NotInStep }) l (rw (i, k) refl)
