-- Listeners that were lent to doors, and the counts of faults of those who start a thread for each worker.
use Rattle.std.proofs.Common.{◌≡◌, ℕ, ◌≤◌, Option, Some, None, inl, inr, sym, ap, subst, arith}
use Rattle.mos_io.specs.Counts.{Rose}
use Rattle.port_doors.specs.Doors.{Seen, IsShut}
use Rattle.port_doors.specs.Serving.{PortsSeen, ThirdBy, IsThirdShut, ThirdFailed, ThirdRefused, Served, Caused, server_seen, gate_seen}
use Rattle.thread_doors.specs.Listening.{Listening, AllListening, OfEditor, IsHeardOut, CountsRise, CausedByThreads, server_listening, gate_listening}
use Rattle.port_doors.specs.declared.door.DoorEnd.{DoorEnd}
use Rattle.port_doors.specs.declared.door.DoorEnd.TheVariants.{Closed, ListenFault, NoWorker, NoMemory}
use Rattle.thread_doors.specs.declared.listeners.ServerListeners.{ServerListeners}
use Rattle.thread_doors.specs.declared.listeners.GateListeners.{GateListeners}
use Rattle.port_doors.specs.declared.ports.ServerPorts.{ServerPorts}
use Rattle.port_doors.specs.declared.ports.GatePorts.{GatePorts}

-- a count that rose, between two that don't fall
pub rose_twice : (a b c d : ℕ) → a ≤ b → Rose b c → c ≤ d → Rose a d
rose_twice a b c d le (inl lt) more = inl (omega arith)
rose_twice a b c d le (inr last) more = inr (omega arith)

-- ---- what is seen of the listeners at doors

abbrev pub door_listening : Seen → Listening
door_listening s = record { coming = s.coming; faults = s.listen_faults }

abbrev pub third_listening : Option Seen → Option Listening
third_listening None = None
third_listening (Some s) = Some (door_listening s)

abbrev pub ports_listening : PortsSeen → ℕ → AllListening
ports_listening s refused = record { upper = door_listening s.upper; lower = door_listening s.lower; editor = third_listening s.editor; refused = refused }

server_lent : {X Y : Type 0} (coming : X → Option ℕ) (listens : X → ℕ) (took : Y → Option ℕ) (spawns : Y → ℕ) (p : ServerPorts X Y) (l : ServerListeners X)
    → l.upper ≡ p.upper.listener → l.lower ≡ p.lower.listener → l.editor ≡ p.editor.listener
    → server_listening coming listens l ≡ ports_listening (server_seen coming listens took spawns p) l.refused
server_lent coming listens took spawns p l u w e = λ i. record {
  upper = record { coming = coming (u i); faults = listens (u i) };
  lower = record { coming = coming (w i); faults = listens (w i) };
  editor = Some (record { coming = coming (e i); faults = listens (e i) });
  refused = l.refused;
}

gate_lent : {X Y : Type 0} (coming : X → Option ℕ) (listens : X → ℕ) (took : Y → Option ℕ) (spawns : Y → ℕ) (p : GatePorts X Y) (l : GateListeners X)
    → l.upper ≡ p.upper.listener → l.lower ≡ p.lower.listener
    → gate_listening coming listens l ≡ ports_listening (gate_seen coming listens took spawns p) l.refused
gate_lent coming listens took spawns p l u w = λ i. record {
  upper = record { coming = coming (u i); faults = listens (u i) };
  lower = record { coming = coming (w i); faults = listens (w i) };
  editor = None;
  refused = l.refused;
}

-- ---- the causes

heard_out : (a b : Seen) → IsShut a b → IsHeardOut (door_listening a) (door_listening b)
heard_out a b s = ((s.0.links, s.0.fewer), s.1)

third_heard_out : (a b : Option Seen) → IsThirdShut a b → OfEditor IsHeardOut (Unit {0}) (third_listening a) (third_listening b)
third_heard_out None None s = tt
third_heard_out None (Some b) s = absurd s
third_heard_out (Some a) None s = absurd s
third_heard_out (Some a) (Some b) s = heard_out a b s

third_failed : (a b : Option Seen) → ThirdFailed a b → OfEditor (λ x y. Rose x.faults y.faults) ⊥ (third_listening a) (third_listening b)
third_failed None None s = absurd s
third_failed None (Some b) s = absurd s
third_failed (Some a) None s = absurd s
third_failed (Some a) (Some b) s = s

ports_caused : (n : ℕ) (was now : PortsSeen) (r s : ℕ) (end : DoorEnd) → Caused n was now end
    → (Rose was.driver_faults now.driver_faults → Rose r s)
    → (Rose was.upper.spawn_faults now.upper.spawn_faults → Rose r s)
    → (Rose was.lower.spawn_faults now.lower.spawn_faults → Rose r s)
    → (ThirdRefused was.editor now.editor → Rose r s)
    → CausedByThreads (ports_listening was r) (ports_listening now s) end
ports_caused n was now r s Closed x d u l e = (heard_out was.upper now.upper x.0, heard_out was.lower now.lower x.1, third_heard_out was.editor now.editor x.2)
ports_caused n was now r s ListenFault (inl x) d u l e = inl x
ports_caused n was now r s ListenFault (inr (inl x)) d u l e = inr (inl x)
ports_caused n was now r s ListenFault (inr (inr x)) d u l e = inr (inr (third_failed was.editor now.editor x))
ports_caused n was now r s NoWorker (inl x) d u l e = d x
ports_caused n was now r s NoWorker (inr (inl x)) d u l e = u x
ports_caused n was now r s NoWorker (inr (inr (inl x))) d u l e = l x
ports_caused n was now r s NoWorker (inr (inr (inr x))) d u l e = e x
ports_caused n was now r s NoMemory x d u l e = tt

-- ---- counts

same_count : (a b : Seen) → b ≡ a → a.listen_faults ≤ b.listen_faults
same_count a b e = let f : b.listen_faults ≡ a.listen_faults = ap (λ (s : Seen). s.listen_faults) e in omega arith

abbrev ThirdRises : Option Seen → Option Seen → Type 0
ThirdRises a b = OfEditor (λ x y. x.faults ≤ y.faults) (Unit {0}) (third_listening a) (third_listening b)

third_ran : (a b : Option Seen) (end : DoorEnd) → ThirdBy a b end → ThirdRises a b
third_ran None None end by = tt
third_ran None (Some b) end by = absurd by
third_ran (Some a) None end by = absurd by
third_ran (Some a) (Some b) end by = by.listens

third_still : (a : Option Seen) → ThirdRises a a
third_still None = tt
third_still (Some a) = omega arith

ports_rise : (n : ℕ) (was now : PortsSeen) (r s : ℕ) (end : DoorEnd) → Served n was now end → r ≤ s → CountsRise (ports_listening was r) (ports_listening now s)
ports_rise n was now r s end (inl ran) le = let d = ran.0 in record {
  upper = d.upper.listens;
  lower = d.lower.listens;
  editor = third_ran was.editor now.editor d.editor_end d.editor;
  refused = le;
}
ports_rise n was now r s end (inr not) le = record {
  upper = same_count was.upper now.upper not.upper;
  lower = same_count was.lower now.lower not.lower;
  editor = subst (λ (b : Option Seen). ThirdRises was.editor b) (sym not.editor) (third_still was.editor);
  refused = le;
}

-- from a count that begins at 0
from_none : (a b r s : ℕ) → a ≡ 0 → (Rose 0 b → Rose r s) → Rose a b → Rose r s
from_none a b r s e h x = h (subst (λ (k : ℕ). Rose k b) e x)

-- ---- the whole calls, of which each spawner counted from 0

pub server_caused : {X Y : Type 0} (coming : X → Option ℕ) (listens : X → ℕ) (took : Y → Option ℕ) (spawns : Y → ℕ) (n : ℕ) (was now : ServerPorts X Y) (back : ServerListeners X) (r : ℕ) (end : DoorEnd)
    → Caused n (server_seen coming listens took spawns was) (server_seen coming listens took spawns now) end
    → spawns was.upper.spawner ≡ 0 → spawns was.lower.spawner ≡ 0 → spawns was.editor.spawner ≡ 0 → spawns was.drivers ≡ 0
    → (back.upper ≡ now.upper.listener) × (back.lower ≡ now.lower.listener) × (back.editor ≡ now.editor.listener)
    → (Rose 0 (spawns now.upper.spawner) → Rose r back.refused) → (Rose 0 (spawns now.lower.spawner) → Rose r back.refused)
    → (Rose 0 (spawns now.editor.spawner) → Rose r back.refused) → (Rose 0 (spawns now.drivers) → Rose r back.refused)
    → CausedByThreads (ports_listening (server_seen coming listens took spawns was) r) (server_listening coming listens back) end
server_caused coming listens took spawns n was now back r end cause u w e d lent hu hw he hd =
    subst (λ (a : AllListening). CausedByThreads (ports_listening (server_seen coming listens took spawns was) r) a end)
    (sym (server_lent coming listens took spawns now back lent.0 lent.1 lent.2))
    (ports_caused n (server_seen coming listens took spawns was) (server_seen coming listens took spawns now) r back.refused end cause
    (from_none (spawns was.drivers) (spawns now.drivers) r back.refused d hd)
    (from_none (spawns was.upper.spawner) (spawns now.upper.spawner) r back.refused u hu)
    (from_none (spawns was.lower.spawner) (spawns now.lower.spawner) r back.refused w hw)
    (from_none (spawns was.editor.spawner) (spawns now.editor.spawner) r back.refused e he))

pub server_rises : {X Y : Type 0} (coming : X → Option ℕ) (listens : X → ℕ) (took : Y → Option ℕ) (spawns : Y → ℕ) (n : ℕ) (was now : ServerPorts X Y) (back : ServerListeners X) (r : ℕ) (end : DoorEnd)
    → Served n (server_seen coming listens took spawns was) (server_seen coming listens took spawns now) end
    → (back.upper ≡ now.upper.listener) × (back.lower ≡ now.lower.listener) × (back.editor ≡ now.editor.listener)
    → r ≤ back.refused
    → CountsRise (ports_listening (server_seen coming listens took spawns was) r) (server_listening coming listens back)
server_rises coming listens took spawns n was now back r end served lent le =
    subst (λ (a : AllListening). CountsRise (ports_listening (server_seen coming listens took spawns was) r) a)
    (sym (server_lent coming listens took spawns now back lent.0 lent.1 lent.2))
    (ports_rise n (server_seen coming listens took spawns was) (server_seen coming listens took spawns now) r back.refused end served le)

pub gate_caused : {X Y : Type 0} (coming : X → Option ℕ) (listens : X → ℕ) (took : Y → Option ℕ) (spawns : Y → ℕ) (n : ℕ) (was now : GatePorts X Y) (back : GateListeners X) (r : ℕ) (end : DoorEnd)
    → Caused n (gate_seen coming listens took spawns was) (gate_seen coming listens took spawns now) end
    → spawns was.upper.spawner ≡ 0 → spawns was.lower.spawner ≡ 0 → spawns was.drivers ≡ 0
    → (back.upper ≡ now.upper.listener) × (back.lower ≡ now.lower.listener)
    → (Rose 0 (spawns now.upper.spawner) → Rose r back.refused) → (Rose 0 (spawns now.lower.spawner) → Rose r back.refused)
    → (Rose 0 (spawns now.drivers) → Rose r back.refused)
    → CausedByThreads (ports_listening (gate_seen coming listens took spawns was) r) (gate_listening coming listens back) end
gate_caused coming listens took spawns n was now back r end cause u w d lent hu hw hd =
    subst (λ (a : AllListening). CausedByThreads (ports_listening (gate_seen coming listens took spawns was) r) a end)
    (sym (gate_lent coming listens took spawns now back lent.0 lent.1))
    (ports_caused n (gate_seen coming listens took spawns was) (gate_seen coming listens took spawns now) r back.refused end cause
    (from_none (spawns was.drivers) (spawns now.drivers) r back.refused d hd)
    (from_none (spawns was.upper.spawner) (spawns now.upper.spawner) r back.refused u hu)
    (from_none (spawns was.lower.spawner) (spawns now.lower.spawner) r back.refused w hw)
    (λ x. absurd x))

pub gate_rises : {X Y : Type 0} (coming : X → Option ℕ) (listens : X → ℕ) (took : Y → Option ℕ) (spawns : Y → ℕ) (n : ℕ) (was now : GatePorts X Y) (back : GateListeners X) (r : ℕ) (end : DoorEnd)
    → Served n (gate_seen coming listens took spawns was) (gate_seen coming listens took spawns now) end
    → (back.upper ≡ now.upper.listener) × (back.lower ≡ now.lower.listener)
    → r ≤ back.refused
    → CountsRise (ports_listening (gate_seen coming listens took spawns was) r) (gate_listening coming listens back)
gate_rises coming listens took spawns n was now back r end served lent le =
    subst (λ (a : AllListening). CountsRise (ports_listening (gate_seen coming listens took spawns was) r) a)
    (sym (gate_lent coming listens took spawns now back lent.0 lent.1))
    (ports_rise n (gate_seen coming listens took spawns was) (gate_seen coming listens took spawns now) r back.refused end served le)
