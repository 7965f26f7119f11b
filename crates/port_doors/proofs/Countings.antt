-- Connections and workers are counted.
use Rattle.std.proofs.Common.{◌≡◌, ℕ, ◌+◌, ◌≤◌, Option, Some, None, refl, sym, ap, ◌∙◌, subst, arith, inl, inr}
use Rattle.mos_io.specs.Counts.{Rose}
use Rattle.port_links.specs.Links.{Fewer, More, NoneComes}
use Rattle.port_doors.specs.Doors.{Seen, Opening, IsShut, DoorBy, DoorCause, NotStarted}
use Rattle.port_doors.specs.declared.door.DoorEnd.{DoorEnd}
use Rattle.port_doors.specs.declared.door.DoorEnd.TheVariants.{Closed, ListenFault, NoWorker, NoMemory}

fewer_none : (a b : Option ℕ) → b ≡ a → Fewer a b 0
fewer_none None b e = e
fewer_none (Some k) b e = (k, omega arith, e)

fewer_more : (a b c : Option ℕ) (n m : ℕ) → Fewer a b n → Fewer b c m → Fewer a c (n + m)
fewer_more None b c n m e f = subst (λ (o : Option ℕ). Fewer o c m) e f
fewer_more (Some k) b c n m s f = let g : Fewer (Some s.0) c m = subst (λ (o : Option ℕ). Fewer o c m) s.2 f in
    (g.0, (let x = s.1 in let y = g.1 in omega arith), g.2)

more_none : (a b : Option ℕ) → b ≡ a → More a b 0
more_none None b e = e
more_none (Some k) b e = e ∙ ap Some (omega arith)

pub more_more : (a b c : Option ℕ) (n m : ℕ) → More a b n → More b c m → More a c (n + m)
more_more None b c n m e f = subst (λ (o : Option ℕ). More o c m) e f
more_more (Some k) b c n m e f = let g : More (Some (k + n)) c m = subst (λ (o : Option ℕ). More o c m) e f in g ∙ ap Some (omega arith)

pub rose_from : (a b c : ℕ) → a ≤ b → Rose b c → Rose a c
rose_from a b c le (inl lt) = inl (omega arith)
rose_from a b c le (inr m) = inr m

-- one connection came and was given to a worker
pub one_opened : (was now : Seen) → Fewer was.coming now.coming 1 → More was.took now.took 1 → was.listen_faults ≤ now.listen_faults → was.spawn_faults ≤ now.spawn_faults → Opening was now
one_opened was now f m l s = record { links = 1; fewer = f; more = m; listens = l; spawns = s }

-- none came
pub none_opened : (was now : Seen) → now.coming ≡ was.coming → now.took ≡ was.took → was.listen_faults ≤ now.listen_faults → was.spawn_faults ≤ now.spawn_faults → Opening was now
none_opened was now f m l s = record { links = 0; fewer = fewer_none was.coming now.coming f; more = more_none was.took now.took m; listens = l; spawns = s }

-- none came, and none is still to come
pub none_came : (was now : Seen) → NoneComes was.coming → now.coming ≡ was.coming → now.took ≡ was.took → was.listen_faults ≤ now.listen_faults → was.spawn_faults ≤ now.spawn_faults → IsShut was now
none_came was now n f m l s = (none_opened was now f m l s, subst NoneComes (sym f) n)

-- so far, and then
pub opened_then : (was then now : Seen) → Opening was then → Opening then now → Opening was now
opened_then was then now a b = record {
  links = a.links + b.links;
  fewer = fewer_more was.coming then.coming now.coming a.links b.links a.fewer b.fewer;
  more = more_more was.took then.took now.took a.links b.links a.more b.more;
  listens = let x = a.listens in let y = b.listens in omega arith;
  spawns = let x = a.spawns in let y = b.spawns in omega arith;
}

-- so far, and then the cause of an end
cause_then : (was then now : Seen) (end : DoorEnd) → Opening was then → DoorCause then now end → DoorCause was now end
cause_then was then now Closed a b = (opened_then was then now a b.0, b.1)
cause_then was then now ListenFault a b = rose_from was.listen_faults then.listen_faults now.listen_faults a.listens b
cause_then was then now NoWorker a b = rose_from was.spawn_faults then.spawn_faults now.spawn_faults a.spawns b
cause_then was then now NoMemory a b = tt

-- so far, and then an end
pub ended_then : (was then now : Seen) (end : DoorEnd) → Opening was then → DoorBy then now end → DoorBy was now end
ended_then was then now end a b = record {
  listens = let x = a.listens in let y = b.listens in omega arith;
  spawns = let x = a.spawns in let y = b.spawns in omega arith;
  cause = cause_then was then now end a b.cause;
}

-- workers were started, and then one wasn't
pub not_started_then : (was then now : ℕ) (end : DoorEnd) → was ≤ then → NotStarted then now end → NotStarted was now end
not_started_then was then now Closed le x = absurd x
not_started_then was then now ListenFault le x = absurd x
not_started_then was then now NoWorker le x = rose_from was then now le x
not_started_then was then now NoMemory le x = tt
