-- Each end has its cause.
use Rattle.std.proofs.Common.{ℕ, ◌*◌, Option, Some, None, inl, inr, sym, subst}
use Rattle.port_links.specs.Links.{More}
use Rattle.port_doors.specs.Doors.{Seen, DoorBy, NotStarted}
use Rattle.port_doors.specs.Serving.{PortsSeen, ThirdBy, IsThirdShut, ThirdFailed, ThirdRefused, first_end, Served, Caused}
use Rattle.port_doors.specs.declared.door.DoorEnd.{DoorEnd}
use Rattle.port_doors.specs.declared.door.DoorEnd.TheVariants.{Closed, ListenFault, NoWorker, NoMemory}

-- it is Closed
abbrev is_closed : DoorEnd → Type 0
is_closed Closed = Unit {0}
is_closed ListenFault = ⊥
is_closed NoWorker = ⊥
is_closed NoMemory = ⊥

third_shut : (a b : Option Seen) → ThirdBy a b Closed → IsThirdShut a b
third_shut None None by = tt
third_shut None (Some b) by = absurd by
third_shut (Some a) None by = absurd by
third_shut (Some a) (Some b) by = by.cause

third_failed : (a b : Option Seen) → ThirdBy a b ListenFault → ThirdFailed a b
third_failed None None by = subst is_closed (sym by) tt
third_failed None (Some b) by = absurd by
third_failed (Some a) None by = absurd by
third_failed (Some a) (Some b) by = by.cause

third_refused : (a b : Option Seen) → ThirdBy a b NoWorker → ThirdRefused a b
third_refused None None by = subst is_closed (sym by) tt
third_refused None (Some b) by = absurd by
third_refused (Some a) None by = absurd by
third_refused (Some a) (Some b) by = by.cause

by_first : (n : ℕ) (was now : PortsSeen) (u l e : DoorEnd) → DoorBy was.upper now.upper u → DoorBy was.lower now.lower l → ThirdBy was.editor now.editor e
    → More was.drivers_took now.drivers_took (2 * n) → Caused n was now (first_end u (first_end l e))
by_first n was now Closed Closed Closed x y z m = (x.cause, y.cause, third_shut was.editor now.editor z, m)
by_first n was now Closed Closed ListenFault x y z m = inr (inr (third_failed was.editor now.editor z))
by_first n was now Closed Closed NoWorker x y z m = inr (inr (inr (third_refused was.editor now.editor z)))
by_first n was now Closed Closed NoMemory x y z m = tt
by_first n was now Closed ListenFault e x y z m = inr (inl y.cause)
by_first n was now Closed NoWorker e x y z m = inr (inr (inl y.cause))
by_first n was now Closed NoMemory e x y z m = tt
by_first n was now ListenFault l e x y z m = inl x.cause
by_first n was now NoWorker l e x y z m = inr (inl x.cause)
by_first n was now NoMemory l e x y z m = tt

by_start : (n : ℕ) (was now : PortsSeen) (end : DoorEnd) → NotStarted was.driver_faults now.driver_faults end → Caused n was now end
by_start n was now Closed x = absurd x
by_start n was now ListenFault x = absurd x
by_start n was now NoWorker x = inl x
by_start n was now NoMemory x = tt

pub served_caused : (n : ℕ) (was now : PortsSeen) (end : DoorEnd) → Served n was now end → Caused n was now end
served_caused n was now end (inl s) =
    let r = s.0 in
    subst (λ (e : DoorEnd). Caused n was now e) (sym r.end_is) (by_first n was now r.upper_end r.lower_end r.editor_end r.upper r.lower r.editor s.1)
served_caused n was now end (inr s) = by_start n was now end s.cause
