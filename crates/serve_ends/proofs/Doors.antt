-- The end of a serving call has its cause.
use Rattle.std.proofs.Common.{◌≤◌, Option, Some, None, refl, arith}
use Rattle.thread_doors.specs.Listening.{Listening, AllListening, OfEditor, CountsRise, CausedByThreads}
use Rattle.port_doors.specs.declared.door.DoorEnd.{DoorEnd}
use Rattle.port_doors.specs.declared.door.DoorEnd.TheVariants as doors
use Rattle.serve_ends.specs.Ends.{IsCaused, IsNotStarted, end_of_door}
use Rattle.serve_ends.specs.declared.serve_end.ServeEnd.{ServeEnd}
use Rattle.serve_ends.specs.declared.serve_end.ServeEnd.TheVariants.{Closed, ListenFault, NoWorker, StoreFault, BadEntry, NoMemory}

-- that of the doors' end
pub caused_by_doors : (K : Type 0) {X : Type 0} (seen : X → AllListening) (was now : X) (end : DoorEnd) → CausedByThreads (seen was) (seen now) end → IsCaused {K = K} seen was now (end_of_door end)
caused_by_doors K seen was now doors.Closed cause = cause
caused_by_doors K seen was now doors.ListenFault cause = cause
caused_by_doors K seen was now doors.NoWorker cause = cause
caused_by_doors K seen was now doors.NoMemory cause = tt

-- that of a server that wasn't started, whose listeners are as they were
pub caused_by_start : {K X : Type 0} (seen : X → AllListening) (was : X) (end : ServeEnd K) → IsNotStarted end → IsCaused seen was was end
caused_by_start seen was Closed holds = absurd holds
caused_by_start seen was ListenFault holds = absurd holds
caused_by_start seen was NoWorker holds = absurd holds
caused_by_start seen was (StoreFault later) holds = refl
caused_by_start seen was (BadEntry number later) holds = refl
caused_by_start seen was NoMemory holds = tt

editor_stays : (a : Option Listening) → OfEditor (λ x y. x.faults ≤ y.faults) (Unit {0}) a a
editor_stays None = tt
editor_stays (Some a) = omega arith

-- counts that stay don't fall
pub counts_stay : (s : AllListening) → CountsRise s s
counts_stay s = record { upper = omega arith; lower = omega arith; editor = editor_stays s.editor; refused = omega arith }
