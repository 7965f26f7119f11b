use Rattle.std.proofs.Common.{ℕ, List, length}
use Rattle.object_reading.specs.Progress.{HasTaken}
use Rattle.object_reading.proofs.reading.take_whole.Given as goal

abbrev pub invariant-message : goal.invariant-message
invariant-message l = (bytes : List ℕ) → HasTaken bytes l.initial.decoder l.initial.table → HasTaken bytes l.decoder l.table

abbrev pub decreases-message : goal.decreases-message
decreases-message l = length l.decoder.stream.held
