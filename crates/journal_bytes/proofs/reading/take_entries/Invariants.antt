use Rattle.std.proofs.Common.{ℕ, List, length}
use Rattle.journal_bytes.specs.Journals.{Follows}
use Rattle.journal_bytes.proofs.reading.take_entries.Given as goal

abbrev pub decreases-message : goal.decreases-message
decreases-message l = length l.decoder.ready

abbrev pub invariant-message : goal.invariant-message
invariant-message l = (bytes : List ℕ) → Follows bytes l.initial.decoder l.initial.entries.items → Follows bytes l.decoder l.entries.items
