use Rattle.std.proofs.Common.{◌≡◌, ◌+◌, ◌≤◌, length}
use Rattle.settings_help.specs.Notes.{first_sharing}
use Rattle.settings_help.proofs.notes.first_sharing.Given as goal

abbrev pub decreases-loop-rest : goal.decreases-loop-rest
decreases-loop-rest l = length l.rest

abbrev pub invariant-loop-rest : goal.invariant-loop-rest
invariant-loop-rest l = (l.before + first_sharing l.device l.rest ≡ first_sharing l.device l.devices) × (l.before + length l.rest ≤ length l.devices)
