use Rattle.std.proofs.Common.{◌≡◌, ◌+◌, ◌≤◌, length}
use Rattle.settings_help.specs.Places.{line_feeds}
use Rattle.settings_help.proofs.finding.count_feeds.Given as goal

abbrev pub decreases-loop-rest : goal.decreases-loop-rest
decreases-loop-rest l = length l.rest

abbrev pub invariant-loop-rest : goal.invariant-loop-rest
invariant-loop-rest l = (l.count + line_feeds l.rest ≡ line_feeds l.bytes) × (l.count + length l.rest ≤ length l.bytes)
