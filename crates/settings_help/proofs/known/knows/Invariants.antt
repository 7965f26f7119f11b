use Rattle.std.proofs.Common.{◌≡◌, length}
use Rattle.settings_help.specs.Known.{knows}
use Rattle.settings_help.proofs.known.knows.Given as goal

abbrev pub decreases-loop-rest : goal.decreases-loop-rest
decreases-loop-rest l = length l.rest

abbrev pub invariant-loop-rest : goal.invariant-loop-rest
invariant-loop-rest l = knows l.rest l.name ≡ knows l.keys l.name
