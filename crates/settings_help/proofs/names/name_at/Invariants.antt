use Rattle.std.proofs.Common.{◌≡◌, length}
use Rattle.toml.specs.View.{items_view}
use Rattle.settings_help.specs.Places.{name_at}
use Rattle.settings_help.proofs.names.name_at.Given as goal

abbrev pub decreases-loop-rest : goal.decreases-loop-rest
decreases-loop-rest l = length l.rest

abbrev pub invariant-loop-rest : goal.invariant-loop-rest
invariant-loop-rest l = name_at l.left (items_view l.rest) ≡ name_at l.at (items_view l.values)
