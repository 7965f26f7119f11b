use Rattle.std.proofs.Common.{◌≡◌, ◌+◌, ◌≤◌, length}
use Rattle.toml.specs.View.{items_view}
use Rattle.settings_help.specs.Places.{first_named}
use Rattle.settings_help.proofs.names.first_named.Given as goal

abbrev pub decreases-loop-rest : goal.decreases-loop-rest
decreases-loop-rest l = length l.rest

abbrev pub invariant-loop-rest : goal.invariant-loop-rest
invariant-loop-rest l =
    (l.before + first_named l.name (items_view l.rest) ≡ first_named l.name (items_view l.values)) × (l.before + length l.rest ≤ length l.values)
