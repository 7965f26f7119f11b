use Rattle.std.proofs.Common.{◌≡◌, [], length}
use Rattle.toml.specs.View.{items_view}
use Rattle.end_settings.specs.Readable.{readable_from}
use Rattle.end_settings.proofs.readable.count_readable.Given as goal

abbrev pub decreases-loop-rest : goal.decreases-loop-rest
decreases-loop-rest l = length l.rest

abbrev pub invariant-loop-rest : goal.invariant-loop-rest
invariant-loop-rest l = readable_from l.devices (items_view l.rest) ≡ readable_from [] (items_view l.values)
