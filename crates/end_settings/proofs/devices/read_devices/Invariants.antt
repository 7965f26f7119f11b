use Rattle.std.proofs.Common.{◌≡◌, [], length}
use Rattle.toml.specs.View.{items_view}
use Rattle.end_settings.specs.Devices.{devices_from}
use Rattle.end_settings.proofs.devices.read_devices.Given as goal

abbrev pub decreases-loop-rest : goal.decreases-loop-rest
decreases-loop-rest l = length l.rest

abbrev pub invariant-loop-rest : goal.invariant-loop-rest
invariant-loop-rest l = devices_from l.devices (items_view l.rest) ≡ devices_from [] (items_view l.values)
