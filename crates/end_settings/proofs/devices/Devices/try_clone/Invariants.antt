use Rattle.std.proofs.Common.{◌≡◌, take}
use Rattle.end_settings.proofs.devices.Devices.try_clone.Given as goal

abbrev pub invariant-loop-device : goal.invariant-loop-device
invariant-loop-device l = l.devices.items ≡ take l.device-index l.device-items
