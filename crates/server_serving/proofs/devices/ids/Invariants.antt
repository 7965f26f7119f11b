use Rattle.std.proofs.Common.{◌≡◌, take}
use Rattle.end_settings.specs.Devices.{mos_ids}
use Rattle.server_serving.proofs.devices.ids.Given as goal

abbrev pub invariant-ids : goal.invariant-ids
invariant-ids l = l.ids ≡ take l.i (mos_ids l.devices)
