use Rattle.std.proofs.Common.{◌≡◌, length}
use Rattle.mos_fields.specs.Forms.{among}
use Rattle.end_settings.specs.Devices.{mos_ids}
use Rattle.end_settings.proofs.devices.has.Given as goal

abbrev pub decreases-loop-rest : goal.decreases-loop-rest
decreases-loop-rest l = length l.rest

abbrev pub invariant-loop-rest : goal.invariant-loop-rest
invariant-loop-rest l = among l.id (mos_ids l.rest) ≡ among l.id (mos_ids l.devices)
