use Rattle.end_settings.proofs.AmongLemmas.{decided_same}
use Rattle.end_settings.proofs.devices.has_id.Goals as goal

pub returns : goal.returns
returns c = decided_same c.is.result c.args.id.now c.args.device.now.mos_id c.is.ensures
