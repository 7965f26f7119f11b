use Rattle.end_settings.proofs.AmongLemmas.{decided_same}
use Rattle.settings_help.proofs.names.are_same.Goals as goal

pub returns : goal.returns
returns c = decided_same c.is.result c.args.one.now c.args.other.now c.is.ensures
