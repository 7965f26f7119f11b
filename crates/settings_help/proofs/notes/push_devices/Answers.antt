use Rattle.settings_help.proofs.Devices.{fewer_left, notes_turn}
use Rattle.std.proofs.Common.{◌∙◌}
use Rattle.settings_help.proofs.notes.push_devices.Goals as goal

pub loop-rest-preserved : goal.loop-rest-preserved
loop-rest-preserved c = (
  notes_turn _ _ _ _ _ _ _ _ c.in-len1-up.len_at_least c.device-item.is c.in_ok-push_both.ensures ∙ c.loop-rest.invariant.0,
  fewer_left _ _ _ c.in-len1-up.len_at_least c.loop-rest.invariant.1,
)
