use Rattle.std.proofs.Common.{codes, refl}
use Rattle.mos_values.specs.Views.{story_send_events}
use Rattle.mos_values.proofs.Counts.{count_element}
use Rattle.mos_values.proofs.sizes.send_units.Goals as goal

pub returns : goal.returns
returns c = count_element (codes "roStorySend") (story_send_events c.args.script.now) c.script_inside.result c.plus.result refl c.script_inside.ensures c.plus.ensures
