use Rattle.std.proofs.Common.{codes, refl}
use Rattle.mos_values.specs.Views.{body_events}
use Rattle.mos_values.proofs.Counts.{count_element}
use Rattle.mos_values.proofs.sizes.list_units.Goals as goal

pub returns : goal.returns
returns c = count_element (codes "roList") (body_events c.args.b.now) c.body_units.result c.plus.result refl c.body_units.ensures c.plus.ensures
