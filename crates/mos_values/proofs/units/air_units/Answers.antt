use Rattle.mos_fields.specs.Values.{air_text}
use Rattle.mos_values.proofs.Counts.{count_simple}
use Rattle.mos_values.proofs.Simple.{simple_air}
use Rattle.mos_values.proofs.units.air_units.Goals as goal

pub returns : goal.returns
returns c = count_simple c.args.field (air_text c.args.air) c.tags_units.result c.air_len.result c.plus.result (simple_air c.args.air) c.tags_units.ensures c.air_len.ensures c.plus.ensures
