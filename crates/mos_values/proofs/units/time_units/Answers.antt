use Rattle.mos_fields.specs.Values.{time_text}
use Rattle.mos_values.proofs.Counts.{count_simple}
use Rattle.mos_values.proofs.Simple.{simple_time}
use Rattle.mos_values.proofs.units.time_units.Goals as goal

pub returns : goal.returns
returns c = count_simple c.args.field (time_text c.args.time.now) c.tags_units.result c.time_len.result c.plus.result (simple_time c.args.time.now) c.tags_units.ensures c.time_len.ensures c.plus.ensures
