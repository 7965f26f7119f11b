use Rattle.mos_fields.specs.Values.{obj_type_text}
use Rattle.mos_values.proofs.Counts.{count_simple}
use Rattle.mos_values.proofs.Simple.{simple_obj_type}
use Rattle.mos_values.proofs.units.obj_type_units.Goals as goal

pub returns : goal.returns
returns c = count_simple c.args.field (obj_type_text c.args.obj_type) c.tags_units.result c.obj_type_len.result c.plus.result (simple_obj_type c.args.obj_type) c.tags_units.ensures c.obj_type_len.ensures c.plus.ensures
