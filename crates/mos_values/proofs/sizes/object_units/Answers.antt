use Rattle.mos_fields.specs.declared.field.Field.TheVariants as fields
use Rattle.mos_values.specs.Pieces.{pieces_events}
use Rattle.mos_values.specs.Views.{mos_obj_events}
use Rattle.mos_values.proofs.Counts.{count_field}
use Rattle.mos_values.proofs.sizes.object_units.Goals as goal

pub returns : goal.returns
returns c = count_field fields.MosObjTag (pieces_events c.mos_obj_pieces.result) (mos_obj_events c.args.object.now) c.pieces_units.result c.element_units.result c.mos_obj_pieces.ensures c.pieces_units.ensures c.element_units.ensures
