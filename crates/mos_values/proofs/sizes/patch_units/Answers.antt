use Rattle.mos_fields.specs.declared.field.Field.TheVariants as fields
use Rattle.mos_values.specs.Pieces.{pieces_events}
use Rattle.mos_values.specs.Views.{patch_events}
use Rattle.mos_values.proofs.Counts.{count_field}
use Rattle.mos_values.proofs.sizes.patch_units.Goals as goal

pub returns : goal.returns
returns c = count_field fields.RoTag (pieces_events c.patch_pieces.result) (patch_events c.args.header.now) c.pieces_units.result c.element_units.result c.patch_pieces.ensures c.pieces_units.ensures c.element_units.ensures
