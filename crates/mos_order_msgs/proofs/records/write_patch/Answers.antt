use Rattle.mos_fields.specs.declared.field.Field.TheVariants as fields
use Rattle.mos_values.specs.Views.{patch_events}
use Rattle.mos_writer.proofs.EncodedLemmas.{field_written}
use Rattle.mos_order_msgs.proofs.records.write_patch.Goals as goal

pub returns : goal.returns
returns c = field_written fields.RoTag _ (patch_events c.args.header.now) c.args.out.now.items _ _ _ c.patch_pieces.ensures c.in_ok-open.ensures c.in_ok-write_pieces.ensures c.in_ok-close.ensures
