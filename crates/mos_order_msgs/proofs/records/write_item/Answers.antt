use Rattle.mos_fields.specs.declared.field.Field.TheVariants as fields
use Rattle.mos_values.specs.Views.{item_events}
use Rattle.mos_writer.proofs.EncodedLemmas.{field_written}
use Rattle.mos_order_msgs.proofs.records.write_item.Goals as goal

pub returns : goal.returns
returns c = field_written fields.ItemTag _ (item_events c.args.item.now) c.args.out.now.items _ _ _ c.item_pieces.ensures c.in_ok-open.ensures c.in_ok-write_pieces.ensures c.in_ok-close.ensures
