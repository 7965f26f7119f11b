use Rattle.std.proofs.Common.{refl, ap}
use Rattle.mos_fields.specs.declared.field.Field.TheVariants as fields
use Rattle.mos_values.specs.MessageViews.{source}
use Rattle.mos_values.specs.Views.{items_events, stories_events}
use Rattle.mos_writer.proofs.EncodedLemmas.{field_written}
use Rattle.mos_order_msgs.proofs.action.write_source_items.Goals as goal

pub returns : goal.returns
unfolding source
returns c = field_written fields.ElementSource _ _ c.args.out.now.items _ _ _ (ap items_events c.as_slice.ensures) c.in_ok-open.ensures c.in_ok-write_items.ensures c.in_ok-close.ensures
