use Rattle.mos_tables.specs.declared.table.Table.TheVariants as tables
use Rattle.mos_values.specs.Pieces.{pieces_events}
use Rattle.mos_values.specs.Views.{item_events}
use Rattle.mos_soundness.proofs.Fitting.{record_fits}
use Rattle.mos_soundness.proofs.orders.is_sound_item.Goals as goal

pub returns : goal.returns
returns c = record_fits tables.Item (pieces_events c.item_pieces.result) (item_events c.args.item.now) c.pieces_fit.result c.item_pieces.ensures c.pieces_fit.ensures
