use Rattle.mos_tables.specs.declared.table.Table.TheVariants as tables
use Rattle.mos_values.specs.Pieces.{pieces_events}
use Rattle.mos_values.specs.Views.{header_events}
use Rattle.mos_soundness.proofs.Fitting.{record_fits}
use Rattle.mos_soundness.proofs.orders.is_sound_header.Goals as goal

pub returns : goal.returns
returns c = record_fits tables.Body (pieces_events c.header_pieces.result) (header_events c.args.header.now) c.pieces_fit.result c.header_pieces.ensures c.pieces_fit.ensures
