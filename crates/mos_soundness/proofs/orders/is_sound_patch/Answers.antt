use Rattle.mos_tables.specs.declared.table.Table.TheVariants as tables
use Rattle.mos_values.specs.Pieces.{pieces_events}
use Rattle.mos_values.specs.Views.{patch_events}
use Rattle.mos_soundness.proofs.Fitting.{record_fits}
use Rattle.mos_soundness.proofs.orders.is_sound_patch.Goals as goal

pub returns : goal.returns
returns c = record_fits tables.HeaderPatch (pieces_events c.patch_pieces.result) (patch_events c.args.patch.now) c.pieces_fit.result c.patch_pieces.ensures c.pieces_fit.ensures
