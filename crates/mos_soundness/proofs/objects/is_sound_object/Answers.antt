use Rattle.mos_tables.specs.declared.table.Table.TheVariants as tables
use Rattle.mos_values.specs.Pieces.{pieces_events}
use Rattle.mos_values.specs.Views.{mos_obj_events}
use Rattle.mos_soundness.proofs.Fitting.{record_fits}
use Rattle.mos_soundness.proofs.objects.is_sound_object.Goals as goal

pub returns : goal.returns
returns c = record_fits tables.MosObj (pieces_events c.mos_obj_pieces.result) (mos_obj_events c.args.object.now) c.pieces_fit.result c.mos_obj_pieces.ensures c.pieces_fit.ensures
