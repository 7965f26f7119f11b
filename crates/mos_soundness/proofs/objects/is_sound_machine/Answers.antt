use Rattle.mos_tables.specs.declared.table.Table.TheVariants as tables
use Rattle.mos_values.specs.Pieces.{pieces_events}
use Rattle.mos_values.specs.Views.{mach_rest_events}
use Rattle.mos_soundness.proofs.Fitting.{record_fits}
use Rattle.mos_soundness.proofs.objects.is_sound_machine.Goals as goal

pub returns : goal.returns
returns c = record_fits tables.ListMachInfo (pieces_events c.mach_rest_pieces.result) (mach_rest_events c.args.info.now) c.pieces_fit.result c.mach_rest_pieces.ensures c.pieces_fit.ensures
