use Rattle.mos_tables.specs.declared.table.Table.TheVariants as tables
use Rattle.mos_values.specs.Pieces.{pieces_events}
use Rattle.mos_values.specs.Views.{story_send_events}
use Rattle.mos_soundness.proofs.Fitting.{record_fits}
use Rattle.mos_soundness.proofs.orders.is_sound_send.Goals as goal

pub returns : goal.returns
returns c = record_fits tables.StorySend (pieces_events c.story_send_pieces.result) (story_send_events c.args.story.now) c.pieces_fit.result c.story_send_pieces.ensures c.pieces_fit.ensures
