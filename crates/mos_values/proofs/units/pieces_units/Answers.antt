use Rattle.mos_values.proofs.Counts.{no_pieces, pieces_step}
use Rattle.mos_values.proofs.units.pieces_units.Goals as goal

pub loop-piece-init : goal.loop-piece-init
loop-piece-init c = no_pieces

pub loop-piece-preserved : goal.loop-piece-preserved
loop-piece-preserved c = pieces_step c.args.pieces.now c.loop-piece.piece-index c.piece-item.result c.loop-piece.count c.piece_units.result c.plus-count.result c.loop-piece-test.true c.piece-item.is c.loop-piece.invariant c.piece_units.ensures c.plus-count.ensures
