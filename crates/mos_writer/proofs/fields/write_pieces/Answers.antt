use Rattle.mos_writer.proofs.EncodedLemmas.{pieces_start, pieces_step}
use Rattle.mos_writer.proofs.fields.write_pieces.Goals as goal

pub loop-piece-init : goal.loop-piece-init
loop-piece-init c = pieces_start c.args.out.now.items

pub loop-piece-preserved : goal.loop-piece-preserved
loop-piece-preserved c = pieces_step c.args.pieces.now c.loop-piece.piece-index c.piece-item.result c.args.out.now.items c.loop-piece.out.items c.write_piece.new.out.items c.loop-piece-test.true c.piece-item.is c.loop-piece.invariant c.in_ok-write_piece.ensures
