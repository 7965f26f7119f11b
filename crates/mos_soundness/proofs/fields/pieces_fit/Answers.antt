use Rattle.std.proofs.Common.{true, false}
use Rattle.mos_values.specs.Pieces.{piece_events}
use Rattle.mos_values.specs.Sound.{AllFit}
use Rattle.mos_soundness.proofs.Fitting.{pieces_fit}
use Rattle.mos_soundness.proofs.Walks.{walk_starts, walk_goes_on, walk_stops, walk_ends}
use Rattle.mos_soundness.proofs.fields.pieces_fit.Goals as goal

pub loop-piece-init : goal.loop-piece-init
loop-piece-init c = walk_starts (λ p. AllFit c.args.table (piece_events p)) c.args.pieces.now

pub loop-piece-preserved : goal.loop-piece-preserved
loop-piece-preserved c = walk_goes_on (λ p. AllFit c.args.table (piece_events p)) c.args.pieces.now c.loop-piece.piece-index c.piece-item.result c.piece_fits.result c.loop-piece-test.true c.piece-item.is c.if-not-piece_fits.false c.piece_fits.ensures c.loop-piece.invariant

pub returns-then-not-piece_fits : goal.returns-then-not-piece_fits
returns-then-not-piece_fits c = pieces_fit c.args.table c.args.pieces.now false (walk_stops (λ p. AllFit c.args.table (piece_events p)) c.args.pieces.now c.loop-piece.piece-index c.piece-item.result c.piece_fits.result c.loop-piece-test.true c.piece-item.is c.if-not-piece_fits.true c.piece_fits.ensures c.loop-piece.invariant)

pub returns : goal.returns
returns c = pieces_fit c.args.table c.args.pieces.now true (walk_ends (λ p. AllFit c.args.table (piece_events p)) c.args.pieces.now c.loop-piece.piece-index c.loop-piece-test.false c.loop-piece.invariant)
