use Rattle.mos_values.specs.Pieces.{piece_events}
use Rattle.mos_values.specs.Sound.{AllFit}
use Rattle.mos_soundness.proofs.Walks.{GoesOn}
use Rattle.mos_soundness.proofs.fields.pieces_fit.Given as goal

abbrev pub invariant-loop-piece : goal.invariant-loop-piece
invariant-loop-piece l = GoesOn (λ p. AllFit l.table (piece_events p)) l.piece-index l.pieces
