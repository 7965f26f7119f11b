use Rattle.std.proofs.Common.{◌≡◌, ◌++◌, take}
use Rattle.mos_values.specs.Pieces.{pieces_events}
use Rattle.mos_writer.specs.Encoded.{encoded}
use Rattle.mos_writer.proofs.fields.write_pieces.Given as goal

abbrev pub invariant-loop-piece : goal.invariant-loop-piece
invariant-loop-piece l = l.out.items ≡ l.initial.out.items ++ encoded (pieces_events (take l.piece-index l.pieces))
