use Rattle.std.proofs.Common.{◌≡◌, take}
use Rattle.mos_values.specs.Pieces.{pieces_events}
use Rattle.mos_values.specs.Units.{capped, units_in}
use Rattle.mos_values.proofs.units.pieces_units.Given as goal

abbrev pub invariant-loop-piece : goal.invariant-loop-piece
invariant-loop-piece l = l.count ≡ capped (units_in (pieces_events (take l.piece-index l.pieces)))
