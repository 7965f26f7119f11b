use Rattle.std.proofs.Common.{true}
use Rattle.mos_values.specs.declared.piece.Piece.TheVariants as pieces
use Rattle.mos_soundness.proofs.Fitting.{at_piece, one_fits, none_fits, some_fits, plain_fits, plain_if}
use Rattle.mos_soundness.proofs.fields.piece_fits.Goals as goal

pub returns-in-Raw : goal.returns-in-Raw
returns-in-Raw c = at_piece c.args.table c.args.piece.now (pieces.Raw c.in-Raw.field c.in-Raw.raw) c.fits.result c.in-Raw.is (one_fits c.args.table c.in-Raw.field c.in-Raw.raw.now c.fits.result c.fits.ensures)

pub returns-in-None : goal.returns-in-None
returns-in-None c = at_piece c.args.table c.args.piece.now (pieces.OptionalRaw c.in-OptionalRaw.field c.in-OptionalRaw.raw) true c.in-OptionalRaw.is (none_fits c.args.table c.in-OptionalRaw.field c.in-OptionalRaw.raw.now c.in-None.is)

pub returns-in-Some : goal.returns-in-Some
returns-in-Some c = at_piece c.args.table c.args.piece.now (pieces.OptionalRaw c.in-OptionalRaw.field c.in-OptionalRaw.raw) c.fits-in-Some.result c.in-OptionalRaw.is (some_fits c.args.table c.in-OptionalRaw.field c.in-OptionalRaw.raw.now c.in-Some.raw c.fits-in-Some.result c.in-Some.is c.fits-in-Some.ensures)

pub returns-in_default : goal.returns-in_default
returns-in_default c = plain_fits c.args.table c.args.piece.now (plain_if c.args.piece.now c.in_default.not-Raw c.in_default.not-OptionalRaw c.in_default.not-Raws)
