use Rattle.std.proofs.Common.{true, false}
use Rattle.mos_tables.specs.Events.{raw as raw_event}
use Rattle.mos_values.specs.Sound.{Fits}
use Rattle.mos_soundness.proofs.Fitting.{raws_fit}
use Rattle.mos_soundness.proofs.Walks.{walk_starts, walk_goes_on, walk_stops, walk_ends}
use Rattle.mos_soundness.proofs.fields.all_fit.Goals as goal

pub loop-raw-init : goal.loop-raw-init
loop-raw-init c = walk_starts (λ x. Fits c.args.table (raw_event c.args.field x)) c.args.raws.now

pub loop-raw-preserved : goal.loop-raw-preserved
loop-raw-preserved c = walk_goes_on (λ x. Fits c.args.table (raw_event c.args.field x)) c.args.raws.now c.loop-raw.raw-index c.raw-item.result c.fits.result c.loop-raw-test.true c.raw-item.is c.if-not-fits.false c.fits.ensures c.loop-raw.invariant

pub returns-then-not-fits : goal.returns-then-not-fits
returns-then-not-fits c = raws_fit c.args.table c.args.field c.args.raws.now false (walk_stops (λ x. Fits c.args.table (raw_event c.args.field x)) c.args.raws.now c.loop-raw.raw-index c.raw-item.result c.fits.result c.loop-raw-test.true c.raw-item.is c.if-not-fits.true c.fits.ensures c.loop-raw.invariant)

pub returns : goal.returns
returns c = raws_fit c.args.table c.args.field c.args.raws.now true (walk_ends (λ x. Fits c.args.table (raw_event c.args.field x)) c.args.raws.now c.loop-raw.raw-index c.loop-raw-test.false c.loop-raw.invariant)
