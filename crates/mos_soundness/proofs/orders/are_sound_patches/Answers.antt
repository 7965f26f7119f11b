use Rattle.mos_values.specs.Sound.{IsSoundPatch}
use Rattle.mos_soundness.proofs.Walks.{walk_starts, walk_goes_on, walk_stops, walk_ends}
use Rattle.mos_soundness.proofs.orders.are_sound_patches.Goals as goal

pub loop-patch-init : goal.loop-patch-init
loop-patch-init c = walk_starts IsSoundPatch c.args.patches.now

pub loop-patch-preserved : goal.loop-patch-preserved
loop-patch-preserved c = walk_goes_on IsSoundPatch c.args.patches.now c.loop-patch.patch-index c.patch-item.result c.is_sound_patch.result c.loop-patch-test.true c.patch-item.is c.if-not-is_sound_patch.false c.is_sound_patch.ensures c.loop-patch.invariant

pub returns-then-not-is_sound_patch : goal.returns-then-not-is_sound_patch
returns-then-not-is_sound_patch c = walk_stops IsSoundPatch c.args.patches.now c.loop-patch.patch-index c.patch-item.result c.is_sound_patch.result c.loop-patch-test.true c.patch-item.is c.if-not-is_sound_patch.true c.is_sound_patch.ensures c.loop-patch.invariant

pub returns : goal.returns
returns c = walk_ends IsSoundPatch c.args.patches.now c.loop-patch.patch-index c.loop-patch-test.false c.loop-patch.invariant
