use Rattle.mos_values.specs.Sound.{IsSoundObject}
use Rattle.mos_soundness.proofs.Walks.{walk_starts, walk_goes_on, walk_stops, walk_ends}
use Rattle.mos_soundness.proofs.objects.are_sound_objects.Goals as goal

pub loop-object-init : goal.loop-object-init
loop-object-init c = walk_starts IsSoundObject c.args.objects.now

pub loop-object-preserved : goal.loop-object-preserved
loop-object-preserved c = walk_goes_on IsSoundObject c.args.objects.now c.loop-object.object-index c.object-item.result c.is_sound_object.result c.loop-object-test.true c.object-item.is c.if-not-is_sound_object.false c.is_sound_object.ensures c.loop-object.invariant

pub returns-then-not-is_sound_object : goal.returns-then-not-is_sound_object
returns-then-not-is_sound_object c = walk_stops IsSoundObject c.args.objects.now c.loop-object.object-index c.object-item.result c.is_sound_object.result c.loop-object-test.true c.object-item.is c.if-not-is_sound_object.true c.is_sound_object.ensures c.loop-object.invariant

pub returns : goal.returns
returns c = walk_ends IsSoundObject c.args.objects.now c.loop-object.object-index c.loop-object-test.false c.loop-object.invariant
