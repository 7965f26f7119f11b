use Rattle.mos_values.specs.Sound.{IsSoundItem}
use Rattle.mos_soundness.proofs.Walks.{walk_starts, walk_goes_on, walk_stops, walk_ends}
use Rattle.mos_soundness.proofs.orders.are_sound_items.Goals as goal

pub loop-item-init : goal.loop-item-init
loop-item-init c = walk_starts IsSoundItem c.args.items.now

pub loop-item-preserved : goal.loop-item-preserved
loop-item-preserved c = walk_goes_on IsSoundItem c.args.items.now c.loop-item.item-index c.item-item.result c.is_sound_item.result c.loop-item-test.true c.item-item.is c.if-not-is_sound_item.false c.is_sound_item.ensures c.loop-item.invariant

pub returns-then-not-is_sound_item : goal.returns-then-not-is_sound_item
returns-then-not-is_sound_item c = walk_stops IsSoundItem c.args.items.now c.loop-item.item-index c.item-item.result c.is_sound_item.result c.loop-item-test.true c.item-item.is c.if-not-is_sound_item.true c.is_sound_item.ensures c.loop-item.invariant

pub returns : goal.returns
returns c = walk_ends IsSoundItem c.args.items.now c.loop-item.item-index c.loop-item-test.false c.loop-item.invariant
