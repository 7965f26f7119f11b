use Rattle.mos_values.proofs.Members.{none_at_first, none_more, not_among, is_among, differs, is_so}
use Rattle.mos_values.proofs.ids.is_item_among.Goals as goal

pub loop-item-init : goal.loop-item-init
loop-item-init c = none_at_first c.args.id.now

pub loop-item-preserved : goal.loop-item-preserved
loop-item-preserved c = none_more (λ s. s.id) c.args.items.now c.loop-item.item-index c.item-item.result c.args.id.now c.loop-item-test.true c.item-item.is c.loop-item.invariant (differs _ _ c.if-are_equal.false c.are_equal.ensures)

pub returns : goal.returns
returns c = not_among (λ s. s.id) c.args.items.now c.loop-item.item-index c.args.id.now c.loop-item-test.false c.loop-item.invariant

pub returns-then-are_equal : goal.returns-then-are_equal
returns-then-are_equal c = is_among (λ s. s.id) c.args.items.now c.loop-item.item-index c.item-item.result c.args.id.now c.loop-item-test.true c.item-item.is (is_so _ _ c.if-are_equal.true c.are_equal.ensures)
