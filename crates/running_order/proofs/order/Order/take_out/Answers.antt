use Rattle.std.proofs.Common.{refl}
use Rattle.running_order.specs.Sizes.{story_size, size_at}
use Rattle.running_order.proofs.SizeLemmas.{edited-remove}
use Rattle.running_order.proofs.order.Order.take_out.Goals as goal

pub invariant_of-self : goal.invariant_of-self
invariant_of-self c =
    let old = c.self.inside.stories in
    (c.self.invariant.0, c.size_after-self-inside.ensures old (size_at story_size old c.args.at) 0 c.self.invariant.1 c.story_units-gone.ensures refl (edited-remove old c.remove.new.self c.args.at c.remove.ensures))
