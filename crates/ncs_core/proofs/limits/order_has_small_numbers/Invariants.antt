use Rattle.std.proofs.Common.{drop}
use Rattle.mos_machines.specs.Small.{AreSmallStories}
use Rattle.ncs_core.proofs.limits.order_has_small_numbers.Given as goal

abbrev pub invariant-stories : goal.invariant-stories
invariant-stories l = AreSmallStories (drop l.place l.order.stories) → AreSmallStories l.order.stories
