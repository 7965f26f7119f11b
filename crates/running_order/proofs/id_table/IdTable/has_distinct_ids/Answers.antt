use Rattle.std.proofs.Common.{subst}
use Rattle.mos_values.specs.Distinct.{AreDistinct}
use Rattle.running_order.proofs.Keys.{distinct_ids}
use Rattle.running_order.proofs.id_table.IdTable.has_distinct_ids.Goals as goal

pub returns : goal.returns
returns c = subst AreDistinct c.self.view_is (distinct_ids (λ k. k.items) c.self.inside.set.keys c.self.invariant c.len-len.ensures.unique)
