use Rattle.std.proofs.Common.{subst, ap, ◌∙◌}
use Rattle.std.specs.Map.{keys_of}
use Rattle.mos_values.specs.Distinct.{AreDistinct}
use Rattle.mos_values.specs.Distinct.{story_ids}
use Rattle.running_order.proofs.Keys.{distinct_ids}
use Rattle.running_order.proofs.Entries.{keys_known, key_ids}
use Rattle.running_order.proofs.story_table.StoryTable.has_distinct_ids.Goals as goal

pub returns : goal.returns
returns c =
    let es = c.self.inside.table.entries in
    subst AreDistinct (key_ids (λ k. k.items) (λ s. s.id) es c.self.invariant ∙ ap story_ids c.self.view_is)
    (distinct_ids (λ k. k.items) (keys_of es) (keys_known (λ k. k.items) (λ s. s.id) es c.self.invariant) c.len-len.ensures.unique)
