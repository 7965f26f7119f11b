use Rattle.std.proofs.Common.{List, subst, sym}
use Rattle.mos_values.specs.declared.item.Item.{Item}
use Rattle.mos_values.specs.Distinct.{AreDistinct, item_ids}
use Rattle.script_edits.proofs.DistinctLemmas.{distinct_items}
use Rattle.script_edits.proofs.stories.story_named.Goals as goal

pub invariant_of-result : goal.invariant_of-result
invariant_of-result c = subst (λ (items : List Item). AreDistinct (item_ids items)) (sym c.in_ok-items.ensures) (distinct_items _ c.requires)
