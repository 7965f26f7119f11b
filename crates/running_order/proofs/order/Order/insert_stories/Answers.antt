use Rattle.mos_values.specs.Distinct.{story_ids}
use Rattle.running_order.proofs.Ids.{AreDistinct-right}
use Rattle.running_order.proofs.SizeLemmas.{sum-put_in}
use Rattle.running_order.proofs.order.Order.insert_stories.Goals as goal

pub table_of-requires : goal.table_of-requires
table_of-requires c = AreDistinct-right (story_ids c.args.self.now.stories) (story_ids (c.args.s.now)) c.requires.distinct

pub invariant_of-self-2 : goal.invariant_of-self-2
invariant_of-self-2 c =
    let old = c.self.inside.stories in
    (c.self.invariant.0, sum-put_in old c.insert_all.new.self c.in_ok-new.new c.args.at c.self.inside.stories_units c.units-come.result c.plus-self-inside.result c.in_ok-insert_all.ensures.ok c.self.invariant.1 c.units-come.ensures c.plus-self-inside.ensures)
