use Rattle.std.proofs.Common.{sym, ◌∙◌}
use Rattle.running_order.proofs.Scripts.{none-behind, none-anywhere}
use Rattle.running_order.proofs.story_table.StoryTable.has_none_from.Goals as goal

pub returns-in-Some : goal.returns-in-Some
returns-in-Some c =
    none-behind c.args.id.now c.args.self.now c.args.left c.in-Some.at c.has_distinct_ids.ensures (sym c.place.ensures.place ∙ c.in-Some.is)

pub returns-in-None : goal.returns-in-None
returns-in-None c = none-anywhere c.args.id.now c.args.self.now c.args.left (sym c.place.ensures.place ∙ c.in-None.is)
