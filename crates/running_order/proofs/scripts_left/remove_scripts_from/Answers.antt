use Rattle.std.proofs.Common.{drop, ◌∙◌}
use Rattle.mos_values.specs.Distinct.{story_ids}
use Rattle.running_order.proofs.Scripts.{kept-rows}
use Rattle.running_order.proofs.scripts_left.remove_scripts_from.Goals as goal

pub returns : goal.returns
returns c = c.retain.ensures ∙ kept-rows (story_ids (drop c.args.left c.args.stories.now)) c.args.scripts.now
