use Rattle.std.proofs.Common.{◌≡◌, length}
use Rattle.mos_values.specs.Distinct.{story_ids}
use Rattle.script_edits.specs.Words.{are_distinct}
use Rattle.script_edits.proofs.stories.have_distinct_ids.Given as goal

abbrev pub invariant-loop-rest : goal.invariant-loop-rest
invariant-loop-rest l = are_distinct (story_ids l.rest) ≡ are_distinct (story_ids l.stories)

abbrev pub decreases-loop-rest : goal.decreases-loop-rest
decreases-loop-rest l = length l.rest
