use Rattle.std.proofs.Common.{◌≡◌, length}
use Rattle.mos_values.specs.Distinct.{story_ids}
use Rattle.script_edits.specs.Words.{stands_in}
use Rattle.script_edits.proofs.stories.is_among.Given as goal

abbrev pub invariant-loop-rest : goal.invariant-loop-rest
invariant-loop-rest l = stands_in l.id (story_ids l.rest) ≡ stands_in l.id (story_ids l.stories)

abbrev pub decreases-loop-rest : goal.decreases-loop-rest
decreases-loop-rest l = length l.rest
