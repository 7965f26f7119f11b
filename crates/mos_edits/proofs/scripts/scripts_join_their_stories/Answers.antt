use Rattle.mos_edits.proofs.Applying.{apply-script, apply-script-missing}
use Rattle.mos_edits.proofs.scripts.scripts_join_their_stories.Goals as goal

pub returns : goal.returns
returns c = record { there = apply-script; missing = apply-script-missing }
