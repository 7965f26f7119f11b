use Rattle.mos_edits.proofs.Applying.{apply-ready, apply-not_ready}
use Rattle.mos_edits.proofs.edits.ready_changes_nothing.Goals as goal

pub returns : goal.returns
returns c = record { ready = apply-ready; not_ready = apply-not_ready }
