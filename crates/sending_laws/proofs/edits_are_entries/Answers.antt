use Rattle.sending_laws.proofs.Editing.{written-edits}
use Rattle.sending_laws.proofs.edits_are_entries.Goals as goal

pub returns : goal.returns
returns c = written-edits
