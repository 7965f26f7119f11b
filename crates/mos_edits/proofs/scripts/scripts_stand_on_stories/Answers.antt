use Rattle.mos_edits.proofs.Journals.{accepted-journal}
use Rattle.mos_edits.proofs.Lacking.{scripts-stand}
use Rattle.mos_edits.proofs.scripts.scripts_stand_on_stories.Goals as goal

pub returns : goal.returns
returns c = λ journal a. scripts-stand journal (accepted-journal journal a)
