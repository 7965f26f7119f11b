use Rattle.mos_edits.proofs.Journals.{accepted-journal}
use Rattle.mos_edits.proofs.Lacking.{force-stands, force-all}
use Rattle.mos_edits.proofs.scripts.scripts_in_force_stand.Goals as goal

pub returns : goal.returns
returns c = record { stand = λ journal a. force-stands journal (accepted-journal journal a); all = λ journal a. force-all journal (accepted-journal journal a) }
