use Rattle.port_fronts.proofs.Fronts.{taken_before}
use Rattle.port_looking.proofs.finding.look.Goals as goal

pub returns-in-Ok-clause-looks : goal.returns-in-Ok-clause-looks
returns-in-Ok-clause-looks g c = rw c.new.ensures c.in-Ok.ensures.looked.1

pub returns-in-Ok-clause-left : goal.returns-in-Ok-clause-left
returns-in-Ok-clause-left g c = rw c.new.ensures (taken_before _ _ _ c.in-Ok.ensures.looked.0)
