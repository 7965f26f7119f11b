use Rattle.ncs_core.proofs.LookedRows.{zeros}
use Rattle.ncs_core.proofs.looks.Looks.new.Goals as goal

pub returns : goal.returns
returns c = λ d. zeros 64 d
