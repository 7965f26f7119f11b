use Rattle.mos_grammar.proofs.TokenFirst.{faults_first}
use Rattle.mos_grammar.proofs.laws.faults_are_first.Goals as goal

pub returns : goal.returns
returns c = faults_first
