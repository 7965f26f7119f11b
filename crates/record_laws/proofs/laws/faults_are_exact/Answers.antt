use Rattle.record_laws.proofs.Exact.{faults_exact}
use Rattle.record_laws.proofs.laws.faults_are_exact.Goals as goal

pub returns : goal.returns
returns c = faults_exact
