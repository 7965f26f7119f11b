use Rattle.session_laws.proofs.Accepteds.{for_side, served}
use Rattle.session_laws.proofs.laws.served_is_accepted.Goals as goal

pub returns-clause-names : goal.returns-clause-names
returns-clause-names c p e = for_side p.side p e

pub returns-clause-served : goal.returns-clause-served
returns-clause-served c p messages calls out on s = served p messages calls out on s
