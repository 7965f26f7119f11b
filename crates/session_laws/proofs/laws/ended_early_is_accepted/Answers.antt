use Rattle.session_laws.proofs.Accepteds.{cut_stale, cut_unasked, unwritten}
use Rattle.session_laws.proofs.laws.ended_early_is_accepted.Goals as goal

pub returns-clause-unwritten : goal.returns-clause-unwritten
returns-clause-unwritten c p messages calls out n m l = unwritten p messages calls out n m l

pub returns-clause-stale : goal.returns-clause-stale
returns-clause-stale c p messages calls out n m l = cut_stale p messages calls out n m l

pub returns-clause-unasked : goal.returns-clause-unasked
returns-clause-unasked c p messages calls out n m l = cut_unasked p messages calls out n m l
