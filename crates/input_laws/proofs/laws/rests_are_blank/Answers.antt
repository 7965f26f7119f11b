use Rattle.input_laws.proofs.Resting.{rests_blank}
use Rattle.input_laws.proofs.laws.rests_are_blank.Goals as goal

pub returns : goal.returns
returns c = rests_blank
