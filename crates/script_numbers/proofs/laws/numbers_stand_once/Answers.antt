use Rattle.script_numbers.proofs.NumbersOnce.{stand-once, stand-once-now}
use Rattle.script_numbers.proofs.laws.numbers_stand_once.Goals as goal

pub returns : goal.returns
returns c = record { at = stand-once; now = stand-once-now }
