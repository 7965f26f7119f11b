use Rattle.mos_grammar.proofs.TokenLaws.{beginnings_read}
use Rattle.mos_grammar.proofs.laws.beginnings_are_read.Goals as goal

pub returns : goal.returns
returns c = beginnings_read
