use Rattle.mos_grammar.proofs.TokenLaws.{rejected_begins_none}
use Rattle.mos_grammar.proofs.laws.rejected_begins_none.Goals as goal

pub returns : goal.returns
returns c = rejected_begins_none
