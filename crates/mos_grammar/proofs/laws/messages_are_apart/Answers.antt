use Rattle.mos_grammar.proofs.TokenLaws.{messages_apart}
use Rattle.mos_grammar.proofs.laws.messages_are_apart.Goals as goal

pub returns : goal.returns
returns c = messages_apart
