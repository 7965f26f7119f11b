use Rattle.mos_grammar.proofs.TokenLaws.{messages_read}
use Rattle.mos_grammar.proofs.laws.messages_are_read.Goals as goal

pub returns : goal.returns
returns c = messages_read
