use Rattle.mos_lexer.proofs.UnitLaws.{handed_out_behind}
use Rattle.mos_lexer.proofs.laws.handed_out_is_behind.Goals as goal

pub returns : goal.returns
returns c = handed_out_behind
