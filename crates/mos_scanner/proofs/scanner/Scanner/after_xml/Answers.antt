use Rattle.std.proofs.Common.{sym, ◌∙◌}
use Rattle.mos_scanner.proofs.LexSteps.{question_end, question_none}
use Rattle.mos_scanner.proofs.scanner.Scanner.after_xml.Goals as goal

pub returns-then-is_space : goal.returns-then-is_space
returns-then-is_space c = record {
  same = question_end c.args.outside c.args.c (sym c.is_space.ensures ∙ c.if-is_space.true);
  sound = tt;
}

pub returns-else-is_space : goal.returns-else-is_space
returns-else-is_space c = record {
  same = question_none c.args.outside c.args.c (sym c.is_space.ensures ∙ c.if-is_space.false);
  sound = tt;
}
