use Rattle.std.proofs.Common.{eq-eqb, ne_eqb}
use Rattle.mos_scanner.proofs.LexSteps.{question_x, question_no_x}
use Rattle.mos_scanner.proofs.scanner.Scanner.before_xml.Goals as goal

pub returns-then-c-eq120 : goal.returns-then-c-eq120
returns-then-c-eq120 c = record {
  same = question_x c.args.outside c.args.c (eq-eqb c.args.c 120 c.if-c-eq120.true);
  sound = tt;
}

pub returns-else-c-eq120 : goal.returns-else-c-eq120
returns-else-c-eq120 c = record {
  same = question_no_x c.args.outside c.args.c (ne_eqb c.args.c 120 c.if-c-eq120.false);
  sound = tt;
}
