use Rattle.std.proofs.Common.{eq-eqb, ne_eqb}
use Rattle.mos_scanner.proofs.LexSteps.{question_l, question_no_l}
use Rattle.mos_scanner.proofs.scanner.Scanner.before_l.Goals as goal

pub returns-then-c-eq108 : goal.returns-then-c-eq108
returns-then-c-eq108 c = record {
  same = question_l c.args.outside c.args.c (eq-eqb c.args.c 108 c.if-c-eq108.true);
  sound = tt;
}

pub returns-else-c-eq108 : goal.returns-else-c-eq108
returns-else-c-eq108 c = record {
  same = question_no_l c.args.outside c.args.c (ne_eqb c.args.c 108 c.if-c-eq108.false);
  sound = tt;
}
