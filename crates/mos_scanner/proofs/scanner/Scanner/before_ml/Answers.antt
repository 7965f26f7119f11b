use Rattle.std.proofs.Common.{eq-eqb, ne_eqb}
use Rattle.mos_scanner.proofs.LexSteps.{question_m, question_no_m}
use Rattle.mos_scanner.proofs.scanner.Scanner.before_ml.Goals as goal

pub returns-then-c-eq109 : goal.returns-then-c-eq109
returns-then-c-eq109 c = record {
  same = question_m c.args.outside c.args.c (eq-eqb c.args.c 109 c.if-c-eq109.true);
  sound = tt;
}

pub returns-else-c-eq109 : goal.returns-else-c-eq109
returns-else-c-eq109 c = record {
  same = question_no_m c.args.outside c.args.c (ne_eqb c.args.c 109 c.if-c-eq109.false);
  sound = tt;
}
