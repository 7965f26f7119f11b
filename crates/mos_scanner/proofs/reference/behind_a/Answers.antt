use Rattle.std.proofs.Common.{ne_eqb}
use Rattle.mos_scanner.proofs.NamedLemmas.{a_m, a_p, a_never}
use Rattle.mos_scanner.proofs.reference.behind_a.Goals as goal

pub returns-then-c-eq109 : goal.returns-then-c-eq109
returns-then-c-eq109 c = a_m c.args.c c.if-c-eq109.true

pub returns-then-c-eq112 : goal.returns-then-c-eq112
returns-then-c-eq112 c = a_p c.args.c c.if-c-eq112.true

pub returns-else-c-eq112 : goal.returns-else-c-eq112
returns-else-c-eq112 c = a_never c.args.c (ne_eqb c.args.c 109 c.if-c-eq109.false) (ne_eqb c.args.c 112 c.if-c-eq112.false)
