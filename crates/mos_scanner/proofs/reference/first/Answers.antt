use Rattle.std.proofs.Common.{ne_eqb}
use Rattle.mos_scanner.proofs.NamedLemmas.{first_l, first_g, first_a, first_q, first_number, first_never}
use Rattle.mos_scanner.proofs.reference.first.Goals as goal

pub returns-then-c-eq108 : goal.returns-then-c-eq108
returns-then-c-eq108 c = first_l c.args.c c.if-c-eq108.true

pub returns-then-c-eq103 : goal.returns-then-c-eq103
returns-then-c-eq103 c = first_g c.args.c c.if-c-eq103.true

pub returns-then-c-eq97 : goal.returns-then-c-eq97
returns-then-c-eq97 c = first_a c.args.c c.if-c-eq97.true

pub returns-then-c-eq113 : goal.returns-then-c-eq113
returns-then-c-eq113 c = first_q c.args.c c.if-c-eq113.true

pub returns-then-c-eq35 : goal.returns-then-c-eq35
returns-then-c-eq35 c = first_number c.args.c c.if-c-eq35.true

pub returns-else-c-eq35 : goal.returns-else-c-eq35
returns-else-c-eq35 c = first_never c.args.c (ne_eqb c.args.c 108 c.if-c-eq108.false) (ne_eqb c.args.c 103 c.if-c-eq103.false) (ne_eqb c.args.c 97 c.if-c-eq97.false) (ne_eqb c.args.c 113 c.if-c-eq113.false) (ne_eqb c.args.c 35 c.if-c-eq35.false)
