use Rattle.std.proofs.Common.{sym, ap, ◌∙◌, ◌+◌, ◌*◌, ne_eqb}
use Rattle.mos_scanner.proofs.NumberLemmas.{decimal_ended, decimal_other, decimal_grows, decimal_x, decimal_no_x}
use Rattle.mos_scanner.proofs.number.decimal.Goals as goal

pub returns-then-c-eq59 : goal.returns-then-c-eq59
returns-then-c-eq59 c ds g = decimal_ended ds c.args.count c.args.value g c.args.c c.if-c-eq59.true c.ended.result c.ended.ensures

pub returns-then-is_digit : goal.returns-then-is_digit
returns-then-is_digit c ds g = decimal_grows ds c.args.count c.args.value c.args.c _ g (sym c.is_digit.ensures ∙ c.if-is_digit.true) (ap (λ k. c.args.value * 10 + k) c.digit_value.ensures.value) c.decimal_digit.result c.decimal_digit.ensures

pub returns-then-count-eq0 : goal.returns-then-count-eq0
returns-then-count-eq0 c ds g = decimal_x ds c.args.count c.args.value c.args.c g c.if-c-eq120.true c.if-count-eq0.true

pub returns-else-count-eq0 : goal.returns-else-count-eq0
returns-else-count-eq0 c ds g = decimal_no_x ds c.args.count c.args.value c.args.c g c.if-c-eq120.true c.if-count-eq0.false

pub returns-else-c-eq120 : goal.returns-else-c-eq120
returns-else-c-eq120 c ds g = decimal_other ds c.args.count c.args.value c.args.c g (λ q. (ne_eqb c.args.c 120 c.if-c-eq120.false)) (ne_eqb c.args.c 59 c.if-c-eq59.false) (sym c.is_digit.ensures ∙ c.if-is_digit.false)
