use Rattle.std.proofs.Common.{sym, ap, ◌∙◌, ◌+◌, ◌*◌, ne_eqb}
use Rattle.mos_scanner.proofs.NumberLemmas.{hexadecimal_ended, hexadecimal_other, hexadecimal_grows}
use Rattle.mos_scanner.proofs.number.hexadecimal.Goals as goal

pub returns-then-c-eq59 : goal.returns-then-c-eq59
returns-then-c-eq59 c ds g = hexadecimal_ended ds c.args.count c.args.value g c.args.c c.if-c-eq59.true c.ended.result c.ended.ensures

pub returns-then-is_hex : goal.returns-then-is_hex
returns-then-is_hex c ds g = hexadecimal_grows ds c.args.count c.args.value c.args.c _ g (sym c.is_hex.ensures ∙ c.if-is_hex.true) (ap (λ k. c.args.value * 16 + k) c.hex_value.ensures.value) c.hexadecimal_digit.result c.hexadecimal_digit.ensures

pub returns-else-is_hex : goal.returns-else-is_hex
returns-else-is_hex c ds g = hexadecimal_other ds c.args.count c.args.value c.args.c g (ne_eqb c.args.c 59 c.if-c-eq59.false) (sym c.is_hex.ensures ∙ c.if-is_hex.false)
