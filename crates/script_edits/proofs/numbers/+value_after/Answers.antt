use Rattle.std.proofs.Common.{rules, arith}
use Rattle.script_edits.proofs.NumberLemmas.{next_small, first_digit}
use Rattle.script_edits.proofs.numbers.+value_after.Goals as goal

pub overflow_mul-n : goal.overflow_mul-n
overflow_mul-n t c = let h = next_small c.args.n 0 c.args.digits.now c.in-len1-up.len_at_least (omega arith) c.requires.room in search (rules, h)

pub overflow_add-n : goal.overflow_add-n
overflow_add-n t c = let h = next_small c.args.n c.digit_value.result c.args.digits.now c.in-len1-up.len_at_least c.digit_value.ensures.bound c.requires.room in search (rules, h)

pub digit_value-requires : goal.digit_value-requires
digit_value-requires t c = first_digit c.args.digits.now c.in-len1-up.len_at_least c.requires.digits
