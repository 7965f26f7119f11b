use Rattle.std.proofs.Common.{length, ◌-◌, refl, arith}
use Rattle.mos_columns.proofs.NamePlaces.{all_compared}
use Rattle.mos_columns.proofs.names.is_text.Goals as goal

pub returns-then-are_four : goal.returns-then-are_four
returns-then-are_four c = all_compared c.args.name.now c.args.units.now 4 (length c.args.name.now - 4) 4 c.are_four-then-are_four.result c.requires
    (omega (arith, c.if-length-ge4.true)) (omega (arith, c.if-length-ge8.false)) (λ k l. c.if-are_four.ensures.yes refl k (omega arith) (omega (arith, l))) c.are_four-then-are_four.ensures.yes c.are_four-then-are_four.ensures.no
