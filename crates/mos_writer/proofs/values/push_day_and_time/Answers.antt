use Rattle.std.proofs.Common.{◌/◌, ◌^◌, ◌<◌, ◌∷◌, ◌++◌, arith}
use Rattle.mos_fields.specs.Values.{day_text, clock_text}
use Rattle.mos_writer.proofs.AsciiLemmas.{written_wide, digit_small}
use Rattle.mos_writer.proofs.values.push_day_and_time.Goals as goal

pub returns : goal.returns
returns c =
    let sign : 45 < 2 ^ 8 = omega (arith) in
    let letter : 84 < 2 ^ 8 = omega (arith) in
    let colon : 58 < 2 ^ 8 = omega (arith) in
    written_wide _ _ (day_text c.args.y c.args.m c.args.d ++ 84 ∷ clock_text c.args.h c.args.min c.args.s)
    (digit_small (c.args.y / 1000), (digit_small (c.args.y / 100), (digit_small (c.args.y / 10), (digit_small (c.args.y), (sign, (digit_small (c.args.m / 10), (digit_small (c.args.m), (sign, (digit_small (c.args.d / 10), (digit_small (c.args.d), (letter, (digit_small (c.args.h / 10), (digit_small (c.args.h), (colon, (digit_small (c.args.min / 10), (digit_small (c.args.min), (colon, (digit_small (c.args.s / 10), (digit_small (c.args.s), tt)))))))))))))))))))
    c.in_ok-extend_from_slice.ensures.items
