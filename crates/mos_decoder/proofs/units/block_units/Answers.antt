use Rattle.std.proofs.Common.{arith}
use Rattle.mos_decoder.proofs.PairLemmas.{block_is}
use Rattle.mos_decoder.proofs.units.block_units.Goals as goal

pub returns : goal.returns
returns c =
    let t = c.loop-k-test.false in
    block_is c.args.bytes.now c.loop-k.units c.args.at c.loop-k.invariant.len c.requires (λ j l. c.loop-k.invariant.before j (omega (arith, t, l)))
