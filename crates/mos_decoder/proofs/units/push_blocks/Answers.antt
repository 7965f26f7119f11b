use Rattle.std.proofs.Common.{◌+◌, ◌≤◌, length, ◌∙◌, arith}
use Rattle.mos_decoder.proofs.PairLemmas.{pairs_odd}
use Rattle.mos_decoder.proofs.units.push_blocks.Goals as goal

pub block-preserved : goal.block-preserved
block-preserved c =
    let i = c.block.invariant in
    let w = i.within in
    let t = c.block-test.true in
    let l : c.block.at + 64 ≤ length c.args.bytes.now = omega (arith, t, w) in
    record {
      within = l;
      units = c.in_ok-push_block.ensures ∙ i.units;
      odd = pairs_odd 32 c.args.bytes.now c.block.at l ∙ i.odd;
    }
