use Rattle.std.proofs.Common.{◌+◌, ◌≤◌, length, arith}
use Rattle.mos_writer.proofs.EncodedLemmas.{four_escaped}
use Rattle.mos_writer.proofs.bytes.push_escaped.Goals as goal

pub four-preserved : goal.four-preserved
four-preserved c =
    let i = c.four.invariant in
    let w = i.within in
    let t = c.four-test.true in
    let l : c.four.at + 4 ≤ length c.args.units.now = omega (arith, t, w) in
    record {
      within = l;
      bytes = four_escaped c.args.units.now c.four.at c.four.out.items c.push_four_escaped.new.out.items _ l i.bytes c.in_ok-push_four_escaped.ensures;
    }
