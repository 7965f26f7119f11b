use Rattle.std.proofs.Common.{length, ◌-◌, arith}
use Rattle.mos_columns.proofs.NamePlaces.{all_compared}
use Rattle.mos_columns.proofs.names.is_long_text.Goals as goal

pub returns : goal.returns
returns c = all_compared c.args.name.now c.args.units.now c.loop-n.n (length c.args.name.now - 8) 8 c.are_eight-2.result c.requires.same_length
    (let l = c.requires.long in omega (arith, l)) (omega (arith, c.loop-n-test.false)) c.loop-n.invariant c.are_eight-2.ensures.yes c.are_eight-2.ensures.no
