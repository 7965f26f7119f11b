use Rattle.std.proofs.Common.{◌≡◌, suc, get_or, arith, ap}
use Rattle.world_scripts.specs.WorldEvents.{direction_of}
use Rattle.world_parts.proofs.Queues.{lost-at}
use Rattle.world_parts.proofs.connections.lose.Goals as goal

pub returns-in-Some-clause-lost : goal.returns-in-Some-clause-lost
returns-in-Some-clause-lost c = λ r d lines h.
    let n : c.args.c ≡ suc c.in-Some.i = omega (arith, c.in-Some.ensures) in
    let xs = c.args.connections.now in
    let i = c.in-Some.i in
    lost-at xs i c.args.c d (direction_of c.args.way) c.args.k (get_or xs i c.index-connections-i.result) c.lose_on.new.connection lines n c.if-i-connections.true (ap (get_or xs i) c.index-connections-i.is) c.lose_on.ensures h
