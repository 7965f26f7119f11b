use Rattle.std.proofs.Common.{rules, ◌≡◌, ◌+◌, ◌<◌, ◌++◌, length, arith}
use Rattle.std.proofs.lemmas.Grind.{common_steps}
use Rattle.port_looking.proofs.Lookings.{taken_in}
use Rattle.port_looking.proofs.looker.take_in.Goals as goal

pub feed_piece-requires-clause-taken : goal.feed_piece-requires-clause-taken
feed_piece-requires-clause-taken c =
    let small : length c.args.front.now.items + length c.args.piece.now < 18446744073709551616 = first_of (search rules, grind (arith, common_steps)) in
    (c.args.front.now.items, c.requires.taken, small)

pub returns : goal.returns
returns c =
    let is : c.extend_from_slice.new.self.items ≡ c.args.front.now.items ++ c.args.piece.now = first_of (search rules, grind (arith, common_steps)) in
    taken_in _ c.args.front.now.items c.args.piece.now _ _ _ is (c.feed_piece.ensures c.args.front.now.items c.requires.taken)
