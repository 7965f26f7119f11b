use Rattle.std.proofs.Common.{[], ◌++◌}
use Rattle.port_looking.proofs.Lookings.{fed_by, fed_room}
use Rattle.port_looking.proofs.looker.feed_piece.Goals as goal

pub feed-outcome-requires-clause-room : goal.feed-outcome-requires-clause-room
feed-outcome-requires-clause-room c = fed_room c.args.decoder.now c.requires.taken.0 c.args.piece.now c.requires.taken.1 c.requires.ready c.requires.taken.2

pub returns : goal.returns
returns c read h = fed_by c.args.names.now (read ++ c.args.piece.now) _ _ _ _ _ c.requires.names.0 (c.feed-outcome.ensures.tells read [] h) c.first_device-found.ensures c.settle.ensures
