use Rattle.std.specs.Prelude.{None, length}
use Rattle.file_keeper.proofs.ReadingLemmas.{room_left}
use Rattle.file_keeper.proofs.reading.feed_piece.Goals as goal

pub feed-requires-clause-room : goal.feed-requires-clause-room
feed-requires-clause-room c = room_left None None c.args.total (length c.args.piece.now) c.args.reader.now c.requires.come c.requires.most c.requires.few
