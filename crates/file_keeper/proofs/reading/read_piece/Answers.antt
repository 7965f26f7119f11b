use Rattle.std.proofs.Common.{take}
use Rattle.std.proofs.lemmas.List.{length-take-le}
use Rattle.file_keeper.proofs.ReadingLemmas.{come_more}
use Rattle.file_keeper.proofs.reading.read_piece.Goals as goal

pub returns-in-Ok-feed_piece-clause-steps : goal.returns-in-Ok-feed_piece-clause-steps
returns-in-Ok-feed_piece-clause-steps g c = λ start h. come_more start _ _ _ c.in-Ok.count (take c.in-Ok.count c.read.new.buf) c.args.reader.now c.feed_piece.new.reader h c.in-Ok.ensures.bytes.0 (length-take-le c.in-Ok.count c.read.new.buf c.in-Ok.ensures.bound.0) (c.in-Ok-feed_piece.ensures h.bytes h.read)
