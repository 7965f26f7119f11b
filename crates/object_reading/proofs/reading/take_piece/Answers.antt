use Rattle.std.proofs.Common.{◌++◌}
use Rattle.object_reading.proofs.TakingLemmas.{taken_fed}
use Rattle.object_reading.proofs.reading.take_piece.Goals as goal

pub returns-in-Ok : goal.returns-in-Ok
returns-in-Ok c = record { taken = λ before h. c.take_whole.ensures (before ++ c.args.bytes.now) (taken_fed before c.args.bytes.now c.args.decoder.now c.feed.new.self c.args.table.now (λ found k. c.in-Ok.ensures.handed before found k) h) }
