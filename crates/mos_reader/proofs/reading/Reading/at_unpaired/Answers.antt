use Rattle.mos_reader.proofs.HeldRuns.{unpaired_within}
use Rattle.mos_reader.proofs.reading.Reading.at_unpaired.Goals as goal

pub returns-then-self-lt-MESSAGE_LIMIT : goal.returns-then-self-lt-MESSAGE_LIMIT
returns-then-self-lt-MESSAGE_LIMIT c = unpaired_within c.args.self.now c.args.held.now c.requires.read c.requires.unpaired c.requires.within c.if-self-lt-MESSAGE_LIMIT.true
