use Rattle.mos_reader.proofs.HeldRuns.{forbidden_here}
use Rattle.mos_reader.proofs.reading.Reading.read_at.Goals as goal

pub returns-in-Forbidden : goal.returns-in-Forbidden
returns-in-Forbidden c = forbidden_here c.args.self.now c.args.held.now c.requires.read c.in-Forbidden.ensures c.requires.within
