use Rattle.mos_reader.proofs.HeldRuns.{ended_here}
use Rattle.mos_reader.proofs.reading.Reading.read_on.Goals as goal

pub returns : goal.returns
returns c = ended_here c.next.self c.args.held.now c.next.invariant c.next-test.false
