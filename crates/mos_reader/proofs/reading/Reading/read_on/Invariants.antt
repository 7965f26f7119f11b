use Rattle.std.proofs.Common.{◌-◌, length}
use Rattle.mos_reader.specs.Places.{HasRead}
use Rattle.mos_reader.proofs.reading.Reading.read_on.Given as goal

abbrev pub invariant-next : goal.invariant-next
invariant-next l = HasRead l.self l.held

abbrev pub decreases-next : goal.decreases-next
decreases-next l = length l.held - l.self.here
