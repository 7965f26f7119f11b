use Rattle.std.proofs.Common.{refl}
use Rattle.mos_reader.proofs.Starts.{fresh_read}
use Rattle.mos_reader.proofs.reading.Reading.new.Goals as goal

pub returns : goal.returns
returns c = λ held. fresh_read _ held (record { stands = c.new-2.ensures; lex = c.new.ensures.state held; sound = c.new.ensures.sound held; start = refl; opened = refl; here = refl })
