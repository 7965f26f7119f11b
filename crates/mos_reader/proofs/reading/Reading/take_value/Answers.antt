use Rattle.std.proofs.Common.{◌∙◌, refl, arith}
use Rattle.mos_reader.proofs.TokenLemmas.{complete_taken}
use Rattle.mos_reader.proofs.Starts.{fresh_read}
use Rattle.mos_reader.proofs.reading.Reading.take_value.Goals as goal

pub returns-clause-read : goal.returns-clause-read
returns-clause-read c = λ held. fresh_read _ held (record { stands = c.take_value.ensures.stands ∙ complete_taken c.args.self.now.frames c.requires; lex = c.begin.ensures.state held; sound = c.begin.ensures.sound held (omega arith); start = refl; opened = refl; here = refl })
