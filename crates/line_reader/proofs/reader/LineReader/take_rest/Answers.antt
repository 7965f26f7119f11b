use Rattle.std.proofs.Common.{inl}
use Rattle.line_reader.proofs.StepLemmas.{fewer, gives_open}
use Rattle.line_reader.proofs.reader.LineReader.take_rest.Goals as goal

pub returns-in-Err-clause-stepped : goal.returns-in-Err-clause-stepped
returns-in-Err-clause-stepped c l l' f lines h = gives_open l l' c.args.self.now lines h

pub returns-in-Ok-clause-goes_on : goal.returns-in-Ok-clause-goes_on
returns-in-Ok-clause-goes_on c = inl (fewer c.args.self.now c.args.self.now.end c.requires.room c.requires.left c.requires.left)
