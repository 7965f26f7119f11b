use Rattle.line_reader.proofs.reader.LineReader.advance.Goals as goal

pub returns-then-self-clause-stepped : goal.returns-then-self-clause-stepped
returns-then-self-clause-stepped g c l lines h = c.cut.ensures.stepped l _ _ lines h
