use Rattle.file_keeper.proofs.reading.read_all.Goals as goal

pub returns-in-Ok-End : goal.returns-in-Ok-End
returns-in-Ok-End g c = rw c.in-Ok-End.field-0-is at c.in-Ok-End.ensures.steps _ c.piece.invariant.0
