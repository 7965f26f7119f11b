use Rattle.std.proofs.Common.{ℕ, ◌+◌, List, ◌++◌, take, slice_range, refl, ap, ◌∙◌, inl, arith}
use Rattle.line_reader.proofs.StepLemmas.{fewer, gives_open, line_ended}
use Rattle.line_reader.proofs.reader.LineReader.take_front.Goals as goal

pub returns-in-Ok-clause-stepped : goal.returns-in-Ok-clause-stepped
returns-in-Ok-clause-stepped c l l' f lines h =
    let front = λ (xs : List ℕ). take c.args.self.now.most (c.args.self.now.line.items ++ take c.args.count (slice_range xs c.args.self.now.at c.args.self.now.end)) in
    line_ended l l' c.args.self.now _ lines c.args.count c.requires.end (c.in-Ok.ensures.held ∙ ap front c.deref.ensures.value) refl refl h

pub returns-in-Err-clause-stepped : goal.returns-in-Err-clause-stepped
returns-in-Err-clause-stepped c l l' f lines h = gives_open l l' c.args.self.now lines h

pub returns-in-Ok-clause-goes_on : goal.returns-in-Ok-clause-goes_on
returns-in-Ok-clause-goes_on c = inl (fewer c.args.self.now (c.args.self.now.at + (c.args.count + 1)) c.requires.room c.requires.left (omega arith))
