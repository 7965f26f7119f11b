use Rattle.std.proofs.Common.{Err, ◌∙◌, ap, arith}
use Rattle.entry_spellings.proofs.SpellingLemmas.{units_short}
use Rattle.entry_spellings.proofs.reading.is_spelling.Goals as goal

pub returns-in-Err-TooLong-clause-no : goal.returns-in-Err-TooLong-clause-no
returns-in-Err-TooLong-clause-no c = λ s.
    let long = c.spelled_bytes.ensures.too_long (c.in-Err-TooLong.is ∙ ap Err c.in-Err-TooLong.field-0-is) in
    absurd (omega (arith, long, units_short c.args.bytes.now c.args.e.now s))
