use Rattle.std.proofs.Common.{◌<◌, length, arith}
use Rattle.std.proofs.lemmas.Bool.Decides.{nat_tests}
use Rattle.entry_spellings.proofs.SpellingLemmas.{bytes_short}
use Rattle.entry_spellings.proofs.reading.read_entry.Goals as goal

pub returns-then-bytes-gt-MOST_BYTES : goal.returns-then-bytes-gt-MOST_BYTES
returns-then-bytes-gt-MOST_BYTES c = λ e s.
    let t = c.if-bytes-gt-MOST_BYTES.true in
    let long : 16777216 < length c.args.bytes.now = grind (arith, nat_tests) in
    omega (arith, long, bytes_short c.args.bytes.now e s)
