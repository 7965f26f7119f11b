use Rattle.mos_text.proofs.ReadingLemmas.{Loop}
use Rattle.mos_text.proofs.reader.read.Given as goal

abbrev pub invariant-loop-byte : goal.invariant-loop-byte
invariant-loop-byte l = Loop l.fn.reading l.piece l.byte-index l.state l.initial.out.items l.out.items
