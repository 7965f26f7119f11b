use Rattle.std.proofs.Common.{◌≡◌, length}
use Rattle.script_edits.specs.Words.{stands_in, words_in}
use Rattle.script_edits.proofs.words.stands_in.Given as goal

abbrev pub invariant-loop-rest : goal.invariant-loop-rest
invariant-loop-rest l = stands_in l.word (words_in l.rest) ≡ stands_in l.word (words_in l.words)

abbrev pub decreases-loop-rest : goal.decreases-loop-rest
decreases-loop-rest l = length l.rest
