use Rattle.std.proofs.Common.{◌≡◌, length}
use Rattle.script_edits.specs.Words.{are_distinct, words_in}
use Rattle.script_edits.proofs.words.are_distinct.Given as goal

abbrev pub invariant-loop-rest : goal.invariant-loop-rest
invariant-loop-rest l = are_distinct (words_in l.rest) ≡ are_distinct (words_in l.words)

abbrev pub decreases-loop-rest : goal.decreases-loop-rest
decreases-loop-rest l = length l.rest
