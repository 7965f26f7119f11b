use Rattle.std.proofs.Common.{◌≡◌, length}
use Rattle.script_edits.specs.Words.{stands_in, words_in}
use Rattle.line_mistakes.proofs.names.stands_in.Given as goal

abbrev pub invariant-next : goal.invariant-next
invariant-next l = stands_in l.word (words_in l.rest) ≡ stands_in l.word (words_in l.words)

abbrev pub decreases-next : goal.decreases-next
decreases-next l = length l.rest
