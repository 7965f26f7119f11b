use Rattle.std.proofs.Common.{◌≡◌, length}
use Rattle.script_edits.specs.Words.{words_in}
use Rattle.line_mistakes.specs.Mistakes.{has_empty}
use Rattle.line_mistakes.proofs.walk.has_empty.Given as goal

abbrev pub invariant-next : goal.invariant-next
invariant-next l = has_empty (words_in l.rest) ≡ has_empty (words_in l.words)

abbrev pub decreases-next : goal.decreases-next
decreases-next l = length l.rest
