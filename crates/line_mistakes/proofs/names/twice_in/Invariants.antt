use Rattle.std.proofs.Common.{◌≡◌, length}
use Rattle.script_edits.specs.Words.{words_in}
use Rattle.line_mistakes.specs.Mistakes.{twice_in}
use Rattle.line_mistakes.proofs.names.twice_in.Given as goal

abbrev pub invariant-next : goal.invariant-next
invariant-next l = twice_in (words_in l.rest) ≡ twice_in (words_in l.names)

abbrev pub decreases-next : goal.decreases-next
decreases-next l = length l.rest
