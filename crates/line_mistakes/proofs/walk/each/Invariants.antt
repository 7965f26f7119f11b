use Rattle.std.proofs.Common.{◌≡◌, length}
use Rattle.script_edits.specs.Words.{words_in}
use Rattle.line_mistakes.specs.Mistakes.{each_mistake}
use Rattle.line_mistakes.proofs.walk.each.Given as goal

abbrev pub invariant-next : goal.invariant-next
invariant-next l = each_mistake l.kind (words_in l.rest) ≡ each_mistake l.kind (words_in l.words)

abbrev pub decreases-next : goal.decreases-next
decreases-next l = length l.rest
