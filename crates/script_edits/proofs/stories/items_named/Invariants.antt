use Rattle.std.proofs.Common.{◌≡◌, take, map}
use Rattle.script_edits.specs.Words.{words_in}
use Rattle.script_edits.specs.Stories.{item_named}
use Rattle.script_edits.proofs.stories.items_named.Given as goal

abbrev pub invariant-loop-word : goal.invariant-loop-word
invariant-loop-word l = l.items ≡ map item_named (words_in (take l.word-index l.words))
