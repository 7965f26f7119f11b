use Rattle.std.proofs.Common.{◌≡◌, take}
use Rattle.script_edits.specs.Words.{words_in}
use Rattle.script_edits.proofs.names.ids_named.Given as goal

abbrev pub invariant-loop-word : goal.invariant-loop-word
invariant-loop-word l = l.ids ≡ words_in (take l.word-index l.words)
