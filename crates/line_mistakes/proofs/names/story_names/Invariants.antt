use Rattle.std.proofs.Common.{◌≡◌, take, map}
use Rattle.script_edits.specs.Words.{words_in}
use Rattle.line_mistakes.specs.Mistakes.{story_name}
use Rattle.line_mistakes.proofs.names.story_names.Given as goal

abbrev pub invariant-words : goal.invariant-words
invariant-words l = words_in l.names.items ≡ map story_name (words_in (take l.word-index l.words))
