use Rattle.std.proofs.Common.{◌≡◌, ◌++◌, drop}
use Rattle.std.specs.Option.{option_map}
use Rattle.script_edits.specs.Stories.{stories_of}
use Rattle.script_edits.specs.Words.{words_in}
use Rattle.script_edits.proofs.stories.push_stories.Given as goal

abbrev pub invariant-loop-word : goal.invariant-loop-word
invariant-loop-word l = option_map (λ more. l.stories ++ more) (stories_of (words_in (drop l.word-index l.words))) ≡ option_map (λ more. l.initial.stories ++ more) (stories_of (words_in l.words))
