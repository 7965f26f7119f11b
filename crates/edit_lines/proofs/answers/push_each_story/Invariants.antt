use Rattle.std.proofs.Common.{◌≡◌, ◌++◌, drop}
use Rattle.std.specs.List.{flat_map}
use Rattle.edit_lines.specs.Answers.{story_behind}
use Rattle.edit_lines.proofs.answers.push_each_story.Given as goal

abbrev pub invariant-stories : goal.invariant-stories
invariant-stories l = l.out.items ++ flat_map story_behind (drop l.story-index l.stories) ≡ l.initial.out.items ++ flat_map story_behind l.stories
