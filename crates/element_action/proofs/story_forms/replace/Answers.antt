use Rattle.std.proofs.Common.{◌≡◌, [], None, Some, sym, ap, ◌∙◌}
use Rattle.std.specs.Option.{option_map}
use Rattle.mos_edits.specs.KeyedLists.{first_of, first_repeated, lacking}
use Rattle.mos_values.specs.Distinct.{story_ids}
use Rattle.element_action.specs.Answers.{named}
use Rattle.element_action.specs.Levels.{beside}
use Rattle.element_action.proofs.ScriptLemmas.{lacking_none}
use Rattle.element_action.proofs.SourceLemmas.{first-none}
use Rattle.element_action.proofs.story_forms.replace.Goals as goal

pub put_stories_for-requires-clause-there : goal.put_stories_for-requires-clause-there
put_stories_for-requires-clause-there c =
    let there = story_ids c.args.order.now.stories in
    let t = c.args.target.now in
    let ids = c.as_slice.result.now in
    let h : first_of (lacking there t) (first_repeated (beside (Some t) there) [] ids) ≡ None = sym c.find_replace_fault.ensures ∙ ap (λ o. option_map named o) c.in-None.is in
    lacking_none there t (first-none (lacking there t) (first_repeated (beside (Some t) there) [] ids) h).0
