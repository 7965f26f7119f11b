use Rattle.std.proofs.Common.{◌≡◌, true, false, Some, sym, ap, ◌∙◌}
use Rattle.mos_edits.specs.Texts.{has_id}
use Rattle.mos_edits.specs.KeyedLists.ActFault.{Missing}
use Rattle.mos_edits.specs.Orders.{apply, with_script}
use Rattle.mos_edits.specs.declared.edit.Edit.TheVariants as edit
use Rattle.mos_values.specs.Distinct.{story_ids}
use Rattle.element_action.proofs.FormLemmas.{told_cause}
use Rattle.element_action.proofs.EditLemmas.{script_there}
use Rattle.element_action.proofs.copying.check_script.Goals as goal

pub returns-else-has_story : goal.returns-else-has_story
returns-else-has_story c =
    let o = c.args.order.now in
    let s = c.args.script.now in
    let has : has_id s.story (story_ids o.stories) ≡ false = sym c.has_story.ensures ∙ c.if-has_story.false in
    told_cause true (apply s.ro (Some o) (edit.Script s)) (Missing s.story) c.missing_story.result (script_there s.ro o s ∙ ap (λ b. with_script o s b) has) c.missing_story.ensures
