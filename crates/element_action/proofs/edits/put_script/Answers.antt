use Rattle.std.proofs.Common.{◌≡◌, Bool, true, false, Some, if◌then◌else◌, sym, ap, ◌∙◌, subst}
use Rattle.mos_edits.specs.Texts.{has_id}
use Rattle.mos_edits.specs.KeyedLists.ActFault.{Missing}
use Rattle.mos_edits.specs.KeyedLists.Applied.{Done}
use Rattle.mos_edits.specs.Orders.{Order, StorySend, apply, with_script}
use Rattle.mos_edits.specs.Rows.{put_row}
use Rattle.mos_edits.specs.declared.edit.Edit.TheVariants as edit
use Rattle.mos_values.specs.Distinct.{story_ids}
use Rattle.element_action.specs.Answers.{IsTold}
use Rattle.element_action.proofs.FormLemmas.{told_cause}
use Rattle.element_action.proofs.EditLemmas.{script_there}
use Rattle.element_action.proofs.edits.put_script.Goals as goal

pub returns-then-branch : goal.returns-then-branch
returns-then-branch c =
    let o = c.args.order.now in
    let s = c.args.script.now in
    let has : has_id s.story (story_ids o.stories) ≡ true = sym c.in_ok-share_script.ensures.there ∙ c.if-branch.true in
    let new = c.in_ok-share_script.ensures.ok ∙ ap (λ (b : Bool). if b then record o { scripts = put_row s.story s o.scripts } else o) c.if-branch.true in
    script_there s.ro o s ∙ ap (λ b. with_script o s b) has ∙ ap (λ (p : Order). Done (Some p)) (sym new)

pub returns-else-branch : goal.returns-else-branch
returns-else-branch c =
    let o = c.args.order.now in
    let s = c.args.script.now in
    let has : has_id s.story (story_ids o.stories) ≡ false = sym c.in_ok-share_script.ensures.there ∙ c.if-branch.false in
    let new = c.in_ok-share_script.ensures.ok ∙ ap (λ (b : Bool). if b then record o { scripts = put_row s.story s o.scripts } else o) c.if-branch.false in (
      told_cause true (apply s.ro (Some o) (edit.Script s)) (Missing s.story) c.missing_story.result (script_there s.ro o s ∙ ap (λ b. with_script o s b) has) (subst (λ (x : StorySend). IsTold (Missing x.story) c.missing_story.result) c.as_ref.ensures c.missing_story.ensures),
      ap (λ (p : Order). Some p) new,
    )
