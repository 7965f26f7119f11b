use Rattle.std.proofs.Common.{◌≡◌, Bool, true, false, Some, if◌then◌else◌, sym, ap, ◌∙◌, subst}
use Rattle.mos_edits.specs.Texts.{has_id}
use Rattle.mos_edits.specs.KeyedLists.Applied.{Done, Fault}
use Rattle.mos_edits.specs.KeyedLists.ActFault.{Missing}
use Rattle.mos_edits.specs.Orders.{Order, StorySend, with_script}
use Rattle.mos_edits.specs.Rows.{put_row}
use Rattle.mos_values.specs.Distinct.{story_ids}
use Rattle.gateway_core.specs.Reads.{IsTold}
use Rattle.gateway_core.proofs.edits.put_script.Goals as goal

pub returns-then-branch-clause-ok : goal.returns-then-branch-clause-ok
returns-then-branch-clause-ok c =
    let o = c.args.order.now in
    let s = c.args.script.now in
    let has : has_id s.story (story_ids o.stories) ≡ true = sym c.in_ok-share_script.ensures.there ∙ c.if-branch.true in
    let new = c.in_ok-share_script.ensures.ok ∙ ap (λ (b : Bool). if b then record o { scripts = put_row s.story s o.scripts } else o) c.if-branch.true in
    ap (λ b. with_script o s b) has ∙ ap (λ (p : Order). Done (Some p)) (sym new)

pub returns-else-branch-clause-fault : goal.returns-else-branch-clause-fault
returns-else-branch-clause-fault c =
    let o = c.args.order.now in
    let s = c.args.script.now in
    let has : has_id s.story (story_ids o.stories) ≡ false = sym c.in_ok-share_script.ensures.there ∙ c.if-branch.false in
    subst (λ d. IsTold d c.missing.result) (sym (ap (λ b. with_script o s b) has)) (subst (λ (x : StorySend). IsTold (Fault (Missing x.story)) c.missing.result) c.as_ref.ensures c.missing.ensures)

pub returns-else-branch-clause-err : goal.returns-else-branch-clause-err
returns-else-branch-clause-err c =
    let o = c.args.order.now in
    let s = c.args.script.now in
    c.in_ok-share_script.ensures.ok ∙ ap (λ (b : Bool). if b then record o { scripts = put_row s.story s o.scripts } else o) c.if-branch.false
