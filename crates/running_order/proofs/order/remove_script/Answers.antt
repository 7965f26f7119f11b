use Rattle.std.proofs.Common.{◌≡◌, [], ◌∷◌, sym, ap, ◌∙◌}
use Rattle.mos_edits.specs.Texts.{Text}
use Rattle.mos_values.specs.StoryValue.{Story}
use Rattle.order_table.specs.Rows.{without_rows}
use Rattle.running_order.proofs.Scripts.{ids_at-at, ids_at-none, without-nothing}
use Rattle.running_order.proofs.order.remove_script.Goals as goal

pub returns-in-Some : goal.returns-in-Some
returns-in-Some c =
    let id_is : c.behind-entry.inside.id ≡ c.in-Some.entry.now.id = ap (λ (s : Story). s.id) (c.behind-entry.view_is ∙ c.story.ensures) in
    let gone = ids_at-at c.args.stories.now c.args.at c.in-Some.entry.now (sym c.in-Some.ensures) ∙ ap (λ (i : Text). i ∷ []) (sym id_is) in
    c.remove.ensures ∙ ap (λ ids. without_rows ids c.args.scripts.now) (sym gone)

pub returns-in-None : goal.returns-in-None
returns-in-None c =
    let gone = ids_at-none c.args.stories.now c.args.at (sym c.in-None.ensures) in
    sym (ap (λ ids. without_rows ids c.args.scripts.now) gone ∙ without-nothing c.args.scripts.now)
