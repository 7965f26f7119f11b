use Rattle.std.proofs.Common.{◌≡◌, [], ◌∷◌, sym, ap, ◌∙◌}
use Rattle.mos_edits.specs.Texts.{Text}
use Rattle.mos_values.specs.StoryValue.{Story}
use Rattle.running_order.proofs.Scripts.{ids_at-at}
use Rattle.running_order.proofs.order.id_at.Goals as goal

pub returns : goal.returns
returns c =
    let id_is : c.behind-entry.inside.id ≡ c.in-Some.entry.now.id = ap (λ (s : Story). s.id) (c.behind-entry.view_is ∙ c.story.ensures) in
    ids_at-at c.args.stories.now c.args.at c.in-Some.entry.now (sym c.in-Some.ensures) ∙ ap (λ (i : Text). i ∷ []) (sym (c.in_ok-try_clone-in-Some.ensures ∙ id_is))
