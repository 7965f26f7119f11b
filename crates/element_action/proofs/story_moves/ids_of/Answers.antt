use Rattle.std.proofs.Common.{◌≤◌, sym, subst, ◌∙◌}
use Rattle.std.proofs.lemmas.List.{length-map}
use Rattle.mos_edits.specs.Orders.{Story}
use Rattle.mos_values.specs.Distinct.{story_ids}
use Rattle.element_action.proofs.GatherLemmas.{all_end}
use Rattle.element_action.proofs.story_moves.ids_of.Goals as goal

pub returns : goal.returns
returns c =
    let ss = c.args.order.now.stories in
    let le = subst (λ n. n ≤ c.loop-i.i) (c.len-i-end.ensures ∙ sym (length-map ss (λ (s : Story). s.id))) c.loop-i-test.false in
    all_end (story_ids ss) c.loop-i.i c.loop-i.ids (story_ids ss) le c.loop-i.invariant
