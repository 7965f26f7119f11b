use Rattle.std.proofs.Common.{true, false, refl, sym, ap, ◌∙◌}
use Rattle.std.specs.Option.{option_copied}
use Rattle.mos_edits.specs.Texts.{same_id, has_id}
use Rattle.element_action.specs.Levels.{level_ids, beside}
use Rattle.element_action.proofs.SourceLemmas.{beside_has}
use Rattle.element_action.proofs.search.is_beside.Goals as goal

pub returns-then-is_there : goal.returns-then-is_there
returns-then-is_there c =
    let there = level_ids c.args.level c.args.order.now.stories in
    beside_has c.args.id.now c.in-Some.target.now there true c.is_same.result (sym c.if-is_there.true ∙ c.is_there-in-Some.ensures) c.is_same.ensures
    ∙ ap (λ o. has_id c.args.id.now (beside (option_copied o) there)) (sym c.in-Some.is)

pub returns-else-is_there : goal.returns-else-is_there
returns-else-is_there c =
    let there = level_ids c.args.level c.args.order.now.stories in
    c.if-is_there.false ∙ beside_has c.args.id.now c.in-Some.target.now there false (same_id c.args.id.now c.in-Some.target.now) (sym c.if-is_there.false ∙ c.is_there-in-Some.ensures) refl
    ∙ ap (λ o. has_id c.args.id.now (beside (option_copied o) there)) (sym c.in-Some.is)
