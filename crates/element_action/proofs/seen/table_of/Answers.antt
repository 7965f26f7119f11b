use Rattle.std.proofs.Common.{◌++◌, ◌∷◌, [], sym, subst}
use Rattle.mos_values.specs.Distinct.{AreDistinct}
use Rattle.element_action.proofs.SourceLemmas.{next_distinct}
use Rattle.element_action.proofs.seen.table_of.Goals as goal

pub push-requires : goal.push-requires
push-requires c =
    let k = c.loop-id.id-index in
    let d = next_distinct c.args.ids.now k c.id-item.result c.requires c.loop-id-test.true c.id-item.is in
    subst AreDistinct (λ j. sym c.loop-id.invariant j ++ sym c.text.ensures.value j ∷ []) d
