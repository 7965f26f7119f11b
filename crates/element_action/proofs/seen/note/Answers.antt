use Rattle.std.proofs.Common.{◌++◌, ◌∷◌, [], sym, subst}
use Rattle.mos_values.specs.Distinct.{AreDistinct}
use Rattle.element_action.proofs.SourceLemmas.{noted_distinct}
use Rattle.element_action.proofs.seen.note.Goals as goal

pub push-requires : goal.push-requires
push-requires c = subst (λ t. AreDistinct (c.args.seen.now ++ t ∷ [])) (sym c.text.ensures.value) (noted_distinct c.args.id.now c.args.seen.now c.has_distinct_ids.ensures c.requires)
