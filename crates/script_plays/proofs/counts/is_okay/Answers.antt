use Rattle.std.proofs.Common.{codes, refl, ◌∙◌}
use Rattle.std.specs.Str.{bytes_eq}
use Rattle.mos_fields.proofs.OrderLemmas.{same_by_units}
use Rattle.script_plays.proofs.counts.is_okay.Goals as goal

pub returns : goal.returns
returns c = c.eq.ensures ∙ ((λ i. bytes_eq (c.units.ensures.value i) (c.as_slice.ensures i)) ∙ same_by_units c.args.text.now (codes "OK") c.units.ensures.allowed refl)
