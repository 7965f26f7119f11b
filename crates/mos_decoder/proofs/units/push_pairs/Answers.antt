use Rattle.std.proofs.Common.{◌≡◌, ◌++◌, ap, ◌∙◌, subst}
use Rattle.std.specs.Prelude.{IfOk}
use Rattle.mos_fields.specs.Characters.{units_in}
use Rattle.mos_decoder.specs.Bytes.{odd_in}
use Rattle.mos_decoder.proofs.units.push_pairs.Goals as goal

pub returns-clause-odd : goal.returns-clause-odd
returns-clause-odd c = subst (λ z. IfOk c.push_single_pairs.result (λ o. o ≡ z)) (ap odd_in c.behind.ensures ∙ c.in_ok-at.ensures.odd) c.push_single_pairs.ensures.odd

pub returns-clause-units : goal.returns-clause-units
returns-clause-units c =
    subst (λ z. IfOk c.push_single_pairs.result (λ o. c.push_single_pairs.new.units.items ≡ z))
    (ap (λ z. c.push_blocks.new.units.items ++ units_in z) c.behind.ensures ∙ c.in_ok-at.ensures.units) c.push_single_pairs.ensures.units
