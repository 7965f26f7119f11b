use Rattle.std.proofs.Common.{◌≡◌, sym, ap, ◌∙◌}
use Rattle.std.proofs.lemmas.Bool.Decides.{Decides-eqb}
use Rattle.std.proofs.lemmas.Slice.Eq.{slice_eq-Decides}
use Rattle.mos_fields.specs.Characters.{units_of}
use Rattle.mos_values.proofs.Utf16.{same_by_units}
use Rattle.mos_values.proofs.ids.are_same.Goals as goal

pub returns : goal.returns
returns c =
    let d = slice_eq-Decides Decides-eqb c.units.result.now c.units-2.result.now c.eq.result c.eq.ensures in (
      λ t. same_by_units c.args.a.now c.args.b.now c.units.ensures.allowed c.units-2.ensures.allowed (sym c.units.ensures.value ∙ d.0 t ∙ c.units-2.ensures.value),
      λ e. d.1 (c.units.ensures.value ∙ ap units_of e ∙ sym c.units-2.ensures.value),
    )
