use Rattle.std.proofs.Common.{◌≡◌, codes, refl, ap, ◌∙◌}
use Rattle.mos_values.specs.Units.{capped, units_in}
use Rattle.mos_values.specs.Views.{objects_events}
use Rattle.mos_values.proofs.Counts.{count_element}
use Rattle.mos_values.proofs.sizes.object_list_units.Goals as goal

pub returns : goal.returns
returns c = count_element (codes "mosListAll") (objects_events c.args.objects.now) c.objects_units.result c.plus.result refl (c.objects_units.ensures ∙ ap (λ os. capped (units_in (objects_events os))) c.as_slice.ensures) c.plus.ensures
