use Rattle.std.proofs.Common.{◌≡◌, codes, refl, ap, ◌∙◌}
use Rattle.mos_values.specs.Units.{capped, units_in}
use Rattle.mos_values.specs.Views.{headers_events}
use Rattle.mos_values.proofs.Counts.{count_element}
use Rattle.mos_values.proofs.sizes.list_all_units.Goals as goal

pub returns : goal.returns
returns c = count_element (codes "roListAll") (headers_events c.args.h.now) c.patches_units.result c.plus.result refl (c.patches_units.ensures ∙ ap (λ hs. capped (units_in (headers_events hs))) c.as_slice.ensures) c.plus.ensures
