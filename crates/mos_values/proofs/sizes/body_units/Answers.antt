use Rattle.std.proofs.Common.{◌≡◌, sym, ap, ◌∙◌}
use Rattle.mos_values.specs.Units.{capped, units_in}
use Rattle.mos_values.specs.Views.{header_events, stories_events, body_events}
use Rattle.mos_values.proofs.Counts.{count_both, body_is}
use Rattle.mos_values.proofs.sizes.body_units.Goals as goal

pub returns : goal.returns
returns c =
    let head = c.header_units.ensures ∙ ap (λ b. capped (units_in (header_events b.header))) c.b.view_is in
    let same : c.as_slice.result.now ≡ c.args.b.now.stories = c.as_slice.ensures ∙ ap (λ b. b.stories) c.b.view_is in
    let stories = c.stories_units.ensures ∙ ap (λ ss. capped (units_in (stories_events ss))) same in
    count_both (header_events c.args.b.now.header) (stories_events c.args.b.now.stories) (body_events c.args.b.now) c.header_units.result c.stories_units.result c.plus.result head stories c.plus.ensures (body_is c.args.b.now)
