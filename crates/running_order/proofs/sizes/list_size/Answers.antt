use Rattle.std.proofs.Common.{codes, refl}
use Rattle.mos_values.specs.Views.{header_events, stories_events, body_events}
use Rattle.mos_values.proofs.Counts.{count_both, count_element, body_is}
use Rattle.running_order.proofs.sizes.list_size.Goals as goal

pub returns : goal.returns
returns c b header stories =
    let inside = count_both (header_events b.header) (stories_events b.stories) (body_events b) c.args.header c.args.stories c.plus-inside.result header stories c.plus-inside.ensures (body_is b) in
    count_element (codes "roList") (body_events b) c.plus-inside.result c.plus.result refl inside c.plus.ensures
