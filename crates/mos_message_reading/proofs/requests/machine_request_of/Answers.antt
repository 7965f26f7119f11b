use Rattle.std.proofs.Common.{sym, ap}
use Rattle.std.specs.Prelude.{codes}
use Rattle.mos_values.specs.MessageViews.{message_events}
use Rattle.mos_values.specs.Parts.{element}
use Rattle.mos_message_reading.proofs.RequestLemmas.{none_inside}
use Rattle.mos_message_reading.proofs.requests.machine_request_of.Goals as goal

pub returns : goal.returns
unfolding message_events
returns c = ap (λ z. element (codes "reqMachInfo") z) (sym (none_inside c.requires.0 c.args.inner c.requires.1))
