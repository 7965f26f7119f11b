use Rattle.world_parts.proofs.ReadableLines.{at-some}
use Rattle.world_stage.proofs.GatewaySteps.{packet-got}
use Rattle.world_stage.proofs.device_events.get_on.Goals as goal

pub returns-in_ok-outcome-in-Some-clause-step : goal.returns-in_ok-outcome-in-Some-clause-step
returns-in_ok-outcome-in-Some-clause-step c = λ l g m opened a.
    let some = at-some _ _ c.in-Some.packet c.in-Some.is c.in_ok-packet.ensures.some l.connections m a in
    let h = c.in_ok-outcome-in-Some.ensures l some.0 g some.2 in
    packet-got l some.0 c.get_one.new.gateway c.take_to_device.new.connections c.args.d c.args.c c.in_ok-outcome-in-Some.outcome some.1 h.0 some.3 h.1
