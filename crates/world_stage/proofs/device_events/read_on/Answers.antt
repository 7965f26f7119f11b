use Rattle.mos_edits.specs.Texts.{set_number}
use Rattle.world_parts.proofs.ReadableLines.{at-some}
use Rattle.world_stage.proofs.GatewaySteps.{packet-read, taken-opened, taken_line}
use Rattle.world_stage.proofs.device_events.read_on.Goals as goal

pub returns-in_ok-outcome-in-Some-clause-step : goal.returns-in_ok-outcome-in-Some-clause-step
returns-in_ok-outcome-in-Some-clause-step c = λ l g m opened a.
    let some = at-some _ _ c.in-Some.packet c.in-Some.is c.in_ok-packet.ensures.some l.connections m a in
    let lines = set_number l.connections c.args.c (taken_line l c.args.c) in
    let h = c.in_ok-outcome-in-Some.ensures.read l some.0 lines g some.2 some.3 (taken-opened l c.args.c opened) in
    packet-read l some.0 c.read_packet.new.gateway c.read_packet.new.connections c.args.d c.args.c c.in_ok-outcome-in-Some.outcome some.1 h
