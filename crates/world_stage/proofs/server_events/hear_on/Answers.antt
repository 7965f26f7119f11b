use Rattle.mos_edits.specs.Texts.{set_number}
use Rattle.world_parts.proofs.ReadableLines.{at-some}
use Rattle.world_stage.proofs.ServerSaid.{heard-opened, heard-step, heard_line}
use Rattle.world_stage.proofs.server_events.hear_on.Goals as goal

pub returns-in_ok-outcome-in-Some-clause-step : goal.returns-in_ok-outcome-in-Some-clause-step
returns-in_ok-outcome-in-Some-clause-step c = λ l p m entries opened a.
    let some = at-some _ _ c.in-Some.packet c.in-Some.is c.in_ok-packet.ensures.some l.connections m a in
    let lines = set_number l.connections c.args.c (heard_line l c.args.c) in
    let h = c.in_ok-outcome-in-Some.ensures.heard some.0 lines some.2 entries some.3 (heard-opened l c.args.c opened) in
    heard-step l c.args.ncs.now c.hear_and_answer.new.ncs c.hear_and_answer.new.connections c.args.d c.args.c c.in_ok-outcome-in-Some.outcome some.0 p some.1 h
