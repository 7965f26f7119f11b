use Rattle.std.proofs.Common.{refl, sym, ap, ◌∙◌, subst}
use Rattle.mos_fields.specs.declared.time.MosTime.{MosTime}
use Rattle.mos_machines.specs.Device.{GateState, gate_next}
use Rattle.mos_machines.specs.Messages.{untagged}
use Rattle.mos_machines.specs.Steps.{DeviceEvent, StepAnswer, device_step, gate_sent}
use Rattle.mos_machines.specs.Tables.{gate_of}
use Rattle.machine_answers.specs.Answers.{asked_of}
use Rattle.mos_machines.proofs.Written.{ask-written}
use Rattle.world_laws.specs.World.{own_time}
use Rattle.world_parts.specs.Matching.{Carries}
use Rattle.world_parts.specs.declared.packet.Packet.{Packet}
use Rattle.world_stage.proofs.OwnLinks.{ask-own}
use Rattle.world_stage.proofs.GatewaySteps.{ask-written-so, asked-so, sent-gate}
use Rattle.world_stage.proofs.device_events.ask_on.Goals as goal

pub returns-in_ok-outcome-in-Out-clause-step : goal.returns-in_ok-outcome-in-Out-clause-step
returns-in_ok-outcome-in-Out-clause-step c = λ l g m opened.
    let x = gate_of c.args.gateway.now.gate in
    let z = gate_next own_time l.gate in
    let own = ap (λ (now : MosTime). device_step x (DeviceEvent.NextAsk c.args.c now)) c.own_time.ensures ∙ (ask-own x c.args.c own_time c.requires ∙ ap (λ (h : GateState). gate_sent (gate_next own_time h)) g.gate) in
    let state = c.in_ok-message.ensures.step ∙ (ap (λ (s : StepAnswer × GateState). s.1) own ∙ sent-gate z) in
    let answer = sym c.in-Out.is ∙ (c.in_ok-message.ensures.answer ∙ ap (λ (s : StepAnswer × GateState). asked_of s.0) own) in
    let i = asked-so z c.in-Out.message c.in-Out.tag answer in
    let carried = subst (λ (p : Packet). Carries p (untagged i.said)) (sym c.untagged.ensures) (record { message = i.message_is; tag = refl; written = ask-written own_time l.gate i.said i.asks }) in
    let said = c.in_ok-outcome-in-Out.ensures.said l.connections (untagged i.said) m opened carried in
    ask-written-so l (record { gate = c.next_ask.new.self; decks = c.args.gateway.now.decks; applied = c.args.gateway.now.applied }) c.say_to_server.new.connections c.args.d c.args.c c.in_ok-outcome-in-Out.outcome z i.said i.asks
    (record { gate = state; decks = g.decks; applied = g.applied }) said.connections said.outcome
