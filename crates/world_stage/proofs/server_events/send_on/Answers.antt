use Rattle.std.proofs.Common.{◌≡◌, false, Some, refl, sym, ap, ◌∙◌, subst}
use Rattle.mos_fields.specs.declared.time.MosTime.{MosTime}
use Rattle.mos_machines.specs.Server.{PeerState, peer_next, upper_link}
use Rattle.mos_machines.specs.Steps.{ServerState, ServerEvent, StepAnswer, server_step}
use Rattle.mos_machines.specs.Views.{IsPeerWithin}
use Rattle.ncs_core.specs.State.{ncs_of, sent_by}
use Rattle.world_scripts.specs.declared.outcome.Outcome.TheVariants as told
use Rattle.world_laws.specs.World.{own_time, sends_on}
use Rattle.world_parts.specs.Matching.{Carries}
use Rattle.world_parts.specs.declared.packet.PacketTag.{PacketTag}
use Rattle.world_stage.specs.Steps.{IsServerEventStep}
use Rattle.world_stage.proofs.OwnLinks.{send-own}
use Rattle.world_stage.proofs.ServerSaid.{carries-sent, sends-nothing, sends-step, sent-nothing, sent-so, sent-state}
use Rattle.world_stage.proofs.Tables.{leaves-written, peer-written, server-opened}
use Rattle.world_stage.proofs.server_events.send_on.Goals as goal

pub returns-in_ok-outcome-in-Out-clause-server : goal.returns-in_ok-outcome-in-Out-clause-server
returns-in_ok-outcome-in-Out-clause-server c =
    let s = ncs_of c.args.ncs.now in
    let z = peer_next s.journal own_time (s.peers c.args.d) in
    let state = c.in_ok-message.ensures.step ∙ (ap (λ (now : MosTime). (server_step false s (ServerEvent.NextSend c.args.d c.args.c now)).1) c.own_time.ensures ∙ (ap (λ (x : StepAnswer × ServerState). x.1) (send-own s c.args.d c.args.c own_time c.requires.linked) ∙ sent-state s c.args.d z)) in
    leaves-written c.args.ncs.now c.next_send.new.self c.args.d z.0 state c.in_ok-message.ensures.rest

pub returns-in-Nothing-clause-server : goal.returns-in-Nothing-clause-server
returns-in-Nothing-clause-server c =
    let s = ncs_of c.args.ncs.now in
    let z = peer_next s.journal own_time (s.peers c.args.d) in
    let state = c.in_ok-message.ensures.step ∙ (ap (λ (now : MosTime). (server_step false s (ServerEvent.NextSend c.args.d c.args.c now)).1) c.own_time.ensures ∙ (ap (λ (x : StepAnswer × ServerState). x.1) (send-own s c.args.d c.args.c own_time c.requires.linked) ∙ sent-state s c.args.d z)) in
    leaves-written c.args.ncs.now c.next_send.new.self c.args.d z.0 state c.in_ok-message.ensures.rest

pub returns-in_ok-outcome-in-Out-clause-step : goal.returns-in_ok-outcome-in-Out-clause-step
returns-in_ok-outcome-in-Out-clause-step c = λ l p m r.
    let s = ncs_of c.args.ncs.now in
    let z = peer_next s.journal own_time (s.peers c.args.d) in
    let state = c.in_ok-message.ensures.step ∙ (ap (λ (now : MosTime). (server_step false s (ServerEvent.NextSend c.args.d c.args.c now)).1) c.own_time.ensures ∙ (ap (λ (x : StepAnswer × ServerState). x.1) (send-own s c.args.d c.args.c own_time c.requires.linked) ∙ sent-state s c.args.d z)) in
    let answer = sym c.in-Out.is ∙ (c.in_ok-message.ensures.answer ∙ (ap (λ (now : MosTime). sent_by (server_step false s (ServerEvent.NextSend c.args.d c.args.c now)).0) c.own_time.ensures ∙ ap (λ (x : StepAnswer × ServerState). sent_by x.0) (send-own s c.args.d c.args.c own_time c.requires.linked))) in
    let i = sent-so s c.args.d z c.in-Out.message c.in-Out.tag answer in
    let within : IsPeerWithin s.journal (s.peers c.args.d) = subst (λ (x : PeerState). IsPeerWithin s.journal x) (sym p) r.peer in
    let carried = subst (λ (t : PacketTag). Carries (record { message = c.in-Out.message; tag = t }) i.packet) (sym c.packet_tag-tag.ensures) (carries-sent s.journal own_time (s.peers c.args.d) c.in-Out.message c.in-Out.tag r.entries within i) in
    let up : upper_link l.peer.upper ≡ Some c.args.c = sym (ap (λ (x : PeerState). upper_link x.upper) p) ∙ c.requires.linked in
    let said = c.in_ok-outcome-in-Out.ensures.said l.connections i.packet m (server-opened (l.connections c.args.c) (r.links.upper c.args.c up)) carried in
    subst (λ (x : PeerState). IsServerEventStep l (sends_on l (Some c.args.c) (peer_next s.journal own_time x)) c.next_send.new.self c.say_to_device.new.connections c.args.d c.in_ok-outcome-in-Out.outcome) p
    (sends-step l c.next_send.new.self c.say_to_device.new.connections c.args.d c.args.c c.in_ok-outcome-in-Out.outcome z i.packet i.sends (peer-written c.args.ncs.now c.next_send.new.self c.args.d z.0 state) said.connections said.outcome)

pub returns-in-Nothing-clause-step : goal.returns-in-Nothing-clause-step
returns-in-Nothing-clause-step c = λ l p m r.
    let s = ncs_of c.args.ncs.now in
    let z = peer_next s.journal own_time (s.peers c.args.d) in
    let state = c.in_ok-message.ensures.step ∙ (ap (λ (now : MosTime). (server_step false s (ServerEvent.NextSend c.args.d c.args.c now)).1) c.own_time.ensures ∙ (ap (λ (x : StepAnswer × ServerState). x.1) (send-own s c.args.d c.args.c own_time c.requires.linked) ∙ sent-state s c.args.d z)) in
    let answer = sym c.in-Nothing.is ∙ (c.in_ok-message.ensures.answer ∙ (ap (λ (now : MosTime). sent_by (server_step false s (ServerEvent.NextSend c.args.d c.args.c now)).0) c.own_time.ensures ∙ ap (λ (x : StepAnswer × ServerState). sent_by x.0) (send-own s c.args.d c.args.c own_time c.requires.linked))) in
    subst (λ (x : PeerState). IsServerEventStep l (sends_on l (Some c.args.c) (peer_next s.journal own_time x)) c.next_send.new.self c.args.connections.now c.args.d told.Nothing) p
    (sends-nothing l c.next_send.new.self c.args.connections.now c.args.d c.args.c told.Nothing z (sent-nothing s c.args.d z answer) (peer-written c.args.ncs.now c.next_send.new.self c.args.d z.0 state) m refl)
