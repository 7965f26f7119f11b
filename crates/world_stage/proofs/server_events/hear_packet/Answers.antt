use Rattle.std.proofs.Common.{sym, ap, ◌∙◌}
use Rattle.mos_machines.specs.Server.{peer_hear}
use Rattle.mos_machines.specs.Steps.{ServerState, StepAnswer}
use Rattle.mos_machines.specs.Values.{seen}
use Rattle.machine_answers.specs.Answers.{heard_of}
use Rattle.ncs_core.specs.State.{ncs_of}
use Rattle.world_stage.proofs.OwnLinks.{hear-own}
use Rattle.world_stage.proofs.ServerSaid.{carries-heard, heard-as, says-answer, says-state}
use Rattle.world_stage.proofs.Tables.{leaves-written, peer-written}
use Rattle.world_stage.proofs.server_events.hear_packet.Goals as goal

pub returns-in-Ok-clause-server : goal.returns-in-Ok-clause-server
returns-in-Ok-clause-server c =
    let s = ncs_of c.args.ncs.now in
    let m = seen c.args.packet.now.message in
    let z = peer_hear s.journal (s.peers c.args.d) m in
    leaves-written c.args.ncs.now c.hear.new.self c.args.d z.0 (c.in_ok-message.ensures.step ∙ (ap (λ (x : StepAnswer × ServerState). x.1) (hear-own s c.args.d c.args.c m c.requires.linked) ∙ says-state s c.args.d z)) c.in_ok-message.ensures.rest

pub returns-in-Ok-clause-heard : goal.returns-in-Ok-clause-heard
returns-in-Ok-clause-heard c = λ q a entries.
    let own = heard-as c.args.ncs.now c.args.d c.args.c c.args.packet.now q a c.requires.linked in
    let z = peer_hear c.args.ncs.now.server.journal ((ncs_of c.args.ncs.now).peers c.args.d) q.message in
    let state = c.in_ok-message.ensures.step ∙ (ap (λ (x : StepAnswer × ServerState). x.1) own ∙ says-state (ncs_of c.args.ncs.now) c.args.d z) in
    let said = sym c.in-Say.is ∙ (c.in_ok-message.ensures.answer ∙ (ap (λ (x : StepAnswer × ServerState). heard_of x.0) own ∙ says-answer (ncs_of c.args.ncs.now) c.args.d z)) in
    let same = ap (λ (s : ServerState). s.journal) state in (
      carries-heard c.args.ncs.now.server.journal c.hear.new.self.server.journal ((ncs_of c.args.ncs.now).peers c.args.d) c.args.packet.now q c.in-Say.message c.in-Ok.tag a entries same said c.in-Ok.ensures,
      peer-written c.args.ncs.now c.hear.new.self c.args.d z.0 state,
    )
