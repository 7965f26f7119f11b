use Rattle.std.proofs.Common.{ap, ◌∙◌}
use Rattle.mos_machines.specs.Steps.{ServerState, StepAnswer}
use Rattle.mos_machines.specs.Server.{peer_answered}
use Rattle.mos_machines.specs.Values.{seen}
use Rattle.machine_answers.specs.Answers.{step_of}
use Rattle.ncs_core.specs.State.{ncs_of}
use Rattle.world_parts.proofs.ReadableLines.{at-some}
use Rattle.world_stage.proofs.OwnLinks.{answer-own}
use Rattle.world_stage.proofs.ServerSaid.{answered-as, stepped-answer, stepped-state, taken-back}
use Rattle.world_stage.proofs.Tables.{leaves-written, peer-written}
use Rattle.world_stage.proofs.server_events.take_back_on.Goals as goal

pub returns-in-Some-clause-server : goal.returns-in-Some-clause-server
returns-in-Some-clause-server c =
    let s = ncs_of c.args.ncs.now in
    let m = seen c.in-Some.packet.message in
    let z = peer_answered s.journal (s.peers c.args.d) m in
    leaves-written c.args.ncs.now c.upper_answer-step.new.self c.args.d z.0 (c.upper_answer-step.ensures.step ∙ (ap (λ (x : StepAnswer × ServerState). x.1) (answer-own s c.args.d c.args.c m c.requires.linked) ∙ stepped-state s c.args.d z)) c.upper_answer-step.ensures.rest

pub returns-in-Some-clause-step : goal.returns-in-Some-clause-step
returns-in-Some-clause-step c = λ l p m opened a.
    let some = at-some _ _ c.in-Some.packet c.in-Some.is c.in_ok-packet.ensures.some l.connections m a in
    let q = some.0 in
    let own = answered-as c.args.ncs.now c.args.d c.args.c c.in-Some.packet q some.2 c.requires.linked in
    let z = peer_answered c.args.ncs.now.server.journal ((ncs_of c.args.ncs.now).peers c.args.d) q.message in
    let state = c.upper_answer-step.ensures.step ∙ (ap (λ (x : StepAnswer × ServerState). x.1) own ∙ stepped-state (ncs_of c.args.ncs.now) c.args.d z) in
    let answer = c.upper_answer-step.ensures.answer ∙ (ap (λ (x : StepAnswer × ServerState). step_of x.0) own ∙ stepped-answer (ncs_of c.args.ncs.now) c.args.d z) in
    taken-back l c.args.ncs.now c.upper_answer-step.new.self c.take_to_server.new.connections c.args.d c.args.c _ q p some.1 (peer-written c.args.ncs.now c.upper_answer-step.new.self c.args.d z.0 state) some.3 (c.told_step.ensures z.1 answer)
