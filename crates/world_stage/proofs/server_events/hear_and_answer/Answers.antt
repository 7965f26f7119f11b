use Rattle.mos_machines.specs.Server.{peer_hear}
use Rattle.ncs_core.specs.State.{ncs_of}
use Rattle.world_stage.proofs.server_events.hear_and_answer.Goals as goal

pub returns-clause-heard : goal.returns-clause-heard
returns-clause-heard c = λ q lines a entries m opened.
    let h = c.in_ok-answer.ensures.heard q a entries in
    let said = c.in_ok-outcome.ensures.said lines (peer_hear c.args.ncs.now.server.journal ((ncs_of c.args.ncs.now).peers c.args.d) q.message).1 m opened h.0 in
    record { peer = h.1; connections = said.connections; outcome = said.outcome }
