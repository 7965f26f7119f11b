use Rattle.std.proofs.Common.{sym, subst}
use Rattle.world_parts.specs.Matching.{Carries}
use Rattle.world_parts.specs.declared.packet.Packet.{Packet}
use Rattle.world_stage.specs.Steps.{read_answer}
use Rattle.world_stage.proofs.device_events.read_packet.Goals as goal

pub returns-clause-read : goal.returns-clause-read
returns-clause-read c = λ l q lines g a m opened.
    let h = c.in_ok-message.ensures l q g a in
    let carried = subst (λ (p : Packet). Carries p (read_answer l q)) (sym c.untagged.ensures) h.0 in
    let said = c.in_ok-outcome.ensures.said lines (read_answer l q) m opened carried in
    record { gateway = h.1; connections = said.connections; outcome = said.outcome }
