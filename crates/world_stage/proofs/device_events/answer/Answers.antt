use Rattle.std.proofs.Common.{refl}
use Rattle.world_stage.proofs.GatewaySteps.{read-answered}
use Rattle.world_stage.proofs.device_events.answer.Goals as goal

pub returns-in-Ok : goal.returns-in-Ok
returns-in-Ok c = λ l q g a.
    read-answered c.args.gateway.now (record { gate = c.read_upper.new.self; decks = c.args.gateway.now.decks; applied = c.apply_read.new.applied }) c.args.c c.args.packet.now q l c.in-Say.answer c.in_ok-answer.field-0 c.is_in_step-in_step.result g a c.requires
    c.in_ok-answer.ensures.answer c.in_ok-answer.ensures.step c.in-Say.is refl c.is_in_step-in_step.ensures c.in-Ok.ensures
