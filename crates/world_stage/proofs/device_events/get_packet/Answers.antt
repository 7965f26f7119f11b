use Rattle.std.proofs.Common.{refl, sym, ◌∙◌}
use Rattle.world_stage.proofs.GatewaySteps.{got-taken}
use Rattle.world_stage.proofs.device_events.get_packet.Goals as goal

pub returns-in_ok-apply_list-in-Taken : goal.returns-in_ok-apply_list-in-Taken
returns-in_ok-apply_list-in-Taken c = λ l q g a.
    got-taken c.args.gateway.now (record { gate = c.read_answer.new.self; decks = c.args.gateway.now.decks; applied = c.apply_list.new.applied }) c.args.c c.args.packet.now q l g a c.requires (sym c.in-Taken.is ∙ c.in_ok-read_answer.ensures.answer) c.in_ok-read_answer.ensures.step refl
    c.in_ok-apply_list-in-Taken.ensures
