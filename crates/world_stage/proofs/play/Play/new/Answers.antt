use Rattle.world_stage.proofs.Plays.{opening-matched}
use Rattle.world_stage.proofs.play.Play.new.Goals as goal

pub returns-in-Ok : goal.returns-in-Ok
returns-in-Ok c = opening-matched (record { ncs = c.in-Ok.ncs; gateways = c.in_ok-gateways.gateways; connections = c.new.result }) c.args.devices c.in-Ok.ensures c.in_ok-gateways.ensures.new c.in_ok-gateways.ensures.length c.new.ensures.items
