use Rattle.std.proofs.Common.{refl}
use Rattle.world_stage.specs.declared.play.Play.{Play}
use Rattle.world_stage.proofs.Plays.{restarted-so}
use Rattle.world_stage.proofs.play.Play.restart.Goals as goal

pub returns-in-Ok : goal.returns-in-Ok
returns-in-Ok c = λ w m.
    let t : Play = c.args.self in
    let u : Play = record { ncs = c.in-Ok.ncs; gateways = t.gateways; connections = t.connections } in
    restarted-so t u w c.args.kept m c.in-Ok.ensures refl refl
