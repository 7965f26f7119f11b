use Rattle.std.proofs.Common.{refl}
use Rattle.world_scripts.specs.declared.outcome.Outcome.TheVariants.{Done}
use Rattle.world_stage.specs.declared.play.Play.{Play}
use Rattle.world_stage.proofs.Plays.{failing-so}
use Rattle.world_stage.proofs.play.Play.fail_next.Goals as goal

pub returns : goal.returns
returns c = λ w m.
    let t : Play = c.args.self.now in
    let u : Play = record { ncs = c.fail_next_append.new.self; gateways = t.gateways; connections = t.connections } in
    failing-so t u w Done m c.fail_next_append.ensures refl refl refl
