use Rattle.std.proofs.Common.{refl}
use Rattle.mos_edits.specs.Entries.{entry_of}
use Rattle.world_stage.specs.declared.play.Play.{Play}
use Rattle.world_stage.proofs.Plays.{commanded-so}
use Rattle.world_stage.proofs.play.Play.command.Goals as goal

pub returns : goal.returns
returns c = λ w m.
    let t : Play = c.args.self.now in
    let u : Play = record { ncs = c.command.new.ncs; gateways = t.gateways; connections = t.connections } in
    commanded-so t u w (entry_of c.args.edit.now) c.in_ok-command.field-0 refl c.requires c.edit_keeps_limits.ensures m c.in_ok-command.ensures refl refl
