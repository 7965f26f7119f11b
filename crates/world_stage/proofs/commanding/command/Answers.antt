use Rattle.mos_edits.specs.Entries.{entry_of}
use Rattle.world_stage.proofs.Commanded.{commanded-fault, commanded-okay}
use Rattle.world_stage.proofs.commanding.command.Goals as goal

pub returns-in_ok-told_once-in-Ok : goal.returns-in_ok-told_once-in-Ok
returns-in_ok-told_once-in-Ok c =
    commanded-okay c.args.ncs.now c.command.new.self (entry_of c.args.edit.now) _ c.in-Ok.ensures.cause.0 c.in-Ok.ensures.cause.1 c.in-Ok.ensures.step c.in-Ok.ensures.keeper c.in-Ok.ensures.devices c.keeps.ensures c.in_ok-told_once-in-Ok.ensures

pub returns-in_ok-refused-in-Err : goal.returns-in_ok-refused-in-Err
returns-in_ok-refused-in-Err c =
    commanded-fault c.args.ncs.now c.command.new.self (entry_of c.args.edit.now) c.in-Err.fault _ c.in-Err.ensures.cause c.in-Err.ensures.leaves c.in-Err.ensures.keeper c.in-Err.ensures.devices c.keeps-in-Err.ensures c.in_ok-refused-in-Err.ensures
