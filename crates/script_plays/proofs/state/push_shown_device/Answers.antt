use Rattle.script_plays.proofs.StateLines.{device-shown}
use Rattle.script_plays.proofs.state.push_shown_device.Goals as goal

pub returns-in-Some-applied : goal.returns-in-Some-applied
returns-in-Some-applied c =
    device-shown c.push_device.result c.args.world.now c.args.ncs.now c.args.d c.in-Some.gate.now c.in-Some-applied.applied.now c.args.out.now.items c.push_device.new.out.items c.requires.server c.requires.within c.in-Some.ensures
    c.in-Some-applied.ensures c.push_device.ensures
