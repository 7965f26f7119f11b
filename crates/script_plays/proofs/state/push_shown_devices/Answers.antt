use Rattle.script_plays.proofs.StateLines.{devices-next, devices-none}
use Rattle.script_plays.proofs.state.push_shown_devices.Goals as goal

pub devices-init : goal.devices-init
devices-init c = devices-none c.args.world.now c.args.out.now.items

pub devices-preserved : goal.devices-preserved
devices-preserved c =
    devices-next c.args.world.now c.devices.d c.args.out.now.items c.devices.out.items c.push_shown_device.new.out.items c.devices.invariant c.in_ok-push_shown_device.ensures
