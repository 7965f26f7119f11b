use Rattle.script_plays.specs.States.{AreDevicesShown}
use Rattle.script_plays.proofs.state.push_shown_devices.Given as goal

abbrev pub invariant-devices : goal.invariant-devices
invariant-devices l = AreDevicesShown l.world l.d l.initial.out.items l.out.items
