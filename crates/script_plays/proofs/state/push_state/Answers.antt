use Rattle.std.proofs.Common.{sym}
use Rattle.script_plays.proofs.StateLines.{state-shown}
use Rattle.script_plays.proofs.state.push_state.Goals as goal

pub returns-in_ok-push_orders-in-Some-clause-state : goal.returns-in_ok-push_orders-in-Some-clause-state
returns-in_ok-push_orders-in-Some-clause-state c =
    state-shown c.push_shown_devices.result c.args.world.now c.in-Some.ncs.now c.args.out.now.items c.push_orders.new.out.items c.push_shown_devices.new.out.items (sym c.in-Some.ensures.server) c.in_ok-push_orders-in-Some.ensures c.push_shown_devices.ensures
