use Rattle.std.proofs.Common.{◌≡◌, List, [], ◌∷◌, ◌++◌, ap, sym, ◌∙◌}
use Rattle.server_serving.proofs.DeviceIds.{more_ids}
use Rattle.server_serving.proofs.devices.ids.Goals as goal

pub ids-preserved : goal.ids-preserved
ids-preserved c = more_ids c.args.devices.now c.ids.i c.in-Some.device.now c.ids.ids c.push.new.self (sym c.in-Some.ensures) c.ids.invariant (c.in_ok-push-in-Some.ensures.ok ∙ ap (λ x. c.ids.ids ++ x ∷ []) c.in_ok-try_clone-in-Some.ensures)
