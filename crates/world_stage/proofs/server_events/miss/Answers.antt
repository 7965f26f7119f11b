use Rattle.std.proofs.Common.{◌≡◌, Some, refl, sym, ◌∙◌}
use Rattle.ncs_core.specs.State.{ncs_of}
use Rattle.world_stage.proofs.ServerSteps.{missed-is, missed-step}
use Rattle.world_stage.proofs.Tables.{leaves-written}
use Rattle.world_stage.proofs.server_events.miss.Goals as goal

pub returns-in-Some-clause-server : goal.returns-in-Some-clause-server
returns-in-Some-clause-server c =
    let up : ((ncs_of c.args.ncs.now).peers c.args.d).link ≡ Some c.in-Some.c = sym c.device_link.ensures ∙ c.in-Some.is in
    leaves-written c.args.ncs.now c.device_dropped.new.self c.args.d _ (missed-is c.args.ncs.now c.device_dropped.new.self c.args.d c.in-Some.c up c.device_dropped.ensures.step) c.device_dropped.ensures.rest

pub returns-in-Some-clause-step : goal.returns-in-Some-clause-step
returns-in-Some-clause-step c =
    let up : ((ncs_of c.args.ncs.now).peers c.args.d).link ≡ Some c.in-Some.c = sym c.device_link.ensures ∙ c.in-Some.is in
    λ n xs l p m. missed-step l c.args.ncs.now c.device_dropped.new.self xs c.args.d c.in-Some.c _ up c.device_dropped.ensures.step p m refl
