use Rattle.std.proofs.Common.{◌≡◌, Some, refl, sym, ap, ◌∙◌}
use Rattle.mos_machines.specs.Server.{upper_link}
use Rattle.ncs_core.specs.State.{ncs_of}
use Rattle.world_stage.proofs.ServerSteps.{cut-is, cut-step}
use Rattle.world_stage.proofs.Tables.{leaves-written}
use Rattle.world_stage.proofs.server_events.cut.Goals as goal

pub returns-in-Some-clause-server : goal.returns-in-Some-clause-server
returns-in-Some-clause-server c =
    let up : upper_link ((ncs_of c.args.ncs.now).peers c.args.d).upper ≡ Some c.in-Some.c = sym (c.link.ensures ∙ ap upper_link c.upper.ensures) ∙ c.in-Some.is in
    leaves-written c.args.ncs.now c.upper_cut.new.self c.args.d _ (cut-is c.args.ncs.now c.upper_cut.new.self c.args.d c.in-Some.c up c.upper_cut.ensures.step) c.upper_cut.ensures.rest

pub returns-in-Some-clause-step : goal.returns-in-Some-clause-step
returns-in-Some-clause-step c =
    let up : upper_link ((ncs_of c.args.ncs.now).peers c.args.d).upper ≡ Some c.in-Some.c = sym (c.link.ensures ∙ ap upper_link c.upper.ensures) ∙ c.in-Some.is in
    λ n xs l p m. cut-step l c.args.ncs.now c.upper_cut.new.self xs c.args.d c.in-Some.c _ up c.upper_cut.ensures.step p m refl
