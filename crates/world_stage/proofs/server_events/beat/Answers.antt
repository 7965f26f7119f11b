use Rattle.std.proofs.Common.{◌≡◌, true, refl, sym, ap, ◌∙◌}
use Rattle.mos_machines.specs.Server.{is_open}
use Rattle.ncs_core.specs.State.{ncs_of}
use Rattle.world_stage.proofs.ServerSteps.{beat-step}
use Rattle.world_stage.proofs.Tables.{leaves-written}
use Rattle.world_stage.proofs.server_events.beat.Goals as goal

pub returns-clause-server : goal.returns-clause-server
returns-clause-server c = leaves-written c.args.ncs.now c.beat.new.self c.args.d _ c.beat.ensures.step c.beat.ensures.rest

pub returns-clause-step : goal.returns-clause-step
returns-clause-step c =
    let up : is_open ((ncs_of c.args.ncs.now).peers c.args.d).upper ≡ true = sym (c.is_open.ensures ∙ ap is_open c.upper.ensures) ∙ c.if-not-is_open.false in
    λ n xs l p m. beat-step l c.args.ncs.now c.beat.new.self xs c.args.d _ up c.beat.ensures.step p m refl
