use Rattle.std.proofs.Common.{[], ◌∷◌, ◌++◌, slice_get, ap, ◌∙◌}
use Rattle.mos_machines.specs.Tables.{gate_of}
use Rattle.state_listing.proofs.KnownIds.{front-more, front-all}
use Rattle.state_listing.proofs.device.known_ids.Goals as goal

pub known-preserved : goal.known-preserved
known-preserved c =
    let old = c.known.ids.items in
    let all = (gate_of c.args.gate.now).known in
    front-more old c.push.new.self.items all c.in-Some.ro.now c.known.invariant (c.in-Some.ensures ∙ ap (slice_get all) (c.len.ensures ∙ c.known.ids.ok.0)) (c.in_ok-push.ensures.items ∙ ap (λ z. old ++ z ∷ []) c.in_ok-try_clone.ensures)

pub returns : goal.returns
returns c =
    let all = (gate_of c.args.gate.now).known in
    front-all c.known.ids.items all c.known.invariant (c.in_default.ensures ∙ ap (slice_get all) (c.len.ensures ∙ c.known.ids.ok.0))
