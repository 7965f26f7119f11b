use Rattle.std.proofs.Common.{ℕ, ◌<◌, refl, sym, subst}
use Rattle.std.specs.Vec.{with_item}
use Rattle.world_scripts.specs.WorldEvents.{pairing_event_of}
use Rattle.world_stage.specs.declared.play.Play.{Play}
use Rattle.world_stage.proofs.Matched.{device-step, get-found}
use Rattle.world_stage.proofs.play.Play.pairing_event.Goals as goal

pub returns-in_ok-device_event : goal.returns-in_ok-device_event
returns-in_ok-device_event c =
    let t : Play = c.args.self.now in
    let u : Play = record { ncs = t.ncs; gateways = with_item t.gateways c.args.d c.device_event.new.gateway; connections = c.device_event.new.connections } in
    let told = c.in_ok-device_event.ensures in
    let there = subst (λ (n : ℕ). c.args.d < n) (sym c.requires.sized) c.requires.within in
    let found = get-found t.gateways.items c.args.d c.index_mut-gateway.result.now there c.index_mut-gateway.ensures.value in
    device-step t u c.args.d (pairing_event_of c.args.event.now) c.in_ok-device_event.field-0 c.index_mut-gateway.result.now c.device_event.new.gateway there found refl refl told.count told.others told.step
