use Rattle.std.proofs.Common.{ℕ, ◌<◌, subst}
use Rattle.world_scripts.specs.WorldEvents.{pairing_event_of}
use Rattle.world_stage.proofs.Matched.{at-place, readable-at-device, sized-so}
use Rattle.world_stage.proofs.play.Play.at_device.Goals as goal

pub returns-in_ok-pairing_event-in-Some : goal.returns-in_ok-pairing_event-in-Some
returns-in_ok-pairing_event-in-Some c = λ w m.
    let place = c.in-Some.ensures.some in
    let there = subst (λ (n : ℕ). c.in-Some.place < n) c.devices.ensures.number place.1 in
    at-place c.args.self.now c.pairing_event.new.self w c.args.d c.in-Some.place (pairing_event_of c.args.event.now) c.in_ok-pairing_event-in-Some.field-0 m place.0 there c.event_keeps_limits.ensures c.in_ok-pairing_event-in-Some.ensures

pub pairing_event-requires-clause-sized : goal.pairing_event-requires-clause-sized
pairing_event-requires-clause-sized c = sized-so c.args.self.now c.requires.0 c.requires.1

pub pairing_event-requires-clause-readable : goal.pairing_event-requires-clause-readable
pairing_event-requires-clause-readable c = let place = c.in-Some.ensures.some in readable-at-device c.args.self.now c.requires.0 c.in-Some.place c.requires.1 (subst (λ (n : ℕ). c.in-Some.place < n) c.devices.ensures.number place.1)
