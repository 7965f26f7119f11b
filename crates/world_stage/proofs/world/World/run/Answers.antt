use Rattle.std.proofs.Common.{List, sym, ap, ◌∙◌, subst, arith}
use Rattle.world_scripts.specs.WorldEvents.{event_of, events_of}
use Rattle.world_scripts.specs.declared.world_event.WorldEvent.{WorldEvent as Seen}
use Rattle.world_laws.specs.World.{World, opening, run, world_step}
use Rattle.world_stage.specs.Matching.{Shows}
use Rattle.world_stage.specs.Worlds.{HaveSoundEdits}
use Rattle.world_stage.proofs.Runs.{ahead, none-left}
use Rattle.world_stage.proofs.world.World.run.Goals as goal

pub events-init : goal.events-init
events-init c = record {
  sound = subst (λ (xs : List Seen). HaveSoundEdits (events_of xs)) (sym c.as_slice-e-items.ensures) c.requires.sound;
  runs = record {
    world = opening c.args.devices;
    shows = c.in_ok-world.ensures;
    leads = ap (λ (xs : List Seen). run (opening c.args.devices) (events_of xs)) c.as_slice-e-items.ensures;
  };
}

pub step-requires : goal.step-requires
step-requires c =
    let next = ahead c.as_slice-e-items.result.now c.events.e-index c.e-item.result c.events-test.true c.e-item.is in
    (subst (λ (xs : List Seen). HaveSoundEdits (events_of xs)) next c.events.invariant.sound).0

pub events-preserved : goal.events-preserved
events-preserved c =
    let next = ahead c.as_slice-e-items.result.now c.events.e-index c.e-item.result c.events-test.true c.e-item.is in
    let i = c.events.invariant.runs in
    record {
      sound = (subst (λ (xs : List Seen). HaveSoundEdits (events_of xs)) next c.events.invariant.sound).1;
      runs = record {
        world = (world_step i.world (event_of c.e-item.result)).0;
        shows = (c.in_ok-step.ensures.step i.world i.shows).0;
        leads = sym (ap (λ (xs : List Seen). run i.world (events_of xs)) next) ∙ i.leads;
      };
    }

pub returns-clause-run : goal.returns-clause-run
returns-clause-run c =
    let i = c.events.invariant.runs in
    let past = none-left c.as_slice-e-items.result.now c.events.e-index (omega (arith, c.events-test.false)) in
    subst (λ (w : World). Shows c.events.world w) (sym (ap (λ (xs : List Seen). run i.world (events_of xs)) past) ∙ i.leads) i.shows
