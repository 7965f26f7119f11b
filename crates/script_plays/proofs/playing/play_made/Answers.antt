use Rattle.std.proofs.Common.{length, Some, subst}
use Rattle.std.specs.Option.{option_map}
use Rattle.world_scripts.specs.WorldEvents.{event_of}
use Rattle.world_scripts.specs.Made.{HandsNext, made_events}
use Rattle.script_plays.proofs.ToldLines.{counted-next, counted-none, left-less, told-next, told-none}
use Rattle.script_plays.proofs.playing.play_made.Goals as goal

pub events-init : goal.events-init
events-init g c = record {
  begun = c.requires.begun;
  few = counted-none c.args.count c.new-generator.result c.new-counts.result c.ranges.count.fits c.new-generator.ensures c.new-counts.ensures;
  told = λ devices h. told-none (g.T.Stage.told c.args.stage.now) devices (made_events c.args.count) c.new-generator.result c.new-counts.result c.new-generator.ensures c.new-counts.ensures h;
}

pub events-preserved : goal.events-preserved
events-preserved g c =
    let left = c.events.generator in
    let rest = c.next.new.self in
    let e = event_of c.in-Some.e in
    let hands : HandsNext left (Some e) rest = subst (λ o. HandsNext left (option_map event_of o) rest) c.in-Some.is c.in_ok-e.ensures.value in
    let one = c.in_ok-counts.ensures.counted in
    record {
      begun = c.count_made.ensures.shown;
      few = counted-next c.events.counts c.in_ok-counts.counts (length left) (length rest) one.0 c.events.invariant.few (left-less left rest e hands) one.1;
      told = λ devices h.
          told-next (g.T.Stage.told c.events.stage) (g.T.Stage.told c.count_made.new.stage) devices (made_events c.args.count) left rest e c.events.counts c.in_ok-counts.counts hands (c.events.invariant.told devices h)
          c.in_ok-counts.ensures.told;
    }
