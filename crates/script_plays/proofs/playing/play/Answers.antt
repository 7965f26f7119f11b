use Rattle.script_plays.proofs.ToldLines.{lines-next, sound-at}
use Rattle.script_plays.proofs.playing.play.Goals as goal

pub play_event-requires-clause-sound : goal.play_event-requires-clause-sound
play_event-requires-clause-sound g c = sound-at c.args.events.now c.events.played c.index-events-played.result c.events-test.true c.index-events-played.is c.requires.sound

pub events-preserved : goal.events-preserved
events-preserved g c = record {
  begun = c.play_event.ensures.shown;
  lines = λ devices h.
      lines-next (g.T.Stage.told c.events.stage) (g.T.Stage.told c.play_event.new.stage) devices c.args.events.now c.events.played c.index-events-played.result c.events.out.items c.play_event.new.out.items c.events-test.true
      c.index-events-played.is (c.events.invariant.lines devices h) c.in_ok-play_event.ensures.told;
}
