use Rattle.message_runs.proofs.Givings.{giving_none, hearing_of, reading_of}
use Rattle.message_runs.proofs.run.run_all.Goals as goal

pub loop-init : goal.loop-init
loop-init g c = giving_none _ _ _ _ _ c.requires.stream c.requires.inlet

pub turn-requires-clause-reading : goal.turn-requires-clause-reading
turn-requires-clause-reading g c = reading_of _ _ _ _ _ _ _ _ _ c.loop.invariant

pub turn-requires-clause-hearing : goal.turn-requires-clause-hearing
turn-requires-clause-hearing g c = hearing_of _ _ _ _ _ _ _ _ _ c.loop.invariant
