use Rattle.std.proofs.Common.{ℕ, ◌≤◌, List, length}
use Rattle.std.specs.Prelude.{Option}
use Rattle.stream_commands.specs.Running.{HasHeard}
use Rattle.stream_commands.proofs.run.hear_all.Given as goal

abbrev pub invariant-message : goal.invariant-message
invariant-message g l = record {
  heard : (bytes : List ℕ) (start : Option (List ℕ)) → HasHeard (g.T.Teller.told l.initial.teller) bytes l.initial.decoder start (g.K.Sink.written l.initial.sink) → HasHeard (g.T.Teller.told l.teller) bytes l.decoder start (g.K.Sink.written l.sink);
  rises : g.K.Sink.faults l.initial.sink ≤ g.K.Sink.faults l.sink;
}

abbrev pub decreases-message : goal.decreases-message
decreases-message g l = length l.decoder.stream.held
