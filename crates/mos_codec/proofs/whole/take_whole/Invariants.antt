use Rattle.std.proofs.Common.{◌≡◌, ℕ, List, [], ◌++◌, None, length}
use Rattle.std.specs.List.{AllByRecursion}
use Rattle.mos_decoder.specs.Bytes.{HasHanded}
use Rattle.mos_lexer.specs.Units.{Found as FoundOf}
use Rattle.mos_values.specs.declared.message.Envelope.{Envelope}
use Rattle.mos_codec.specs.Codec.{EncodesEnvelope}
use Rattle.mos_codec.specs.Decoding.{IsReady, with_ready}
use Rattle.mos_codec.proofs.Taken.{IsComing}
use Rattle.mos_codec.proofs.whole.take_whole.Given as goal

abbrev pub invariant-message : goal.invariant-message
invariant-message l = record {
  handed : (bytes : List ℕ) (found : List FoundOf) → HasHanded l.initial.events bytes (with_ready found l.initial.ready.items) → HasHanded l.events bytes (with_ready found l.ready.items);
  ready : AllByRecursion IsReady l.initial.ready.items → AllByRecursion IsReady l.ready.items;
  first : (e : Envelope) (us rest : List ℕ) → EncodesEnvelope us e → l.initial.events.stream.fault ≡ None → l.initial.events.stream.held ≡ us ++ rest → l.initial.ready.items ≡ [] → IsComing e us rest l.events.stream l.ready.items;
}

abbrev pub decreases-message : goal.decreases-message
decreases-message l = length l.events.stream.held
