-- What is written of a value pins the value.
use Rattle.std.specs.Prelude.{◌≡◌, ℕ, List, [], ◌++◌}
use Rattle.mos_tables.specs.Events.{Event}
use Rattle.mos_lexer.specs.Encodings.{Encodes}
use Rattle.mos_lexer.specs.Units.{start_reader, completed, unit_run}
use Rattle.mos_values.specs.declared.message.Envelope.{Envelope}
use Rattle.mos_values.specs.declared.message.Message.{Message}
use Rattle.mos_values.specs.MessageViews.{message_events, envelope_events}
use Rattle.mos_message_reading.specs.Values.{IsNamed}
use Rattle.value_laws.specs.Ranges.{IsInRange}

-- Messages with the same events are the same. The name of a message that is kept as it was written is that of its
-- element, and the numbers are in their ranges.
abbrev pub EventsPinMessages : Type 0
EventsPinMessages = (a b : Message) → IsNamed a → IsNamed b → IsInRange a → IsInRange b → message_events a ≡ message_events b → a ≡ b

-- Envelopes with the same events are the same, where this holds of their messages.
abbrev pub EventsPinEnvelopes : Type 0
EventsPinEnvelopes = (a b : Envelope) → IsNamed a.message → IsNamed b.message → IsInRange a.message → IsInRange b.message → envelope_events a ≡ envelope_events b → a ≡ b

-- Code units that encode an envelope encode no other one, and begin no encoding of one.
abbrev pub EncodingsPinEnvelopes : Type 0
EncodingsPinEnvelopes = (a b : Envelope) (us more : List ℕ) → IsNamed a.message → IsNamed b.message → IsInRange a.message → IsInRange b.message
    → Encodes (envelope_events a) us → Encodes (envelope_events b) (us ++ more) → (more ≡ []) × (a ≡ b)

-- Where an envelope was written, in any encoding, and events are read from there, the envelope with these events is the
-- one that was written, and the rest is what stood behind it.
abbrev pub WrittenIsReadBack : Type 0
WrittenIsReadBack = (written made : Envelope) (us behind : List ℕ) (began : ℕ) (v : List Event) (rest : List ℕ)
    → IsNamed written.message → IsNamed made.message → IsInRange written.message → IsInRange made.message
    → Encodes (envelope_events written) us → unit_run start_reader (us ++ behind) ≡ completed began v rest → envelope_events made ≡ v
    → (made ≡ written) × (rest ≡ behind)
