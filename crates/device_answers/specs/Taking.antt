-- What a device answers to the messages of a stream.
use Rattle.std.specs.Prelude.{◌≡◌, ℕ, false, List, [], ◌∷◌}
use Rattle.std.specs.List.{flat_map}
use Rattle.mos_fields.specs.Characters.{bytes_of, units_of}
use Rattle.mos_tables.specs.Canonical.{canonical}
use Rattle.mos_lexer.specs.declared.kind.Kind.{Kind}
use Rattle.mos_lexer.specs.Units.{Found}
use Rattle.mos_values.specs.MessageViews.{envelope_events}
use Rattle.mos_values.specs.declared.message.Envelope.{Envelope}
use Rattle.mos_values.specs.declared.message.Message.{Message}
use Rattle.mos_machines.specs.Device.{GateState, Decks, no_gate, gate_accepted, gate_read}
use Rattle.mos_machines.specs.Values.{seen, message_of}
use Rattle.mos_message_reading.specs.Values.{IsNamed}
use Rattle.stream_commands.specs.Lines.{refused_line}
use Rattle.value_laws.specs.Ranges.{IsInRange}

-- ---- a device without decks, on one connection

abbrev pub no_decks : Decks
no_decks = record { handed = false; left = 0 }

-- it knows no order, and accepted the connection
abbrev pub opening : GateState
opening = gate_accepted 1 no_gate

-- the device after it read a message
abbrev pub device_after : GateState → Envelope → GateState
device_after g e = (gate_read g no_decks (seen e.message)).0

-- the envelope with another message: the names of both ends and the messageID stay
abbrev pub with_message : Envelope → Message → Envelope
with_message e m = record e { message = m }

-- its answer to the message
abbrev pub answer_to : GateState → Envelope → Envelope
answer_to g e = with_message e (message_of (gate_read g no_decks (seen e.message)).1)

-- ---- message after message

abbrev pub device_behind : GateState → List Envelope → GateState
device_behind g [] = g
device_behind g (e ∷ es) = device_behind (device_after g e) es

abbrev pub answers : GateState → List Envelope → List Envelope
answers g [] = []
answers g (e ∷ es) = answer_to g e ∷ answers (device_after g e) es

-- ---- what is written

-- the canonical encoding, in bytes
abbrev pub encoding : Envelope → List ℕ
encoding e = bytes_of (units_of (canonical (envelope_events e)))

-- the answers to messages, one after another
abbrev pub take_output : List Envelope → List ℕ
take_output es = flat_map encoding (answers opening es)

-- the characters of an ASCII text as code units, high byte first
abbrev pub wide : List ℕ → List ℕ
wide text = flat_map (λ c. 0 ∷ c ∷ []) text

abbrev pub refused_text : ℕ → Kind → List ℕ
refused_text place k = wide (refused_line place k)

-- ---- the messages of a stream

-- These are the messages whose values were found. Their numbers are in range, so that the values pin them.
abbrev pub AreMessages : List Found → List Envelope → Type 0
AreMessages [] [] = Unit {0}
AreMessages [] (e ∷ es) = ⊥
AreMessages (f ∷ fs) [] = ⊥
AreMessages (f ∷ fs) (e ∷ es) = (envelope_events e ≡ f.value) × IsNamed e.message × IsInRange e.message × AreMessages fs es

-- The values that were found are those of messages, this was written in answer, and the device is as it is behind them.
pub record IsAnswered (g : GateState) (found : List Found) (text : List ℕ) : Type 0 where
  pub envelopes : List Envelope
  pub messages : AreMessages found envelopes
  pub written : text ≡ take_output envelopes
  pub behind : g ≡ device_behind opening envelopes
