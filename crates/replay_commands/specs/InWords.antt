-- What `take`, `show` and `check` wrote of an input, in words of the grammar: of bytes that are known.
use Rattle.std.specs.Prelude.{◌≡◌, ℕ, List, ◌++◌, length, map, Option}
use Rattle.std.specs.List.{flat_map, AllByRecursion}
use Rattle.mos_fields.specs.Characters.{units_in}
use Rattle.mos_io.specs.Bytes.{Appends}
use Rattle.mos_tables.specs.Events.{Event}
use Rattle.mos_lexer.specs.declared.kind.Kind.{Kind}
use Rattle.mos_lexer.specs.Units.{Found}
use Rattle.mos_rejections.specs.Laws.{values}
use Rattle.input_laws.specs.Words.{IsStream, IsRejected}
use Rattle.mos_values.specs.MessageViews.{envelope_events}
use Rattle.mos_values.specs.declared.message.Envelope.{Envelope}
use Rattle.mos_message_reading.specs.Values.{IsNamed}
use Rattle.value_laws.specs.Ranges.{IsInRange}
use Rattle.device_answers.specs.Taking.{refused_text, take_output}
use Rattle.stream_commands.specs.Lines.{count_line, refused_line, shown_line}
use Rattle.replay_commands.specs.Commands.{Command}
use Rattle.replay_commands.specs.Commands.Command.{Take, Show, Check, Replay, Make}

-- the values that the envelopes' encodings encode
abbrev pub values_of : List Envelope → List (List Event)
values_of es = map (λ (e : Envelope). envelope_events e) es

-- the message is known by its name, and its numbers are in range: its value is no other envelope's
pub record IsPinned (e : Envelope) : Type 0 where
  pub named : IsNamed e.message
  pub in_range : IsInRange e.message

-- ---- the input is a whole stream

-- It encodes these envelopes, and what a device answers to them was written.
pub record TakesStream (before after : Option (List ℕ)) (input : List ℕ) : Type 0 where
  pub envelopes : List Envelope
  pub pinned : AllByRecursion IsPinned envelopes
  pub stream : IsStream input (values_of envelopes)
  pub writes : Appends before after (take_output envelopes)

-- A line was written for each message.
pub record ShowsStream (before after : Option (List ℕ)) (input : List ℕ) : Type 0 where
  pub found : List Found
  pub stream : IsStream input (values found)
  pub writes : Appends before after (flat_map shown_line found)

-- The line was written that tells how many messages and code units there are.
pub record CountsStream (before after : Option (List ℕ)) (input : List ℕ) : Type 0 where
  pub messages : List (List Event)
  pub stream : IsStream input messages
  pub writes : Appends before after (count_line (length messages) (length (units_in input)))

-- ---- the input is rejected

-- Behind encodings of these envelopes it is rejected, and what a device answers to them was written, and then the rejection.
pub record TakesRejected (before after : Option (List ℕ)) (input : List ℕ) : Type 0 where
  pub envelopes : List Envelope
  pub pinned : AllByRecursion IsPinned envelopes
  pub place : ℕ
  pub kind : Kind
  pub rejected : IsRejected input (values_of envelopes) place kind
  pub writes : Appends before after (take_output envelopes ++ refused_text place kind)

pub record ShowsRejected (before after : Option (List ℕ)) (input : List ℕ) : Type 0 where
  pub found : List Found
  pub place : ℕ
  pub kind : Kind
  pub rejected : IsRejected input (values found) place kind
  pub writes : Appends before after (flat_map shown_line found ++ refused_line place kind)

-- Nothing is told of the messages before it.
pub record CountsRejected (before after : Option (List ℕ)) (input : List ℕ) : Type 0 where
  pub messages : List (List Event)
  pub place : ℕ
  pub kind : Kind
  pub rejected : IsRejected input messages place kind
  pub writes : Appends before after (refused_line place kind)

-- ---- by the command; the other two read no stream

abbrev pub ToldOfStream : Command → Option (List ℕ) → Option (List ℕ) → List ℕ → Type 0
ToldOfStream Take before after input = TakesStream before after input
ToldOfStream Show before after input = ShowsStream before after input
ToldOfStream Check before after input = CountsStream before after input
ToldOfStream Replay before after input = Unit {0}
ToldOfStream (Make count) before after input = Unit {0}

abbrev pub ToldOfRejected : Command → Option (List ℕ) → Option (List ℕ) → List ℕ → Type 0
ToldOfRejected Take before after input = TakesRejected before after input
ToldOfRejected Show before after input = ShowsRejected before after input
ToldOfRejected Check before after input = CountsRejected before after input
ToldOfRejected Replay before after input = Unit {0}
ToldOfRejected (Make count) before after input = Unit {0}
