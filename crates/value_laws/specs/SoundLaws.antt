-- What is read is sound: it has an encoding, so that it may be taken as a command, and written again.
use Rattle.std.specs.Prelude.{ℕ, List}
use Rattle.mos_lexer.specs.Encodings.{Encodes}
use Rattle.mos_message_reading.specs.Values.{IsMessageValue, IsNamed}
use Rattle.mos_values.specs.MessageViews.{envelope_events}
use Rattle.mos_values.specs.Sound.{IsSound}
use Rattle.mos_values.specs.declared.message.Envelope.{Envelope}

-- An envelope whose events are the value of a message, as the grammar accepts it, is sound. The name of a message that is
-- kept as it was written has to be that of its element, since the events don't say it.
abbrev pub ReadMessagesAreSound : Type 0
ReadMessagesAreSound = (e : Envelope) → IsMessageValue (envelope_events e) → IsNamed e.message → IsSound e.message

-- An envelope that code units encode, in whichever encoding, is sound.
abbrev pub EncodedMessagesAreSound : Type 0
EncodedMessagesAreSound = (e : Envelope) (us : List ℕ) → Encodes (envelope_events e) us → IsNamed e.message → IsSound e.message
