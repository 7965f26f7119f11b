-- What holds of the canonical encodings of messages.
use Rattle.std.specs.Prelude.{◌≡◌, true, List, length, ◌≤◌}
use Rattle.mos_fields.specs.Characters.{are_allowed, units_of}
use Rattle.mos_tables.specs.Events.{Event}
use Rattle.mos_tables.specs.Canonical.{canonical}
use Rattle.mos_tables.specs.declared.table.Table.TheVariants.{Envelope}
use Rattle.mos_grammar.specs.Streams.{mos_name}
use Rattle.mos_lexer.specs.Encodings.{Encodes}
use Rattle.mos_lexer.specs.Units.{message_limit}
use Rattle.mos_cursor.specs.Accepted.{IsWhole}
use Rattle.mos_values.specs.declared.message.Envelope.{Envelope as EnvelopeValue}
use Rattle.mos_values.specs.MessageViews.{envelope_events}
use Rattle.mos_values.specs.Sound.{IsSound}
use Rattle.encoding_laws.specs.Allowed.{HasAllowedTexts}
use Rattle.encoding_laws.specs.Fitting.{HasFittingTexts}
use Rattle.encoding_laws.specs.Identifiers.{HasDistinctIdentifiers}

-- The canonical encoding of the message with this value is an encoding of it, where its characters are allowed and it is
-- not too long.
abbrev pub IsEncodedCanonically : List Event → Type 0
IsEncodedCanonically v = are_allowed (canonical v) ≡ true → length (units_of (canonical v)) ≤ message_limit → Encodes v (units_of (canonical v))

-- What was read is read again: the canonical encoding of a message's value is an encoding of it.
abbrev pub ReadIsReadAgain : Type 0
ReadIsReadAgain = (v : List Event) → IsWhole Envelope mos_name v → IsEncodedCanonically v

-- The value of each such envelope is a message's value: the grammar accepts it.
abbrev pub ValuesAreMessages : Type 0
ValuesAreMessages = (e : EnvelopeValue) → IsSound e.message → HasDistinctIdentifiers e.message → HasFittingTexts (envelope_events e) → IsWhole Envelope mos_name (envelope_events e)

-- Allowed texts have an allowed encoding: the names and the attributes of a message's value add allowed characters only.
abbrev pub AllowedTextsAreEncoded : Type 0
AllowedTextsAreEncoded = (v : List Event) → IsWhole Envelope mos_name v → HasAllowedTexts v → are_allowed (canonical v) ≡ true

-- Values are encoded: the canonical encoding of an envelope is an encoding of it, where its message is sound, its IDs are
-- distinct and its texts fit.
abbrev pub ValuesAreEncoded : Type 0
ValuesAreEncoded = (e : EnvelopeValue) → IsSound e.message → HasDistinctIdentifiers e.message → HasFittingTexts (envelope_events e) → IsEncodedCanonically (envelope_events e)
