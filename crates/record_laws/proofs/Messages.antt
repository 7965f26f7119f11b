-- Messages whose records are as their tables say.
use Rattle.std.proofs.Common.{List}
use Rattle.mos_fields.specs.Characters.{Text}
use Rattle.mos_tables.specs.declared.table.Table.{Table}
use Rattle.mos_tables.specs.Events.{Event}
use Rattle.mos_grammar.specs.Tokens.{Token}
use Rattle.mos_grammar.specs.Records.{IsRecord}
use Rattle.mos_grammar.specs.Streams as streams
use Rattle.mos_grammar.specs.Streams.{Stage, IsMessage}
use Rattle.mos_grammar.specs.Laws.{MessagesAreRead, BeginningsAreRead}
use Rattle.record_laws.specs.Words.{IsTableRecord, IsTableMessage, space_before, mark_first, declaration_first, envelope}
use Rattle.record_laws.specs.Laws.{RecordsAreByTable, MessagesAreByTable, MessagesAreSame, BeginningsAreByTable}

record_to : RecordsAreByTable → (t : Table) (n : Text) (v : List Event) (r : List Token) → IsRecord t n v r → IsTableRecord t n v r
record_to law t n v r h = (h.0, h.1, (law t h.0 h.1).0 h.2, h.3, h.4)

record_from : RecordsAreByTable → (t : Table) (n : Text) (v : List Event) (r : List Token) → IsTableRecord t n v r → IsRecord t n v r
record_from law t n v r h = (h.0, h.1, (law t h.0 h.1).1 h.2, h.3, h.4)

message_to : RecordsAreByTable → {g : Stage} {v : List Event} {ts : List Token} → IsMessage g v ts → IsTableMessage g v ts
message_to law (streams.white_space w m) = space_before w (message_to law m)
message_to law (streams.mark_before w m) = mark_first w (message_to law m)
message_to law (streams.declaration_before w m) = declaration_first w (message_to law m)
message_to law (streams.element {v = v} {r = r} h) = envelope (record_to law _ _ v r h)

message_from : RecordsAreByTable → {g : Stage} {v : List Event} {ts : List Token} → IsTableMessage g v ts → IsMessage g v ts
message_from law (space_before w m) = streams.white_space w (message_from law m)
message_from law (mark_first w m) = streams.mark_before w (message_from law m)
message_from law (declaration_first w m) = streams.declaration_before w (message_from law m)
message_from law (envelope {v = v} {r = r} h) = streams.element (record_from law _ _ v r h)

pub messages_by_table : RecordsAreByTable → MessagesAreRead → MessagesAreByTable
messages_by_table law read g v ts = (λ m. (read g v ts).0 (message_from law m), λ e. message_to law ((read g v ts).1 e))

pub beginnings_by_table : RecordsAreByTable → BeginningsAreRead → BeginningsAreByTable
beginnings_by_table law read g ts = (λ b. (read g ts).0 (b.0, b.1, message_from law b.2), λ r. (let b = (read g ts).1 r in (b.0, b.1, message_to law b.2)))

pub messages_same : RecordsAreByTable → MessagesAreSame
messages_same law g v ts = (λ m. message_to law m, λ m. message_from law m)
