-- The values of whole messages that the grammar accepts.
use Rattle.std.specs.Prelude.{◌≡◌, ℕ, Bool, true, false, List, Some}
use Rattle.mos_fields.specs.Characters.{Text}
use Rattle.mos_fields.specs.Raw.{IsRaw}
use Rattle.mos_fields.specs.declared.operation.Operation.{Operation}
use Rattle.mos_tables.specs.declared.table.Table.{Table}
use Rattle.mos_tables.specs.declared.table.Table.TheVariants.{Envelope}
use Rattle.mos_tables.specs.Events.{Event}
use Rattle.mos_tables.specs.Tables.{messages, table_of_name}
use Rattle.mos_events.specs.declared.message_name.MessageName.{MessageName}
use Rattle.mos_events.specs.declared.message_name.MessageName.TheVariants as names
use Rattle.mos_grammar.specs.Streams.{mos_name}
use Rattle.mos_lexer.specs.Encodings.{Encodes}
use Rattle.mos_lexer.specs.Units.{start_reader, completed, unit_run}
use Rattle.mos_values.specs.declared.message.Message.{Message}
use Rattle.mos_values.specs.declared.message.Message.TheVariants.{Other}
use Rattle.mos_cursor.specs.Accepted.{IsWhole}

-- the events of a whole message: the element `mos` with an accepted record of its table
abbrev pub IsMessageValue : List Event → Type 0
IsMessageValue v = IsWhole Envelope mos_name v

-- what code units encode is the value of a message
abbrev pub EncodedValuesAreMessages : Type 0
EncodedValuesAreMessages = (v : List Event) (us : List ℕ) → Encodes v us → IsMessageValue v

-- what is read from code units, to the end of a message, is the value of a message
abbrev pub ReadValuesAreMessages : Type 0
ReadValuesAreMessages = (v : List Event) (us : List ℕ) (began : ℕ) (rest : List ℕ) → unit_run start_reader us ≡ completed began v rest → IsMessageValue v

-- the name is that of a message with a table
abbrev pub IsMessageName : Text → Type 0
IsMessageName n = (o : Operation) × (t : Table) × (table_of_name n (messages o) ≡ Some t)

-- the messages about running orders, of Profiles 2 and 4; the others, about machines and objects, are of Profiles 0 and 1
abbrev pub is_order_name : MessageName → Bool
is_order_name names.Heartbeat = false
is_order_name names.ReqMachInfo = false
is_order_name names.ListMachInfo = false
is_order_name names.MosAck = false
is_order_name names.MosObj = false
is_order_name names.MosReqObj = false
is_order_name names.MosReqAll = false
is_order_name names.MosListAll = false
is_order_name n = true

-- the name of a message that is kept as it was written is that of its element
abbrev pub IsNamed : Message → Type 0
IsNamed (Other name other) = IsRaw name other
IsNamed m = Unit {0}
