-- What code units encode is the value of a message.
use Rattle.std.proofs.Common.{ℕ, List}
use Rattle.std.specs.List.{AllByRecursion}
use Rattle.mos_tables.specs.declared.table.Table.TheVariants.{Envelope}
use Rattle.mos_tables.specs.Events.{Event}
use Rattle.mos_grammar.specs.Tokens.{Token}
use Rattle.mos_grammar.specs.Streams.{Stage, mos_name, before_prolog, IsMessage, white_space, mark_before, declaration_before, element}
use Rattle.mos_lexer.specs.Encodings.{Encodes, EncodesChars}
use Rattle.mos_cursor.specs.Accepted.{IsWritten}
use Rattle.mos_cursor.proofs.WholeRecords.{whole_record_law, written_tags_law}
use Rattle.mos_message_reading.specs.Values.{IsMessageValue}

message_value : (g : Stage) (v : List Event) (ts : List Token) → IsMessage g v ts → AllByRecursion IsWritten ts → IsMessageValue v
message_value g v ts (white_space e m) w = message_value _ v _ m w.1
message_value g v ts (mark_before e m) w = message_value _ v _ m w.1
message_value g v ts (declaration_before e m) w = message_value _ v _ m w.1
message_value g v ts (element r) w = whole_record_law Envelope mos_name v _ r w.1

pub written_value : (v : List Event) (c : List ℕ) → EncodesChars v c → IsMessageValue v
written_value v c m = message_value before_prolog v m.0 m.2 (written_tags_law m.0 c m.1)

pub encoded_value : (v : List Event) (us : List ℕ) → Encodes v us → IsMessageValue v
encoded_value v us e = written_value v e.chars e.encodes
