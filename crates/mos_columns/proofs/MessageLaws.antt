-- The messages found by name are those of the tables.
use Rattle.std.proofs.Common.{◌≡◌, Bool, true, false, cond, List, [], ◌∷◌, map, Some, refl}
use Rattle.mos_fields.specs.Characters.{Text}
use Rattle.mos_fields.specs.Fields.{same}
use Rattle.mos_fields.specs.declared.operation.Operation.{Operation}
use Rattle.mos_tables.specs.Tables.{messages, table_of_name}
use Rattle.mos_events.specs.EventView.{message_text}
use Rattle.mos_events.specs.declared.message_name.MessageName.{MessageName}
use Rattle.mos_columns.specs.Messages.{all_messages, record_of, named_in, record_if}

by_name : (n : Text) (o : Operation) (ms : List MessageName) → table_of_name n (map (λ (m : MessageName). (message_text m, record_of o m)) ms) ≡ record_if o (named_in n ms)
by_name n o [] = refl
by_name n o (m ∷ ms) = go (same (message_text m) n) (by_name n o ms)
  where
    go : (b : Bool) → table_of_name n (map (λ (m : MessageName). (message_text m, record_of o m)) ms) ≡ record_if o (named_in n ms)
        → cond b (Some (record_of o m)) (table_of_name n (map (λ (m : MessageName). (message_text m, record_of o m)) ms)) ≡ record_if o (cond b (Some m) (named_in n ms))
    go true e = refl
    go false e = e

pub message_is : (n : Text) (o : Operation) → table_of_name n (messages o) ≡ record_if o (named_in n all_messages)
message_is n o = by_name n o all_messages
