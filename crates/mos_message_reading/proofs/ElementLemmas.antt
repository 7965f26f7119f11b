-- A message with an element of the tables has no name of its own.
use Rattle.std.proofs.Common.{◌≡◌, List, ◌∷◌, Result, Ok, Err, IfOk}
use Rattle.mos_fields.specs.Characters.{Text}
use Rattle.mos_tables.specs.Events.{Attribute, Event, opens}
use Rattle.mos_values.specs.declared.message.Message.{Message}
use Rattle.mos_values.specs.declared.message.Message.TheVariants as variants
use Rattle.mos_values.specs.MessageViews.{message_events}
use Rattle.mos_values.specs.Parts.{must_raw}
use Rattle.mos_cursor.specs.Parts.{RecordPart, record_events}
use Rattle.mos_message_reading.specs.Values.{IsNamed}

opened_named : (m : Message) (n : Text) (g : List Attribute) (es : List Event) → message_events m ≡ opens n g ∷ es → IsNamed m
unfolding message_events must_raw
opened_named (variants.Heartbeat x) n g es e = tt
opened_named variants.ReqMachInfo n g es e = tt
opened_named (variants.ListMachInfo x) n g es e = tt
opened_named (variants.MosAck x) n g es e = tt
opened_named (variants.MosObj x) n g es e = tt
opened_named (variants.MosReqObj x) n g es e = tt
opened_named (variants.MosReqAll x) n g es e = tt
opened_named (variants.MosListAll x) n g es e = tt
opened_named (variants.RoCreate x) n g es e = tt
opened_named (variants.RoReplace x) n g es e = tt
opened_named (variants.RoList x) n g es e = tt
opened_named (variants.RoMetadataReplace x) n g es e = tt
opened_named (variants.RoDelete x) n g es e = tt
opened_named (variants.RoReq x) n g es e = tt
opened_named variants.RoReqAll n g es e = tt
opened_named (variants.RoListAll x) n g es e = tt
opened_named (variants.RoElementStat x) n g es e = tt
opened_named (variants.RoElementAction ro a) n g es e = tt
opened_named (variants.RoReadyToAir ro a) n g es e = tt
opened_named (variants.RoAck x) n g es e = tt
opened_named (variants.RoStorySend x) n g es e = tt
opened_named (variants.Other name other) n g es e = absurd cc

pub element_named : {E : Type 0} (r : Result Message E) (n : Text) (p : RecordPart) → IfOk r (λ m. message_events m ≡ record_events n p) → IfOk r (λ m. IsNamed m)
element_named (Ok m) n p h = opened_named m n p.given _ h
element_named (Err e) n p h = tt
