-- Messages by the names of their elements.
use Rattle.std.specs.Prelude.{cond, List, [], ◌∷◌, Option, Some, None}
use Rattle.mos_fields.specs.Characters.{Text}
use Rattle.mos_fields.specs.Fields.{same}
use Rattle.mos_fields.specs.declared.operation.Operation.{Operation}
use Rattle.mos_tables.specs.declared.table.Table.{Table}
use Rattle.mos_tables.specs.declared.table.Table.TheVariants as tables
use Rattle.mos_events.specs.EventView.{message_text}
use Rattle.mos_events.specs.declared.message_name.MessageName.{MessageName}
use Rattle.mos_events.specs.declared.message_name.MessageName.TheVariants as messages

-- every message
abbrev pub all_messages : List MessageName
all_messages = messages.Heartbeat ∷ messages.ReqMachInfo ∷ messages.ListMachInfo ∷ messages.MosAck ∷ messages.MosObj ∷ messages.MosReqObj ∷ messages.MosReqAll ∷ messages.MosListAll ∷ messages.RoCreate ∷ messages.RoReplace ∷ messages.RoList ∷ messages.RoMetadataReplace ∷ messages.RoDelete ∷ messages.RoReq ∷ messages.RoReqAll ∷ messages.RoListAll ∷ messages.RoElementStat ∷ messages.RoElementAction ∷ messages.RoReadyToAir ∷ messages.RoAck ∷ messages.RoStorySend ∷ []

-- the record of a message; that of roElementAction by its operation too
abbrev pub record_of : Operation → MessageName → Table
record_of o messages.Heartbeat = tables.Heartbeat
record_of o messages.ReqMachInfo = tables.NoFields
record_of o messages.ListMachInfo = tables.ListMachInfo
record_of o messages.MosAck = tables.MosAck
record_of o messages.MosObj = tables.MosObj
record_of o messages.MosReqObj = tables.MosReqObj
record_of o messages.MosReqAll = tables.MosReqAll
record_of o messages.MosListAll = tables.MosListAll
record_of o messages.RoCreate = tables.Body
record_of o messages.RoReplace = tables.Body
record_of o messages.RoList = tables.Body
record_of o messages.RoMetadataReplace = tables.HeaderPatch
record_of o messages.RoDelete = tables.OneOrder
record_of o messages.RoReq = tables.OneOrder
record_of o messages.RoReqAll = tables.NoFields
record_of o messages.RoListAll = tables.RoListAll
record_of o messages.RoElementStat = tables.ElementStat
record_of o messages.RoElementAction = tables.Action o
record_of o messages.RoReadyToAir = tables.ReadyToAir
record_of o messages.RoAck = tables.RoAck
record_of o messages.RoStorySend = tables.StorySend

-- the message of this name, among these
abbrev pub named_in : Text → List MessageName → Option MessageName
named_in n [] = None
named_in n (m ∷ ms) = cond (same (message_text m) n) (Some m) (named_in n ms)

-- the record of the message, if there is one
abbrev pub record_if : Operation → Option MessageName → Option Table
record_if o None = None
record_if o (Some m) = Some (record_of o m)
