-- The label of a message, behind which its answer is told.
use Rattle.std.specs.Prelude.{ℕ, List, [], ◌∷◌, ◌++◌, Option, Some, None, codes}
use Rattle.mos_events.specs.EventView.{message_text}
use Rattle.mos_events.specs.declared.message_name.MessageName.{MessageName}
use Rattle.mos_events.specs.declared.message_name.MessageName.TheVariants as names
use Rattle.mos_fields.specs.Characters.{Text}
use Rattle.mos_values.specs.Names.{message_ro}
use Rattle.mos_values.specs.declared.message.Message.{Message}
use Rattle.mos_values.specs.declared.message.Message.TheVariants as carried
use Rattle.line_texts.specs.Texts.{printed_text}

-- the name of a message's element, where the tables have it
abbrev pub table_name : Message → Option MessageName
table_name (carried.Heartbeat time) = Some names.Heartbeat
table_name carried.ReqMachInfo = Some names.ReqMachInfo
table_name (carried.ListMachInfo info) = Some names.ListMachInfo
table_name (carried.MosAck ack) = Some names.MosAck
table_name (carried.MosObj obj) = Some names.MosObj
table_name (carried.MosReqObj obj) = Some names.MosReqObj
table_name (carried.MosReqAll pause) = Some names.MosReqAll
table_name (carried.MosListAll objs) = Some names.MosListAll
table_name (carried.RoCreate body) = Some names.RoCreate
table_name (carried.RoReplace body) = Some names.RoReplace
table_name (carried.RoList body) = Some names.RoList
table_name (carried.RoMetadataReplace patch) = Some names.RoMetadataReplace
table_name (carried.RoDelete ro) = Some names.RoDelete
table_name (carried.RoReq ro) = Some names.RoReq
table_name carried.RoReqAll = Some names.RoReqAll
table_name (carried.RoListAll headers) = Some names.RoListAll
table_name (carried.RoElementStat stat) = Some names.RoElementStat
table_name (carried.RoElementAction ro action) = Some names.RoElementAction
table_name (carried.RoReadyToAir ro air) = Some names.RoReadyToAir
table_name (carried.RoAck ack) = Some names.RoAck
table_name (carried.RoStorySend story) = Some names.RoStorySend
table_name (carried.Other name raw) = None

-- the name of any other, in UTF-8
abbrev pub other_name : Message → List ℕ
other_name (carried.Other name raw) = printed_text name
other_name m = []

-- a name of the tables has ASCII characters, which are their own bytes in UTF-8
abbrev pub name_or : Option MessageName → List ℕ → List ℕ
name_or None other = other
name_or (Some name) other = message_text name

-- the name of a message's element
abbrev pub name_text : Message → List ℕ
name_text m = name_or (table_name m) (other_name m)

-- a roID behind a space, and nothing for an empty one
abbrev pub ro_text : Text → List ℕ
ro_text [] = []
ro_text (c ∷ cs) = codes " " ++ printed_text (c ∷ cs)

-- The label of a message: the name of its element, and behind a space the roID that it has, if it has one.
abbrev pub label_text : Message → List ℕ
label_text m = name_text m ++ ro_text (message_ro m)
