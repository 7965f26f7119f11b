-- Events in memory, as the events that a record's value is made of.
use Rattle.std.specs.Prelude.{List, [], ◌∷◌, Option, Some, None, codes, map, ◌+◌}
use Rattle.mos_fields.specs.Characters.{Text}
use Rattle.mos_fields.specs.Fields.{name_of}
use Rattle.mos_fields.specs.Values.{level_text, operation_text}
use Rattle.mos_fields.specs.declared.field.Field.TheVariants as fields
use Rattle.mos_tables.specs.Events.{Attribute, Event, leaf, raw, opens, closes}
use Rattle.mos_events.specs.declared.message_name.MessageName.{MessageName}
use Rattle.mos_events.specs.declared.message_name.MessageName.TheVariants as messages
use Rattle.mos_events.specs.declared.element_name.ElementName.{ElementName}
use Rattle.mos_events.specs.declared.element_name.ElementName.TheVariants as names
use Rattle.mos_events.specs.declared.known_attribute.KnownAttribute.{KnownAttribute}
use Rattle.mos_events.specs.declared.known_attribute.KnownAttribute.TheVariants as known
use Rattle.mos_events.specs.declared.event.Event.{Event as Stored}
use Rattle.mos_events.specs.declared.event.Event.TheVariants as stored

-- the name of a message's element
abbrev pub message_text : MessageName → Text
message_text messages.Heartbeat = codes "heartbeat"
message_text messages.ReqMachInfo = codes "reqMachInfo"
message_text messages.ListMachInfo = codes "listMachInfo"
message_text messages.MosAck = codes "mosAck"
message_text messages.MosObj = codes "mosObj"
message_text messages.MosReqObj = codes "mosReqObj"
message_text messages.MosReqAll = codes "mosReqAll"
message_text messages.MosListAll = codes "mosListAll"
message_text messages.RoCreate = codes "roCreate"
message_text messages.RoReplace = codes "roReplace"
message_text messages.RoList = codes "roList"
message_text messages.RoMetadataReplace = codes "roMetadataReplace"
message_text messages.RoDelete = codes "roDelete"
message_text messages.RoReq = codes "roReq"
message_text messages.RoReqAll = codes "roReqAll"
message_text messages.RoListAll = codes "roListAll"
message_text messages.RoElementStat = codes "roElementStat"
message_text messages.RoElementAction = codes "roElementAction"
message_text messages.RoReadyToAir = codes "roReadyToAir"
message_text messages.RoAck = codes "roAck"
message_text messages.RoStorySend = codes "roStorySend"

-- the name of an element
abbrev pub element_text : ElementName → Text
element_text names.Mos = codes "mos"
element_text (names.Message m) = message_text m
element_text (names.Field f) = name_of f

-- the attribute with its value
abbrev pub attribute_of : KnownAttribute → Attribute
attribute_of known.Ncs = record { name = name_of fields.DeviceType; value = codes "NCS" }
attribute_of known.Mos = record { name = name_of fields.DeviceType; value = codes "MOS" }
attribute_of (known.Number n) = record { name = name_of fields.Number; value = (48 + n) ∷ [] }
attribute_of (known.Element l) = record { name = name_of fields.ElementKind; value = level_text l }
attribute_of (known.Operation o) = record { name = name_of fields.OperationKind; value = operation_text o }

-- the attributes of a start tag: the one that its table names, or none
abbrev pub attributes_of : Option KnownAttribute → List Attribute
attributes_of None = []
attributes_of (Some a) = attribute_of a ∷ []

abbrev pub event_of : Stored → Event
event_of (stored.Leaf n a x) = leaf (element_text n) (attributes_of a) x
event_of (stored.Raw f x) = raw f x
event_of (stored.Opens n a) = opens (element_text n) (attributes_of a)
event_of (stored.Closes n) = closes (element_text n)

abbrev pub events_of : List Stored → List Event
events_of es = map event_of es
