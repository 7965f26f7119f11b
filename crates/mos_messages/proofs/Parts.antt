-- A message's element is that of its own kind.
use Rattle.std.proofs.Common.{◌≡◌, List, [], ◌++◌, append_assoc, refl, sym, ap, ◌∙◌}
use Rattle.std.proofs.lemmas.List.{append-nil}
use Rattle.mos_tables.specs.Events.{Event}
use Rattle.mos_fields.specs.declared.field.Field.TheVariants as fields
use Rattle.mos_values.specs.declared.message.Envelope.{Envelope}
use Rattle.mos_values.specs.Parts.{must, maybe}
use Rattle.mos_messages.specs.Names.{names_events}
use Rattle.mos_values.specs.MessageViews.{message_events}
use Rattle.mos_values.specs.declared.message.Message.{Message}
use Rattle.mos_values.specs.declared.message.Message.TheVariants as messages
use Rattle.mos_object_msgs.specs.Objects.{object_events}
use Rattle.mos_order_msgs.specs.Orders.{order_events}
use Rattle.mos_messages.specs.Others.{other_events}

first : (es : List Event) → es ≡ es ++ [] ++ []
first es = sym (append-nil (es ++ []) ∙ append-nil es)

second : (es : List Event) → es ≡ [] ++ es ++ []
second es = sym (append-nil es)

pub message_is : (m : Message) → message_events m ≡ order_events m ++ object_events m ++ other_events m
message_is (messages.Heartbeat time) = second (message_events (messages.Heartbeat time))
message_is messages.ReqMachInfo = second (message_events messages.ReqMachInfo)
message_is (messages.ListMachInfo info) = second (message_events (messages.ListMachInfo info))
message_is (messages.MosAck ack) = second (message_events (messages.MosAck ack))
message_is (messages.MosObj obj) = second (message_events (messages.MosObj obj))
message_is (messages.MosReqObj obj) = second (message_events (messages.MosReqObj obj))
message_is (messages.MosReqAll pause) = second (message_events (messages.MosReqAll pause))
message_is (messages.MosListAll objs) = second (message_events (messages.MosListAll objs))
message_is (messages.RoCreate body) = first (message_events (messages.RoCreate body))
message_is (messages.RoReplace body) = first (message_events (messages.RoReplace body))
message_is (messages.RoList body) = first (message_events (messages.RoList body))
message_is (messages.RoMetadataReplace patch) = first (message_events (messages.RoMetadataReplace patch))
message_is (messages.RoDelete ro) = first (message_events (messages.RoDelete ro))
message_is (messages.RoReq ro) = first (message_events (messages.RoReq ro))
message_is messages.RoReqAll = first (message_events messages.RoReqAll)
message_is (messages.RoListAll headers) = first (message_events (messages.RoListAll headers))
message_is (messages.RoElementStat stat) = first (message_events (messages.RoElementStat stat))
message_is (messages.RoElementAction ro action) = first (message_events (messages.RoElementAction ro action))
message_is (messages.RoReadyToAir ro air) = first (message_events (messages.RoReadyToAir ro air))
message_is (messages.RoAck ack) = first (message_events (messages.RoAck ack))
message_is (messages.RoStorySend story) = first (message_events (messages.RoStorySend story))
message_is (messages.Other name other) = refl

parts : (a b d : List Event) → a ++ (b ++ (d ++ [])) ≡ a ++ b ++ d
parts a b d = simp (append_assoc, append-nil)

pub names_are : (e : Envelope) → names_events e ≡ must fields.MosID e.mos ++ must fields.NcsID e.ncs ++ maybe fields.MessageID e.message_id
unfolding names_events
names_are e = parts (must fields.MosID e.mos) (must fields.NcsID e.ncs) (maybe fields.MessageID e.message_id)
