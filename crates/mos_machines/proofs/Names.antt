-- The roID that a machine sees is the one that the message has.
use Rattle.std.proofs.Common.{◌≡◌, refl}
use Rattle.mos_machines.specs.Messages.{message_ro}
use Rattle.mos_machines.specs.Values.{seen}
use Rattle.mos_values.specs.Names.{message_ro as named_ro}
use Rattle.mos_values.specs.declared.message.Message.{Message}
use Rattle.mos_values.specs.declared.message.Message.TheVariants as carried

pub seen_ro : (m : Message) → named_ro m ≡ message_ro (seen m)
seen_ro (carried.Heartbeat time) = refl
seen_ro carried.ReqMachInfo = refl
seen_ro (carried.ListMachInfo info) = refl
seen_ro (carried.MosAck ack) = refl
seen_ro (carried.MosObj obj) = refl
seen_ro (carried.MosReqObj id) = refl
seen_ro (carried.MosReqAll pause) = refl
seen_ro (carried.MosListAll objs) = refl
seen_ro (carried.RoCreate body) = refl
seen_ro (carried.RoReplace body) = refl
seen_ro (carried.RoList body) = refl
seen_ro (carried.RoMetadataReplace patch) = refl
seen_ro (carried.RoDelete ro) = refl
seen_ro (carried.RoReq ro) = refl
seen_ro carried.RoReqAll = refl
seen_ro (carried.RoListAll headers) = refl
seen_ro (carried.RoElementStat status) = refl
seen_ro (carried.RoElementAction ro action) = refl
seen_ro (carried.RoReadyToAir ro air) = refl
seen_ro (carried.RoAck answer) = refl
seen_ro (carried.RoStorySend story) = refl
seen_ro (carried.Other name raw) = refl
