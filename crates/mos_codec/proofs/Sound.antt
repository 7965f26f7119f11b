-- A sound message that is kept as it was written has the name of its element.
use Rattle.mos_values.specs.declared.message.Message.{Message}
use Rattle.mos_values.specs.declared.message.Message.TheVariants as messages
use Rattle.mos_values.specs.Sound.{IsSound}
use Rattle.mos_message_reading.specs.Values.{IsNamed}

pub sound_named : (m : Message) → IsSound m → IsNamed m
unfolding IsSound
sound_named (messages.Heartbeat time) s = tt
sound_named messages.ReqMachInfo s = tt
sound_named (messages.ListMachInfo info) s = tt
sound_named (messages.MosAck ack) s = tt
sound_named (messages.MosObj obj) s = tt
sound_named (messages.MosReqObj obj) s = tt
sound_named (messages.MosReqAll pause) s = tt
sound_named (messages.MosListAll objs) s = tt
sound_named (messages.RoCreate body) s = tt
sound_named (messages.RoReplace body) s = tt
sound_named (messages.RoList body) s = tt
sound_named (messages.RoMetadataReplace patch) s = tt
sound_named (messages.RoDelete ro) s = tt
sound_named (messages.RoReq ro) s = tt
sound_named messages.RoReqAll s = tt
sound_named (messages.RoListAll headers) s = tt
sound_named (messages.RoElementStat stat) s = tt
sound_named (messages.RoElementAction ro action) s = tt
sound_named (messages.RoReadyToAir ro air) s = tt
sound_named (messages.RoAck ack) s = tt
sound_named (messages.RoStorySend story) s = tt
sound_named (messages.Other name other) s = s.0
