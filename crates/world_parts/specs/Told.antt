-- What is told of a packet that was written.
use Rattle.std.specs.Prelude.{ℕ, length, Bool, true, false, ◌||◌, Option, Some, None}
use Rattle.mos_edits.specs.Texts.{Text, same_id}
use Rattle.mos_machines.specs.Messages.{Tag as kinds, status_text}
use Rattle.mos_machines.specs.Messages.Status.{Okay, NoDeck}
use Rattle.mos_values.specs.declared.message.Message.{Message}
use Rattle.mos_values.specs.declared.message.Message.TheVariants as carried
use Rattle.world_laws.specs.Outcomes.{Outcome}
use Rattle.world_parts.specs.declared.packet.PacketTag.{PacketTag}
use Rattle.world_parts.specs.declared.packet.PacketTag.TheVariants.{Untagged, Entry, Again, Script, List as Listed}

abbrev pub tag_of : PacketTag → kinds
tag_of Untagged = kinds.Untagged
tag_of (Entry ro k) = kinds.OfEntry ro k
tag_of (Again ro m) = kinds.OfAgain ro m
tag_of (Script ro k m) = kinds.OfScript ro k m
tag_of (Listed ro m) = kinds.OfList ro m

-- what is told of a message by itself
abbrev pub told_message : Message → Outcome
told_message (carried.Heartbeat time) = Outcome.Heartbeat
told_message (carried.RoAck ack) = Outcome.Ack ack.ro ack.status
told_message (carried.RoReq ro) = Outcome.Ask ro
told_message carried.RoReqAll = Outcome.AskAll
told_message (carried.RoListAll headers) = Outcome.ListAll (length headers)
told_message message = Outcome.Nothing

-- what is told of a list of an order after `m` entries, or of what is said in its place
abbrev pub told_list : Text → ℕ → Message → Outcome
told_list r m (carried.RoList body) = Outcome.List r m
told_list r m message = told_message message

-- what is told of a packet
abbrev pub told : PacketTag → Message → Outcome
told Untagged message = told_message message
told (Entry ro k) message = Outcome.Edit ro k
told (Again ro m) message = Outcome.Again ro m
told (Script ro k m) message = Outcome.Script ro k m
told (Listed ro m) message = told_list ro m message

-- ---- what a device applied

-- whether a message is a whole-order edit, where it is an edit
abbrev pub whole_edit : Message → Option Bool
whole_edit (carried.RoCreate body) = Some true
whole_edit (carried.RoReplace body) = Some true
whole_edit (carried.RoDelete ro) = Some true
whole_edit (carried.RoMetadataReplace patch) = Some false
whole_edit (carried.RoElementAction ro action) = Some false
whole_edit (carried.RoReadyToAir ro air) = Some false
whole_edit (carried.RoStorySend script) = Some false
whole_edit message = None

-- whether a roAck with this status says that an entry was applied, which was read in step or not and is a whole-order edit or
-- isn't
abbrev pub applies_by : Bool → Bool → Bool → Bool → Bool
applies_by true no_deck in_step whole = in_step || whole
applies_by false true in_step whole = in_step
applies_by false false in_step whole = false

abbrev pub applies_with : Bool → Option Bool → Message → Bool
applies_with in_step (Some whole) (carried.RoAck ack) = applies_by (same_id ack.status (status_text Okay)) (same_id ack.status (status_text NoDeck)) in_step whole
applies_with in_step whole message = false

-- whether the answer says so of the message
abbrev pub applies : Bool → Message → Message → Bool
applies in_step message answer = applies_with in_step (whole_edit message) answer
