-- The tag of an answer of the server.
use Rattle.std.specs.Prelude.{Bool, true, false, List}
use Rattle.mos_edits.specs.Entries.{Entry, entry_count}
use Rattle.mos_edits.specs.Texts.{Text, same_id}
use Rattle.mos_machines.specs.Messages.{Status, status_text}
use Rattle.mos_values.specs.declared.message.Message.{Message}
use Rattle.mos_values.specs.declared.message.Message.TheVariants as carried
use Rattle.world_parts.specs.declared.packet.PacketTag.{PacketTag}
use Rattle.world_parts.specs.declared.packet.PacketTag.TheVariants.{Untagged, List as Listed}

-- the answer puts a request off
abbrev pub is_put_off : Message → Bool
is_put_off (carried.RoAck ack) = same_id ack.status (status_text Status.NotNow)
is_put_off message = false

abbrev pub list_tag : List Entry → Text → Bool → PacketTag
list_tag journal r true = Untagged
list_tag journal r false = Listed r (entry_count journal r)

abbrev pub answer_tag : List Entry → Message → Message → PacketTag
answer_tag journal (carried.RoReq r) answer = list_tag journal r (is_put_off answer)
answer_tag journal request answer = Untagged
