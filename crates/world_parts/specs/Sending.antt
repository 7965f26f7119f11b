-- The tag that a packet carries of what is sent.
use Rattle.machine_answers.specs.declared.answers.Tag.{Tag}
use Rattle.machine_answers.specs.declared.answers.Tag.TheVariants as tags
use Rattle.world_parts.specs.declared.packet.PacketTag.{PacketTag}
use Rattle.world_parts.specs.declared.packet.PacketTag.TheVariants.{Untagged, Entry, Again, Script}

abbrev pub carried_tag : Tag → PacketTag
carried_tag (tags.Edit ro k) = Entry ro k
carried_tag (tags.Again ro m) = Again ro m
carried_tag (tags.Script ro k m) = Script ro k m
carried_tag tag = Untagged
