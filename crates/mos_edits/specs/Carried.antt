-- The messages that carry edits.
use Rattle.std.specs.Prelude.{Option, Some, None}
use Rattle.mos_values.specs.declared.message.Message.{Message}
use Rattle.mos_values.specs.declared.message.Message.TheVariants as carried
use Rattle.mos_edits.specs.declared.edit.Edit.{Edit}
use Rattle.mos_edits.specs.declared.edit.Edit.TheVariants as edits

-- the message that carries an edit
abbrev pub edit_message : Edit → Message
edit_message (edits.Create body) = carried.RoCreate body
edit_message (edits.Replace body) = carried.RoReplace body
edit_message (edits.Delete ro) = carried.RoDelete ro
edit_message (edits.Metadata patch) = carried.RoMetadataReplace patch
edit_message (edits.Act ro action) = carried.RoElementAction ro action
edit_message (edits.Air ro air) = carried.RoReadyToAir ro air
edit_message (edits.Script script) = carried.RoStorySend script

-- the edit that a message carries
abbrev pub edit_in : Message → Option Edit
edit_in (carried.RoCreate body) = Some (edits.Create body)
edit_in (carried.RoReplace body) = Some (edits.Replace body)
edit_in (carried.RoDelete ro) = Some (edits.Delete ro)
edit_in (carried.RoMetadataReplace patch) = Some (edits.Metadata patch)
edit_in (carried.RoElementAction ro action) = Some (edits.Act ro action)
edit_in (carried.RoReadyToAir ro air) = Some (edits.Air ro air)
edit_in (carried.RoStorySend script) = Some (edits.Script script)
edit_in message = None
