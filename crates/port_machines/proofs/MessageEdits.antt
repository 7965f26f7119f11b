-- Messages by the edits that they carry.
use Rattle.std.proofs.Common.{◌≡◌, List, Some, None, refl, sym, ap, subst}
use Rattle.mos_edits.specs.Entries.{Entry, entry_of}
use Rattle.mos_machines.specs.Steps.{ServerEvent}
use Rattle.mos_machines.specs.Values.{edit_message, seen}
use Rattle.mos_values.specs.Sound.{IsSound}
use Rattle.mos_edits.specs.declared.edit.Edit.{Edit}
use Rattle.mos_edits.specs.declared.edit.Edit.TheVariants as edits
use Rattle.mos_values.specs.declared.message.Message.{Message}
use Rattle.mos_values.specs.declared.message.Message.TheVariants.{RoCreate, RoReplace, RoMetadataReplace, RoDelete, RoElementAction, RoReadyToAir, RoStorySend}
use Rattle.port_replies.specs.Ports.{Asked, editor_heard, told}
use Rattle.port_events.specs.declared.answer.PortAnswer.TheVariants as answers
use Rattle.mos_edits.specs.Carried.{edit_in}
use Rattle.port_machines.specs.Editing.{reply_to}

same-edit : (x y : Edit) → Some x ≡ Some y → x ≡ y
same-edit x y h = cc

-- the message that carries the edit again
pub edit-carried : (m : Message) (e : Edit) → edit_in m ≡ Some e → edit_message e ≡ m
edit-carried (RoCreate body) e h = ap edit_message (sym (same-edit (edits.Create body) e h))
edit-carried (RoReplace body) e h = ap edit_message (sym (same-edit (edits.Replace body) e h))
edit-carried (RoDelete ro) e h = ap edit_message (sym (same-edit (edits.Delete ro) e h))
edit-carried (RoMetadataReplace patch) e h = ap edit_message (sym (same-edit (edits.Metadata patch) e h))
edit-carried (RoElementAction ro action) e h = ap edit_message (sym (same-edit (edits.Act ro action) e h))
edit-carried (RoReadyToAir ro air) e h = ap edit_message (sym (same-edit (edits.Air ro air) e h))
edit-carried (RoStorySend script) e h = ap edit_message (sym (same-edit (edits.Script script) e h))
edit-carried m e h = absurd (cc)

pub edit-sound : (m : Message) (e : Edit) → edit_in m ≡ Some e → IsSound m → IsSound (edit_message e)
edit-sound m e h s = subst IsSound (sym (edit-carried m e h)) s

asks : Edit → Asked ServerEvent
asks e = Asked.Steps (ServerEvent.Command (entry_of e)) (told (entry_of e).ro)

-- an edit is a command
pub edit-asked : (journal : List Entry) (m : Message) (e : Edit) → edit_in m ≡ Some e → editor_heard journal (seen m) ≡ Asked.Steps (ServerEvent.Command (entry_of e)) (told (entry_of e).ro)
unfolding asks
edit-asked journal (RoCreate body) e h = ap asks (same-edit (edits.Create body) e h)
edit-asked journal (RoReplace body) e h = ap asks (same-edit (edits.Replace body) e h)
edit-asked journal (RoDelete ro) e h = ap asks (same-edit (edits.Delete ro) e h)
edit-asked journal (RoMetadataReplace patch) e h = ap asks (same-edit (edits.Metadata patch) e h)
edit-asked journal (RoElementAction ro action) e h = ap asks (same-edit (edits.Act ro action) e h)
edit-asked journal (RoReadyToAir ro air) e h = ap asks (same-edit (edits.Air ro air) e h)
edit-asked journal (RoStorySend script) e h = ap asks (same-edit (edits.Script script) e h)
edit-asked journal m e h = absurd (cc)

-- any other message is answered at once
pub other-asked : (journal : List Entry) (m : Message) → edit_in m ≡ None → editor_heard journal (seen m) ≡ Asked.Says (answers.Say (reply_to journal m))
other-asked journal (RoCreate body) h = absurd (cc)
other-asked journal (RoReplace body) h = absurd (cc)
other-asked journal (RoDelete ro) h = absurd (cc)
other-asked journal (RoMetadataReplace patch) h = absurd (cc)
other-asked journal (RoElementAction ro action) h = absurd (cc)
other-asked journal (RoReadyToAir ro air) h = absurd (cc)
other-asked journal (RoStorySend script) h = absurd (cc)
other-asked journal m h = refl
