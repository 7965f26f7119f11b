-- What is told of a packet is what is told of the one that it stands for.
use Rattle.std.proofs.Common.{◌≡◌, ℕ, Result, Ok, Err, IfOk, refl, ap, ◌∙◌}
use Rattle.mos_edits.specs.Texts.{Text}
use Rattle.mos_edits.specs.declared.edit.Edit.{Edit}
use Rattle.mos_machines.specs.Messages.{Message, Packet as Said, Tag as kinds}
use Rattle.mos_machines.specs.Messages.Message.{Heartbeat, RoEdit, RoAck, RoReq, RoReqAll, RoList, RoListAll, RoElementStat, OtherMessage}
use Rattle.mos_machines.specs.Values.{edit_message, message_of, IsWritten}
use Rattle.mos_edits.specs.declared.edit.Edit.TheVariants as edits
use Rattle.world_laws.specs.Outcomes.{Outcome, written}
use Rattle.world_parts.specs.declared.packet.Packet.{Packet}
use Rattle.world_parts.specs.declared.packet.PacketTag.{PacketTag}
use Rattle.world_parts.specs.declared.packet.PacketTag.TheVariants.{Untagged, Entry, Again, Script, List as Listed}
use Rattle.world_parts.specs.Matching.{Carries}
use Rattle.world_parts.specs.Told.{tag_of, told_message, told_list, told}

-- an edit is told of by its tag alone
edit-told : (e : Edit) → told_message (edit_message e) ≡ Outcome.Nothing
edit-told (edits.Create body) = refl
edit-told (edits.Replace body) = refl
edit-told (edits.Delete ro) = refl
edit-told (edits.Metadata patch) = refl
edit-told (edits.Act ro action) = refl
edit-told (edits.Air ro air) = refl
edit-told (edits.Script script) = refl

listed-edit-told : (r : Text) (m : ℕ) (e : Edit) → told_list r m (edit_message e) ≡ Outcome.Nothing
listed-edit-told r m (edits.Create body) = refl
listed-edit-told r m (edits.Replace body) = refl
listed-edit-told r m (edits.Delete ro) = refl
listed-edit-told r m (edits.Metadata patch) = refl
listed-edit-told r m (edits.Act ro action) = refl
listed-edit-told r m (edits.Air ro air) = refl
listed-edit-told r m (edits.Script script) = refl

untagged-told : (m : Message) → IsWritten m → told_message (message_of m) ≡ written kinds.Untagged m
untagged-told (Heartbeat time) w = refl
untagged-told (RoEdit e) w = edit-told e.edit
untagged-told (RoAck r t) w = refl
untagged-told (RoReq r) w = refl
untagged-told RoReqAll w = refl
untagged-told (RoList r order) w = refl
untagged-told (RoListAll headers) w = refl
untagged-told (RoElementStat r) w = absurd w
untagged-told (OtherMessage r) w = absurd w

listed-told : (r : Text) (n : ℕ) (m : Message) → IsWritten m → told_list r n (message_of m) ≡ written (kinds.OfList r n) m
listed-told r n (Heartbeat time) w = refl
listed-told r n (RoEdit e) w = listed-edit-told r n e.edit
listed-told r n (RoAck q t) w = refl
listed-told r n (RoReq q) w = refl
listed-told r n RoReqAll w = refl
listed-told r n (RoList q order) w = refl
listed-told r n (RoListAll headers) w = refl
listed-told r n (RoElementStat q) w = absurd w
listed-told r n (OtherMessage q) w = absurd w

tag-told : (t : PacketTag) (m : Message) → IsWritten m → told t (message_of m) ≡ written (tag_of t) m
tag-told Untagged m w = untagged-told m w
tag-told (Entry ro k) m w = refl
tag-told (Again ro k) m w = refl
tag-told (Script ro k n) m w = refl
tag-told (Listed ro k) m w = listed-told ro k m w

pub packet-told : (p : Packet) (q : Said) → Carries p q → told p.tag p.message ≡ written q.tag q.message
packet-told p q c = ap (λ m. told p.tag m) c.message ∙ (tag-told p.tag q.message c.written ∙ ap (λ t. written t q.message) c.tag)

pub if-ok-then : {X E : Type 0} {P Q : X → Type 0} (r : Result X E) → IfOk r P → ((x : X) → P x → Q x) → IfOk r Q
if-ok-then (Ok x) h f = f x h
if-ok-then (Err e) h f = h
