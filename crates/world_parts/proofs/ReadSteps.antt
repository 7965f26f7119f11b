-- What is applied after a packet was read, by what the answer in memory says.
use Rattle.std.proofs.Common.{◌≡◌, ℕ, ◌+◌, Bool, true, false, ◌||◌, Option, Some, None, refl, sym, ap, ◌∙◌, if◌then◌else◌}
use Rattle.std.specs.Str.{bytes_eq}
use Rattle.mos_fields.specs.Characters.{are_allowed, units_of}
use Rattle.mos_fields.proofs.OrderLemmas.{same_by_units}
use Rattle.mos_edits.specs.Texts.{Text, same_id, set_order}
use Rattle.mos_edits.specs.KeyedLists.ActFault.{Missing, AlreadyThere}
use Rattle.mos_edits.specs.declared.edit.Edit.{Edit}
use Rattle.mos_edits.specs.Entries.{Kind, kind}
use Rattle.mos_machines.specs.Device.{GateState, is_in}
use Rattle.mos_machines.specs.Messages.{Status, status_text, Message, Packet as Said, Tag as kinds}
use Rattle.mos_machines.specs.Messages.Status.{Okay, NoDeck, NotInStep, Faulty, Full, StoreFault, Stopped, NotNow, NoRunningOrder, NotSupported, OtherStatus}
use Rattle.mos_machines.specs.Messages.Message.{Heartbeat, RoEdit, RoAck, RoReq, RoReqAll, RoList, RoListAll, RoElementStat, OtherMessage}
use Rattle.mos_machines.specs.Server.{is_whole}
use Rattle.mos_machines.specs.Values.{edit_message, message_of, IsWrittenStatus, IsWritten}
use Rattle.mos_fields.specs.declared.air.Air.{Air}
use Rattle.mos_fields.specs.declared.air.Air.TheVariants as airs
use Rattle.mos_edits.specs.declared.edit.Edit.TheVariants as edits
use Rattle.mos_values.specs.declared.message.Message as values
use Rattle.rundown_log.proofs.PlaceRows.{set-same}
use Rattle.world_laws.specs.World.{applied_step, applied_read}
use Rattle.world_parts.specs.declared.packet.Packet.{Packet}
use Rattle.world_parts.specs.declared.packet.PacketTag.{PacketTag}
use Rattle.world_parts.specs.declared.packet.PacketTag.TheVariants.{Untagged, Entry, Again, Script, List as Listed}
use Rattle.world_parts.specs.Applying.{in_step_for, applied_where}
use Rattle.world_parts.specs.Matching.{Carries}
use Rattle.world_parts.specs.Told.{tag_of, whole_edit, applies_by, applies_with, applies}

-- texts are compared by their code units
pub units-text : (t u : Text) → are_allowed t ≡ true → are_allowed u ≡ true → bytes_eq (units_of t) (units_of u) ≡ same_id t u
unfolding same_id
units-text t u a b = same_by_units t u a b

-- an entry more, where it was applied
put-where : (f : Text → ℕ) (r : Text) (k : ℕ) (b : Bool) → set_order f r (if b then k + 1 else f r) ≡ (if b then set_order f r (k + 1) else f)
put-where f r k true = refl
put-where f r k false = set-same f r

-- the status as a text says what the status says
status-where : (f : Text → ℕ) (r : Text) (k : ℕ) (d : Kind) (b : Bool) (t : Status) → IsWrittenStatus t
    → set_order f r (applied_step d b (f r) k t) ≡ (if applies_by (same_id (status_text t) (status_text Okay)) (same_id (status_text t) (status_text NoDeck)) b (is_whole d) then set_order f r (k + 1) else f)
unfolding same_id
status-where f r k d b Okay w = put-where f r k (b || is_whole d)
status-where f r k d b NoDeck w = put-where f r k b
status-where f r k d b NotInStep w = set-same f r
status-where f r k d b (Faulty (Missing id)) w = set-same f r
status-where f r k d b (Faulty (AlreadyThere id)) w = set-same f r
status-where f r k d b (Full units) w = set-same f r
status-where f r k d b StoreFault w = set-same f r
status-where f r k d b Stopped w = set-same f r
status-where f r k d b NotNow w = set-same f r
status-where f r k d b NoRunningOrder w = set-same f r
status-where f r k d b NotSupported w = set-same f r
status-where f r k d b (OtherStatus text) w = absurd w

whole-air : (a : Air) (r : Text) → is_whole (kind (edits.Air r a)) ≡ false
whole-air airs.Ready r = refl
whole-air airs.NotReady r = refl

whole-of : (e : Edit) → whole_edit (edit_message e) ≡ Some (is_whole (kind e))
whole-of (edits.Create body) = refl
whole-of (edits.Replace body) = refl
whole-of (edits.Delete ro) = refl
whole-of (edits.Metadata patch) = refl
whole-of (edits.Act ro action) = refl
whole-of (edits.Air ro air) = ap (λ b. Some b) (sym (whole-air air ro))
whole-of (edits.Script script) = refl

-- an edit is no answer
edit-no_answer : (b : Bool) (o : Option Bool) (e : Edit) → applies_with b o (edit_message e) ≡ false
edit-no_answer b None e = refl
edit-no_answer b (Some w) (edits.Create body) = refl
edit-no_answer b (Some w) (edits.Replace body) = refl
edit-no_answer b (Some w) (edits.Delete ro) = refl
edit-no_answer b (Some w) (edits.Metadata patch) = refl
edit-no_answer b (Some w) (edits.Act ro action) = refl
edit-no_answer b (Some w) (edits.Air ro air) = refl
edit-no_answer b (Some w) (edits.Script script) = refl

edit-where : (g : GateState) (f : Text → ℕ) (r : Text) (k : ℕ) (q : Text) (e : Edit) (a : Message) → IsWritten a
    → applied_read g f (kinds.OfEntry r k) (RoEdit (record { ro = q; edit = e })) a ≡ (if applies_with (is_in (g.phase r)) (Some (is_whole (kind e))) (message_of a) then set_order f r (k + 1) else f)
edit-where g f r k q e (Heartbeat time) w = refl
edit-where g f r k q e (RoEdit x) w = rw (edit-no_answer (is_in (g.phase r)) (Some (is_whole (kind e))) x.edit) refl
edit-where g f r k q e (RoAck p t) w = status-where f r k (kind e) (is_in (g.phase r)) t w
edit-where g f r k q e (RoReq p) w = refl
edit-where g f r k q e RoReqAll w = refl
edit-where g f r k q e (RoList p order) w = refl
edit-where g f r k q e (RoListAll headers) w = refl
edit-where g f r k q e (RoElementStat p) w = absurd w
edit-where g f r k q e (OtherMessage p) w = absurd w

-- what is no edit is applied by no answer
none-where : (b : Bool) (a : values.Message) → applies_with b None a ≡ false
none-where b a = refl

entry-where : (g : GateState) (f : Text → ℕ) (r : Text) (k : ℕ) (m a : Message) → IsWritten a
    → applied_read g f (kinds.OfEntry r k) m a ≡ (if applies (is_in (g.phase r)) (message_of m) (message_of a) then set_order f r (k + 1) else f)
entry-where g f r k (Heartbeat time) a w = refl
entry-where g f r k (RoEdit e) a w = edit-where g f r k e.ro e.edit a w ∙ ap (λ (o : Option Bool). if applies_with (is_in (g.phase r)) o (message_of a) then set_order f r (k + 1) else f) (sym (whole-of e.edit))
entry-where g f r k (RoAck q t) a w = refl
entry-where g f r k (RoReq q) a w = refl
entry-where g f r k RoReqAll a w = refl
entry-where g f r k (RoList q order) a w = refl
entry-where g f r k (RoListAll headers) a w = refl
entry-where g f r k (RoElementStat q) a w = refl
entry-where g f r k (OtherMessage q) a w = refl

entry-put : (f : Text → ℕ) (r : Text) (k : ℕ) (b : Bool) → (if b then set_order f r (k + 1) else f) ≡ applied_where f (Entry r k) b
entry-put f r k true = refl
entry-put f r k false = refl

tag-where : (g : GateState) (f : Text → ℕ) (t : PacketTag) (m a : Message) → IsWritten a → applied_read g f (tag_of t) m a ≡ applied_where f t (applies (in_step_for g t) (message_of m) (message_of a))
tag-where g f Untagged m a w = refl
tag-where g f (Entry ro k) m a w = entry-where g f ro k m a w ∙ entry-put f ro k (applies (is_in (g.phase ro)) (message_of m) (message_of a))
tag-where g f (Again ro k) m a w = refl
tag-where g f (Script ro k n) m a w = refl
tag-where g f (Listed ro k) m a w = refl

pub packet-where : (g : GateState) (f : Text → ℕ) (b : Bool) (p : Packet) (x : values.Message) (q : Said) (a : Message) → b ≡ in_step_for g p.tag → Carries p q → IsWritten a → x ≡ message_of a
    → applied_where f p.tag (applies b p.message x) ≡ applied_read g f q.tag q.message a
packet-where g f b p x q a s c w e =
    (λ i. applied_where f p.tag (applies (s i) (c.message i) (e i)))
    ∙ (sym (tag-where g f p.tag q.message a w) ∙ ap (λ (t : kinds). applied_read g f t q.message a) c.tag)
