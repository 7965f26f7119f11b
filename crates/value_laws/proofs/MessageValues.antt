-- Messages, and envelopes with them, are read off their events.
use Rattle.std.proofs.Common.{◌≡◌, Bool, true, false, List, [], ◌∷◌, ◌++◌, codes, Option, Some, None, refl, sym, ap, subst, ◌∙◌, arith}
use Rattle.std.specs.Prelude.{◌==◌}
use Rattle.std.specs.List.{AllByRecursion}
use Rattle.std.proofs.lemmas.Bool.{and_from}
use Rattle.std.proofs.lemmas.Bool.Decides.{nat_tests}
use Rattle.std.proofs.lemmas.List.{append_assoc}
use Rattle.mos_fields.specs.Characters.{Text}
use Rattle.mos_fields.specs.Fields.{name_of, same}
use Rattle.mos_fields.specs.Raw.{IsRaw}
use Rattle.mos_fields.specs.Values.{samples_text, air_text, time_text, level_text, operation_text}
use Rattle.mos_fields.specs.declared.field.Field.{Field}
use Rattle.mos_fields.specs.declared.field.Field.TheVariants as fields
use Rattle.mos_tables.specs.Events.{Event, leaf, raw, opens, closes}
use Rattle.mos_values.specs.Parts.{must, maybe, must_raw, attribute, element, element_with}
use Rattle.mos_values.specs.Views.{body_events, patch_events, headers_events, element_stat_events, ro_ack_events, story_send_events, mos_obj_events, objects_events, mach_info_events, mos_ack_events}
use Rattle.mos_values.specs.MessageViews.{operation_of_action, action_events, message_events, envelope_events}
use Rattle.mos_values.specs.declared.action.Action.{Action}
use Rattle.mos_values.specs.declared.element_stat.ElementStat.{ElementStat}
use Rattle.mos_values.specs.declared.header.HeaderPatch.{HeaderPatch}
use Rattle.mos_values.specs.declared.mach_info.MachInfo.{MachInfo}
use Rattle.mos_values.specs.declared.message.Message.{Message}
use Rattle.mos_values.specs.declared.message.Message.TheVariants as messages
use Rattle.mos_values.specs.declared.mos_ack.MosAck.{MosAck}
use Rattle.mos_values.specs.declared.ro_ack.RoAck.{RoAck}
use Rattle.mos_values.specs.declared.story_send.StorySend.{StorySend}
use Rattle.mos_values.specs.OrderValue.{OrderBody}
use Rattle.mos_message_reading.specs.Values.{IsNamed}
use Rattle.value_laws.specs.Laws.{EventsPinMessages, EventsPinEnvelopes}
use Rattle.value_laws.specs.Ranges.{IsSmall, IsObjectInRange, AreStoriesInRange, IsActionInRange, IsInRange}
use Rattle.value_laws.proofs.FlatEvents.{opened, whole, all_fine, false_true}
use Rattle.value_laws.proofs.FieldValues.{one_number, one_time, one_air, one_level, one_operation}
use Rattle.value_laws.proofs.OrderValues.{body_pins, patch_pins, headers_pins}
use Rattle.value_laws.proofs.OtherValues.{object_pins, objects_pins, ack_pins, send_pins, stat_pinned, ro_ack_pins}
use Rattle.value_laws.proofs.MachineValues.{machine_pins, same_value}
use Rattle.value_laws.proofs.ActionValues.{action_pinned}
use Rattle.value_laws.proofs.RawNames.{one_name}

-- ---- which message it is

-- the name of its element, or none where it was kept as it was written
name_of_message : Message → Text
name_of_message (messages.Heartbeat time) = codes "heartbeat"
name_of_message messages.ReqMachInfo = codes "reqMachInfo"
name_of_message (messages.ListMachInfo info) = codes "listMachInfo"
name_of_message (messages.MosAck ack) = codes "mosAck"
name_of_message (messages.MosObj obj) = codes "mosObj"
name_of_message (messages.MosReqObj obj) = codes "mosReqObj"
name_of_message (messages.MosReqAll pause) = codes "mosReqAll"
name_of_message (messages.MosListAll objs) = codes "mosListAll"
name_of_message (messages.RoCreate body) = codes "roCreate"
name_of_message (messages.RoReplace body) = codes "roReplace"
name_of_message (messages.RoList body) = codes "roList"
name_of_message (messages.RoMetadataReplace patch) = codes "roMetadataReplace"
name_of_message (messages.RoDelete ro) = codes "roDelete"
name_of_message (messages.RoReq ro) = codes "roReq"
name_of_message messages.RoReqAll = codes "roReqAll"
name_of_message (messages.RoListAll headers) = codes "roListAll"
name_of_message (messages.RoElementStat stat) = codes "roElementStat"
name_of_message (messages.RoElementAction ro action) = codes "roElementAction"
name_of_message (messages.RoReadyToAir ro air) = codes "roReadyToAir"
name_of_message (messages.RoAck ack) = codes "roAck"
name_of_message (messages.RoStorySend story) = codes "roStorySend"
name_of_message (messages.Other name other) = []

-- the name of the first record
first_name : List Event → Text
first_name (opens n g ∷ es) = n
first_name es = []

first_found : (m : Message) (r : List Event) → first_name (message_events m ++ r) ≡ name_of_message m
unfolding first_name name_of_message message_events must_raw
first_found (messages.Heartbeat time) r = refl
first_found messages.ReqMachInfo r = refl
first_found (messages.ListMachInfo info) r = refl
first_found (messages.MosAck ack) r = refl
first_found (messages.MosObj obj) r = refl
first_found (messages.MosReqObj obj) r = refl
first_found (messages.MosReqAll pause) r = refl
first_found (messages.MosListAll objs) r = refl
first_found (messages.RoCreate body) r = refl
first_found (messages.RoReplace body) r = refl
first_found (messages.RoList body) r = refl
first_found (messages.RoMetadataReplace patch) r = refl
first_found (messages.RoDelete ro) r = refl
first_found (messages.RoReq ro) r = refl
first_found messages.RoReqAll r = refl
first_found (messages.RoListAll headers) r = refl
first_found (messages.RoElementStat stat) r = refl
first_found (messages.RoElementAction ro action) r = refl
first_found (messages.RoReadyToAir ro air) r = refl
first_found (messages.RoAck ack) r = refl
first_found (messages.RoStorySend story) r = refl
first_found (messages.Other name other) r = refl

same_text : (x : Text) → same x x ≡ true
same_text [] = refl
same_text (c ∷ x) = let e : (c == c) ≡ true = grind (arith, nat_tests) in and_from (c == c) (same x x) e (same_text x)

equal_texts : (x y : Text) → x ≡ y → same x y ≡ true
equal_texts x y e = let P : Text → Type 0 = λ z. same x z ≡ true in subst P e (same_text x)

-- ---- elements with a text, with two, with an attribute

one_in : (n : Text) (f : Field) (x y : Text) (r s : List Event) → element n (must f x) ++ r ≡ element n (must f y) ++ s → x ≡ y
unfolding must
one_in n f x y r s h =
    let e : opens n [] ∷ leaf (name_of f) [] x ∷ closes n ∷ r ≡ opens n [] ∷ leaf (name_of f) [] y ∷ closes n ∷ s = h in
    cc

two_in : (n : Text) (f k : Field) (x y u v : Text) (r s : List Event) → element n (must f x ++ must k y) ++ r ≡ element n (must f u ++ must k v) ++ s → (x ≡ u) × (y ≡ v)
unfolding must
two_in n f k x y u v r s h =
    let e : opens n [] ∷ leaf (name_of f) [] x ∷ leaf (name_of k) [] y ∷ closes n ∷ r ≡ opens n [] ∷ leaf (name_of f) [] u ∷ leaf (name_of k) [] v ∷ closes n ∷ s = h in
    (cc, cc)

raw_in : (f : Field) (x y : Text) (r s : List Event) → must_raw f x ++ r ≡ must_raw f y ++ s → x ≡ y
unfolding must_raw
raw_in f x y r s h =
    let e : raw f x ∷ r ≡ raw f y ∷ s = h in
    cc

stat_in : (n : Text) (a b : ElementStat) (r s : List Event)
    → element_with n (attribute fields.ElementKind (level_text a.level) ∷ []) (element_stat_events a) ++ r ≡ element_with n (attribute fields.ElementKind (level_text b.level) ∷ []) (element_stat_events b) ++ s → a ≡ b
stat_in n a b r s h =
    let o = opened n n (attribute fields.ElementKind (level_text a.level) ∷ []) (attribute fields.ElementKind (level_text b.level) ∷ []) (element_stat_events a) (element_stat_events b) r s h in
    stat_pinned a b (closes n ∷ r) (closes n ∷ s) (one_level a.level b.level (same_value fields.ElementKind (level_text a.level) (level_text b.level) o.0)) tt tt o.1

action_in : (n x y : Text) (a b : Action) (r s : List Event) → IsActionInRange a → IsActionInRange b
    → element_with n (attribute fields.OperationKind (operation_text (operation_of_action a)) ∷ []) (must fields.RoID x ++ action_events a) ++ r
    ≡ element_with n (attribute fields.OperationKind (operation_text (operation_of_action b)) ∷ []) (must fields.RoID y ++ action_events b) ++ s → (x ≡ y) × (a ≡ b)
unfolding must
action_in n x y a b r s f g h =
    let v = operation_text (operation_of_action a) in
    let w = operation_text (operation_of_action b) in
    let o = opened n n (attribute fields.OperationKind v ∷ []) (attribute fields.OperationKind w ∷ []) (must fields.RoID x ++ action_events a) (must fields.RoID y ++ action_events b) r s h in
    let e : leaf (name_of fields.RoID) [] x ∷ (action_events a ++ closes n ∷ r) ≡ leaf (name_of fields.RoID) [] y ∷ (action_events b ++ closes n ∷ s) = o.1 in
    let t : action_events a ++ closes n ∷ r ≡ action_events b ++ closes n ∷ s = cc in
    (cc, action_pinned a b (closes n ∷ r) (closes n ∷ s) (one_operation (operation_of_action a) (operation_of_action b) (same_value fields.OperationKind v w o.0)) f g t)

-- ---- messages

by_name : (a b : Message) (r s : List Event) → name_of_message a ≡ name_of_message b → IsNamed a → IsNamed b → IsInRange a → IsInRange b → message_events a ++ r ≡ message_events b ++ s → a ≡ b
unfolding name_of_message message_events
by_name (messages.Heartbeat x) (messages.Heartbeat y) r s n i j f g h =
    let p = one_time x y (one_in (codes "heartbeat") fields.TimeTag (time_text x) (time_text y) r s h) in
    λ k. messages.Heartbeat (p k)
by_name messages.ReqMachInfo messages.ReqMachInfo r s n i j f g h = refl
by_name (messages.ListMachInfo x) (messages.ListMachInfo y) r s n i j f g h =
    let p = whole (λ (a : MachInfo). Unit {0}) mach_info_events machine_pins (codes "listMachInfo") x y r s tt tt h in
    λ k. messages.ListMachInfo (p.0 k)
by_name (messages.MosAck x) (messages.MosAck y) r s n i j f g h =
    let p = whole (λ (a : MosAck). IsSmall a.rev) mos_ack_events ack_pins (codes "mosAck") x y r s f g h in
    λ k. messages.MosAck (p.0 k)
by_name (messages.MosObj x) (messages.MosObj y) r s n i j f g h =
    let p = whole IsObjectInRange mos_obj_events object_pins (codes "mosObj") x y r s f g h in
    λ k. messages.MosObj (p.0 k)
by_name (messages.MosReqObj x) (messages.MosReqObj y) r s n i j f g h =
    let p = one_in (codes "mosReqObj") fields.ObjID x y r s h in
    λ k. messages.MosReqObj (p k)
by_name (messages.MosReqAll x) (messages.MosReqAll y) r s n i j f g h =
    let p = one_number x y f g (one_in (codes "mosReqAll") fields.Pause (samples_text x) (samples_text y) r s h) in
    λ k. messages.MosReqAll (p k)
by_name (messages.MosListAll x) (messages.MosListAll y) r s n i j f g h =
    let p = whole (AllByRecursion IsObjectInRange) objects_events objects_pins (codes "mosListAll") x y r s f g h in
    λ k. messages.MosListAll (p.0 k)
by_name (messages.RoCreate x) (messages.RoCreate y) r s n i j f g h =
    let p = whole (λ (b : OrderBody). AreStoriesInRange b.stories) body_events body_pins (codes "roCreate") x y r s f g h in
    λ k. messages.RoCreate (p.0 k)
by_name (messages.RoReplace x) (messages.RoReplace y) r s n i j f g h =
    let p = whole (λ (b : OrderBody). AreStoriesInRange b.stories) body_events body_pins (codes "roReplace") x y r s f g h in
    λ k. messages.RoReplace (p.0 k)
by_name (messages.RoList x) (messages.RoList y) r s n i j f g h =
    let p = whole (λ (b : OrderBody). AreStoriesInRange b.stories) body_events body_pins (codes "roList") x y r s f g h in
    λ k. messages.RoList (p.0 k)
by_name (messages.RoMetadataReplace x) (messages.RoMetadataReplace y) r s n i j f g h =
    let p = whole (λ (a : HeaderPatch). Unit {0}) patch_events patch_pins (codes "roMetadataReplace") x y r s tt tt h in
    λ k. messages.RoMetadataReplace (p.0 k)
by_name (messages.RoDelete x) (messages.RoDelete y) r s n i j f g h =
    let p = one_in (codes "roDelete") fields.RoID x y r s h in
    λ k. messages.RoDelete (p k)
by_name (messages.RoReq x) (messages.RoReq y) r s n i j f g h =
    let p = one_in (codes "roReq") fields.RoID x y r s h in
    λ k. messages.RoReq (p k)
by_name messages.RoReqAll messages.RoReqAll r s n i j f g h = refl
by_name (messages.RoListAll x) (messages.RoListAll y) r s n i j f g h =
    let p = whole (AllByRecursion (λ (a : HeaderPatch). Unit {0})) headers_events headers_pins (codes "roListAll") x y r s (all_fine x) (all_fine y) h in
    λ k. messages.RoListAll (p.0 k)
by_name (messages.RoElementStat x) (messages.RoElementStat y) r s n i j f g h =
    let p = stat_in (codes "roElementStat") x y r s h in
    λ k. messages.RoElementStat (p k)
by_name (messages.RoElementAction x a) (messages.RoElementAction y b) r s n i j f g h =
    let p = action_in (codes "roElementAction") x y a b r s f g h in
    λ k. messages.RoElementAction (p.0 k) (p.1 k)
by_name (messages.RoReadyToAir x a) (messages.RoReadyToAir y b) r s n i j f g h =
    let p = two_in (codes "roReadyToAir") fields.RoID fields.RoAir x (air_text a) y (air_text b) r s h in
    let q = one_air a b p.1 in
    λ k. messages.RoReadyToAir (p.0 k) (q k)
by_name (messages.RoAck x) (messages.RoAck y) r s n i j f g h =
    let p = whole (λ (a : RoAck). Unit {0}) ro_ack_events ro_ack_pins (codes "roAck") x y r s tt tt h in
    λ k. messages.RoAck (p.0 k)
by_name (messages.RoStorySend x) (messages.RoStorySend y) r s n i j f g h =
    let p = whole (λ (a : StorySend). Unit {0}) story_send_events send_pins (codes "roStorySend") x y r s tt tt h in
    λ k. messages.RoStorySend (p.0 k)
by_name (messages.Other v x) (messages.Other w y) r s n i j f g h =
    let p = raw_in fields.Message x y r s h in
    let P : Text → Type 0 = λ z. IsRaw w z in
    let q = one_name v w x i (subst P (sym p) j) in
    λ k. messages.Other (q k) (p k)
by_name a b r s n i j f g h = absurd (false_true (equal_texts (name_of_message a) (name_of_message b) n))

message_pinned : (a b : Message) (r s : List Event) → IsNamed a → IsNamed b → IsInRange a → IsInRange b → message_events a ++ r ≡ message_events b ++ s → a ≡ b
message_pinned a b r s i j f g h = by_name a b r s (sym (first_found a r) ∙ (ap first_name h ∙ first_found b s)) i j f g h

pub events_pin_message : EventsPinMessages
events_pin_message a b i j f g h = message_pinned a b [] [] i j f g (ap (λ es. es ++ []) h)

-- ---- envelopes

-- a message doesn't begin with a field that has a text
is_leaf : List Event → Bool
is_leaf (leaf n g x ∷ es) = true
is_leaf es = false

no_leaf : (m : Message) (r : List Event) → is_leaf (message_events m ++ r) ≡ false
unfolding is_leaf message_events must_raw
no_leaf (messages.Heartbeat time) r = refl
no_leaf messages.ReqMachInfo r = refl
no_leaf (messages.ListMachInfo info) r = refl
no_leaf (messages.MosAck ack) r = refl
no_leaf (messages.MosObj obj) r = refl
no_leaf (messages.MosReqObj obj) r = refl
no_leaf (messages.MosReqAll pause) r = refl
no_leaf (messages.MosListAll objs) r = refl
no_leaf (messages.RoCreate body) r = refl
no_leaf (messages.RoReplace body) r = refl
no_leaf (messages.RoList body) r = refl
no_leaf (messages.RoMetadataReplace patch) r = refl
no_leaf (messages.RoDelete ro) r = refl
no_leaf (messages.RoReq ro) r = refl
no_leaf messages.RoReqAll r = refl
no_leaf (messages.RoListAll headers) r = refl
no_leaf (messages.RoElementStat stat) r = refl
no_leaf (messages.RoElementAction ro action) r = refl
no_leaf (messages.RoReadyToAir ro air) r = refl
no_leaf (messages.RoAck ack) r = refl
no_leaf (messages.RoStorySend story) r = refl
no_leaf (messages.Other name other) r = refl

-- the messageID, where there is one, and what follows
number_first : (c d : Option Text) (m n : Message) (r s : List Event) → maybe fields.MessageID c ++ (message_events m ++ r) ≡ maybe fields.MessageID d ++ (message_events n ++ s) → (c ≡ d) × (message_events m ++ r ≡ message_events n ++ s)
unfolding maybe must is_leaf
number_first None None m n r s h = (refl, h)
number_first None (Some y) m n r s h = absurd (false_true (sym (no_leaf m r) ∙ ap is_leaf h))
number_first (Some x) None m n r s h = absurd (false_true (sym (no_leaf n s) ∙ ap is_leaf (sym h)))
number_first (Some x) (Some y) m n r s h =
    let e : leaf (name_of fields.MessageID) [] x ∷ (message_events m ++ r) ≡ leaf (name_of fields.MessageID) [] y ∷ (message_events n ++ s) = h in
    let t : message_events m ++ r ≡ message_events n ++ s = cc in
    (cc, t)

pub events_pin_envelope : EventsPinEnvelopes
unfolding envelope_events must
events_pin_envelope a b i j f g h =
    let n : Text = codes "mos" in
    let M : List Event = maybe fields.MessageID a.message_id in
    let N : List Event = maybe fields.MessageID b.message_id in
    let R : List Event = message_events a.message in
    let S : List Event = message_events b.message in
    let e : opens n [] ∷ leaf (name_of fields.MosID) [] a.mos ∷ leaf (name_of fields.NcsID) [] a.ncs ∷ ((M ++ R) ++ closes n ∷ [])
    ≡ opens n [] ∷ leaf (name_of fields.MosID) [] b.mos ∷ leaf (name_of fields.NcsID) [] b.ncs ∷ ((N ++ S) ++ closes n ∷ []) = h in
    let mos : a.mos ≡ b.mos = cc in
    let ncs : a.ncs ≡ b.ncs = cc in
    let t : (M ++ R) ++ closes n ∷ [] ≡ (N ++ S) ++ closes n ∷ [] = cc in
    let u = number_first a.message_id b.message_id a.message b.message (closes n ∷ []) (closes n ∷ []) (sym (append_assoc M R (closes n ∷ [])) ∙ (t ∙ append_assoc N S (closes n ∷ []))) in
    let m = message_pinned a.message b.message (closes n ∷ []) (closes n ∷ []) i j f g u.1 in
    λ k. record { mos = mos k; ncs = ncs k; message_id = u.0 k; message = m k }
