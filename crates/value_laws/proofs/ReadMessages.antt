-- What is read is sound.
use Rattle.std.proofs.Common.{◌≡◌, false, List, [], ◌∷◌, ◌++◌, Option, Some, None, refl, sym, subst, append_assoc, codes}
use Rattle.mos_fields.specs.Characters.{Text}
use Rattle.mos_fields.specs.Forms.{among}
use Rattle.mos_fields.specs.Values.{operation_text}
use Rattle.mos_fields.specs.declared.field.Field.{Field}
use Rattle.mos_fields.specs.declared.field.Field.TheVariants as fields
use Rattle.mos_tables.specs.declared.table.Table.{Table}
use Rattle.mos_tables.specs.declared.table.Table.TheVariants as tables
use Rattle.mos_tables.specs.Events.{Attribute, Event, closes}
use Rattle.mos_grammar.specs.Streams.{mos_name}
use Rattle.mos_message_reading.specs.Values.{IsNamed}
use Rattle.mos_values.specs.Parts.{must, maybe, must_raw, attribute}
use Rattle.mos_values.specs.Sound.{IsSoundAction, taken_names, IsSound}
use Rattle.mos_values.specs.Views.{body_events, patch_events, headers_events, story_send_events, mos_obj_events, objects_events, mach_info_events}
use Rattle.mos_values.specs.MessageViews.{operation_of_action, action_events, message_events, envelope_events}
use Rattle.mos_values.specs.declared.action.Action.{Action}
use Rattle.mos_values.specs.declared.action.Action.TheVariants.{InsertStories, ReplaceStory, InsertItems, ReplaceItem, MoveStories, MoveItems, DeleteStories, DeleteItems, SwapStories, SwapItems}
use Rattle.mos_values.specs.declared.message.Envelope.{Envelope}
use Rattle.mos_values.specs.declared.message.Message.{Message}
use Rattle.mos_values.specs.declared.message.Message.TheVariants as messages
use Rattle.value_laws.proofs.RawNames.{one_name}
use Rattle.value_laws.specs.SoundLaws.{ReadMessagesAreSound}
use Rattle.value_laws.proofs.AcceptedRaws.{accepted_passes}
use Rattle.value_laws.proofs.FittingRaws.{IsOtherMessage, inside, RawsFit, Tells, tells_none, tells_both, tells_so, tells_element}
use Rattle.value_laws.proofs.SoundValues.{body_tells, patch_tells, headers_tell, send_tells, object_tells, objects_tell, machine_tells, action_tells}

-- a text
text_tells : (t : Table) (f : Field) (x : Text) → Tells t (must f x) (Unit {0})
unfolding must
text_tells t f x ts r h = (tt, h)

optional_tells : (t : Table) (f : Field) (x : Option Text) → Tells t (maybe f x) (Unit {0})
unfolding maybe
optional_tells t f None = tells_none t
optional_tells t f (Some x) = text_tells t f x

-- ---- messages

-- the table of an action is that of its operation
action_inside : (a : Action) → inside tables.Envelope (codes "roElementAction") (attribute fields.OperationKind (operation_text (operation_of_action a)) ∷ []) ≡ tables.Action (operation_of_action a)
action_inside (InsertStories target xs) = refl
action_inside (ReplaceStory target xs) = refl
action_inside (InsertItems story target xs) = refl
action_inside (ReplaceItem story target xs) = refl
action_inside (MoveStories target xs) = refl
action_inside (MoveItems story target xs) = refl
action_inside (DeleteStories xs) = refl
action_inside (DeleteItems story xs) = refl
action_inside (SwapStories first second) = refl
action_inside (SwapItems story first second) = refl

order_action_tells : (ro : Text) (a : Action) → Tells (tables.Action (operation_of_action a)) (must fields.RoID ro ++ action_events a) (IsSoundAction a)
order_action_tells ro a =
    let t : Table = tables.Action (operation_of_action a) in
    tells_so t (must fields.RoID ro ++ action_events a) (λ p. p.1) (tells_both t (must fields.RoID ro) (action_events a) (text_tells t fields.RoID ro) (action_tells a))

-- a message that is kept as it was written
other_message : (x : Text) (ts : List Table) (r : List Event) → RawsFit (tables.Envelope ∷ ts) (must_raw fields.Message x ++ r) → IsOtherMessage x
unfolding must_raw
other_message x ts r h = h.0

message_is_sound : (m : Message) (ts : List Table) (r : List Event) → IsNamed m → RawsFit (tables.Envelope ∷ ts) (message_events m ++ r) → IsSound m
unfolding message_events IsSound
message_is_sound (messages.ListMachInfo info) ts r n h = (tells_element tables.Envelope tables.ListMachInfo (codes "listMachInfo") [] (mach_info_events info) refl (machine_tells info) ts r h).0
message_is_sound (messages.MosObj obj) ts r n h = (tells_element tables.Envelope tables.MosObj (codes "mosObj") [] (mos_obj_events obj) refl (object_tells obj) ts r h).0
message_is_sound (messages.MosListAll objs) ts r n h = (tells_element tables.Envelope tables.MosListAll (codes "mosListAll") [] (objects_events objs) refl (objects_tell objs) ts r h).0
message_is_sound (messages.RoCreate body) ts r n h = (tells_element tables.Envelope tables.Body (codes "roCreate") [] (body_events body) refl (body_tells body) ts r h).0
message_is_sound (messages.RoReplace body) ts r n h = (tells_element tables.Envelope tables.Body (codes "roReplace") [] (body_events body) refl (body_tells body) ts r h).0
message_is_sound (messages.RoList body) ts r n h = (tells_element tables.Envelope tables.Body (codes "roList") [] (body_events body) refl (body_tells body) ts r h).0
message_is_sound (messages.RoMetadataReplace patch) ts r n h = (tells_element tables.Envelope tables.HeaderPatch (codes "roMetadataReplace") [] (patch_events patch) refl (patch_tells patch) ts r h).0
message_is_sound (messages.RoListAll headers) ts r n h = (tells_element tables.Envelope tables.RoListAll (codes "roListAll") [] (headers_events headers) refl (headers_tell headers) ts r h).0
message_is_sound (messages.RoElementAction ro action) ts r n h =
    let g : List Attribute = attribute fields.OperationKind (operation_text (operation_of_action action)) ∷ [] in
    (tells_element tables.Envelope (tables.Action (operation_of_action action)) (codes "roElementAction") g (must fields.RoID ro ++ action_events action) (action_inside action) (order_action_tells ro action) ts r h).0
message_is_sound (messages.RoStorySend story) ts r n h = (tells_element tables.Envelope tables.StorySend (codes "roStorySend") [] (story_send_events story) refl (send_tells story) ts r h).0
message_is_sound (messages.Other name other) ts r n h =
    let o : IsOtherMessage other = other_message other ts r h in
    (n, subst (λ (z : Text). among z taken_names ≡ false) (one_name o.0 name other o.1 n) o.2)
message_is_sound m ts r n h = tt

-- ---- envelopes

inside_envelope : (e : Envelope) → IsNamed e.message → RawsFit [] (envelope_events e) → IsSound e.message
unfolding envelope_events
inside_envelope e n h =
    let t : Table = tables.Envelope in
    let front : List Event = must fields.MosID e.mos ++ must fields.NcsID e.ncs ++ maybe fields.MessageID e.message_id in
    let end : List Event = closes (codes "mos") ∷ [] in
    let p : Tells t front ((Unit {0} × Unit {0}) × Unit {0}) = tells_both t (must fields.MosID e.mos ++ must fields.NcsID e.ncs) (maybe fields.MessageID e.message_id) (tells_both t (must fields.MosID e.mos) (must fields.NcsID e.ncs) (text_tells t fields.MosID e.mos) (text_tells t fields.NcsID e.ncs)) (optional_tells t fields.MessageID e.message_id) in
    let k : RawsFit (t ∷ []) (front ++ (message_events e.message ++ end)) = subst (RawsFit (t ∷ [])) (append_assoc front (message_events e.message) end) h in
    message_is_sound e.message [] end n (p [] (message_events e.message ++ end) k).1

pub read_is_sound : ReadMessagesAreSound
read_is_sound e w n =
    let k : RawsFit (tables.Envelope ∷ []) (w.inner ++ closes mos_name ∷ []) = accepted_passes tables.Envelope [] w.inner w.accepted [] (closes mos_name ∷ []) tt in
    inside_envelope e n (subst (RawsFit []) (sym w.whole) k)
