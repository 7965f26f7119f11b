-- The texts of envelopes, and what identifies their stories and items.
use Rattle.std.proofs.Common.{List, [], ◌∷◌, ◌++◌, refl, codes}
use Rattle.mos_fields.specs.Characters.{Text}
use Rattle.mos_fields.specs.Values.{samples_text, air_text, time_text, level_text, operation_text}
use Rattle.mos_fields.specs.declared.field.Field.TheVariants as fields
use Rattle.mos_fields.specs.declared.form.Form.TheVariants as forms
use Rattle.mos_tables.specs.declared.column.Often.TheVariants.{One, Optional}
use Rattle.mos_tables.specs.declared.table.Table.{Table}
use Rattle.mos_tables.specs.declared.table.Table.TheVariants as tables
use Rattle.mos_tables.specs.Events.{Event, closes}
use Rattle.mos_values.specs.declared.action.Action.{Action}
use Rattle.mos_values.specs.declared.action.Action.TheVariants.{InsertStories, ReplaceStory, InsertItems, ReplaceItem, MoveStories, MoveItems, DeleteStories, DeleteItems, SwapStories, SwapItems}
use Rattle.mos_values.specs.declared.message.Envelope.{Envelope}
use Rattle.mos_values.specs.declared.message.Message.{Message}
use Rattle.mos_values.specs.declared.message.Message.TheVariants as messages
use Rattle.mos_values.specs.MessageViews.{operation_of_action, action_events, message_events, envelope_events}
use Rattle.mos_values.specs.Parts.{must, maybe, attribute}
use Rattle.mos_values.specs.Views.{body_events, patch_events, headers_events, element_stat_events, ro_ack_events, story_send_events, mos_obj_events, objects_events, mach_info_events, mos_ack_events}
use Rattle.encoding_laws.specs.Allowed.{HasAllowedTexts}
use Rattle.encoding_laws.specs.Fitting.{table_inside, HasFittingTexts}
use Rattle.encoding_laws.specs.Identifiers.{HasDistinctIdentifiers, BringsDistinctItems}
use Rattle.value_facts.specs.FitValues.{IsText, IsFitAction, IsFitMessage, IsFitEnvelope}
use Rattle.value_facts.proofs.Distinct.{stories_distinct}
use Rattle.value_facts.proofs.Fine.{Fine, none_fine, both_fine, element_fine, texts_joined, allowed_joined, must_fine, maybe_fine, raw_fine}
use Rattle.value_facts.proofs.OrderTexts.{patch_fine, headers_fine, body_fine, action_fine}
use Rattle.value_facts.proofs.MessageTexts.{stat_fine, send_fine, object_fine, mos_ack_fine, ro_ack_fine, objects_fine, machine_fine}
use Rattle.value_facts.proofs.WordTexts.{air_text_is, time_text_is}

-- ---- messages

-- an action's element: its table is that of its operation
operation_fine : (a : Action) (es : List Event) → Fine (tables.Action (operation_of_action a)) es → Fine (table_inside tables.Envelope (codes "roElementAction") (attribute fields.OperationKind (operation_text (operation_of_action a)) ∷ [])) es
operation_fine (InsertStories target sources) es f = f
operation_fine (ReplaceStory target sources) es f = f
operation_fine (InsertItems story target sources) es f = f
operation_fine (ReplaceItem story target sources) es f = f
operation_fine (MoveStories target sources) es f = f
operation_fine (MoveItems story target sources) es f = f
operation_fine (DeleteStories sources) es f = f
operation_fine (DeleteItems story sources) es f = f
operation_fine (SwapStories first second) es f = f
operation_fine (SwapItems story first second) es f = f

acting_fine : (ro : Text) (a : Action) → IsText forms.Id ro → IsFitAction a → Fine (tables.Action (operation_of_action a)) (must fields.RoID ro ++ action_events a)
acting_fine ro a h f = both_fine (tables.Action (operation_of_action a)) (must fields.RoID ro) (action_events a) (must_fine (tables.Action (operation_of_action a)) fields.RoID forms.Id One ro refl h) (action_fine a f)

abbrev envelope : Table
envelope = tables.Envelope

message_fine : (m : Message) → IsFitMessage m → Fine envelope (message_events m)
unfolding message_events
message_fine (messages.Heartbeat time) f = element_fine envelope (codes "heartbeat") [] (must fields.TimeTag (time_text time)) (must_fine tables.Heartbeat fields.TimeTag forms.Time One (time_text time) refl (time_text_is time))
message_fine messages.ReqMachInfo f = element_fine envelope (codes "reqMachInfo") [] [] (none_fine tables.NoFields)
message_fine (messages.ListMachInfo info) f = element_fine envelope (codes "listMachInfo") [] (mach_info_events info) (machine_fine info f)
message_fine (messages.MosAck ack) f = element_fine envelope (codes "mosAck") [] (mos_ack_events ack) (mos_ack_fine ack f)
message_fine (messages.MosObj obj) f = element_fine envelope (codes "mosObj") [] (mos_obj_events obj) (object_fine obj f)
message_fine (messages.MosReqObj obj) f = element_fine envelope (codes "mosReqObj") [] (must fields.ObjID obj) (must_fine tables.MosReqObj fields.ObjID forms.Id One obj refl f)
message_fine (messages.MosReqAll pause) f = element_fine envelope (codes "mosReqAll") [] (must fields.Pause (samples_text pause)) (must_fine tables.MosReqAll fields.Pause forms.Samples One (samples_text pause) refl f)
message_fine (messages.MosListAll objs) f = element_fine envelope (codes "mosListAll") [] (objects_events objs) (objects_fine objs f)
message_fine (messages.RoCreate body) f = element_fine envelope (codes "roCreate") [] (body_events body) (body_fine body f)
message_fine (messages.RoReplace body) f = element_fine envelope (codes "roReplace") [] (body_events body) (body_fine body f)
message_fine (messages.RoList body) f = element_fine envelope (codes "roList") [] (body_events body) (body_fine body f)
message_fine (messages.RoMetadataReplace patch) f = element_fine envelope (codes "roMetadataReplace") [] (patch_events patch) (patch_fine patch f)
message_fine (messages.RoDelete ro) f = element_fine envelope (codes "roDelete") [] (must fields.RoID ro) (must_fine tables.OneOrder fields.RoID forms.Id One ro refl f)
message_fine (messages.RoReq ro) f = element_fine envelope (codes "roReq") [] (must fields.RoID ro) (must_fine tables.OneOrder fields.RoID forms.Id One ro refl f)
message_fine messages.RoReqAll f = element_fine envelope (codes "roReqAll") [] [] (none_fine tables.NoFields)
message_fine (messages.RoListAll headers) f = element_fine envelope (codes "roListAll") [] (headers_events headers) (headers_fine headers f)
message_fine (messages.RoElementStat stat) f = element_fine envelope (codes "roElementStat") (attribute fields.ElementKind (level_text stat.level) ∷ []) (element_stat_events stat) (stat_fine stat f)
message_fine (messages.RoElementAction ro action) f =
    element_fine envelope (codes "roElementAction") (attribute fields.OperationKind (operation_text (operation_of_action action)) ∷ []) (must fields.RoID ro ++ action_events action) (operation_fine action (must fields.RoID ro ++ action_events action) (acting_fine ro action f.0 f.1))
message_fine (messages.RoReadyToAir ro air) f = element_fine envelope (codes "roReadyToAir") [] (must fields.RoID ro ++ must fields.RoAir (air_text air))
    (both_fine tables.ReadyToAir (must fields.RoID ro) (must fields.RoAir (air_text air)) (must_fine tables.ReadyToAir fields.RoID forms.Id One ro refl f) (must_fine tables.ReadyToAir fields.RoAir forms.Air One (air_text air) refl (air_text_is air)))
message_fine (messages.RoAck ack) f = element_fine envelope (codes "roAck") [] (ro_ack_events ack) (ro_ack_fine ack f)
message_fine (messages.RoStorySend story) f = element_fine envelope (codes "roStorySend") [] (story_send_events story) (send_fine story f)
message_fine (messages.Other name other) f = raw_fine envelope fields.Message other f

-- ---- envelopes

abbrev inner : Envelope → List Event
inner e = must fields.MosID e.mos ++ must fields.NcsID e.ncs ++ maybe fields.MessageID e.message_id ++ message_events e.message

inner_fine : (e : Envelope) → IsFitEnvelope e → Fine envelope (inner e)
inner_fine e f =
    let a : List Event = must fields.MosID e.mos in
    let b : List Event = must fields.NcsID e.ncs in
    let c : List Event = maybe fields.MessageID e.message_id in
    both_fine envelope (a ++ b ++ c) (message_events e.message)
    (both_fine envelope (a ++ b) c (both_fine envelope a b (must_fine envelope fields.MosID forms.Id One e.mos refl f.0) (must_fine envelope fields.NcsID forms.Id One e.ncs refl f.1)) (maybe_fine envelope fields.MessageID forms.OptId Optional e.message_id refl f.2))
    (message_fine e.message f.3)

pub fitting : (e : Envelope) → IsFitEnvelope e → HasFittingTexts (envelope_events e)
unfolding envelope_events
fitting e f = let k = inner_fine e f in texts_joined k.level envelope [] (closes (codes "mos") ∷ []) (k.texts []) tt

pub allowed : (e : Envelope) → IsFitEnvelope e → HasAllowedTexts (envelope_events e)
unfolding envelope_events
allowed e f = (tt, allowed_joined (inner e) (closes (codes "mos") ∷ []) (inner_fine e f).allowed (tt, tt))

-- ---- identifiers

action_distinct : (a : Action) → IsFitAction a → BringsDistinctItems a
action_distinct (InsertStories target sources) f = stories_distinct sources f.1
action_distinct (ReplaceStory target sources) f = stories_distinct sources f.1
action_distinct (InsertItems story target sources) f = tt
action_distinct (ReplaceItem story target sources) f = tt
action_distinct (MoveStories target sources) f = tt
action_distinct (MoveItems story target sources) f = tt
action_distinct (DeleteStories sources) f = tt
action_distinct (DeleteItems story sources) f = tt
action_distinct (SwapStories first second) f = tt
action_distinct (SwapItems story first second) f = tt

message_distinct : (m : Message) → IsFitMessage m → HasDistinctIdentifiers m
message_distinct (messages.RoCreate body) f = f.2
message_distinct (messages.RoReplace body) f = f.2
message_distinct (messages.RoList body) f = f.2
message_distinct (messages.RoElementAction ro action) f = action_distinct action f.1
message_distinct (messages.Heartbeat time) f = tt
message_distinct messages.ReqMachInfo f = tt
message_distinct (messages.ListMachInfo info) f = tt
message_distinct (messages.MosAck ack) f = tt
message_distinct (messages.MosObj obj) f = tt
message_distinct (messages.MosReqObj obj) f = tt
message_distinct (messages.MosReqAll pause) f = tt
message_distinct (messages.MosListAll objs) f = tt
message_distinct (messages.RoMetadataReplace patch) f = tt
message_distinct (messages.RoDelete ro) f = tt
message_distinct (messages.RoReq ro) f = tt
message_distinct messages.RoReqAll f = tt
message_distinct (messages.RoListAll headers) f = tt
message_distinct (messages.RoElementStat stat) f = tt
message_distinct (messages.RoReadyToAir ro air) f = tt
message_distinct (messages.RoAck ack) f = tt
message_distinct (messages.RoStorySend story) f = tt
message_distinct (messages.Other name other) f = tt

pub distinct : (e : Envelope) → IsFitEnvelope e → HasDistinctIdentifiers e.message
distinct e f = message_distinct e.message f.3
