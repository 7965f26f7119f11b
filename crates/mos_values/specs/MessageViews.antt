-- The value of each message, and of the envelope that carries it, as what its canonical encoding writes one after
-- another.
use Rattle.std.specs.Prelude.{ℕ, List, [], ◌∷◌, ◌++◌, Option, codes, map}
use Rattle.mos_fields.specs.Characters.{Text}
use Rattle.mos_fields.specs.declared.field.Field.{Field}
use Rattle.mos_fields.specs.declared.field.Field.TheVariants as fields
use Rattle.mos_fields.specs.declared.operation.Operation.{Operation}
use Rattle.mos_fields.specs.declared.operation.Operation.TheVariants.{Insert, Replace, Move, Delete, Swap}
use Rattle.mos_fields.specs.Fields.{name_of}
use Rattle.mos_fields.specs.Values.{samples_text, air_text, time_text, level_text, operation_text}
use Rattle.mos_tables.specs.Events.{Event, leaf, raw}
use Rattle.mos_values.specs.declared.action.Action.{Action}
use Rattle.mos_values.specs.declared.action.Action.TheVariants.{InsertStories, ReplaceStory, InsertItems, ReplaceItem, MoveStories, MoveItems, DeleteStories, DeleteItems, SwapStories, SwapItems}
use Rattle.mos_values.specs.declared.message.Envelope.{Envelope}
use Rattle.mos_values.specs.declared.message.Message.{Message}
use Rattle.mos_values.specs.declared.message.Message.TheVariants as messages
use Rattle.mos_values.specs.Parts.{must, maybe, must_raw, attribute, element, element_with}
use Rattle.mos_values.specs.Views.{body_events, patch_events, headers_events, items_events, stories_events, element_stat_events, ro_ack_events, story_send_events, mos_obj_events, objects_events, mach_info_events, mos_ack_events}

-- ---- actions

-- what an action does, by the word of its attribute
abbrev pub operation_of_action : Action → Operation
operation_of_action (InsertStories target sources) = Insert
operation_of_action (ReplaceStory target sources) = Replace
operation_of_action (InsertItems story target sources) = Insert
operation_of_action (ReplaceItem story target sources) = Replace
operation_of_action (MoveStories target sources) = Move
operation_of_action (MoveItems story target sources) = Move
operation_of_action (DeleteStories sources) = Delete
operation_of_action (DeleteItems story sources) = Delete
operation_of_action (SwapStories first second) = Swap
operation_of_action (SwapItems story first second) = Swap

-- a target: a story, or an item of a story
unfoldable pub target_story : Text → List Event
target_story story = element (name_of fields.ElementTarget) (must fields.StoryID story)

unfoldable pub target_item : Text → Text → List Event
target_item story item = element (name_of fields.ElementTarget) (must fields.StoryID story ++ must fields.ItemID item)

-- IDs, one behind the other
unfoldable pub ids_events : Field → List Text → List Event
ids_events f ids = map (λ x. leaf (name_of f) [] x) ids

-- what an action takes
unfoldable pub source : List Event → List Event
source es = element (name_of fields.ElementSource) es

-- the element_target, if there is one, and the element_source
unfoldable pub action_events : Action → List Event
action_events (InsertStories target sources) = target_story target ++ source (stories_events sources)
action_events (ReplaceStory target sources) = target_story target ++ source (stories_events sources)
action_events (InsertItems story target sources) = target_item story target ++ source (items_events sources)
action_events (ReplaceItem story target sources) = target_item story target ++ source (items_events sources)
action_events (MoveStories target sources) = target_story target ++ source (ids_events fields.StoryID sources)
action_events (MoveItems story target sources) = target_item story target ++ source (ids_events fields.ItemID sources)
action_events (DeleteStories sources) = source (ids_events fields.StoryID sources)
action_events (DeleteItems story sources) = target_story story ++ source (ids_events fields.ItemID sources)
action_events (SwapStories first second) = source (must fields.StoryID first ++ must fields.StoryID second)
action_events (SwapItems story first second) = target_story story ++ source (must fields.ItemID first ++ must fields.ItemID second)

-- ---- messages

-- a message's element
unfoldable pub message_events : Message → List Event
message_events (messages.Heartbeat time) = element (codes "heartbeat") (must fields.TimeTag (time_text time))
message_events messages.ReqMachInfo = element (codes "reqMachInfo") []
message_events (messages.ListMachInfo info) = element (codes "listMachInfo") (mach_info_events info)
message_events (messages.MosAck ack) = element (codes "mosAck") (mos_ack_events ack)
message_events (messages.MosObj obj) = element (codes "mosObj") (mos_obj_events obj)
message_events (messages.MosReqObj obj) = element (codes "mosReqObj") (must fields.ObjID obj)
message_events (messages.MosReqAll pause) = element (codes "mosReqAll") (must fields.Pause (samples_text pause))
message_events (messages.MosListAll objs) = element (codes "mosListAll") (objects_events objs)
message_events (messages.RoCreate body) = element (codes "roCreate") (body_events body)
message_events (messages.RoReplace body) = element (codes "roReplace") (body_events body)
message_events (messages.RoList body) = element (codes "roList") (body_events body)
message_events (messages.RoMetadataReplace patch) = element (codes "roMetadataReplace") (patch_events patch)
message_events (messages.RoDelete ro) = element (codes "roDelete") (must fields.RoID ro)
message_events (messages.RoReq ro) = element (codes "roReq") (must fields.RoID ro)
message_events messages.RoReqAll = element (codes "roReqAll") []
message_events (messages.RoListAll headers) = element (codes "roListAll") (headers_events headers)
message_events (messages.RoElementStat stat) = element_with (codes "roElementStat") (attribute fields.ElementKind (level_text stat.level) ∷ []) (element_stat_events stat)
message_events (messages.RoElementAction ro action) = element_with (codes "roElementAction") (attribute fields.OperationKind (operation_text (operation_of_action action)) ∷ []) (must fields.RoID ro ++ action_events action)
message_events (messages.RoReadyToAir ro air) = element (codes "roReadyToAir") (must fields.RoID ro ++ must fields.RoAir (air_text air))
message_events (messages.RoAck ack) = element (codes "roAck") (ro_ack_events ack)
message_events (messages.RoStorySend story) = element (codes "roStorySend") (story_send_events story)
message_events (messages.Other name other) = must_raw fields.Message other

-- the element `mos` with the names of both ends and the message
unfoldable pub envelope_events : Envelope → List Event
envelope_events e = element (codes "mos") (must fields.MosID e.mos ++ must fields.NcsID e.ncs ++ maybe fields.MessageID e.message_id ++ message_events e.message)
