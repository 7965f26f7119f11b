-- A value is sound where the raw elements of its events fit.
use Rattle.std.proofs.Common.{◌≡◌, ◌≤◌, true, List, [], ◌∷◌, ◌++◌, length, Option, Some, None, refl, arith}
use Rattle.std.specs.List.{AllByRecursion}
use Rattle.mos_fields.specs.Characters.{Text}
use Rattle.mos_fields.specs.Fields.{name_of}
use Rattle.mos_fields.specs.declared.field.Field.{Field}
use Rattle.mos_fields.specs.declared.field.Field.TheVariants as fields
use Rattle.mos_fields.specs.declared.operation.Operation.{Operation}
use Rattle.mos_fields.specs.declared.operation.Operation.TheVariants.{Insert, Replace, Move, Delete, Swap}
use Rattle.mos_tables.specs.declared.aim.Aim.TheVariants.{AtStory}
use Rattle.mos_tables.specs.declared.table.Table.{Table}
use Rattle.mos_tables.specs.declared.table.Table.TheVariants as tables
use Rattle.mos_tables.specs.Events.{Event}
use Rattle.mos_values.specs.Parts.{must, attribute}
use Rattle.mos_values.specs.Sound.{AllFit, IsSoundItem, AreSoundItems, IsSoundStory, AreSoundStories, IsSoundBody, IsSoundPatch, IsSoundObject, IsSoundAction}
use Rattle.mos_values.specs.Views.{header_events, patch_events, item_events, items_events, story_head_events, story_events, stories_events, body_events, headers_events, story_send_events, mos_obj_events, objects_events, profiles_events, device_type_text, supported_events, mach_head_events, mach_rest_events, mach_info_events}
use Rattle.mos_values.specs.MessageViews.{target_story, target_item, ids_events, source, action_events, operation_of_action}
use Rattle.mos_values.specs.declared.action.Action.{Action}
use Rattle.mos_values.specs.declared.action.Action.TheVariants.{InsertStories, ReplaceStory, InsertItems, ReplaceItem, MoveStories, MoveItems, DeleteStories, DeleteItems, SwapStories, SwapItems}
use Rattle.mos_values.specs.declared.header.HeaderPatch.{HeaderPatch}
use Rattle.mos_values.specs.declared.item.Item.{Item}
use Rattle.mos_values.specs.declared.mach_info.MachInfo.{MachInfo}
use Rattle.mos_values.specs.declared.mos_obj.MosObj.{MosObj}
use Rattle.mos_values.specs.declared.profile.SupportedProfiles.{SupportedProfiles}
use Rattle.mos_values.specs.declared.story_send.StorySend.{StorySend}
use Rattle.mos_values.specs.OrderValue.{OrderBody}
use Rattle.mos_values.specs.StoryValue.{Story}
use Rattle.value_laws.proofs.FittingRaws.{inside, begins, Tells, tells_none, tells_both, tells_so, tells_element, tells_source, tells_elements, Flat, flat_none, flat_leaf, tells_flat}
use Rattle.value_laws.proofs.FlatParts.{flat_then, flat_must, flat_header, flat_patch, flat_item, flat_story_head, flat_story_send, flat_mos_obj, flat_mach_head, flat_mach_rest, flat_profiles}

-- ---- running orders

item_tells : (i : Item) → Tells tables.Item (item_events i) (IsSoundItem i)
item_tells i = tells_flat tables.Item (λ f x h. h) (flat_item i)

items_tell : (t : Table) (items : List Item) → inside t (name_of fields.ItemTag) [] ≡ tables.Item → Tells t (items_events items) (AreSoundItems items)
unfolding items_events
items_tell t items e = tells_elements t tables.Item (name_of fields.ItemTag) item_events IsSoundItem e item_tells items

story_tells : (s : Story) → Tells tables.Story (story_events s) (IsSoundStory s)
unfolding story_events
story_tells s = tells_both tables.Story (story_head_events s) (items_events s.items) (tells_flat tables.Story (λ f x h. h) (flat_story_head s)) (items_tell tables.Story s.items refl)

stories_tell : (t : Table) (stories : List Story) → inside t (name_of fields.StoryTag) [] ≡ tables.Story → Tells t (stories_events stories) (AreSoundStories stories)
unfolding stories_events
stories_tell t stories e = tells_elements t tables.Story (name_of fields.StoryTag) story_events IsSoundStory e story_tells stories

pub body_tells : (b : OrderBody) → Tells tables.Body (body_events b) (IsSoundBody b)
unfolding body_events
body_tells b = tells_both tables.Body (header_events b.header) (stories_events b.stories) (tells_flat tables.Body (λ f x h. h) (flat_header b.header)) (stories_tell tables.Body b.stories refl)

pub patch_tells : (h : HeaderPatch) → Tells tables.HeaderPatch (patch_events h) (IsSoundPatch h)
patch_tells h = tells_flat tables.HeaderPatch (λ f x k. k) (flat_patch h)

pub headers_tell : (hs : List HeaderPatch) → Tells tables.RoListAll (headers_events hs) (AllByRecursion IsSoundPatch hs)
unfolding headers_events
headers_tell hs = tells_elements tables.RoListAll tables.HeaderPatch (name_of fields.RoTag) patch_events IsSoundPatch refl patch_tells hs

pub send_tells : (s : StorySend) → Tells tables.StorySend (story_send_events s) (AllFit tables.StorySend (story_send_events s))
send_tells s = tells_flat tables.StorySend (λ f x h. h) (flat_story_send s)

-- ---- objects and machines

pub object_tells : (o : MosObj) → Tells tables.MosObj (mos_obj_events o) (IsSoundObject o)
object_tells o = tells_flat tables.MosObj (λ f x h. h) (flat_mos_obj o)

pub objects_tell : (os : List MosObj) → Tells tables.MosListAll (objects_events os) (AllByRecursion IsSoundObject os)
unfolding objects_events
objects_tell os = tells_elements tables.MosListAll tables.MosObj (name_of fields.MosObjTag) mos_obj_events IsSoundObject refl object_tells os

supported_tells : (s : Option SupportedProfiles) → Tells tables.ListMachInfo (supported_events s) (Unit {0})
unfolding supported_events
supported_tells None = tells_none tables.ListMachInfo
supported_tells (Some s) =
    tells_so tables.ListMachInfo (supported_events (Some s)) (λ p. tt) (tells_element tables.ListMachInfo tables.SupportedProfiles (name_of fields.SupportedProfilesTag) (attribute fields.DeviceType (device_type_text s.device_type) ∷ []) (profiles_events s.profiles) refl (tells_flat tables.SupportedProfiles (λ f x h. h) (flat_profiles s.profiles)))

pub machine_tells : (m : MachInfo) → Tells tables.ListMachInfo (mach_info_events m) (AllFit tables.ListMachInfo (mach_rest_events m))
unfolding mach_info_events
machine_tells m =
    let t : Table = tables.ListMachInfo in
    let head : Tells t (mach_head_events m) (AllFit t (mach_head_events m)) = tells_flat t (λ f x h. h) (flat_mach_head m) in
    let rest : Tells t (mach_rest_events m) (AllFit t (mach_rest_events m)) = tells_flat t (λ f x h. h) (flat_mach_rest m) in
    tells_so t (mach_info_events m) (λ p. p.1) (tells_both t (mach_head_events m ++ supported_events m.supported_profiles) (mach_rest_events m) (tells_both t (mach_head_events m) (supported_events m.supported_profiles) head (supported_tells m.supported_profiles)) rest)

-- ---- actions

some_items : (xs : List Item) → begins (items_events xs) ≡ true → 1 ≤ length xs
unfolding items_events
some_items [] h = absurd cc
some_items (x ∷ xs) h = omega arith

some_stories : (xs : List Story) → begins (stories_events xs) ≡ true → 1 ≤ length xs
unfolding stories_events
some_stories [] h = absurd cc
some_stories (x ∷ xs) h = omega arith

some_ids : (f : Field) (xs : List Text) → begins (ids_events f xs) ≡ true → 1 ≤ length xs
unfolding ids_events
some_ids f [] h = absurd cc
some_ids f (x ∷ xs) h = omega arith

flat_ids : (f : Field) (xs : List Text) → Flat (ids_events f xs)
unfolding ids_events
flat_ids f [] = flat_none
flat_ids f (x ∷ xs) = flat_leaf (name_of f) [] x (flat_ids f xs)

-- what the element_source of an action with this operation tells
source_tells : (o : Operation) (es : List Event) {P Q : Type 0} → ((begins es ≡ true) × P → Q) → inside (tables.Action o) (name_of fields.ElementSource) [] ≡ tables.Source o AtStory → Tells (tables.Source o AtStory) es P → Tells (tables.Action o) (source es) Q
unfolding source
source_tells o es f e p = tells_so (tables.Action o) (source es) f (tells_source (tables.Action o) (name_of fields.ElementSource) es o e p)

story_target_tells : (o : Operation) (story : Text) → inside (tables.Action o) (name_of fields.ElementTarget) [] ≡ tables.Target o → Tells (tables.Action o) (target_story story) (AllFit (tables.Target o) (must fields.StoryID story))
unfolding target_story
story_target_tells o story e = tells_element (tables.Action o) (tables.Target o) (name_of fields.ElementTarget) [] (must fields.StoryID story) e (tells_flat (tables.Target o) (λ f x h. h) (flat_must fields.StoryID story))

item_target_tells : (o : Operation) (story item : Text) → inside (tables.Action o) (name_of fields.ElementTarget) [] ≡ tables.Target o → Tells (tables.Action o) (target_item story item) (Unit {0})
unfolding target_item
item_target_tells o story item e =
    let t : Table = tables.Target o in
    let f : (k : Field) (v : Text) → Tells t (must k v) (AllFit t (must k v)) = λ k v. tells_flat t (λ f x h. h) (flat_must k v) in
    tells_so (tables.Action o) (target_item story item) (λ p. tt) (tells_element (tables.Action o) t (name_of fields.ElementTarget) [] (must fields.StoryID story ++ must fields.ItemID item) e (tells_both t (must fields.StoryID story) (must fields.ItemID item) (f fields.StoryID story) (f fields.ItemID item)))

-- behind the target
behind : (o : Operation) (target es : List Event) {P Q : Type 0} → Tells (tables.Action o) target P → Tells (tables.Action o) es Q → Tells (tables.Action o) (target ++ es) Q
behind o target es p q = tells_so (tables.Action o) (target ++ es) (λ a. a.1) (tells_both (tables.Action o) target es p q)

stories_source : (o : Operation) (xs : List Story) → inside (tables.Action o) (name_of fields.ElementSource) [] ≡ tables.Source o AtStory → inside (tables.Source o AtStory) (name_of fields.StoryTag) [] ≡ tables.Story
    → Tells (tables.Action o) (source (stories_events xs)) ((1 ≤ length xs) × AreSoundStories xs)
stories_source o xs e i = source_tells o (stories_events xs) (λ p. (some_stories xs p.0, p.1)) e (stories_tell (tables.Source o AtStory) xs i)

items_source : (o : Operation) (xs : List Item) → inside (tables.Action o) (name_of fields.ElementSource) [] ≡ tables.Source o AtStory → inside (tables.Source o AtStory) (name_of fields.ItemTag) [] ≡ tables.Item
    → Tells (tables.Action o) (source (items_events xs)) ((1 ≤ length xs) × AreSoundItems xs)
items_source o xs e i = source_tells o (items_events xs) (λ p. (some_items xs p.0, p.1)) e (items_tell (tables.Source o AtStory) xs i)

ids_source : (o : Operation) (f : Field) (xs : List Text) → inside (tables.Action o) (name_of fields.ElementSource) [] ≡ tables.Source o AtStory → Tells (tables.Action o) (source (ids_events f xs)) (1 ≤ length xs)
ids_source o f xs e = source_tells o (ids_events f xs) (λ p. some_ids f xs p.0) e (tells_flat (tables.Source o AtStory) (λ g x h. h) (flat_ids f xs))

swap_tells : (es : List Event) → Flat es → Tells (tables.Action Swap) (source es) (Unit {0})
swap_tells es f = source_tells Swap es (λ p. tt) refl (tells_flat (tables.Source Swap AtStory) (λ g x h. h) f)

flat_two : (f : Field) (x y : Text) → Flat (must f x ++ must f y)
flat_two f x y = flat_then (flat_must f x) (flat_must f y)

pub action_tells : (a : Action) → Tells (tables.Action (operation_of_action a)) (action_events a) (IsSoundAction a)
unfolding action_events
action_tells (InsertStories target xs) = behind Insert (target_story target) (source (stories_events xs)) (story_target_tells Insert target refl) (stories_source Insert xs refl refl)
action_tells (ReplaceStory target xs) = behind Replace (target_story target) (source (stories_events xs)) (story_target_tells Replace target refl) (stories_source Replace xs refl refl)
action_tells (InsertItems story target xs) = behind Insert (target_item story target) (source (items_events xs)) (item_target_tells Insert story target refl) (items_source Insert xs refl refl)
action_tells (ReplaceItem story target xs) = behind Replace (target_item story target) (source (items_events xs)) (item_target_tells Replace story target refl) (items_source Replace xs refl refl)
action_tells (MoveStories target xs) = behind Move (target_story target) (source (ids_events fields.StoryID xs)) (story_target_tells Move target refl) (ids_source Move fields.StoryID xs refl)
action_tells (MoveItems story target xs) = behind Move (target_item story target) (source (ids_events fields.ItemID xs)) (item_target_tells Move story target refl) (ids_source Move fields.ItemID xs refl)
action_tells (DeleteStories xs) = ids_source Delete fields.StoryID xs refl
action_tells (DeleteItems story xs) = behind Delete (target_story story) (source (ids_events fields.ItemID xs)) (story_target_tells Delete story refl) (ids_source Delete fields.ItemID xs refl)
action_tells (SwapStories first second) = swap_tells (must fields.StoryID first ++ must fields.StoryID second) (flat_two fields.StoryID first second)
action_tells (SwapItems story first second) =
    behind Swap (target_story story) (source (must fields.ItemID first ++ must fields.ItemID second)) (story_target_tells Swap story refl) (swap_tells (must fields.ItemID first ++ must fields.ItemID second) (flat_two fields.ItemID first second))
