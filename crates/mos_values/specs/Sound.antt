-- Messages that have an encoding: each raw element has the name of its field, each element that is kept has a name that
-- its record's table doesn't have, the name of another message is that of its raw text and of no message of the profile,
-- and each action has what its form asks for.
use Rattle.std.specs.Prelude.{◌≡◌, ℕ, ◌≤◌, Bool, true, false, List, [], ◌∷◌, ◌++◌, length, map, codes, Option, Some, None}
use Rattle.std.specs.List.{AllByRecursion}
use Rattle.mos_fields.specs.Characters.{Text}
use Rattle.mos_fields.specs.declared.field.Field.{Field}
use Rattle.mos_fields.specs.declared.field.Field.TheVariants as fields
use Rattle.mos_fields.specs.declared.operation.Operation.TheVariants.{Insert}
use Rattle.mos_fields.specs.Fields.{name_of, same_field}
use Rattle.mos_fields.specs.Forms.{among}
use Rattle.mos_fields.specs.Raw.{IsRaw}
use Rattle.mos_tables.specs.declared.column.Column.{Column}
use Rattle.mos_tables.specs.declared.others.Others.TheVariants.{Kept}
use Rattle.mos_tables.specs.declared.table.Table.{Table}
use Rattle.mos_tables.specs.declared.table.Table.TheVariants as tables
use Rattle.mos_tables.specs.Events.{Event, leaf, raw, opens, closes}
use Rattle.mos_tables.specs.Tables.{columns, messages, others}
use Rattle.mos_values.specs.declared.action.Action.{Action}
use Rattle.mos_values.specs.declared.action.Action.TheVariants.{InsertStories, ReplaceStory, InsertItems, ReplaceItem, MoveStories, MoveItems, DeleteStories, DeleteItems, SwapStories, SwapItems}
use Rattle.mos_values.specs.declared.header.HeaderPatch.{HeaderPatch}
use Rattle.mos_values.specs.declared.item.Item.{Item}
use Rattle.mos_values.specs.declared.message.Message.{Message}
use Rattle.mos_values.specs.declared.message.Message.TheVariants as variants
use Rattle.mos_values.specs.declared.mos_obj.MosObj.{MosObj}
use Rattle.mos_values.specs.StoryValue.{Story}
use Rattle.mos_values.specs.OrderValue.{OrderBody}
use Rattle.mos_values.specs.Views.{header_events, patch_events, item_events, story_head_events, mos_obj_events, mach_rest_events, story_send_events}

-- ---- raw elements

-- the element has a name that this table doesn't have, and keeps
abbrev pub IsOther : Table → Text → Type 0
IsOther t x = (n : Text) × IsRaw n x × (among n (map (λ (c : Column). name_of c.field) (columns t)) ≡ false) × (others t n ≡ Kept)

abbrev pub IsNamed : Bool → Table → Field → Text → Type 0
IsNamed true t f x = IsOther t x
IsNamed false t f x = IsRaw (name_of f) x

-- a raw element of a record with this table
abbrev pub Fits : Table → Event → Type 0
Fits t (raw f x) = IsNamed (same_field f fields.Kept) t f x
Fits t (leaf n g x) = Unit {0}
Fits t (opens n g) = Unit {0}
Fits t (closes n) = Unit {0}

abbrev pub AllFit : Table → List Event → Type 0
AllFit t es = AllByRecursion (Fits t) es

-- ---- records

abbrev pub IsSoundItem : Item → Type 0
IsSoundItem i = AllFit tables.Item (item_events i)

abbrev pub AreSoundItems : List Item → Type 0
AreSoundItems items = AllByRecursion IsSoundItem items

abbrev pub IsSoundStory : Story → Type 0
IsSoundStory s = AllFit tables.Story (story_head_events s) × AreSoundItems s.items

abbrev pub AreSoundStories : List Story → Type 0
AreSoundStories stories = AllByRecursion IsSoundStory stories

-- a header keeps no element named `story`, which the table of a body has
abbrev pub IsSoundBody : OrderBody → Type 0
IsSoundBody b = AllFit tables.Body (header_events b.header) × AreSoundStories b.stories

abbrev pub IsSoundPatch : HeaderPatch → Type 0
IsSoundPatch h = AllFit tables.HeaderPatch (patch_events h)

abbrev pub IsSoundObject : MosObj → Type 0
IsSoundObject o = AllFit tables.MosObj (mos_obj_events o)

-- ---- actions: one source or more, and two in an exchange, which the values have anyway

abbrev pub IsSoundAction : Action → Type 0
IsSoundAction (InsertStories target sources) = (1 ≤ length sources) × AreSoundStories sources
IsSoundAction (ReplaceStory target sources) = (1 ≤ length sources) × AreSoundStories sources
IsSoundAction (InsertItems story target sources) = (1 ≤ length sources) × AreSoundItems sources
IsSoundAction (ReplaceItem story target sources) = (1 ≤ length sources) × AreSoundItems sources
IsSoundAction (MoveStories target sources) = 1 ≤ length sources
IsSoundAction (MoveItems story target sources) = 1 ≤ length sources
IsSoundAction (DeleteStories sources) = 1 ≤ length sources
IsSoundAction (DeleteItems story sources) = 1 ≤ length sources
IsSoundAction (SwapStories first second) = Unit {0}
IsSoundAction (SwapItems story first second) = Unit {0}

-- ---- messages

-- the names that no message of another kind has: those of the messages, and of the envelope's other fields
abbrev pub taken_names : List Text
taken_names = map (λ p. p.0) (messages Insert) ++ codes "mosID" ∷ codes "ncsID" ∷ codes "messageID" ∷ []

unfoldable pub IsSound : Message → Type 0
IsSound (variants.ListMachInfo info) = AllFit tables.ListMachInfo (mach_rest_events info)
IsSound (variants.MosObj obj) = IsSoundObject obj
IsSound (variants.MosListAll objs) = AllByRecursion IsSoundObject objs
IsSound (variants.RoCreate body) = IsSoundBody body
IsSound (variants.RoReplace body) = IsSoundBody body
IsSound (variants.RoList body) = IsSoundBody body
IsSound (variants.RoMetadataReplace patch) = IsSoundPatch patch
IsSound (variants.RoListAll headers) = AllByRecursion IsSoundPatch headers
IsSound (variants.RoElementAction ro action) = IsSoundAction action
IsSound (variants.RoStorySend story) = AllFit tables.StorySend (story_send_events story)
IsSound (variants.Other name other) = IsRaw name other × (among name taken_names ≡ false)
IsSound m = Unit {0}
