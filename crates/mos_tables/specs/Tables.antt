-- The tables of the profile of MOS 2.8.5 that this project speaks: which fields a record has, in which order, what
-- each holds, and what becomes of elements that a table does not name. Every rule about the fields of a record is a
-- column here and nowhere else; only three rules are no columns: the header's `story`, roAck's groups, and that keys
-- beside each other are apart.
use Rattle.std.specs.Prelude.{Bool, true, false, cond, List, [], ◌∷◌, ◌++◌, Option, Some, None, codes}
use Rattle.mos_fields.specs.declared.field.Field.{Field}
use Rattle.mos_fields.specs.declared.field.Field.TheVariants as fields
use Rattle.mos_tables.specs.declared.column.Column.{Column}
use Rattle.mos_fields.specs.declared.operation.Operation.{Operation}
use Rattle.mos_fields.specs.declared.operation.Operation.TheVariants.{Insert, Replace, Move, Delete, Swap}
use Rattle.mos_tables.specs.declared.aim.Aim.{Aim}
use Rattle.mos_tables.specs.declared.aim.Aim.TheVariants.{Nowhere, AtStory, AtItem}
use Rattle.mos_tables.specs.declared.table.Table.{Table}
use Rattle.mos_tables.specs.declared.table.Table.TheVariants.{Envelope, Body, HeaderPatch, Story, Item, MosObj, Heartbeat, NoFields, ListMachInfo, SupportedProfiles, MosAck, MosReqObj, MosReqAll, MosListAll, OneOrder, RoListAll, ElementStat, Action, Target, Source, ReadyToAir, RoAck, StorySend}
use Rattle.mos_fields.specs.declared.form.Form.{Form}
use Rattle.mos_fields.specs.declared.form.Form.TheVariants as forms
use Rattle.mos_tables.specs.declared.column.Shape.{Shape}
use Rattle.mos_tables.specs.declared.column.Shape.TheVariants.{Leaf, Raw, Record, Message}
use Rattle.mos_tables.specs.declared.column.Often.{Often}
use Rattle.mos_tables.specs.declared.column.Often.TheVariants.{One, Optional, Any, Many, Count}
use Rattle.mos_tables.specs.declared.others.Others.{Others}
use Rattle.mos_tables.specs.declared.others.Others.TheVariants.{Kept, Dropped, Refused}
use Rattle.mos_fields.specs.Characters.{Text}
use Rattle.mos_fields.specs.Fields.{same}

abbrev pub column : Field → Shape → Often → Column
column f s o = record { field = f; shape = s; often = o }

-- a field with a text, which has to be there or may be absent
abbrev pub required : Field → Form → Column
required f form = column f (Leaf form) One

abbrev pub optional : Field → Form → Column
optional f form = column f (Leaf form) Optional

-- a field that is kept as it was written, at most once or any number of times
abbrev pub optional_raw : Field → Column
optional_raw f = column f Raw Optional

abbrev pub raw_list : Field → Column
raw_list f = column f Raw Any

-- the fields of a header behind its slug
abbrev pub header_columns : List Column
header_columns = optional fields.RoChannel forms.Text ∷ optional fields.RoEdStart forms.Text ∷ optional fields.RoEdDur forms.Text ∷ optional fields.RoTrigger forms.Text
    ∷ optional fields.MacroIn forms.Text ∷ optional fields.MacroOut forms.Text ∷ raw_list fields.Metadata ∷ []

-- roAck has fields of its own, and then those of each group, one group after another
abbrev pub ack_columns : List Column
ack_columns = required fields.RoID forms.OptId ∷ required fields.RoStatus forms.Slug ∷ []

abbrev pub group_columns : List Column
group_columns = required fields.StoryID forms.OptId ∷ required fields.ItemID forms.OptId ∷ required fields.ObjID forms.OptId ∷ optional fields.ItemChannel forms.Text ∷ required fields.Status forms.Text ∷ []

-- element_target holds a storyID, and an itemID where the operation can aim at an item
abbrev pub item_of_target : Operation → Often
item_of_target Insert = Optional
item_of_target Replace = Optional
item_of_target Move = Optional
item_of_target Delete = Count 0
item_of_target Swap = Count 0

-- whether the operation asks for an element_target
abbrev pub target_of : Operation → Often
target_of Insert = One
target_of Replace = One
target_of Move = One
target_of Delete = Optional
target_of Swap = Optional

-- element_source holds what the operation and its target ask for: whole stories or items, or their IDs
abbrev pub source_column : Operation → Aim → Column
source_column Insert AtItem = column fields.ItemTag (Record Item) Many
source_column Insert a = column fields.StoryTag (Record Story) Many
source_column Replace AtItem = column fields.ItemTag (Record Item) Many
source_column Replace a = column fields.StoryTag (Record Story) Many
source_column Move AtItem = column fields.ItemID (Leaf forms.OptId) Many
source_column Move a = column fields.StoryID (Leaf forms.OptId) Many
source_column Delete Nowhere = column fields.StoryID (Leaf forms.OptId) Many
source_column Delete a = column fields.ItemID (Leaf forms.OptId) Many
source_column Swap Nowhere = column fields.StoryID (Leaf forms.OptId) (Count 2)
source_column Swap a = column fields.ItemID (Leaf forms.OptId) (Count 2)

-- the fields of a record, in order
abbrev pub columns : Table → List Column
columns Envelope = required fields.MosID forms.Id ∷ required fields.NcsID forms.Id ∷ optional fields.MessageID forms.OptId ∷ column fields.Message Message (Count 1) ∷ []
columns Body = required fields.RoID forms.Id ∷ required fields.RoSlug forms.Slug ∷ (header_columns ++ column fields.StoryTag (Record Story) Any ∷ [])
columns HeaderPatch = required fields.RoID forms.Id ∷ optional fields.RoSlug forms.Slug ∷ header_columns
columns Story = required fields.StoryID forms.Key ∷ optional fields.StorySlug forms.Slug ∷ optional fields.StoryNum forms.Text ∷ raw_list fields.Metadata ∷ column fields.ItemTag (Record Item) Any ∷ []
columns Item = required fields.ItemID forms.Key ∷ optional fields.ItemSlug forms.Slug ∷ required fields.ObjID forms.OptId ∷ required fields.MosID forms.OptId ∷ optional_raw fields.MosAbstract ∷ optional_raw fields.ObjPaths
    ∷ optional fields.ItemChannel forms.Text ∷ optional fields.ItemEdStart forms.Samples ∷ optional fields.ItemEdDur forms.Samples ∷ optional fields.ItemUserTimingDur forms.Samples
    ∷ optional fields.ItemTrigger forms.Text ∷ optional fields.MacroIn forms.Text ∷ optional fields.MacroOut forms.Text ∷ raw_list fields.Metadata ∷ []
columns MosObj = required fields.ObjID forms.Id ∷ optional fields.ObjSlug forms.Slug ∷ optional_raw fields.MosAbstract ∷ optional fields.ObjGroup forms.Text ∷ optional fields.ObjType forms.ObjType ∷ optional fields.ObjTB forms.Samples
    ∷ optional fields.ObjRev forms.Rev ∷ optional fields.ObjDur forms.Samples ∷ optional fields.Status forms.Text ∷ optional fields.ObjAir forms.Air ∷ optional_raw fields.ObjPaths ∷ optional fields.CreatedBy forms.Text
    ∷ optional fields.Created forms.Text ∷ optional fields.ChangedBy forms.Text ∷ optional fields.Changed forms.Text ∷ optional_raw fields.Description ∷ raw_list fields.Metadata ∷ []
columns Heartbeat = required fields.TimeTag forms.Time ∷ []
columns NoFields = []
columns ListMachInfo = optional fields.Manufacturer forms.Text ∷ optional fields.ModelTag forms.Text ∷ optional fields.HwRev forms.Text ∷ optional fields.SwRev forms.Text ∷ optional fields.Dom forms.Text ∷ optional fields.SerialNumber forms.Text
    ∷ optional fields.MachineID forms.Text ∷ optional fields.TimeTag forms.Time ∷ optional fields.OpTime forms.Text ∷ optional fields.MosRev forms.Text ∷ column fields.SupportedProfilesTag (Record SupportedProfiles) Optional
    ∷ raw_list fields.DefaultActiveX ∷ raw_list fields.Metadata ∷ []
columns SupportedProfiles = column fields.MosProfile (Leaf forms.Profile) Any ∷ []
columns MosAck = required fields.ObjID forms.OptId ∷ optional fields.ObjRev forms.Rev ∷ required fields.Status forms.AckWord ∷ optional fields.StatusDescription forms.Text ∷ []
columns MosReqObj = required fields.ObjID forms.Id ∷ []
columns MosReqAll = required fields.Pause forms.Samples ∷ []
columns MosListAll = column fields.MosObjTag (Record MosObj) Any ∷ []
columns OneOrder = required fields.RoID forms.Id ∷ []
columns RoListAll = column fields.RoTag (Record HeaderPatch) Any ∷ []
columns ElementStat = required fields.RoID forms.Id ∷ optional fields.StoryID forms.OptId ∷ optional fields.ItemID forms.OptId ∷ optional fields.ObjID forms.OptId ∷ optional fields.ItemChannel forms.Text ∷ required fields.Status forms.Text ∷ required fields.TimeTag forms.Time ∷ []
columns (Action o) = required fields.RoID forms.Id ∷ column fields.ElementTarget (Record (Target o)) (target_of o) ∷ column fields.ElementSource (Record (Source o AtStory)) One ∷ []
columns (Target o) = required fields.StoryID forms.OptId ∷ column fields.ItemID (Leaf forms.OptId) (item_of_target o) ∷ []
columns (Source o a) = source_column o a ∷ []
columns ReadyToAir = required fields.RoID forms.Id ∷ required fields.RoAir forms.Air ∷ []
columns RoAck = ack_columns ++ group_columns
columns StorySend = required fields.RoID forms.Id ∷ required fields.StoryID forms.Id ∷ optional fields.StorySlug forms.Slug ∷ optional fields.StoryNum forms.Text ∷ column fields.StoryBody Raw One ∷ raw_list fields.Metadata ∷ []

-- the record of each message, by the name of its element; that of roElementAction by its operation too
abbrev pub messages : Operation → List (Text × Table)
messages o = (codes "heartbeat", Heartbeat) ∷ (codes "reqMachInfo", NoFields) ∷ (codes "listMachInfo", ListMachInfo) ∷ (codes "mosAck", MosAck) ∷ (codes "mosObj", MosObj)
    ∷ (codes "mosReqObj", MosReqObj) ∷ (codes "mosReqAll", MosReqAll) ∷ (codes "mosListAll", MosListAll) ∷ (codes "roCreate", Body) ∷ (codes "roReplace", Body) ∷ (codes "roList", Body)
    ∷ (codes "roMetadataReplace", HeaderPatch) ∷ (codes "roDelete", OneOrder) ∷ (codes "roReq", OneOrder) ∷ (codes "roReqAll", NoFields) ∷ (codes "roListAll", RoListAll)
    ∷ (codes "roElementStat", ElementStat) ∷ (codes "roElementAction", Action o) ∷ (codes "roReadyToAir", ReadyToAir) ∷ (codes "roAck", RoAck) ∷ (codes "roStorySend", StorySend) ∷ []

-- the record at a name
abbrev pub table_of_name : Text → List (Text × Table) → Option Table
table_of_name n [] = None
table_of_name n (m ∷ ms) = cond (same m.0 n) (Some m.1) (table_of_name n ms)

-- what becomes of an element that a table does not name
abbrev pub others_of : Table → Others
others_of Body = Kept
others_of HeaderPatch = Kept
others_of Story = Kept
others_of Item = Kept
others_of MosObj = Kept
others_of ListMachInfo = Kept
others_of StorySend = Kept
others_of SupportedProfiles = Refused
others_of (Target o) = Refused
others_of (Source o a) = Refused
others_of t = Dropped

-- a header that stands without its stories, as in roMetadataReplace and roListAll
abbrev pub is_header : Table → Bool
is_header HeaderPatch = true
is_header t = false

-- the same by its name: a header without stories keeps every element but `story`
abbrev pub others : Table → Text → Others
others t n = cond (is_header t) (cond (same n (codes "story")) Refused Kept) (others_of t)

-- whether the keys of the records inside have to be apart: the stories of a body, the items of a story
abbrev pub has_keys : Table → Bool
has_keys Body = true
has_keys Story = true
has_keys t = false

-- the record whose groups follow one another without elements round them
abbrev pub is_ack : Table → Bool
is_ack RoAck = true
is_ack t = false

-- ---- the attributes that the tables name: one of a record, one of a field with a text

abbrev pub attribute_of_table : Table → Option Field
attribute_of_table SupportedProfiles = Some fields.DeviceType
attribute_of_table ElementStat = Some fields.ElementKind
attribute_of_table (Action o) = Some fields.OperationKind
attribute_of_table t = None

abbrev pub attribute_of_form : Form → Option Field
attribute_of_form forms.Profile = Some fields.Number
attribute_of_form f = None

-- the words that an attribute may be
abbrev pub words_of : Field → List Text
words_of fields.DeviceType = codes "NCS" ∷ codes "MOS" ∷ []
words_of fields.Number = codes "0" ∷ codes "1" ∷ codes "2" ∷ codes "3" ∷ codes "4" ∷ codes "5" ∷ codes "6" ∷ codes "7" ∷ codes "8" ∷ codes "9" ∷ []
words_of fields.ElementKind = codes "RO" ∷ codes "STORY" ∷ codes "ITEM" ∷ []
words_of fields.OperationKind = codes "INSERT" ∷ codes "REPLACE" ∷ codes "MOVE" ∷ codes "DELETE" ∷ codes "SWAP" ∷ []
words_of f = []

-- the operation at a word; where the word is none, any will do, since the attribute is rejected
abbrev pub operation_of : Text → Operation
operation_of x = cond (same x (codes "REPLACE")) Replace (cond (same x (codes "MOVE")) Move (cond (same x (codes "DELETE")) Delete (cond (same x (codes "SWAP")) Swap Insert)))
