-- Values whose texts are in the canonical forms of their fields, with characters that XML allows, and whose stories and
-- items have IDs of their own. All values in memory are such.
use Rattle.std.specs.Prelude.{◌≡◌, true, List, [], Option, Some, None}
use Rattle.std.specs.List.{AllByRecursion}
use Rattle.mos_fields.specs.Characters.{Text, are_allowed}
use Rattle.mos_fields.specs.Forms.{reads}
use Rattle.mos_fields.specs.Values.{samples_text, rev_text}
use Rattle.mos_fields.specs.declared.form.Form.{Form}
use Rattle.mos_fields.specs.declared.form.Form.TheVariants as forms
use Rattle.mos_values.specs.declared.ack_group.AckGroup.{AckGroup}
use Rattle.mos_values.specs.declared.action.Action.{Action}
use Rattle.mos_values.specs.declared.action.Action.TheVariants.{InsertStories, ReplaceStory, InsertItems, ReplaceItem, MoveStories, MoveItems, DeleteStories, DeleteItems, SwapStories, SwapItems}
use Rattle.mos_values.specs.declared.element_stat.ElementStat.{ElementStat}
use Rattle.mos_values.specs.declared.header.Header.{Header}
use Rattle.mos_values.specs.declared.header.HeaderPatch.{HeaderPatch}
use Rattle.mos_values.specs.declared.item.Item.{Item}
use Rattle.mos_values.specs.declared.mach_info.MachInfo.{MachInfo}
use Rattle.mos_values.specs.declared.message.Envelope.{Envelope}
use Rattle.mos_values.specs.declared.message.Message.{Message}
use Rattle.mos_values.specs.declared.message.Message.TheVariants as messages
use Rattle.mos_values.specs.declared.mos_ack.MosAck.{MosAck}
use Rattle.mos_values.specs.declared.mos_obj.MosObj.{MosObj}
use Rattle.mos_values.specs.declared.ro_ack.RoAck.{RoAck}
use Rattle.mos_values.specs.declared.story_send.StorySend.{StorySend}
use Rattle.mos_values.specs.OrderValue.{OrderBody}
use Rattle.mos_values.specs.StoryValue.{Story}
use Rattle.encoding_laws.specs.Identifiers.{HasDistinctItems, HasDistinctStories}

-- ---- texts

-- The text is the canonical text of this form, and XML allows its characters. A raw element is a text with any such
-- characters.
abbrev pub IsText : Form → Text → Type 0
IsText form x = (reads form [] x ≡ Some x) × (are_allowed x ≡ true)

-- a text that may be absent
abbrev pub IsTextIfAny : Form → Option Text → Type 0
IsTextIfAny form None = Unit {0}
IsTextIfAny form (Some x) = IsText form x

-- the text that is written of a value that may be absent
abbrev pub IsWrittenIfAny : {A : Type 0} → (A → Text) → Form → Option A → Type 0
IsWrittenIfAny write form None = Unit {0}
IsWrittenIfAny write form (Some a) = IsText form (write a)

abbrev pub AreTexts : Form → List Text → Type 0
AreTexts form xs = AllByRecursion (IsText form) xs

-- ---- running orders

abbrev pub IsFitHeader : Header → Type 0
IsFitHeader h = IsText forms.Id h.ro × IsText forms.Slug h.slug × IsTextIfAny forms.Text h.channel × IsTextIfAny forms.Text h.ed_start × IsTextIfAny forms.Text h.ed_dur × IsTextIfAny forms.Text h.trigger
    × IsTextIfAny forms.Text h.macro_in × IsTextIfAny forms.Text h.macro_out × AreTexts forms.Text h.metadata × AreTexts forms.Text h.others

abbrev pub IsFitPatch : HeaderPatch → Type 0
IsFitPatch h = IsText forms.Id h.ro × IsTextIfAny forms.Slug h.slug × IsTextIfAny forms.Text h.channel × IsTextIfAny forms.Text h.ed_start × IsTextIfAny forms.Text h.ed_dur × IsTextIfAny forms.Text h.trigger
    × IsTextIfAny forms.Text h.macro_in × IsTextIfAny forms.Text h.macro_out × AreTexts forms.Text h.metadata × AreTexts forms.Text h.others

abbrev pub AreFitPatches : List HeaderPatch → Type 0
AreFitPatches hs = AllByRecursion IsFitPatch hs

abbrev pub IsFitItem : Item → Type 0
IsFitItem i = IsText forms.Key i.id × IsTextIfAny forms.Slug i.slug × IsText forms.OptId i.obj × IsText forms.OptId i.mos × IsTextIfAny forms.Text i.mos_abstract × IsTextIfAny forms.Text i.obj_paths × IsTextIfAny forms.Text i.channel
    × IsWrittenIfAny samples_text forms.Samples i.ed_start × IsWrittenIfAny samples_text forms.Samples i.ed_dur × IsWrittenIfAny samples_text forms.Samples i.user_timing_dur
    × IsTextIfAny forms.Text i.trigger × IsTextIfAny forms.Text i.macro_in × IsTextIfAny forms.Text i.macro_out × AreTexts forms.Text i.metadata × AreTexts forms.Text i.others

abbrev pub AreFitItems : List Item → Type 0
AreFitItems items = AllByRecursion IsFitItem items

abbrev pub IsFitStory : Story → Type 0
IsFitStory s = IsText forms.Key s.id × IsTextIfAny forms.Slug s.slug × IsTextIfAny forms.Text s.num × AreTexts forms.Text s.metadata × AreTexts forms.Text s.others × AreFitItems s.items × HasDistinctItems s

abbrev pub AreFitStories : List Story → Type 0
AreFitStories stories = AllByRecursion IsFitStory stories

abbrev pub IsFitBody : OrderBody → Type 0
IsFitBody b = IsFitHeader b.header × AreFitStories b.stories × HasDistinctStories b

-- ---- actions

abbrev pub IsFitAction : Action → Type 0
IsFitAction (InsertStories target sources) = IsText forms.OptId target × AreFitStories sources
IsFitAction (ReplaceStory target sources) = IsText forms.OptId target × AreFitStories sources
IsFitAction (InsertItems story target sources) = IsText forms.OptId story × IsText forms.OptId target × AreFitItems sources
IsFitAction (ReplaceItem story target sources) = IsText forms.OptId story × IsText forms.OptId target × AreFitItems sources
IsFitAction (MoveStories target sources) = IsText forms.OptId target × AreTexts forms.OptId sources
IsFitAction (MoveItems story target sources) = IsText forms.OptId story × IsText forms.OptId target × AreTexts forms.OptId sources
IsFitAction (DeleteStories sources) = AreTexts forms.OptId sources
IsFitAction (DeleteItems story sources) = IsText forms.OptId story × AreTexts forms.OptId sources
IsFitAction (SwapStories first second) = IsText forms.OptId first × IsText forms.OptId second
IsFitAction (SwapItems story first second) = IsText forms.OptId story × IsText forms.OptId first × IsText forms.OptId second

-- ---- statuses and acknowledgements

abbrev pub IsFitStat : ElementStat → Type 0
IsFitStat e = IsText forms.Id e.ro × IsTextIfAny forms.OptId e.story × IsTextIfAny forms.OptId e.item × IsTextIfAny forms.OptId e.obj × IsTextIfAny forms.Text e.channel × IsText forms.Text e.status

abbrev pub IsFitGroup : AckGroup → Type 0
IsFitGroup g = IsText forms.OptId g.story × IsText forms.OptId g.item × IsText forms.OptId g.obj × IsTextIfAny forms.Text g.channel × IsText forms.Text g.status

abbrev pub AreFitGroups : List AckGroup → Type 0
AreFitGroups gs = AllByRecursion IsFitGroup gs

abbrev pub IsFitRoAck : RoAck → Type 0
IsFitRoAck a = IsText forms.OptId a.ro × IsText forms.Slug a.status × AreFitGroups a.groups

abbrev pub IsFitMosAck : MosAck → Type 0
IsFitMosAck a = IsText forms.OptId a.obj × IsWrittenIfAny rev_text forms.Rev a.rev × IsTextIfAny forms.Text a.description

-- ---- objects, stories with their text, machines

abbrev pub IsFitObject : MosObj → Type 0
IsFitObject o = IsText forms.Id o.id × IsTextIfAny forms.Slug o.slug × IsTextIfAny forms.Text o.mos_abstract × IsTextIfAny forms.Text o.group × IsWrittenIfAny samples_text forms.Samples o.time_base × IsWrittenIfAny rev_text forms.Rev o.rev
    × IsWrittenIfAny samples_text forms.Samples o.dur × IsTextIfAny forms.Text o.status × IsTextIfAny forms.Text o.obj_paths × IsTextIfAny forms.Text o.created_by × IsTextIfAny forms.Text o.created × IsTextIfAny forms.Text o.changed_by
    × IsTextIfAny forms.Text o.changed × IsTextIfAny forms.Text o.description × AreTexts forms.Text o.metadata × AreTexts forms.Text o.others

abbrev pub AreFitObjects : List MosObj → Type 0
AreFitObjects objects = AllByRecursion IsFitObject objects

abbrev pub IsFitSend : StorySend → Type 0
IsFitSend s = IsText forms.Id s.ro × IsText forms.Id s.story × IsTextIfAny forms.Slug s.slug × IsTextIfAny forms.Text s.num × IsText forms.Text s.body × AreTexts forms.Text s.metadata × AreTexts forms.Text s.others

abbrev pub IsFitMachine : MachInfo → Type 0
IsFitMachine m = IsTextIfAny forms.Text m.manufacturer × IsTextIfAny forms.Text m.model × IsTextIfAny forms.Text m.hw_rev × IsTextIfAny forms.Text m.sw_rev × IsTextIfAny forms.Text m.dom × IsTextIfAny forms.Text m.serial_number
    × IsTextIfAny forms.Text m.id × IsTextIfAny forms.Text m.op_time × IsTextIfAny forms.Text m.mos_rev × AreTexts forms.Text m.default_active_x × AreTexts forms.Text m.metadata × AreTexts forms.Text m.others

-- ---- messages

abbrev pub IsFitMessage : Message → Type 0
IsFitMessage (messages.Heartbeat time) = Unit {0}
IsFitMessage messages.ReqMachInfo = Unit {0}
IsFitMessage (messages.ListMachInfo info) = IsFitMachine info
IsFitMessage (messages.MosAck ack) = IsFitMosAck ack
IsFitMessage (messages.MosObj obj) = IsFitObject obj
IsFitMessage (messages.MosReqObj obj) = IsText forms.Id obj
IsFitMessage (messages.MosReqAll pause) = IsText forms.Samples (samples_text pause)
IsFitMessage (messages.MosListAll objs) = AreFitObjects objs
IsFitMessage (messages.RoCreate body) = IsFitBody body
IsFitMessage (messages.RoReplace body) = IsFitBody body
IsFitMessage (messages.RoList body) = IsFitBody body
IsFitMessage (messages.RoMetadataReplace patch) = IsFitPatch patch
IsFitMessage (messages.RoDelete ro) = IsText forms.Id ro
IsFitMessage (messages.RoReq ro) = IsText forms.Id ro
IsFitMessage messages.RoReqAll = Unit {0}
IsFitMessage (messages.RoListAll headers) = AreFitPatches headers
IsFitMessage (messages.RoElementStat stat) = IsFitStat stat
IsFitMessage (messages.RoElementAction ro action) = IsText forms.Id ro × IsFitAction action
IsFitMessage (messages.RoReadyToAir ro air) = IsText forms.Id ro
IsFitMessage (messages.RoAck ack) = IsFitRoAck ack
IsFitMessage (messages.RoStorySend story) = IsFitSend story
IsFitMessage (messages.Other name other) = IsText forms.Text other

abbrev pub IsFitEnvelope : Envelope → Type 0
IsFitEnvelope e = IsText forms.Id e.mos × IsText forms.Id e.ncs × IsTextIfAny forms.OptId e.message_id × IsFitMessage e.message
