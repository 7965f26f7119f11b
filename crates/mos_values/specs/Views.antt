-- The value of each record, as what its canonical encoding writes one after another: the fields in the order of the
-- record's table, absent ones left out, the elements of other names behind mosExternalMetadata and before stories or
-- items.
use Rattle.std.specs.Prelude.{ℕ, Bool, List, [], ◌∷◌, ◌++◌, Option, Some, None, codes, if◌then◌else◌}
use Rattle.std.specs.Fmt.{decimal}
use Rattle.std.specs.List.{flat_map}
use Rattle.mos_fields.specs.Characters.{Text}
use Rattle.mos_fields.specs.declared.field.Field.TheVariants as fields
use Rattle.mos_fields.specs.Fields.{name_of}
use Rattle.mos_fields.specs.Values.{samples_text, rev_text, air_text, obj_type_text, time_text, level_text}
use Rattle.mos_tables.specs.Events.{Event, leaf}
use Rattle.mos_values.specs.declared.header.Header.{Header}
use Rattle.mos_values.specs.declared.header.HeaderPatch.{HeaderPatch}
use Rattle.mos_values.specs.declared.item.Item.{Item}
use Rattle.mos_values.specs.declared.mos_obj.MosObj.{MosObj}
use Rattle.mos_values.specs.declared.mach_info.MachInfo.{MachInfo}
use Rattle.mos_values.specs.declared.profile.DeviceType.{DeviceType}
use Rattle.mos_values.specs.declared.profile.DeviceType.TheVariants.{Ncs, Mos}
use Rattle.mos_values.specs.declared.profile.Profile.{Profile}
use Rattle.mos_values.specs.declared.profile.SupportedProfiles.{SupportedProfiles}
use Rattle.mos_values.specs.declared.mos_ack.AckStatus.{AckStatus}
use Rattle.mos_values.specs.declared.mos_ack.AckStatus.TheVariants.{Ack, Nack}
use Rattle.mos_values.specs.declared.mos_ack.MosAck.{MosAck}
use Rattle.mos_values.specs.declared.element_stat.ElementStat.{ElementStat}
use Rattle.mos_values.specs.declared.story_send.StorySend.{StorySend}
use Rattle.mos_values.specs.declared.ack_group.AckGroup.{AckGroup}
use Rattle.mos_values.specs.declared.ro_ack.RoAck.{RoAck}
use Rattle.mos_values.specs.StoryValue.{Story}
use Rattle.mos_values.specs.OrderValue.{OrderBody}
use Rattle.mos_values.specs.Parts.{must, maybe, maybe_as, must_raw, maybe_raw, raws, joined, attribute, element, element_with}

-- ---- running orders

unfoldable pub header_events : Header → List Event
header_events h = joined (
    must fields.RoID h.ro
    ∷ must fields.RoSlug h.slug
    ∷ maybe fields.RoChannel h.channel
    ∷ maybe fields.RoEdStart h.ed_start
    ∷ maybe fields.RoEdDur h.ed_dur
    ∷ maybe fields.RoTrigger h.trigger
    ∷ maybe fields.MacroIn h.macro_in
    ∷ maybe fields.MacroOut h.macro_out
    ∷ raws fields.Metadata h.metadata
    ∷ raws fields.Kept h.others
    ∷ [])

unfoldable pub patch_events : HeaderPatch → List Event
patch_events h = joined (
    must fields.RoID h.ro
    ∷ maybe fields.RoSlug h.slug
    ∷ maybe fields.RoChannel h.channel
    ∷ maybe fields.RoEdStart h.ed_start
    ∷ maybe fields.RoEdDur h.ed_dur
    ∷ maybe fields.RoTrigger h.trigger
    ∷ maybe fields.MacroIn h.macro_in
    ∷ maybe fields.MacroOut h.macro_out
    ∷ raws fields.Metadata h.metadata
    ∷ raws fields.Kept h.others
    ∷ [])

unfoldable pub item_events : Item → List Event
item_events i = joined (
    must fields.ItemID i.id
    ∷ maybe fields.ItemSlug i.slug
    ∷ must fields.ObjID i.obj
    ∷ must fields.MosID i.mos
    ∷ maybe_raw fields.MosAbstract i.mos_abstract
    ∷ maybe_raw fields.ObjPaths i.obj_paths
    ∷ maybe fields.ItemChannel i.channel
    ∷ maybe_as samples_text fields.ItemEdStart i.ed_start
    ∷ maybe_as samples_text fields.ItemEdDur i.ed_dur
    ∷ maybe_as samples_text fields.ItemUserTimingDur i.user_timing_dur
    ∷ maybe fields.ItemTrigger i.trigger
    ∷ maybe fields.MacroIn i.macro_in
    ∷ maybe fields.MacroOut i.macro_out
    ∷ raws fields.Metadata i.metadata
    ∷ raws fields.Kept i.others
    ∷ [])

-- items, each an element
unfoldable pub items_events : List Item → List Event
items_events items = flat_map (λ i. element (name_of fields.ItemTag) (item_events i)) items

-- what a story says of itself, before its items
unfoldable pub story_head_events : Story → List Event
story_head_events s = joined (
    must fields.StoryID s.id
    ∷ maybe fields.StorySlug s.slug
    ∷ maybe fields.StoryNum s.num
    ∷ raws fields.Metadata s.metadata
    ∷ raws fields.Kept s.others
    ∷ [])

unfoldable pub story_events : Story → List Event
story_events s = story_head_events s ++ items_events s.items

-- stories, each an element
unfoldable pub stories_events : List Story → List Event
stories_events stories = flat_map (λ s. element (name_of fields.StoryTag) (story_events s)) stories

unfoldable pub body_events : OrderBody → List Event
body_events b = header_events b.header ++ stories_events b.stories

-- headers, each an element `ro`
unfoldable pub headers_events : List HeaderPatch → List Event
headers_events hs = flat_map (λ h. element (name_of fields.RoTag) (patch_events h)) hs

unfoldable pub element_stat_events : ElementStat → List Event
element_stat_events e = joined (
    must fields.RoID e.ro
    ∷ maybe fields.StoryID e.story
    ∷ maybe fields.ItemID e.item
    ∷ maybe fields.ObjID e.obj
    ∷ maybe fields.ItemChannel e.channel
    ∷ must fields.Status e.status
    ∷ must fields.TimeTag (time_text e.time)
    ∷ [])

unfoldable pub group_events : AckGroup → List Event
group_events g = joined (
    must fields.StoryID g.story
    ∷ must fields.ItemID g.item
    ∷ must fields.ObjID g.obj
    ∷ maybe fields.ItemChannel g.channel
    ∷ must fields.Status g.status
    ∷ [])

-- groups, one behind the other with no element around each
unfoldable pub groups_events : List AckGroup → List Event
groups_events gs = flat_map group_events gs

unfoldable pub ro_ack_events : RoAck → List Event
ro_ack_events a = must fields.RoID a.ro ++ must fields.RoStatus a.status ++ groups_events a.groups

unfoldable pub story_send_events : StorySend → List Event
story_send_events s = joined (
    must fields.RoID s.ro
    ∷ must fields.StoryID s.story
    ∷ maybe fields.StorySlug s.slug
    ∷ maybe fields.StoryNum s.num
    ∷ must_raw fields.StoryBody s.body
    ∷ raws fields.Metadata s.metadata
    ∷ raws fields.Kept s.others
    ∷ [])

-- ---- objects and machines

unfoldable pub mos_obj_events : MosObj → List Event
mos_obj_events o = joined (
    must fields.ObjID o.id
    ∷ maybe fields.ObjSlug o.slug
    ∷ maybe_raw fields.MosAbstract o.mos_abstract
    ∷ maybe fields.ObjGroup o.group
    ∷ maybe_as obj_type_text fields.ObjType o.obj_type
    ∷ maybe_as samples_text fields.ObjTB o.time_base
    ∷ maybe_as rev_text fields.ObjRev o.rev
    ∷ maybe_as samples_text fields.ObjDur o.dur
    ∷ maybe fields.Status o.status
    ∷ maybe_as air_text fields.ObjAir o.air
    ∷ maybe_raw fields.ObjPaths o.obj_paths
    ∷ maybe fields.CreatedBy o.created_by
    ∷ maybe fields.Created o.created
    ∷ maybe fields.ChangedBy o.changed_by
    ∷ maybe fields.Changed o.changed
    ∷ maybe_raw fields.Description o.description
    ∷ raws fields.Metadata o.metadata
    ∷ raws fields.Kept o.others
    ∷ [])

-- objects, each an element
unfoldable pub objects_events : List MosObj → List Event
objects_events os = flat_map (λ o. element (name_of fields.MosObjTag) (mos_obj_events o)) os

abbrev pub device_type_text : DeviceType → Text
device_type_text Ncs = codes "NCS"
device_type_text Mos = codes "MOS"

abbrev pub answer_text : Bool → Text
answer_text b = if b then codes "YES" else codes "NO"

-- a profile: its number is an attribute
unfoldable pub profile_events : Profile → List Event
profile_events p = leaf (name_of fields.MosProfile) (attribute fields.Number (decimal p.number) ∷ []) (answer_text p.supported) ∷ []

unfoldable pub profiles_events : List Profile → List Event
profiles_events ps = flat_map profile_events ps

unfoldable pub supported_events : Option SupportedProfiles → List Event
supported_events None = []
supported_events (Some s) = element_with (name_of fields.SupportedProfilesTag) (attribute fields.DeviceType (device_type_text s.device_type) ∷ []) (profiles_events s.profiles)

-- what a machine says of itself, before the profiles
unfoldable pub mach_head_events : MachInfo → List Event
mach_head_events m = joined (
    maybe fields.Manufacturer m.manufacturer
    ∷ maybe fields.ModelTag m.model
    ∷ maybe fields.HwRev m.hw_rev
    ∷ maybe fields.SwRev m.sw_rev
    ∷ maybe fields.Dom m.dom
    ∷ maybe fields.SerialNumber m.serial_number
    ∷ maybe fields.MachineID m.id
    ∷ maybe_as time_text fields.TimeTag m.time
    ∷ maybe fields.OpTime m.op_time
    ∷ maybe fields.MosRev m.mos_rev
    ∷ [])

-- and behind them
unfoldable pub mach_rest_events : MachInfo → List Event
mach_rest_events m = joined (
    raws fields.DefaultActiveX m.default_active_x
    ∷ raws fields.Metadata m.metadata
    ∷ raws fields.Kept m.others
    ∷ [])

unfoldable pub mach_info_events : MachInfo → List Event
mach_info_events m = mach_head_events m ++ supported_events m.supported_profiles ++ mach_rest_events m

abbrev pub ack_status_text : AckStatus → Text
ack_status_text Ack = codes "ACK"
ack_status_text Nack = codes "NACK"

unfoldable pub mos_ack_events : MosAck → List Event
mos_ack_events a = joined (
    must fields.ObjID a.obj
    ∷ maybe_as rev_text fields.ObjRev a.rev
    ∷ must fields.Status (ack_status_text a.status)
    ∷ maybe fields.StatusDescription a.description
    ∷ [])
