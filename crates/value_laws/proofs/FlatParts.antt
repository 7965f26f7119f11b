-- The fields of a record are flat: no record begins or ends among them.
use Rattle.std.proofs.Common.{List, [], ◌∷◌, ◌++◌, Option, Some, None}
use Rattle.mos_fields.specs.Characters.{Text}
use Rattle.mos_fields.specs.Fields.{name_of}
use Rattle.mos_fields.specs.Values.{samples_text, rev_text, air_text, obj_type_text, time_text}
use Rattle.mos_fields.specs.declared.field.Field.{Field}
use Rattle.mos_fields.specs.declared.field.Field.TheVariants as fields
use Rattle.mos_tables.specs.Events.{Event}
use Rattle.mos_values.specs.Parts.{must, maybe, maybe_as, must_raw, maybe_raw, raws}
use Rattle.mos_values.specs.Views.{header_events, patch_events, item_events, story_head_events, story_send_events, mos_obj_events, profile_events, profiles_events, mach_head_events, mach_rest_events}
use Rattle.mos_values.specs.declared.header.Header.{Header}
use Rattle.mos_values.specs.declared.header.HeaderPatch.{HeaderPatch}
use Rattle.mos_values.specs.declared.item.Item.{Item}
use Rattle.mos_values.specs.declared.mach_info.MachInfo.{MachInfo}
use Rattle.mos_values.specs.declared.mos_obj.MosObj.{MosObj}
use Rattle.mos_values.specs.declared.profile.Profile.{Profile}
use Rattle.mos_values.specs.declared.story_send.StorySend.{StorySend}
use Rattle.mos_values.specs.StoryValue.{Story}
use Rattle.value_laws.proofs.FittingRaws.{Flat, flat_none, flat_leaf, flat_raw}

pub flat_then : {x y : List Event} → Flat x → Flat y → Flat (x ++ y)
flat_then flat_none q = q
flat_then (flat_leaf n g v p) q = flat_leaf n g v (flat_then p q)
flat_then (flat_raw f v p) q = flat_raw f v (flat_then p q)

-- ---- fields

pub flat_must : (f : Field) (x : Text) → Flat (must f x)
unfolding must
flat_must f x = flat_leaf (name_of f) [] x flat_none

pub flat_maybe : (f : Field) (x : Option Text) → Flat (maybe f x)
unfolding maybe
flat_maybe f None = flat_none
flat_maybe f (Some x) = flat_must f x

flat_maybe_as : {A : Type 0} (write : A → Text) (f : Field) (x : Option A) → Flat (maybe_as write f x)
unfolding maybe_as
flat_maybe_as write f None = flat_none
flat_maybe_as write f (Some x) = flat_must f (write x)

flat_must_raw : (f : Field) (x : Text) → Flat (must_raw f x)
unfolding must_raw
flat_must_raw f x = flat_raw f x flat_none

flat_maybe_raw : (f : Field) (x : Option Text) → Flat (maybe_raw f x)
unfolding maybe_raw
flat_maybe_raw f None = flat_none
flat_maybe_raw f (Some x) = flat_must_raw f x

flat_raws : (f : Field) (xs : List Text) → Flat (raws f xs)
unfolding raws
flat_raws f [] = flat_none
flat_raws f (x ∷ xs) = flat_raw f x (flat_raws f xs)

-- ---- records

pub flat_header : (h : Header) → Flat (header_events h)
unfolding header_events
flat_header h = flat_then (flat_must fields.RoID h.ro) (flat_then (flat_must fields.RoSlug h.slug) (flat_then (flat_maybe fields.RoChannel h.channel) (flat_then (flat_maybe fields.RoEdStart h.ed_start) (flat_then (flat_maybe fields.RoEdDur h.ed_dur) (flat_then (flat_maybe fields.RoTrigger h.trigger) (flat_then (flat_maybe fields.MacroIn h.macro_in) (flat_then (flat_maybe fields.MacroOut h.macro_out) (flat_then (flat_raws fields.Metadata h.metadata) (flat_then (flat_raws fields.Kept h.others) flat_none)))))))))

pub flat_patch : (h : HeaderPatch) → Flat (patch_events h)
unfolding patch_events
flat_patch h = flat_then (flat_must fields.RoID h.ro) (flat_then (flat_maybe fields.RoSlug h.slug) (flat_then (flat_maybe fields.RoChannel h.channel) (flat_then (flat_maybe fields.RoEdStart h.ed_start) (flat_then (flat_maybe fields.RoEdDur h.ed_dur) (flat_then (flat_maybe fields.RoTrigger h.trigger) (flat_then (flat_maybe fields.MacroIn h.macro_in) (flat_then (flat_maybe fields.MacroOut h.macro_out) (flat_then (flat_raws fields.Metadata h.metadata) (flat_then (flat_raws fields.Kept h.others) flat_none)))))))))

pub flat_item : (i : Item) → Flat (item_events i)
unfolding item_events
flat_item i = flat_then (flat_must fields.ItemID i.id) (flat_then (flat_maybe fields.ItemSlug i.slug) (flat_then (flat_must fields.ObjID i.obj) (flat_then (flat_must fields.MosID i.mos) (flat_then (flat_maybe_raw fields.MosAbstract i.mos_abstract) (flat_then (flat_maybe_raw fields.ObjPaths i.obj_paths) (flat_then (flat_maybe fields.ItemChannel i.channel) (flat_then (flat_maybe_as samples_text fields.ItemEdStart i.ed_start) (flat_then (flat_maybe_as samples_text fields.ItemEdDur i.ed_dur) (flat_then (flat_maybe_as samples_text fields.ItemUserTimingDur i.user_timing_dur) (flat_then (flat_maybe fields.ItemTrigger i.trigger) (flat_then (flat_maybe fields.MacroIn i.macro_in) (flat_then (flat_maybe fields.MacroOut i.macro_out) (flat_then (flat_raws fields.Metadata i.metadata) (flat_then (flat_raws fields.Kept i.others) flat_none))))))))))))))

pub flat_story_head : (s : Story) → Flat (story_head_events s)
unfolding story_head_events
flat_story_head s = flat_then (flat_must fields.StoryID s.id) (flat_then (flat_maybe fields.StorySlug s.slug) (flat_then (flat_maybe fields.StoryNum s.num) (flat_then (flat_raws fields.Metadata s.metadata) (flat_then (flat_raws fields.Kept s.others) flat_none))))

pub flat_story_send : (s : StorySend) → Flat (story_send_events s)
unfolding story_send_events
flat_story_send s = flat_then (flat_must fields.RoID s.ro) (flat_then (flat_must fields.StoryID s.story) (flat_then (flat_maybe fields.StorySlug s.slug) (flat_then (flat_maybe fields.StoryNum s.num) (flat_then (flat_must_raw fields.StoryBody s.body) (flat_then (flat_raws fields.Metadata s.metadata) (flat_then (flat_raws fields.Kept s.others) flat_none))))))

pub flat_mos_obj : (o : MosObj) → Flat (mos_obj_events o)
unfolding mos_obj_events
flat_mos_obj o = flat_then (flat_must fields.ObjID o.id) (flat_then (flat_maybe fields.ObjSlug o.slug) (flat_then (flat_maybe_raw fields.MosAbstract o.mos_abstract) (flat_then (flat_maybe fields.ObjGroup o.group) (flat_then (flat_maybe_as obj_type_text fields.ObjType o.obj_type) (flat_then (flat_maybe_as samples_text fields.ObjTB o.time_base) (flat_then (flat_maybe_as rev_text fields.ObjRev o.rev) (flat_then (flat_maybe_as samples_text fields.ObjDur o.dur) (flat_then (flat_maybe fields.Status o.status) (flat_then (flat_maybe_as air_text fields.ObjAir o.air) (flat_then (flat_maybe_raw fields.ObjPaths o.obj_paths) (flat_then (flat_maybe fields.CreatedBy o.created_by) (flat_then (flat_maybe fields.Created o.created) (flat_then (flat_maybe fields.ChangedBy o.changed_by) (flat_then (flat_maybe fields.Changed o.changed) (flat_then (flat_maybe_raw fields.Description o.description) (flat_then (flat_raws fields.Metadata o.metadata) (flat_then (flat_raws fields.Kept o.others) flat_none)))))))))))))))))

pub flat_mach_head : (m : MachInfo) → Flat (mach_head_events m)
unfolding mach_head_events
flat_mach_head m = flat_then (flat_maybe fields.Manufacturer m.manufacturer) (flat_then (flat_maybe fields.ModelTag m.model) (flat_then (flat_maybe fields.HwRev m.hw_rev) (flat_then (flat_maybe fields.SwRev m.sw_rev) (flat_then (flat_maybe fields.Dom m.dom) (flat_then (flat_maybe fields.SerialNumber m.serial_number) (flat_then (flat_maybe fields.MachineID m.id) (flat_then (flat_maybe_as time_text fields.TimeTag m.time) (flat_then (flat_maybe fields.OpTime m.op_time) (flat_then (flat_maybe fields.MosRev m.mos_rev) flat_none)))))))))

pub flat_mach_rest : (m : MachInfo) → Flat (mach_rest_events m)
unfolding mach_rest_events
flat_mach_rest m = flat_then (flat_raws fields.DefaultActiveX m.default_active_x) (flat_then (flat_raws fields.Metadata m.metadata) (flat_then (flat_raws fields.Kept m.others) flat_none))

pub flat_profiles : (ps : List Profile) → Flat (profiles_events ps)
unfolding profiles_events profile_events
flat_profiles [] = flat_none
flat_profiles (p ∷ ps) = flat_leaf _ _ _ (flat_profiles ps)
