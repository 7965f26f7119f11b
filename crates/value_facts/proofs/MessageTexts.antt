-- The texts of messages.
use Rattle.std.proofs.Common.{List, [], ◌∷◌, ◌++◌, Option, Some, None, refl}
use Rattle.std.specs.Fmt.{decimal}
use Rattle.std.specs.List.{flat_map}
use Rattle.mos_fields.specs.Fields.{name_of}
use Rattle.mos_fields.specs.Values.{samples_text, rev_text, air_text, obj_type_text, time_text}
use Rattle.mos_fields.specs.declared.field.Field.TheVariants as fields
use Rattle.mos_fields.specs.declared.form.Form.TheVariants as forms
use Rattle.mos_tables.specs.declared.column.Often.TheVariants.{One, Optional, Any}
use Rattle.mos_tables.specs.declared.table.Table.TheVariants as tables
use Rattle.mos_tables.specs.Events.{Event}
use Rattle.mos_values.specs.declared.ack_group.AckGroup.{AckGroup}
use Rattle.mos_values.specs.declared.element_stat.ElementStat.{ElementStat}
use Rattle.mos_values.specs.declared.mach_info.MachInfo.{MachInfo}
use Rattle.mos_values.specs.declared.mos_ack.MosAck.{MosAck}
use Rattle.mos_values.specs.declared.mos_obj.MosObj.{MosObj}
use Rattle.mos_values.specs.declared.profile.Profile.{Profile}
use Rattle.mos_values.specs.declared.profile.SupportedProfiles.{SupportedProfiles}
use Rattle.mos_values.specs.declared.ro_ack.RoAck.{RoAck}
use Rattle.mos_values.specs.declared.story_send.StorySend.{StorySend}
use Rattle.mos_values.specs.Parts.{must, maybe, maybe_as, must_raw, maybe_raw, raws, attribute, element}
use Rattle.mos_values.specs.Views.{element_stat_events, group_events, groups_events, ro_ack_events, story_send_events, mos_obj_events, objects_events, ack_status_text, answer_text, device_type_text, profile_events, profiles_events, supported_events, mach_head_events, mach_rest_events, mach_info_events, mos_ack_events}
use Rattle.value_facts.specs.FitValues.{IsFitStat, IsFitGroup, AreFitGroups, IsFitRoAck, IsFitMosAck, IsFitObject, AreFitObjects, IsFitSend, IsFitMachine}
use Rattle.value_facts.proofs.Fine.{Fine, none_fine, both_fine, joined_fine, element_fine, listed_fine, leaf_fine, must_fine, maybe_fine, written_fine, raw_fine, maybe_raw_fine, raws_fine}
use Rattle.value_facts.proofs.WordTexts.{air_text_is, obj_type_text_is, ack_status_text_is, answer_text_is, time_text_is, if_any}

abbrev group_parts : AckGroup → List (List Event)
group_parts g =
    must fields.StoryID g.story
    ∷ must fields.ItemID g.item
    ∷ must fields.ObjID g.obj
    ∷ maybe fields.ItemChannel g.channel
    ∷ must fields.Status g.status
    ∷ []

pub group_fine : (g : AckGroup) → IsFitGroup g → Fine tables.RoAck (group_events g)
unfolding group_events
group_fine g f = joined_fine tables.RoAck (group_parts g) (
  must_fine tables.RoAck fields.StoryID forms.OptId One g.story refl f.0,
  (
    must_fine tables.RoAck fields.ItemID forms.OptId One g.item refl f.1,
    (
      must_fine tables.RoAck fields.ObjID forms.OptId One g.obj refl f.2,
      (
        maybe_fine tables.RoAck fields.ItemChannel forms.Text Optional g.channel refl f.3,
        (must_fine tables.RoAck fields.Status forms.Text One g.status refl f.4, tt),
      ),
    ),
  ),
)

abbrev stat_parts : ElementStat → List (List Event)
stat_parts e =
    must fields.RoID e.ro
    ∷ maybe fields.StoryID e.story
    ∷ maybe fields.ItemID e.item
    ∷ maybe fields.ObjID e.obj
    ∷ maybe fields.ItemChannel e.channel
    ∷ must fields.Status e.status
    ∷ must fields.TimeTag (time_text e.time)
    ∷ []

pub stat_fine : (e : ElementStat) → IsFitStat e → Fine tables.ElementStat (element_stat_events e)
unfolding element_stat_events
stat_fine e f = joined_fine tables.ElementStat (stat_parts e) (
  must_fine tables.ElementStat fields.RoID forms.Id One e.ro refl f.0,
  (
    maybe_fine tables.ElementStat fields.StoryID forms.OptId Optional e.story refl f.1,
    (
      maybe_fine tables.ElementStat fields.ItemID forms.OptId Optional e.item refl f.2,
      (
        maybe_fine tables.ElementStat fields.ObjID forms.OptId Optional e.obj refl f.3,
        (
          maybe_fine tables.ElementStat fields.ItemChannel forms.Text Optional e.channel refl f.4,
          (
            must_fine tables.ElementStat fields.Status forms.Text One e.status refl f.5,
            (must_fine tables.ElementStat fields.TimeTag forms.Time One (time_text e.time) refl (time_text_is e.time), tt),
          ),
        ),
      ),
    ),
  ),
)

abbrev send_parts : StorySend → List (List Event)
send_parts s =
    must fields.RoID s.ro
    ∷ must fields.StoryID s.story
    ∷ maybe fields.StorySlug s.slug
    ∷ maybe fields.StoryNum s.num
    ∷ must_raw fields.StoryBody s.body
    ∷ raws fields.Metadata s.metadata
    ∷ raws fields.Kept s.others
    ∷ []

pub send_fine : (s : StorySend) → IsFitSend s → Fine tables.StorySend (story_send_events s)
unfolding story_send_events
send_fine s f = joined_fine tables.StorySend (send_parts s) (
  must_fine tables.StorySend fields.RoID forms.Id One s.ro refl f.0,
  (
    must_fine tables.StorySend fields.StoryID forms.Id One s.story refl f.1,
    (
      maybe_fine tables.StorySend fields.StorySlug forms.Slug Optional s.slug refl f.2,
      (
        maybe_fine tables.StorySend fields.StoryNum forms.Text Optional s.num refl f.3,
        (
          raw_fine tables.StorySend fields.StoryBody s.body f.4,
          (
            raws_fine tables.StorySend fields.Metadata s.metadata f.5,
            (raws_fine tables.StorySend fields.Kept s.others f.6, tt),
          ),
        ),
      ),
    ),
  ),
)

abbrev object_parts : MosObj → List (List Event)
object_parts o =
    must fields.ObjID o.id
    ∷ maybe fields.ObjSlug o.slug
    ∷ maybe_raw fields.MosAbstract o.mos_abstract
    ∷ maybe fields.ObjGroup o.group
    ∷ maybe_as obj_type_text fields.ObjType o.obj_type
    ∷ maybe_as samples_text fields.ObjTB o.time_base
    ∷ maybe_as rev_text fields.ObjRev o.rev
    ∷ maybe_as samples_text fields.ObjDur o.dur
    ∷ maybe fields.Status o.status
    ∷ maybe_as air_text fields.ObjAir o.air
    ∷ maybe_raw fields.ObjPaths o.obj_paths
    ∷ maybe fields.CreatedBy o.created_by
    ∷ maybe fields.Created o.created
    ∷ maybe fields.ChangedBy o.changed_by
    ∷ maybe fields.Changed o.changed
    ∷ maybe_raw fields.Description o.description
    ∷ raws fields.Metadata o.metadata
    ∷ raws fields.Kept o.others
    ∷ []

pub object_fine : (o : MosObj) → IsFitObject o → Fine tables.MosObj (mos_obj_events o)
unfolding mos_obj_events
object_fine o f = joined_fine tables.MosObj (object_parts o) (
  must_fine tables.MosObj fields.ObjID forms.Id One o.id refl f.0,
  (
    maybe_fine tables.MosObj fields.ObjSlug forms.Slug Optional o.slug refl f.1,
    (
      maybe_raw_fine tables.MosObj fields.MosAbstract o.mos_abstract f.2,
      (
        maybe_fine tables.MosObj fields.ObjGroup forms.Text Optional o.group refl f.3,
        (
          written_fine obj_type_text tables.MosObj fields.ObjType forms.ObjType Optional o.obj_type refl (if_any obj_type_text forms.ObjType obj_type_text_is o.obj_type),
          (
            written_fine samples_text tables.MosObj fields.ObjTB forms.Samples Optional o.time_base refl f.4,
            (
              written_fine rev_text tables.MosObj fields.ObjRev forms.Rev Optional o.rev refl f.5,
              (
                written_fine samples_text tables.MosObj fields.ObjDur forms.Samples Optional o.dur refl f.6,
                (
                  maybe_fine tables.MosObj fields.Status forms.Text Optional o.status refl f.7,
                  (
                    written_fine air_text tables.MosObj fields.ObjAir forms.Air Optional o.air refl (if_any air_text forms.Air air_text_is o.air),
                    (
                      maybe_raw_fine tables.MosObj fields.ObjPaths o.obj_paths f.8,
                      (
                        maybe_fine tables.MosObj fields.CreatedBy forms.Text Optional o.created_by refl f.9,
                        (
                          maybe_fine tables.MosObj fields.Created forms.Text Optional o.created refl f.10,
                          (
                            maybe_fine tables.MosObj fields.ChangedBy forms.Text Optional o.changed_by refl f.11,
                            (
                              maybe_fine tables.MosObj fields.Changed forms.Text Optional o.changed refl f.12,
                              (
                                maybe_raw_fine tables.MosObj fields.Description o.description f.13,
                                (
                                  raws_fine tables.MosObj fields.Metadata o.metadata f.14,
                                  (raws_fine tables.MosObj fields.Kept o.others f.15, tt),
                                ),
                              ),
                            ),
                          ),
                        ),
                      ),
                    ),
                  ),
                ),
              ),
            ),
          ),
        ),
      ),
    ),
  ),
)

abbrev mos_ack_parts : MosAck → List (List Event)
mos_ack_parts a =
    must fields.ObjID a.obj
    ∷ maybe_as rev_text fields.ObjRev a.rev
    ∷ must fields.Status (ack_status_text a.status)
    ∷ maybe fields.StatusDescription a.description
    ∷ []

pub mos_ack_fine : (a : MosAck) → IsFitMosAck a → Fine tables.MosAck (mos_ack_events a)
unfolding mos_ack_events
mos_ack_fine a f = joined_fine tables.MosAck (mos_ack_parts a) (
  must_fine tables.MosAck fields.ObjID forms.OptId One a.obj refl f.0,
  (
    written_fine rev_text tables.MosAck fields.ObjRev forms.Rev Optional a.rev refl f.1,
    (
      must_fine tables.MosAck fields.Status forms.AckWord One (ack_status_text a.status) refl (ack_status_text_is a.status),
      (maybe_fine tables.MosAck fields.StatusDescription forms.Text Optional a.description refl f.2, tt),
    ),
  ),
)

abbrev mach_head_parts : MachInfo → List (List Event)
mach_head_parts m =
    maybe fields.Manufacturer m.manufacturer
    ∷ maybe fields.ModelTag m.model
    ∷ maybe fields.HwRev m.hw_rev
    ∷ maybe fields.SwRev m.sw_rev
    ∷ maybe fields.Dom m.dom
    ∷ maybe fields.SerialNumber m.serial_number
    ∷ maybe fields.MachineID m.id
    ∷ maybe_as time_text fields.TimeTag m.time
    ∷ maybe fields.OpTime m.op_time
    ∷ maybe fields.MosRev m.mos_rev
    ∷ []

pub mach_head_fine : (m : MachInfo) → IsFitMachine m → Fine tables.ListMachInfo (mach_head_events m)
unfolding mach_head_events
mach_head_fine m f = joined_fine tables.ListMachInfo (mach_head_parts m) (
  maybe_fine tables.ListMachInfo fields.Manufacturer forms.Text Optional m.manufacturer refl f.0,
  (
    maybe_fine tables.ListMachInfo fields.ModelTag forms.Text Optional m.model refl f.1,
    (
      maybe_fine tables.ListMachInfo fields.HwRev forms.Text Optional m.hw_rev refl f.2,
      (
        maybe_fine tables.ListMachInfo fields.SwRev forms.Text Optional m.sw_rev refl f.3,
        (
          maybe_fine tables.ListMachInfo fields.Dom forms.Text Optional m.dom refl f.4,
          (
            maybe_fine tables.ListMachInfo fields.SerialNumber forms.Text Optional m.serial_number refl f.5,
            (
              maybe_fine tables.ListMachInfo fields.MachineID forms.Text Optional m.id refl f.6,
              (
                written_fine time_text tables.ListMachInfo fields.TimeTag forms.Time Optional m.time refl (if_any time_text forms.Time time_text_is m.time),
                (
                  maybe_fine tables.ListMachInfo fields.OpTime forms.Text Optional m.op_time refl f.7,
                  (maybe_fine tables.ListMachInfo fields.MosRev forms.Text Optional m.mos_rev refl f.8, tt),
                ),
              ),
            ),
          ),
        ),
      ),
    ),
  ),
)

abbrev mach_rest_parts : MachInfo → List (List Event)
mach_rest_parts m =
    raws fields.DefaultActiveX m.default_active_x
    ∷ raws fields.Metadata m.metadata
    ∷ raws fields.Kept m.others
    ∷ []

pub mach_rest_fine : (m : MachInfo) → IsFitMachine m → Fine tables.ListMachInfo (mach_rest_events m)
unfolding mach_rest_events
mach_rest_fine m f = joined_fine tables.ListMachInfo (mach_rest_parts m) (
  raws_fine tables.ListMachInfo fields.DefaultActiveX m.default_active_x f.9,
  (
    raws_fine tables.ListMachInfo fields.Metadata m.metadata f.10,
    (raws_fine tables.ListMachInfo fields.Kept m.others f.11, tt),
  ),
)

-- ---- records of records

groups_fine : (gs : List AckGroup) → AreFitGroups gs → Fine tables.RoAck (groups_events gs)
unfolding groups_events
groups_fine gs f = listed_fine tables.RoAck IsFitGroup group_events gs group_fine f

pub ro_ack_fine : (a : RoAck) → IsFitRoAck a → Fine tables.RoAck (ro_ack_events a)
unfolding ro_ack_events
ro_ack_fine a f = both_fine tables.RoAck (must fields.RoID a.ro ++ must fields.RoStatus a.status) (groups_events a.groups)
    (both_fine tables.RoAck (must fields.RoID a.ro) (must fields.RoStatus a.status) (must_fine tables.RoAck fields.RoID forms.OptId One a.ro refl f.0) (must_fine tables.RoAck fields.RoStatus forms.Slug One a.status refl f.1))
    (groups_fine a.groups f.2)

pub objects_fine : (os : List MosObj) → AreFitObjects os → Fine tables.MosListAll (objects_events os)
unfolding objects_events
objects_fine os f = listed_fine tables.MosListAll IsFitObject (λ (o : MosObj). element (name_of fields.MosObjTag) (mos_obj_events o)) os (λ o k. element_fine tables.MosListAll (name_of fields.MosObjTag) [] (mos_obj_events o) (object_fine o k)) f

-- ---- machines

profile_fine : (p : Profile) → Fine tables.SupportedProfiles (profile_events p)
unfolding profile_events
profile_fine p = leaf_fine tables.SupportedProfiles fields.MosProfile (attribute fields.Number (decimal p.number) ∷ []) forms.Profile Any (answer_text p.supported) refl (answer_text_is p.supported)

profiles_fine : (ps : List Profile) → Fine tables.SupportedProfiles (profiles_events ps)
unfolding profiles_events
profiles_fine [] = none_fine tables.SupportedProfiles
profiles_fine (p ∷ ps) = both_fine tables.SupportedProfiles (profile_events p) (flat_map profile_events ps) (profile_fine p) (profiles_fine ps)

supported_fine : (s : Option SupportedProfiles) → Fine tables.ListMachInfo (supported_events s)
unfolding supported_events
supported_fine None = none_fine tables.ListMachInfo
supported_fine (Some s) = element_fine tables.ListMachInfo (name_of fields.SupportedProfilesTag) (attribute fields.DeviceType (device_type_text s.device_type) ∷ []) (profiles_events s.profiles) (profiles_fine s.profiles)

pub machine_fine : (m : MachInfo) → IsFitMachine m → Fine tables.ListMachInfo (mach_info_events m)
unfolding mach_info_events
machine_fine m f = both_fine tables.ListMachInfo (mach_head_events m ++ supported_events m.supported_profiles) (mach_rest_events m)
    (both_fine tables.ListMachInfo (mach_head_events m) (supported_events m.supported_profiles) (mach_head_fine m f) (supported_fine m.supported_profiles))
    (mach_rest_fine m f)
