-- Objects, machines and states as their canonical encodings write them.
use Rattle.std.proofs.Common.{◌≡◌, ℕ, zero, suc, ◌≤◌, ◌+◌, Bool, true, false, List, [], ◌∷◌, ◌++◌, Option, Some, None, refl, sym, ap, subst, ◌∙◌, append_assoc, arith}
use Rattle.std.specs.List.{AllByRecursion}
use Rattle.std.specs.Fmt.{decimal}
use Rattle.std.proofs.lemmas.List.{append-nil}
use Rattle.mos_fields.specs.Characters.{Text}
use Rattle.mos_fields.specs.Fields.{name_of}
use Rattle.mos_fields.specs.Forms.{among, reads}
use Rattle.mos_fields.specs.Values.{samples_text, rev_text, air_text, obj_type_text, time_text}
use Rattle.mos_fields.specs.declared.field.Field.TheVariants as fields
use Rattle.mos_fields.specs.declared.form.Form.TheVariants as forms
use Rattle.mos_tables.specs.declared.column.Column.{Column}
use Rattle.mos_tables.specs.declared.column.Shape.TheVariants.{Leaf, Raw, Record}
use Rattle.mos_tables.specs.declared.column.Often.TheVariants.{One, Optional, Any}
use Rattle.mos_tables.specs.declared.table.Table.{Table}
use Rattle.mos_tables.specs.declared.table.Table.TheVariants as tables
use Rattle.mos_tables.specs.Tables.{column, words_of, required, optional, optional_raw, raw_list}
use Rattle.mos_tables.specs.Events.{Attribute, Event, leaf}
use Rattle.mos_grammar.specs.Records.{Child, keys, flat}
use Rattle.mos_cursor.specs.Parts.{kept_column}
use Rattle.mos_values.specs.Parts.{must, maybe, maybe_as, must_raw, maybe_raw, raws, joined, attribute}
use Rattle.encoding_laws.specs.Fitting.{TextsFit}
use Rattle.encoding_laws.proofs.Pieces.{Canonical}
use Rattle.encoding_laws.proofs.Assembled.{Segment, assembled}
use Rattle.encoding_laws.proofs.KindSegments.{record_segment, absent_segment}
use Rattle.encoding_laws.proofs.LevelTexts.{Level, level_none, level_both, splits, level_must, level_maybe, level_maybe_as, level_must_raw, level_maybe_raw, level_raws, level_element, level_joined, texts_of_parts, EachFits, raws_of_parts, must_part, maybe_part, maybe_as_part, must_raw_part, maybe_raw_part, raws_part, kept_part}
use Rattle.encoding_laws.proofs.Keys.{joined_append}
use Rattle.mos_values.specs.declared.mos_obj.MosObj.{MosObj}
use Rattle.mos_values.specs.declared.mach_info.MachInfo.{MachInfo}
use Rattle.mos_values.specs.declared.profile.DeviceType.{DeviceType}
use Rattle.mos_values.specs.declared.profile.DeviceType.TheVariants.{Ncs, Mos}
use Rattle.mos_values.specs.declared.profile.Profile.{Profile}
use Rattle.mos_values.specs.declared.profile.SupportedProfiles.{SupportedProfiles}
use Rattle.mos_values.specs.declared.mos_ack.MosAck.{MosAck}
use Rattle.mos_values.specs.declared.element_stat.ElementStat.{ElementStat}
use Rattle.mos_values.specs.declared.story_send.StorySend.{StorySend}
use Rattle.mos_values.specs.Views.{mos_obj_events, mach_head_events, mach_rest_events, mach_info_events, supported_events, profiles_events, profile_events, device_type_text, answer_text, ack_status_text, mos_ack_events, element_stat_events, story_send_events}
use Rattle.std.proofs.lemmas.Fmt.{decimal_digit}
use Rattle.encoding_laws.proofs.Pieces.{leaf_piece}
use Rattle.encoding_laws.proofs.Assembled.{ColumnPiece, ColumnPieces, HasNoKey}
use Rattle.encoding_laws.proofs.KindSegments.{field_named, segment_of}
use Rattle.encoding_laws.proofs.LevelTexts.{level_leaf}

abbrev mos_obj_parts : MosObj → List (List Event)
mos_obj_parts v = must fields.ObjID v.id ∷ maybe fields.ObjSlug v.slug ∷ maybe_raw fields.MosAbstract v.mos_abstract ∷ maybe fields.ObjGroup v.group ∷ maybe_as obj_type_text fields.ObjType v.obj_type ∷ maybe_as samples_text fields.ObjTB v.time_base ∷ maybe_as rev_text fields.ObjRev v.rev ∷ maybe_as samples_text fields.ObjDur v.dur ∷ maybe fields.Status v.status ∷ maybe_as air_text fields.ObjAir v.air ∷ maybe_raw fields.ObjPaths v.obj_paths ∷ maybe fields.CreatedBy v.created_by ∷ maybe fields.Created v.created ∷ maybe fields.ChangedBy v.changed_by ∷ maybe fields.Changed v.changed ∷ maybe_raw fields.Description v.description ∷ raws fields.Metadata v.metadata ∷ raws fields.Kept v.others ∷ []

mos_obj_levels : (v : MosObj) → AllByRecursion Level (mos_obj_parts v)
mos_obj_levels v = (level_must fields.ObjID v.id, (level_maybe fields.ObjSlug v.slug, (level_maybe_raw fields.MosAbstract v.mos_abstract, (level_maybe fields.ObjGroup v.group, (level_maybe_as obj_type_text fields.ObjType v.obj_type, (level_maybe_as samples_text fields.ObjTB v.time_base, (level_maybe_as rev_text fields.ObjRev v.rev, (level_maybe_as samples_text fields.ObjDur v.dur, (level_maybe fields.Status v.status, (level_maybe_as air_text fields.ObjAir v.air, (level_maybe_raw fields.ObjPaths v.obj_paths, (level_maybe fields.CreatedBy v.created_by, (level_maybe fields.Created v.created, (level_maybe fields.ChangedBy v.changed_by, (level_maybe fields.Changed v.changed, (level_maybe_raw fields.Description v.description, (level_raws fields.Metadata v.metadata, (level_raws fields.Kept v.others, tt))))))))))))))))))

pub level_mos_obj : (v : MosObj) → Level (mos_obj_events v)
unfolding mos_obj_events
level_mos_obj v = level_joined (mos_obj_parts v) (mos_obj_levels v)

pub mos_obj_canonical : (v : MosObj) (taken : List Text) (ts : List Table) → EachFits tables.MosObj (mos_obj_events v) → TextsFit (tables.MosObj ∷ ts) (mos_obj_events v) → Canonical tables.MosObj taken (mos_obj_events v)
unfolding mos_obj_events
mos_obj_canonical v taken ts sound texts =
    let h = texts_of_parts (mos_obj_parts v) (mos_obj_levels v) tables.MosObj ts texts in
    let s = raws_of_parts (mos_obj_parts v) tables.MosObj sound in
    let b0 : List Child = [] in
    let z0 : Segment tables.MosObj taken b0 (required fields.ObjID forms.Id) (must fields.ObjID v.id) = must_part tables.MosObj taken b0 ts fields.ObjID forms.Id v.id ((refl, refl, refl, refl), refl, refl) h.0 in
    let b1 : List Child = b0 ++ z0.children in
    let z1 : Segment tables.MosObj taken b1 (optional fields.ObjSlug forms.Slug) (maybe fields.ObjSlug v.slug) = maybe_part tables.MosObj taken b1 ts fields.ObjSlug forms.Slug v.slug ((refl, refl, refl, refl), refl, refl) h.1.0 in
    let b2 : List Child = b1 ++ z1.children in
    let z2 : Segment tables.MosObj taken b2 (optional_raw fields.MosAbstract) (maybe_raw fields.MosAbstract v.mos_abstract) = maybe_raw_part tables.MosObj taken b2 fields.MosAbstract v.mos_abstract (refl, refl, refl) s.1.1.0 in
    let b3 : List Child = b2 ++ z2.children in
    let z3 : Segment tables.MosObj taken b3 (optional fields.ObjGroup forms.Text) (maybe fields.ObjGroup v.group) = maybe_part tables.MosObj taken b3 ts fields.ObjGroup forms.Text v.group ((refl, refl, refl, refl), refl, refl) h.1.1.1.0 in
    let b4 : List Child = b3 ++ z3.children in
    let z4 : Segment tables.MosObj taken b4 (optional fields.ObjType forms.ObjType) (maybe_as obj_type_text fields.ObjType v.obj_type) = maybe_as_part obj_type_text tables.MosObj taken b4 ts fields.ObjType forms.ObjType v.obj_type ((refl, refl, refl, refl), refl, refl) h.1.1.1.1.0 in
    let b5 : List Child = b4 ++ z4.children in
    let z5 : Segment tables.MosObj taken b5 (optional fields.ObjTB forms.Samples) (maybe_as samples_text fields.ObjTB v.time_base) = maybe_as_part samples_text tables.MosObj taken b5 ts fields.ObjTB forms.Samples v.time_base ((refl, refl, refl, refl), refl, refl) h.1.1.1.1.1.0 in
    let b6 : List Child = b5 ++ z5.children in
    let z6 : Segment tables.MosObj taken b6 (optional fields.ObjRev forms.Rev) (maybe_as rev_text fields.ObjRev v.rev) = maybe_as_part rev_text tables.MosObj taken b6 ts fields.ObjRev forms.Rev v.rev ((refl, refl, refl, refl), refl, refl) h.1.1.1.1.1.1.0 in
    let b7 : List Child = b6 ++ z6.children in
    let z7 : Segment tables.MosObj taken b7 (optional fields.ObjDur forms.Samples) (maybe_as samples_text fields.ObjDur v.dur) = maybe_as_part samples_text tables.MosObj taken b7 ts fields.ObjDur forms.Samples v.dur ((refl, refl, refl, refl), refl, refl) h.1.1.1.1.1.1.1.0 in
    let b8 : List Child = b7 ++ z7.children in
    let z8 : Segment tables.MosObj taken b8 (optional fields.Status forms.Text) (maybe fields.Status v.status) = maybe_part tables.MosObj taken b8 ts fields.Status forms.Text v.status ((refl, refl, refl, refl), refl, refl) h.1.1.1.1.1.1.1.1.0 in
    let b9 : List Child = b8 ++ z8.children in
    let z9 : Segment tables.MosObj taken b9 (optional fields.ObjAir forms.Air) (maybe_as air_text fields.ObjAir v.air) = maybe_as_part air_text tables.MosObj taken b9 ts fields.ObjAir forms.Air v.air ((refl, refl, refl, refl), refl, refl) h.1.1.1.1.1.1.1.1.1.0 in
    let b10 : List Child = b9 ++ z9.children in
    let z10 : Segment tables.MosObj taken b10 (optional_raw fields.ObjPaths) (maybe_raw fields.ObjPaths v.obj_paths) = maybe_raw_part tables.MosObj taken b10 fields.ObjPaths v.obj_paths (refl, refl, refl) s.1.1.1.1.1.1.1.1.1.1.0 in
    let b11 : List Child = b10 ++ z10.children in
    let z11 : Segment tables.MosObj taken b11 (optional fields.CreatedBy forms.Text) (maybe fields.CreatedBy v.created_by) = maybe_part tables.MosObj taken b11 ts fields.CreatedBy forms.Text v.created_by ((refl, refl, refl, refl), refl, refl) h.1.1.1.1.1.1.1.1.1.1.1.0 in
    let b12 : List Child = b11 ++ z11.children in
    let z12 : Segment tables.MosObj taken b12 (optional fields.Created forms.Text) (maybe fields.Created v.created) = maybe_part tables.MosObj taken b12 ts fields.Created forms.Text v.created ((refl, refl, refl, refl), refl, refl) h.1.1.1.1.1.1.1.1.1.1.1.1.0 in
    let b13 : List Child = b12 ++ z12.children in
    let z13 : Segment tables.MosObj taken b13 (optional fields.ChangedBy forms.Text) (maybe fields.ChangedBy v.changed_by) = maybe_part tables.MosObj taken b13 ts fields.ChangedBy forms.Text v.changed_by ((refl, refl, refl, refl), refl, refl) h.1.1.1.1.1.1.1.1.1.1.1.1.1.0 in
    let b14 : List Child = b13 ++ z13.children in
    let z14 : Segment tables.MosObj taken b14 (optional fields.Changed forms.Text) (maybe fields.Changed v.changed) = maybe_part tables.MosObj taken b14 ts fields.Changed forms.Text v.changed ((refl, refl, refl, refl), refl, refl) h.1.1.1.1.1.1.1.1.1.1.1.1.1.1.0 in
    let b15 : List Child = b14 ++ z14.children in
    let z15 : Segment tables.MosObj taken b15 (optional_raw fields.Description) (maybe_raw fields.Description v.description) = maybe_raw_part tables.MosObj taken b15 fields.Description v.description (refl, refl, refl) s.1.1.1.1.1.1.1.1.1.1.1.1.1.1.1.0 in
    let b16 : List Child = b15 ++ z15.children in
    let z16 : Segment tables.MosObj taken b16 (raw_list fields.Metadata) (raws fields.Metadata v.metadata) = raws_part tables.MosObj taken b16 fields.Metadata v.metadata (refl, refl, refl) s.1.1.1.1.1.1.1.1.1.1.1.1.1.1.1.1.0 in
    let b17 : List Child = b16 ++ z16.children in
    let z17 : Segment tables.MosObj taken b17 kept_column (raws fields.Kept v.others) = kept_part tables.MosObj taken b17 v.others refl s.1.1.1.1.1.1.1.1.1.1.1.1.1.1.1.1.1.0 in
    let b18 : List Child = b17 ++ z17.children in
    assembled tables.MosObj taken (mos_obj_parts v) refl (z0, (z1, (z2, (z3, (z4, (z5, (z6, (z7, (z8, (z9, (z10, (z11, (z12, (z13, (z14, (z15, (z16, (z17, tt))))))))))))))))))

abbrev mos_ack_parts : MosAck → List (List Event)
mos_ack_parts v = must fields.ObjID v.obj ∷ maybe_as rev_text fields.ObjRev v.rev ∷ must fields.Status (ack_status_text v.status) ∷ maybe fields.StatusDescription v.description ∷ []

mos_ack_levels : (v : MosAck) → AllByRecursion Level (mos_ack_parts v)
mos_ack_levels v = (level_must fields.ObjID v.obj, (level_maybe_as rev_text fields.ObjRev v.rev, (level_must fields.Status (ack_status_text v.status), (level_maybe fields.StatusDescription v.description, tt))))

pub level_mos_ack : (v : MosAck) → Level (mos_ack_events v)
unfolding mos_ack_events
level_mos_ack v = level_joined (mos_ack_parts v) (mos_ack_levels v)

pub mos_ack_canonical : (v : MosAck) (taken : List Text) (ts : List Table) → TextsFit (tables.MosAck ∷ ts) (mos_ack_events v) → Canonical tables.MosAck taken (mos_ack_events v)
unfolding mos_ack_events
mos_ack_canonical v taken ts texts =
    let h = texts_of_parts (mos_ack_parts v) (mos_ack_levels v) tables.MosAck ts texts in
    let b0 : List Child = [] in
    let z0 : Segment tables.MosAck taken b0 (required fields.ObjID forms.OptId) (must fields.ObjID v.obj) = must_part tables.MosAck taken b0 ts fields.ObjID forms.OptId v.obj ((refl, refl, refl, refl), refl, refl) h.0 in
    let b1 : List Child = b0 ++ z0.children in
    let z1 : Segment tables.MosAck taken b1 (optional fields.ObjRev forms.Rev) (maybe_as rev_text fields.ObjRev v.rev) = maybe_as_part rev_text tables.MosAck taken b1 ts fields.ObjRev forms.Rev v.rev ((refl, refl, refl, refl), refl, refl) h.1.0 in
    let b2 : List Child = b1 ++ z1.children in
    let z2 : Segment tables.MosAck taken b2 (required fields.Status forms.AckWord) (must fields.Status (ack_status_text v.status)) = must_part tables.MosAck taken b2 ts fields.Status forms.AckWord (ack_status_text v.status) ((refl, refl, refl, refl), refl, refl) h.1.1.0 in
    let b3 : List Child = b2 ++ z2.children in
    let z3 : Segment tables.MosAck taken b3 (optional fields.StatusDescription forms.Text) (maybe fields.StatusDescription v.description) = maybe_part tables.MosAck taken b3 ts fields.StatusDescription forms.Text v.description ((refl, refl, refl, refl), refl, refl) h.1.1.1.0 in
    let b4 : List Child = b3 ++ z3.children in
    assembled tables.MosAck taken (mos_ack_parts v) refl (z0, (z1, (z2, (z3, tt))))

abbrev element_stat_parts : ElementStat → List (List Event)
element_stat_parts v = must fields.RoID v.ro ∷ maybe fields.StoryID v.story ∷ maybe fields.ItemID v.item ∷ maybe fields.ObjID v.obj ∷ maybe fields.ItemChannel v.channel ∷ must fields.Status v.status ∷ must fields.TimeTag (time_text v.time) ∷ []

element_stat_levels : (v : ElementStat) → AllByRecursion Level (element_stat_parts v)
element_stat_levels v = (level_must fields.RoID v.ro, (level_maybe fields.StoryID v.story, (level_maybe fields.ItemID v.item, (level_maybe fields.ObjID v.obj, (level_maybe fields.ItemChannel v.channel, (level_must fields.Status v.status, (level_must fields.TimeTag (time_text v.time), tt)))))))

pub level_element_stat : (v : ElementStat) → Level (element_stat_events v)
unfolding element_stat_events
level_element_stat v = level_joined (element_stat_parts v) (element_stat_levels v)

pub element_stat_canonical : (v : ElementStat) (taken : List Text) (ts : List Table) → TextsFit (tables.ElementStat ∷ ts) (element_stat_events v) → Canonical tables.ElementStat taken (element_stat_events v)
unfolding element_stat_events
element_stat_canonical v taken ts texts =
    let h = texts_of_parts (element_stat_parts v) (element_stat_levels v) tables.ElementStat ts texts in
    let b0 : List Child = [] in
    let z0 : Segment tables.ElementStat taken b0 (required fields.RoID forms.Id) (must fields.RoID v.ro) = must_part tables.ElementStat taken b0 ts fields.RoID forms.Id v.ro ((refl, refl, refl, refl), refl, refl) h.0 in
    let b1 : List Child = b0 ++ z0.children in
    let z1 : Segment tables.ElementStat taken b1 (optional fields.StoryID forms.OptId) (maybe fields.StoryID v.story) = maybe_part tables.ElementStat taken b1 ts fields.StoryID forms.OptId v.story ((refl, refl, refl, refl), refl, refl) h.1.0 in
    let b2 : List Child = b1 ++ z1.children in
    let z2 : Segment tables.ElementStat taken b2 (optional fields.ItemID forms.OptId) (maybe fields.ItemID v.item) = maybe_part tables.ElementStat taken b2 ts fields.ItemID forms.OptId v.item ((refl, refl, refl, refl), refl, refl) h.1.1.0 in
    let b3 : List Child = b2 ++ z2.children in
    let z3 : Segment tables.ElementStat taken b3 (optional fields.ObjID forms.OptId) (maybe fields.ObjID v.obj) = maybe_part tables.ElementStat taken b3 ts fields.ObjID forms.OptId v.obj ((refl, refl, refl, refl), refl, refl) h.1.1.1.0 in
    let b4 : List Child = b3 ++ z3.children in
    let z4 : Segment tables.ElementStat taken b4 (optional fields.ItemChannel forms.Text) (maybe fields.ItemChannel v.channel) = maybe_part tables.ElementStat taken b4 ts fields.ItemChannel forms.Text v.channel ((refl, refl, refl, refl), refl, refl) h.1.1.1.1.0 in
    let b5 : List Child = b4 ++ z4.children in
    let z5 : Segment tables.ElementStat taken b5 (required fields.Status forms.Text) (must fields.Status v.status) = must_part tables.ElementStat taken b5 ts fields.Status forms.Text v.status ((refl, refl, refl, refl), refl, refl) h.1.1.1.1.1.0 in
    let b6 : List Child = b5 ++ z5.children in
    let z6 : Segment tables.ElementStat taken b6 (required fields.TimeTag forms.Time) (must fields.TimeTag (time_text v.time)) = must_part tables.ElementStat taken b6 ts fields.TimeTag forms.Time (time_text v.time) ((refl, refl, refl, refl), refl, refl) h.1.1.1.1.1.1.0 in
    let b7 : List Child = b6 ++ z6.children in
    assembled tables.ElementStat taken (element_stat_parts v) refl (z0, (z1, (z2, (z3, (z4, (z5, (z6, tt)))))))

abbrev story_send_parts : StorySend → List (List Event)
story_send_parts v = must fields.RoID v.ro ∷ must fields.StoryID v.story ∷ maybe fields.StorySlug v.slug ∷ maybe fields.StoryNum v.num ∷ must_raw fields.StoryBody v.body ∷ raws fields.Metadata v.metadata ∷ raws fields.Kept v.others ∷ []

story_send_levels : (v : StorySend) → AllByRecursion Level (story_send_parts v)
story_send_levels v = (level_must fields.RoID v.ro, (level_must fields.StoryID v.story, (level_maybe fields.StorySlug v.slug, (level_maybe fields.StoryNum v.num, (level_must_raw fields.StoryBody v.body, (level_raws fields.Metadata v.metadata, (level_raws fields.Kept v.others, tt)))))))

pub level_story_send : (v : StorySend) → Level (story_send_events v)
unfolding story_send_events
level_story_send v = level_joined (story_send_parts v) (story_send_levels v)

pub story_send_canonical : (v : StorySend) (taken : List Text) (ts : List Table) → EachFits tables.StorySend (story_send_events v) → TextsFit (tables.StorySend ∷ ts) (story_send_events v) → Canonical tables.StorySend taken (story_send_events v)
unfolding story_send_events
story_send_canonical v taken ts sound texts =
    let h = texts_of_parts (story_send_parts v) (story_send_levels v) tables.StorySend ts texts in
    let s = raws_of_parts (story_send_parts v) tables.StorySend sound in
    let b0 : List Child = [] in
    let z0 : Segment tables.StorySend taken b0 (required fields.RoID forms.Id) (must fields.RoID v.ro) = must_part tables.StorySend taken b0 ts fields.RoID forms.Id v.ro ((refl, refl, refl, refl), refl, refl) h.0 in
    let b1 : List Child = b0 ++ z0.children in
    let z1 : Segment tables.StorySend taken b1 (required fields.StoryID forms.Id) (must fields.StoryID v.story) = must_part tables.StorySend taken b1 ts fields.StoryID forms.Id v.story ((refl, refl, refl, refl), refl, refl) h.1.0 in
    let b2 : List Child = b1 ++ z1.children in
    let z2 : Segment tables.StorySend taken b2 (optional fields.StorySlug forms.Slug) (maybe fields.StorySlug v.slug) = maybe_part tables.StorySend taken b2 ts fields.StorySlug forms.Slug v.slug ((refl, refl, refl, refl), refl, refl) h.1.1.0 in
    let b3 : List Child = b2 ++ z2.children in
    let z3 : Segment tables.StorySend taken b3 (optional fields.StoryNum forms.Text) (maybe fields.StoryNum v.num) = maybe_part tables.StorySend taken b3 ts fields.StoryNum forms.Text v.num ((refl, refl, refl, refl), refl, refl) h.1.1.1.0 in
    let b4 : List Child = b3 ++ z3.children in
    let z4 : Segment tables.StorySend taken b4 (column fields.StoryBody Raw One) (must_raw fields.StoryBody v.body) = must_raw_part tables.StorySend taken b4 fields.StoryBody v.body (refl, refl, refl) s.1.1.1.1.0 in
    let b5 : List Child = b4 ++ z4.children in
    let z5 : Segment tables.StorySend taken b5 (raw_list fields.Metadata) (raws fields.Metadata v.metadata) = raws_part tables.StorySend taken b5 fields.Metadata v.metadata (refl, refl, refl) s.1.1.1.1.1.0 in
    let b6 : List Child = b5 ++ z5.children in
    let z6 : Segment tables.StorySend taken b6 kept_column (raws fields.Kept v.others) = kept_part tables.StorySend taken b6 v.others refl s.1.1.1.1.1.1.0 in
    let b7 : List Child = b6 ++ z6.children in
    assembled tables.StorySend taken (story_send_parts v) refl (z0, (z1, (z2, (z3, (z4, (z5, (z6, tt)))))))

-- ---- profiles

digit_text : (n : ℕ) → n ≤ 9 → among ((48 + n) ∷ []) (words_of fields.Number) ≡ true
digit_text zero h = refl
digit_text (suc zero) h = refl
digit_text (suc (suc zero)) h = refl
digit_text (suc (suc (suc zero))) h = refl
digit_text (suc (suc (suc (suc zero)))) h = refl
digit_text (suc (suc (suc (suc (suc zero))))) h = refl
digit_text (suc (suc (suc (suc (suc (suc zero)))))) h = refl
digit_text (suc (suc (suc (suc (suc (suc (suc zero))))))) h = refl
digit_text (suc (suc (suc (suc (suc (suc (suc (suc zero)))))))) h = refl
digit_text (suc (suc (suc (suc (suc (suc (suc (suc (suc zero))))))))) h = refl
digit_text (suc (suc (suc (suc (suc (suc (suc (suc (suc (suc n)))))))))) h = absurd (omega (arith, h))

digit_word : (n : ℕ) → n ≤ 9 → among (decimal n) (words_of fields.Number) ≡ true
digit_word n h = ap (λ (z : Text). among z (words_of fields.Number)) (decimal_digit n (omega (arith, h))) ∙ digit_text n h

answer_reads : (b : Bool) (taken : List Text) → reads forms.Profile taken (answer_text b) ≡ Some (answer_text b)
unfolding reads
answer_reads true taken = refl
answer_reads false taken = refl

profile_children : List Profile → List Child
profile_children [] = []
profile_children (p ∷ ps) = (fields.MosProfile, leaf (name_of fields.MosProfile) (attribute fields.Number (decimal p.number) ∷ []) (answer_text p.supported) ∷ []) ∷ profile_children ps

abbrev profile_column : Column
profile_column = column fields.MosProfile (Leaf forms.Profile) Any

profile_pieces : (taken : List Text) (b : List Child) (ps : List Profile) → ColumnPieces tables.SupportedProfiles taken b profile_column (profile_children ps)
unfolding profile_children
profile_pieces taken b [] = tt
profile_pieces taken b (p ∷ ps) =
    let g : List Attribute = attribute fields.Number (decimal p.number) ∷ [] in
    let y : Text = answer_text p.supported in
    let w : ColumnPiece tables.SupportedProfiles taken b profile_column (fields.MosProfile, leaf (name_of fields.MosProfile) g y ∷ []) = record {
      name = name_of fields.MosProfile;
      named = refl;
      place = refl;
      piece = leaf_piece tables.SupportedProfiles taken b (name_of fields.MosProfile) profile_column forms.Profile g y refl refl (decimal p.number, refl, digit_word p.number p.digit) (answer_reads p.supported taken) (field_named fields.MosProfile refl);
    } in
    (w, profile_pieces taken (b ++ (fields.MosProfile, leaf (name_of fields.MosProfile) g y ∷ []) ∷ []) ps)

profile_flat : (ps : List Profile) → flat (profile_children ps) ≡ profiles_events ps
unfolding profile_children profiles_events profile_events
profile_flat [] = refl
profile_flat (p ∷ ps) = ap (λ (z : List Event). leaf (name_of fields.MosProfile) (attribute fields.Number (decimal p.number) ∷ []) (answer_text p.supported) ∷ z) (profile_flat ps)

profile_keyless : (ps : List Profile) → AllByRecursion HasNoKey (profile_children ps)
unfolding profile_children
profile_keyless [] = tt
profile_keyless (p ∷ ps) = (refl, profile_keyless ps)

profiles_canonical : (ps : List Profile) (taken : List Text) → Canonical tables.SupportedProfiles taken (profiles_events ps)
profiles_canonical ps taken =
    let z : Segment tables.SupportedProfiles taken [] profile_column (flat (profile_children ps)) = segment_of tables.SupportedProfiles taken [] profile_column (profile_children ps) refl (profile_pieces taken [] ps) tt (omega arith) (λ e. profile_keyless ps) in
    subst (Canonical tables.SupportedProfiles taken) (append-nil (flat (profile_children ps)) ∙ profile_flat ps) (assembled tables.SupportedProfiles taken (flat (profile_children ps) ∷ []) refl (z, tt))

level_profiles : (ps : List Profile) → Level (profiles_events ps)
unfolding profiles_events profile_events
level_profiles [] = level_none
level_profiles (p ∷ ps) = level_leaf (name_of fields.MosProfile) (attribute fields.Number (decimal p.number) ∷ []) (answer_text p.supported) (level_profiles ps)

level_supported : (s : Option SupportedProfiles) → Level (supported_events s)
unfolding supported_events
level_supported None = level_none
level_supported (Some s) = level_element (name_of fields.SupportedProfilesTag) (attribute fields.DeviceType (device_type_text s.device_type) ∷ []) (profiles_events s.profiles) (level_profiles s.profiles)

device_word : (d : DeviceType) → among (device_type_text d) (words_of fields.DeviceType) ≡ true
device_word Ncs = refl
device_word Mos = refl

supported_part : (taken : List Text) (b : List Child) (s : Option SupportedProfiles) → Segment tables.ListMachInfo taken b (column fields.SupportedProfilesTag (Record tables.SupportedProfiles) Optional) (supported_events s)
unfolding supported_events
supported_part taken b None = absent_segment tables.ListMachInfo taken b fields.SupportedProfilesTag (Record tables.SupportedProfiles) Optional refl (omega arith) (omega arith)
supported_part taken b (Some s) =
    record_segment tables.ListMachInfo taken b fields.SupportedProfilesTag tables.SupportedProfiles Optional (attribute fields.DeviceType (device_type_text s.device_type) ∷ []) (profiles_events s.profiles) (refl, refl, refl)
    (device_type_text s.device_type, refl, device_word s.device_type) (profiles_canonical s.profiles (keys tables.ListMachInfo b)) (omega arith) (omega arith)

-- ---- machines

abbrev mach_head_parts : MachInfo → List (List Event)
mach_head_parts v = maybe fields.Manufacturer v.manufacturer ∷ maybe fields.ModelTag v.model ∷ maybe fields.HwRev v.hw_rev ∷ maybe fields.SwRev v.sw_rev ∷ maybe fields.Dom v.dom ∷ maybe fields.SerialNumber v.serial_number ∷ maybe fields.MachineID v.id ∷ maybe_as time_text fields.TimeTag v.time ∷ maybe fields.OpTime v.op_time ∷ maybe fields.MosRev v.mos_rev ∷ []

mach_head_levels : (v : MachInfo) → AllByRecursion Level (mach_head_parts v)
mach_head_levels v = (level_maybe fields.Manufacturer v.manufacturer, (level_maybe fields.ModelTag v.model, (level_maybe fields.HwRev v.hw_rev, (level_maybe fields.SwRev v.sw_rev, (level_maybe fields.Dom v.dom, (level_maybe fields.SerialNumber v.serial_number, (level_maybe fields.MachineID v.id, (level_maybe_as time_text fields.TimeTag v.time, (level_maybe fields.OpTime v.op_time, (level_maybe fields.MosRev v.mos_rev, tt))))))))))

abbrev mach_rest_parts : MachInfo → List (List Event)
mach_rest_parts v = raws fields.DefaultActiveX v.default_active_x ∷ raws fields.Metadata v.metadata ∷ raws fields.Kept v.others ∷ []

mach_rest_levels : (v : MachInfo) → AllByRecursion Level (mach_rest_parts v)
mach_rest_levels v = (level_raws fields.DefaultActiveX v.default_active_x, (level_raws fields.Metadata v.metadata, (level_raws fields.Kept v.others, tt)))

level_mach_head : (v : MachInfo) → Level (mach_head_events v)
unfolding mach_head_events
level_mach_head v = level_joined (mach_head_parts v) (mach_head_levels v)

level_mach_rest : (v : MachInfo) → Level (mach_rest_events v)
unfolding mach_rest_events
level_mach_rest v = level_joined (mach_rest_parts v) (mach_rest_levels v)

pub level_mach_info : (v : MachInfo) → Level (mach_info_events v)
unfolding mach_info_events
level_mach_info v = level_both (mach_rest_events v) (level_both (supported_events v.supported_profiles) (level_mach_head v) (level_supported v.supported_profiles)) (level_mach_rest v)

mach_joined : (v : MachInfo) → joined (mach_head_parts v ++ (supported_events v.supported_profiles ∷ mach_rest_parts v)) ≡ mach_info_events v
unfolding mach_info_events mach_head_events mach_rest_events
mach_joined v =
    let x : List Event = supported_events v.supported_profiles in
    joined_append (mach_head_parts v) (x ∷ mach_rest_parts v) ∙ sym (append_assoc (joined (mach_head_parts v)) x (joined (mach_rest_parts v)))

pub mach_info_canonical : (v : MachInfo) (taken : List Text) (ts : List Table) → EachFits tables.ListMachInfo (mach_rest_events v) → TextsFit (tables.ListMachInfo ∷ ts) (mach_info_events v) → Canonical tables.ListMachInfo taken (mach_info_events v)
unfolding mach_info_events mach_head_events mach_rest_events
mach_info_canonical v taken ts sound texts =
    let q = splits (level_both (supported_events v.supported_profiles) (level_mach_head v) (level_supported v.supported_profiles)) tables.ListMachInfo ts (mach_rest_events v) texts in
    let p = splits (level_mach_head v) tables.ListMachInfo ts (supported_events v.supported_profiles) q.0 in
    let h = texts_of_parts (mach_head_parts v) (mach_head_levels v) tables.ListMachInfo ts p.0 in
    let s = raws_of_parts (mach_rest_parts v) tables.ListMachInfo sound in
    let b0 : List Child = [] in
    let z0 : Segment tables.ListMachInfo taken b0 (optional fields.Manufacturer forms.Text) (maybe fields.Manufacturer v.manufacturer) = maybe_part tables.ListMachInfo taken b0 ts fields.Manufacturer forms.Text v.manufacturer ((refl, refl, refl, refl), refl, refl) h.0 in
    let b1 : List Child = b0 ++ z0.children in
    let z1 : Segment tables.ListMachInfo taken b1 (optional fields.ModelTag forms.Text) (maybe fields.ModelTag v.model) = maybe_part tables.ListMachInfo taken b1 ts fields.ModelTag forms.Text v.model ((refl, refl, refl, refl), refl, refl) h.1.0 in
    let b2 : List Child = b1 ++ z1.children in
    let z2 : Segment tables.ListMachInfo taken b2 (optional fields.HwRev forms.Text) (maybe fields.HwRev v.hw_rev) = maybe_part tables.ListMachInfo taken b2 ts fields.HwRev forms.Text v.hw_rev ((refl, refl, refl, refl), refl, refl) h.1.1.0 in
    let b3 : List Child = b2 ++ z2.children in
    let z3 : Segment tables.ListMachInfo taken b3 (optional fields.SwRev forms.Text) (maybe fields.SwRev v.sw_rev) = maybe_part tables.ListMachInfo taken b3 ts fields.SwRev forms.Text v.sw_rev ((refl, refl, refl, refl), refl, refl) h.1.1.1.0 in
    let b4 : List Child = b3 ++ z3.children in
    let z4 : Segment tables.ListMachInfo taken b4 (optional fields.Dom forms.Text) (maybe fields.Dom v.dom) = maybe_part tables.ListMachInfo taken b4 ts fields.Dom forms.Text v.dom ((refl, refl, refl, refl), refl, refl) h.1.1.1.1.0 in
    let b5 : List Child = b4 ++ z4.children in
    let z5 : Segment tables.ListMachInfo taken b5 (optional fields.SerialNumber forms.Text) (maybe fields.SerialNumber v.serial_number) = maybe_part tables.ListMachInfo taken b5 ts fields.SerialNumber forms.Text v.serial_number ((refl, refl, refl, refl), refl, refl) h.1.1.1.1.1.0 in
    let b6 : List Child = b5 ++ z5.children in
    let z6 : Segment tables.ListMachInfo taken b6 (optional fields.MachineID forms.Text) (maybe fields.MachineID v.id) = maybe_part tables.ListMachInfo taken b6 ts fields.MachineID forms.Text v.id ((refl, refl, refl, refl), refl, refl) h.1.1.1.1.1.1.0 in
    let b7 : List Child = b6 ++ z6.children in
    let z7 : Segment tables.ListMachInfo taken b7 (optional fields.TimeTag forms.Time) (maybe_as time_text fields.TimeTag v.time) = maybe_as_part time_text tables.ListMachInfo taken b7 ts fields.TimeTag forms.Time v.time ((refl, refl, refl, refl), refl, refl) h.1.1.1.1.1.1.1.0 in
    let b8 : List Child = b7 ++ z7.children in
    let z8 : Segment tables.ListMachInfo taken b8 (optional fields.OpTime forms.Text) (maybe fields.OpTime v.op_time) = maybe_part tables.ListMachInfo taken b8 ts fields.OpTime forms.Text v.op_time ((refl, refl, refl, refl), refl, refl) h.1.1.1.1.1.1.1.1.0 in
    let b9 : List Child = b8 ++ z8.children in
    let z9 : Segment tables.ListMachInfo taken b9 (optional fields.MosRev forms.Text) (maybe fields.MosRev v.mos_rev) = maybe_part tables.ListMachInfo taken b9 ts fields.MosRev forms.Text v.mos_rev ((refl, refl, refl, refl), refl, refl) h.1.1.1.1.1.1.1.1.1.0 in
    let b10 : List Child = b9 ++ z9.children in
    let z10 : Segment tables.ListMachInfo taken b10 (column fields.SupportedProfilesTag (Record tables.SupportedProfiles) Optional) (supported_events v.supported_profiles) = supported_part taken b10 v.supported_profiles in
    let b11 : List Child = b10 ++ z10.children in
    let z11 : Segment tables.ListMachInfo taken b11 (raw_list fields.DefaultActiveX) (raws fields.DefaultActiveX v.default_active_x) = raws_part tables.ListMachInfo taken b11 fields.DefaultActiveX v.default_active_x (refl, refl, refl) s.0 in
    let b12 : List Child = b11 ++ z11.children in
    let z12 : Segment tables.ListMachInfo taken b12 (raw_list fields.Metadata) (raws fields.Metadata v.metadata) = raws_part tables.ListMachInfo taken b12 fields.Metadata v.metadata (refl, refl, refl) s.1.0 in
    let b13 : List Child = b12 ++ z12.children in
    let z13 : Segment tables.ListMachInfo taken b13 kept_column (raws fields.Kept v.others) = kept_part tables.ListMachInfo taken b13 v.others refl s.1.1.0 in
    let b14 : List Child = b13 ++ z13.children in
    subst (Canonical tables.ListMachInfo taken) (mach_joined v) (assembled tables.ListMachInfo taken (mach_head_parts v ++ (supported_events v.supported_profiles ∷ mach_rest_parts v)) refl (z0, (z1, (z2, (z3, (z4, (z5, (z6, (z7, (z8, (z9, (z10, (z11, (z12, (z13, tt)))))))))))))))
