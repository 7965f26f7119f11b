-- Objects, stories with their text, statuses and acknowledgements are read off their events.
use Rattle.std.proofs.Common.{◌≡◌, true, false, List, [], ◌∷◌, ◌++◌, Option, Some, None, refl, sym, ap}
use Rattle.std.specs.List.{AllByRecursion}
use Rattle.mos_fields.specs.Characters.{Text}
use Rattle.mos_fields.specs.Fields.{name_of, same}
use Rattle.mos_fields.specs.Values.{samples_text, rev_text, time_text, air_text, obj_type_text}
use Rattle.mos_fields.specs.declared.field.Field.{Field}
use Rattle.mos_fields.specs.declared.field.Field.TheVariants as fields
use Rattle.mos_tables.specs.Events.{Event, leaf}
use Rattle.mos_values.specs.Parts.{must, maybe}
use Rattle.mos_values.specs.Views.{element_stat_events, group_events, groups_events, ro_ack_events, story_send_events, mos_obj_events, objects_events, ack_status_text, mos_ack_events}
use Rattle.mos_values.specs.declared.ack_group.AckGroup.{AckGroup}
use Rattle.mos_values.specs.declared.element_stat.ElementStat.{ElementStat}
use Rattle.mos_values.specs.declared.mos_ack.MosAck.{MosAck}
use Rattle.mos_values.specs.declared.mos_obj.MosObj.{MosObj}
use Rattle.mos_values.specs.declared.ro_ack.RoAck.{RoAck}
use Rattle.mos_values.specs.declared.story_send.StorySend.{StorySend}
use Rattle.value_laws.specs.Ranges.{IsSmall, IsObjectInRange}
use Rattle.value_laws.proofs.FieldParts.{Part, must_part, maybe_part, maybe_as_part, must_raw_part, maybe_raw_part, raws_part, events_of, texts_at, same_texts, flat_fields, fields_pin, a_text, an_option, an_option_as, a_list}
use Rattle.value_laws.proofs.FieldValues.{a_number, one_time, one_air, one_type, one_ack}
use Rattle.value_laws.proofs.FlatEvents.{Both, Ends, Pins, cut, ends_stops, listed_pins, each, all_fine, false_true}

-- ---- objects

abbrev pub object_parts : MosObj → List Part
object_parts a =
    must_part fields.ObjID a.id
    ∷ maybe_part fields.ObjSlug a.slug
    ∷ maybe_raw_part fields.MosAbstract a.mos_abstract
    ∷ maybe_part fields.ObjGroup a.group
    ∷ maybe_as_part obj_type_text fields.ObjType a.obj_type
    ∷ maybe_as_part samples_text fields.ObjTB a.time_base
    ∷ maybe_as_part rev_text fields.ObjRev a.rev
    ∷ maybe_as_part samples_text fields.ObjDur a.dur
    ∷ maybe_part fields.Status a.status
    ∷ maybe_as_part air_text fields.ObjAir a.air
    ∷ maybe_raw_part fields.ObjPaths a.obj_paths
    ∷ maybe_part fields.CreatedBy a.created_by
    ∷ maybe_part fields.Created a.created
    ∷ maybe_part fields.ChangedBy a.changed_by
    ∷ maybe_part fields.Changed a.changed
    ∷ maybe_raw_part fields.Description a.description
    ∷ raws_part fields.Metadata a.metadata
    ∷ raws_part fields.Kept a.others
    ∷ []

object_only : (a b : MosObj) → IsObjectInRange a → IsObjectInRange b → events_of (object_parts a) ≡ events_of (object_parts b) → a ≡ b
object_only a b f g e = λ i. record {
  id = (a_text a.id b.id (leaf_of fields.ObjID)) i;
  slug = (an_option a.slug b.slug (leaf_of fields.ObjSlug)) i;
  mos_abstract = (an_option a.mos_abstract b.mos_abstract (raw_of fields.MosAbstract)) i;
  group = (an_option a.group b.group (leaf_of fields.ObjGroup)) i;
  obj_type = (an_option_as obj_type_text one_type a.obj_type b.obj_type (leaf_of fields.ObjType)) i;
  time_base = (a_number a.time_base b.time_base f.0 g.0 (leaf_of fields.ObjTB)) i;
  rev = (a_number a.rev b.rev f.1 g.1 (leaf_of fields.ObjRev)) i;
  dur = (a_number a.dur b.dur f.2 g.2 (leaf_of fields.ObjDur)) i;
  status = (an_option a.status b.status (leaf_of fields.Status)) i;
  air = (an_option_as air_text one_air a.air b.air (leaf_of fields.ObjAir)) i;
  obj_paths = (an_option a.obj_paths b.obj_paths (raw_of fields.ObjPaths)) i;
  created_by = (an_option a.created_by b.created_by (leaf_of fields.CreatedBy)) i;
  created = (an_option a.created b.created (leaf_of fields.Created)) i;
  changed_by = (an_option a.changed_by b.changed_by (leaf_of fields.ChangedBy)) i;
  changed = (an_option a.changed b.changed (leaf_of fields.Changed)) i;
  description = (an_option a.description b.description (raw_of fields.Description)) i;
  metadata = (a_list a.metadata b.metadata (raw_of fields.Metadata)) i;
  others = (a_list a.others b.others (raw_of fields.Kept)) i;
}
  where
    leaf_of : (x : Field) → texts_at false x (object_parts a) ≡ texts_at false x (object_parts b)
    leaf_of x = same_texts false x (object_parts a) (object_parts b) e

    raw_of : (x : Field) → texts_at true x (object_parts a) ≡ texts_at true x (object_parts b)
    raw_of x = same_texts true x (object_parts a) (object_parts b) e

pub object_pins : Pins IsObjectInRange mos_obj_events
unfolding mos_obj_events
object_pins = fields_pin IsObjectInRange object_parts object_only

pub objects_pins : Pins (AllByRecursion IsObjectInRange) objects_events
unfolding objects_events
objects_pins = each IsObjectInRange mos_obj_events object_pins (name_of fields.MosObjTag)

abbrev pub ack_parts : MosAck → List Part
ack_parts a =
    must_part fields.ObjID a.obj
    ∷ maybe_as_part rev_text fields.ObjRev a.rev
    ∷ must_part fields.Status (ack_status_text a.status)
    ∷ maybe_part fields.StatusDescription a.description
    ∷ []

ack_only : (a b : MosAck) → IsSmall a.rev → IsSmall b.rev → events_of (ack_parts a) ≡ events_of (ack_parts b) → a ≡ b
ack_only a b f g e = λ i. record {
  obj = (a_text a.obj b.obj (leaf_of fields.ObjID)) i;
  rev = (a_number a.rev b.rev f g (leaf_of fields.ObjRev)) i;
  status = (one_ack a.status b.status (a_text (ack_status_text a.status) (ack_status_text b.status) (leaf_of fields.Status))) i;
  description = (an_option a.description b.description (leaf_of fields.StatusDescription)) i;
}
  where
    leaf_of : (x : Field) → texts_at false x (ack_parts a) ≡ texts_at false x (ack_parts b)
    leaf_of x = same_texts false x (ack_parts a) (ack_parts b) e

pub ack_pins : Pins (λ (a : MosAck). IsSmall a.rev) mos_ack_events
unfolding mos_ack_events
ack_pins = fields_pin (λ (a : MosAck). IsSmall a.rev) ack_parts ack_only

-- ---- stories with their text

abbrev pub send_parts : StorySend → List Part
send_parts a =
    must_part fields.RoID a.ro
    ∷ must_part fields.StoryID a.story
    ∷ maybe_part fields.StorySlug a.slug
    ∷ maybe_part fields.StoryNum a.num
    ∷ must_raw_part fields.StoryBody a.body
    ∷ raws_part fields.Metadata a.metadata
    ∷ raws_part fields.Kept a.others
    ∷ []

send_only : (a b : StorySend) → Unit {0} → Unit {0} → events_of (send_parts a) ≡ events_of (send_parts b) → a ≡ b
send_only a b f g e = λ i. record {
  ro = (a_text a.ro b.ro (leaf_of fields.RoID)) i;
  story = (a_text a.story b.story (leaf_of fields.StoryID)) i;
  slug = (an_option a.slug b.slug (leaf_of fields.StorySlug)) i;
  num = (an_option a.num b.num (leaf_of fields.StoryNum)) i;
  body = (a_text a.body b.body (raw_of fields.StoryBody)) i;
  metadata = (a_list a.metadata b.metadata (raw_of fields.Metadata)) i;
  others = (a_list a.others b.others (raw_of fields.Kept)) i;
}
  where
    leaf_of : (x : Field) → texts_at false x (send_parts a) ≡ texts_at false x (send_parts b)
    leaf_of x = same_texts false x (send_parts a) (send_parts b) e

    raw_of : (x : Field) → texts_at true x (send_parts a) ≡ texts_at true x (send_parts b)
    raw_of x = same_texts true x (send_parts a) (send_parts b) e

pub send_pins : Pins (λ (a : StorySend). Unit {0}) story_send_events
unfolding story_send_events
send_pins = fields_pin (λ (a : StorySend). Unit {0}) send_parts send_only

-- ---- statuses, whose level is an attribute

abbrev pub stat_parts : ElementStat → List Part
stat_parts a =
    must_part fields.RoID a.ro
    ∷ maybe_part fields.StoryID a.story
    ∷ maybe_part fields.ItemID a.item
    ∷ maybe_part fields.ObjID a.obj
    ∷ maybe_part fields.ItemChannel a.channel
    ∷ must_part fields.Status a.status
    ∷ must_part fields.TimeTag (time_text a.time)
    ∷ []

stat_only : (a b : ElementStat) → a.level ≡ b.level → events_of (stat_parts a) ≡ events_of (stat_parts b) → a ≡ b
stat_only a b same_level e = λ i. record {
  level = same_level i;
  ro = (a_text a.ro b.ro (leaf_of fields.RoID)) i;
  story = (an_option a.story b.story (leaf_of fields.StoryID)) i;
  item = (an_option a.item b.item (leaf_of fields.ItemID)) i;
  obj = (an_option a.obj b.obj (leaf_of fields.ObjID)) i;
  channel = (an_option a.channel b.channel (leaf_of fields.ItemChannel)) i;
  status = (a_text a.status b.status (leaf_of fields.Status)) i;
  time = (one_time a.time b.time (a_text (time_text a.time) (time_text b.time) (leaf_of fields.TimeTag))) i;
}
  where
    leaf_of : (x : Field) → texts_at false x (stat_parts a) ≡ texts_at false x (stat_parts b)
    leaf_of x = same_texts false x (stat_parts a) (stat_parts b) e

pub stat_pinned : (a b : ElementStat) (r s : List Event) → a.level ≡ b.level → Ends r → Ends s → element_stat_events a ++ r ≡ element_stat_events b ++ s → a ≡ b
unfolding element_stat_events
stat_pinned a b r s l i j h = stat_only a b l (cut (events_of (stat_parts a)) (events_of (stat_parts b)) r s (flat_fields (stat_parts a)) (flat_fields (stat_parts b)) (ends_stops r i) (ends_stops s j) h).0

-- ---- acknowledgements with groups

leaf_name : List Event → Text
leaf_name (leaf n g x ∷ es) = n
leaf_name es = []

-- behind a group's objID
behind_object : (c d : Option Text) (x y : Text) (r s : List Event) → (maybe fields.ItemChannel c ++ must fields.Status x) ++ r ≡ (maybe fields.ItemChannel d ++ must fields.Status y) ++ s → (c ≡ d) × (x ≡ y) × (r ≡ s)
unfolding maybe must leaf_name
behind_object None None x y r s h = (refl, cc, cc)
behind_object None (Some d) x y r s h = absurd (false_true (ap (λ es. same (leaf_name es) (name_of fields.Status)) (sym h)))
behind_object (Some c) None x y r s h = absurd (false_true (ap (λ es. same (leaf_name es) (name_of fields.Status)) h))
behind_object (Some c) (Some d) x y r s h = (cc, cc, cc)

group_front : (a b : AckGroup) (r s : List Event) → Unit {0} → Unit {0} → group_events a ++ r ≡ group_events b ++ s → Both a b r s
unfolding group_events must
group_front a b r s f g h =
    let R : List Event = (maybe fields.ItemChannel a.channel ++ must fields.Status a.status) ++ r in
    let S : List Event = (maybe fields.ItemChannel b.channel ++ must fields.Status b.status) ++ s in
    let e : leaf (name_of fields.StoryID) [] a.story ∷ leaf (name_of fields.ItemID) [] a.item ∷ leaf (name_of fields.ObjID) [] a.obj ∷ R
    ≡ leaf (name_of fields.StoryID) [] b.story ∷ leaf (name_of fields.ItemID) [] b.item ∷ leaf (name_of fields.ObjID) [] b.obj ∷ S = h in
    let story_same : a.story ≡ b.story = cc in
    let item_same : a.item ≡ b.item = cc in
    let object_same : a.obj ≡ b.obj = cc in
    let rest : R ≡ S = cc in
    let p = behind_object a.channel b.channel a.status b.status r s rest in
    (λ i. record { story = story_same i; item = item_same i; obj = object_same i; channel = p.0 i; status = p.1 i }, p.2)

groups_pins : Pins (AllByRecursion (λ (a : AckGroup). Unit {0})) groups_events
unfolding groups_events group_events must
groups_pins = listed_pins (λ (a : AckGroup). Unit {0}) group_events (λ a r h. h) group_front

pub ro_ack_pins : Pins (λ (a : RoAck). Unit {0}) ro_ack_events
unfolding ro_ack_events must
ro_ack_pins a b r s f g i j h =
    let R : List Event = groups_events a.groups ++ r in
    let S : List Event = groups_events b.groups ++ s in
    let e : leaf (name_of fields.RoID) [] a.ro ∷ leaf (name_of fields.RoStatus) [] a.status ∷ R ≡ leaf (name_of fields.RoID) [] b.ro ∷ leaf (name_of fields.RoStatus) [] b.status ∷ S = h in
    let ro_same : a.ro ≡ b.ro = cc in
    let status_same : a.status ≡ b.status = cc in
    let rest : R ≡ S = cc in
    let p = groups_pins a.groups b.groups r s (all_fine a.groups) (all_fine b.groups) i j rest in
    (λ k. record { ro = ro_same k; status = status_same k; groups = p.0 k }, p.1)
