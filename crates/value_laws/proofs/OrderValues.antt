-- Headers, items, stories and orders are read off their events.
use Rattle.std.proofs.Common.{◌≡◌, true, false, List, [], ◌∷◌}
use Rattle.std.specs.List.{AllByRecursion}
use Rattle.mos_fields.specs.Fields.{name_of}
use Rattle.mos_fields.specs.Values.{samples_text}
use Rattle.mos_fields.specs.declared.field.Field.{Field}
use Rattle.mos_fields.specs.declared.field.Field.TheVariants as fields
use Rattle.mos_values.specs.Views.{header_events, patch_events, headers_events, item_events, items_events, story_head_events, story_events, stories_events, body_events}
use Rattle.mos_values.specs.declared.header.Header.{Header}
use Rattle.mos_values.specs.declared.header.HeaderPatch.{HeaderPatch}
use Rattle.mos_values.specs.declared.item.Item.{Item}
use Rattle.mos_values.specs.OrderValue.{OrderBody}
use Rattle.mos_values.specs.StoryValue.{Story}
use Rattle.value_laws.specs.Ranges.{IsItemInRange, AreItemsInRange, IsStoryInRange, AreStoriesInRange}
use Rattle.value_laws.proofs.FieldParts.{Part, must_part, maybe_part, maybe_as_part, maybe_raw_part, raws_part, events_of, texts_at, same_texts, fields_pin, cut_fields, a_text, an_option, a_list}
use Rattle.value_laws.proofs.FieldValues.{a_number}
use Rattle.value_laws.proofs.FlatEvents.{Pins, each, elements_stop}

-- ---- headers

abbrev pub header_parts : Header → List Part
header_parts a =
    must_part fields.RoID a.ro
    ∷ must_part fields.RoSlug a.slug
    ∷ maybe_part fields.RoChannel a.channel
    ∷ maybe_part fields.RoEdStart a.ed_start
    ∷ maybe_part fields.RoEdDur a.ed_dur
    ∷ maybe_part fields.RoTrigger a.trigger
    ∷ maybe_part fields.MacroIn a.macro_in
    ∷ maybe_part fields.MacroOut a.macro_out
    ∷ raws_part fields.Metadata a.metadata
    ∷ raws_part fields.Kept a.others
    ∷ []

header_only : (a b : Header) → Unit {0} → Unit {0} → events_of (header_parts a) ≡ events_of (header_parts b) → a ≡ b
header_only a b f g e = λ i. record {
  ro = (a_text a.ro b.ro (leaf_of fields.RoID)) i;
  slug = (a_text a.slug b.slug (leaf_of fields.RoSlug)) i;
  channel = (an_option a.channel b.channel (leaf_of fields.RoChannel)) i;
  ed_start = (an_option a.ed_start b.ed_start (leaf_of fields.RoEdStart)) i;
  ed_dur = (an_option a.ed_dur b.ed_dur (leaf_of fields.RoEdDur)) i;
  trigger = (an_option a.trigger b.trigger (leaf_of fields.RoTrigger)) i;
  macro_in = (an_option a.macro_in b.macro_in (leaf_of fields.MacroIn)) i;
  macro_out = (an_option a.macro_out b.macro_out (leaf_of fields.MacroOut)) i;
  metadata = (a_list a.metadata b.metadata (raw_of fields.Metadata)) i;
  others = (a_list a.others b.others (raw_of fields.Kept)) i;
}
  where
    leaf_of : (x : Field) → texts_at false x (header_parts a) ≡ texts_at false x (header_parts b)
    leaf_of x = same_texts false x (header_parts a) (header_parts b) e

    raw_of : (x : Field) → texts_at true x (header_parts a) ≡ texts_at true x (header_parts b)
    raw_of x = same_texts true x (header_parts a) (header_parts b) e

pub header_pins : Pins (λ (a : Header). Unit {0}) header_events
unfolding header_events
header_pins = fields_pin (λ (a : Header). Unit {0}) header_parts header_only

abbrev pub patch_parts : HeaderPatch → List Part
patch_parts a =
    must_part fields.RoID a.ro
    ∷ maybe_part fields.RoSlug a.slug
    ∷ maybe_part fields.RoChannel a.channel
    ∷ maybe_part fields.RoEdStart a.ed_start
    ∷ maybe_part fields.RoEdDur a.ed_dur
    ∷ maybe_part fields.RoTrigger a.trigger
    ∷ maybe_part fields.MacroIn a.macro_in
    ∷ maybe_part fields.MacroOut a.macro_out
    ∷ raws_part fields.Metadata a.metadata
    ∷ raws_part fields.Kept a.others
    ∷ []

patch_only : (a b : HeaderPatch) → Unit {0} → Unit {0} → events_of (patch_parts a) ≡ events_of (patch_parts b) → a ≡ b
patch_only a b f g e = λ i. record {
  ro = (a_text a.ro b.ro (leaf_of fields.RoID)) i;
  slug = (an_option a.slug b.slug (leaf_of fields.RoSlug)) i;
  channel = (an_option a.channel b.channel (leaf_of fields.RoChannel)) i;
  ed_start = (an_option a.ed_start b.ed_start (leaf_of fields.RoEdStart)) i;
  ed_dur = (an_option a.ed_dur b.ed_dur (leaf_of fields.RoEdDur)) i;
  trigger = (an_option a.trigger b.trigger (leaf_of fields.RoTrigger)) i;
  macro_in = (an_option a.macro_in b.macro_in (leaf_of fields.MacroIn)) i;
  macro_out = (an_option a.macro_out b.macro_out (leaf_of fields.MacroOut)) i;
  metadata = (a_list a.metadata b.metadata (raw_of fields.Metadata)) i;
  others = (a_list a.others b.others (raw_of fields.Kept)) i;
}
  where
    leaf_of : (x : Field) → texts_at false x (patch_parts a) ≡ texts_at false x (patch_parts b)
    leaf_of x = same_texts false x (patch_parts a) (patch_parts b) e

    raw_of : (x : Field) → texts_at true x (patch_parts a) ≡ texts_at true x (patch_parts b)
    raw_of x = same_texts true x (patch_parts a) (patch_parts b) e

pub patch_pins : Pins (λ (a : HeaderPatch). Unit {0}) patch_events
unfolding patch_events
patch_pins = fields_pin (λ (a : HeaderPatch). Unit {0}) patch_parts patch_only

pub headers_pins : Pins (AllByRecursion (λ (a : HeaderPatch). Unit {0})) headers_events
unfolding headers_events
headers_pins = each (λ (a : HeaderPatch). Unit {0}) patch_events patch_pins (name_of fields.RoTag)

-- ---- items

abbrev pub item_parts : Item → List Part
item_parts a =
    must_part fields.ItemID a.id
    ∷ maybe_part fields.ItemSlug a.slug
    ∷ must_part fields.ObjID a.obj
    ∷ must_part fields.MosID a.mos
    ∷ maybe_raw_part fields.MosAbstract a.mos_abstract
    ∷ maybe_raw_part fields.ObjPaths a.obj_paths
    ∷ maybe_part fields.ItemChannel a.channel
    ∷ maybe_as_part samples_text fields.ItemEdStart a.ed_start
    ∷ maybe_as_part samples_text fields.ItemEdDur a.ed_dur
    ∷ maybe_as_part samples_text fields.ItemUserTimingDur a.user_timing_dur
    ∷ maybe_part fields.ItemTrigger a.trigger
    ∷ maybe_part fields.MacroIn a.macro_in
    ∷ maybe_part fields.MacroOut a.macro_out
    ∷ raws_part fields.Metadata a.metadata
    ∷ raws_part fields.Kept a.others
    ∷ []

item_only : (a b : Item) → IsItemInRange a → IsItemInRange b → events_of (item_parts a) ≡ events_of (item_parts b) → a ≡ b
item_only a b f g e = λ i. record {
  id = (a_text a.id b.id (leaf_of fields.ItemID)) i;
  slug = (an_option a.slug b.slug (leaf_of fields.ItemSlug)) i;
  obj = (a_text a.obj b.obj (leaf_of fields.ObjID)) i;
  mos = (a_text a.mos b.mos (leaf_of fields.MosID)) i;
  mos_abstract = (an_option a.mos_abstract b.mos_abstract (raw_of fields.MosAbstract)) i;
  obj_paths = (an_option a.obj_paths b.obj_paths (raw_of fields.ObjPaths)) i;
  channel = (an_option a.channel b.channel (leaf_of fields.ItemChannel)) i;
  ed_start = (a_number a.ed_start b.ed_start f.0 g.0 (leaf_of fields.ItemEdStart)) i;
  ed_dur = (a_number a.ed_dur b.ed_dur f.1 g.1 (leaf_of fields.ItemEdDur)) i;
  user_timing_dur = (a_number a.user_timing_dur b.user_timing_dur f.2 g.2 (leaf_of fields.ItemUserTimingDur)) i;
  trigger = (an_option a.trigger b.trigger (leaf_of fields.ItemTrigger)) i;
  macro_in = (an_option a.macro_in b.macro_in (leaf_of fields.MacroIn)) i;
  macro_out = (an_option a.macro_out b.macro_out (leaf_of fields.MacroOut)) i;
  metadata = (a_list a.metadata b.metadata (raw_of fields.Metadata)) i;
  others = (a_list a.others b.others (raw_of fields.Kept)) i;
}
  where
    leaf_of : (x : Field) → texts_at false x (item_parts a) ≡ texts_at false x (item_parts b)
    leaf_of x = same_texts false x (item_parts a) (item_parts b) e

    raw_of : (x : Field) → texts_at true x (item_parts a) ≡ texts_at true x (item_parts b)
    raw_of x = same_texts true x (item_parts a) (item_parts b) e

pub item_pins : Pins IsItemInRange item_events
unfolding item_events
item_pins = fields_pin IsItemInRange item_parts item_only

pub items_pins : Pins AreItemsInRange items_events
unfolding items_events
items_pins = each IsItemInRange item_events item_pins (name_of fields.ItemTag)

-- ---- stories

abbrev pub story_parts : Story → List Part
story_parts a =
    must_part fields.StoryID a.id
    ∷ maybe_part fields.StorySlug a.slug
    ∷ maybe_part fields.StoryNum a.num
    ∷ raws_part fields.Metadata a.metadata
    ∷ raws_part fields.Kept a.others
    ∷ []

story_only : (a b : Story) → a.items ≡ b.items → events_of (story_parts a) ≡ events_of (story_parts b) → a ≡ b
story_only a b same e = λ i. record {
  items = same i;
  id = (a_text a.id b.id (leaf_of fields.StoryID)) i;
  slug = (an_option a.slug b.slug (leaf_of fields.StorySlug)) i;
  num = (an_option a.num b.num (leaf_of fields.StoryNum)) i;
  metadata = (a_list a.metadata b.metadata (raw_of fields.Metadata)) i;
  others = (a_list a.others b.others (raw_of fields.Kept)) i;
}
  where
    leaf_of : (x : Field) → texts_at false x (story_parts a) ≡ texts_at false x (story_parts b)
    leaf_of x = same_texts false x (story_parts a) (story_parts b) e

    raw_of : (x : Field) → texts_at true x (story_parts a) ≡ texts_at true x (story_parts b)
    raw_of x = same_texts true x (story_parts a) (story_parts b) e

pub story_pins : Pins IsStoryInRange story_events
unfolding story_events story_head_events items_events
story_pins a b r s f g i j h =
    let c = cut_fields (story_parts a) (story_parts b) (items_events a.items) (items_events b.items) r s
    (elements_stop item_events (name_of fields.ItemTag) a.items r i) (elements_stop item_events (name_of fields.ItemTag) b.items s j) h in
    let p = items_pins a.items b.items r s f g i j c.1 in
    (story_only a b p.0 c.0, p.1)

pub stories_pins : Pins AreStoriesInRange stories_events
unfolding stories_events
stories_pins = each IsStoryInRange story_events story_pins (name_of fields.StoryTag)

-- ---- orders

pub body_pins : Pins (λ (b : OrderBody). AreStoriesInRange b.stories) body_events
unfolding body_events header_events stories_events
body_pins a b r s f g i j h =
    let c = cut_fields (header_parts a.header) (header_parts b.header) (stories_events a.stories) (stories_events b.stories) r s
    (elements_stop story_events (name_of fields.StoryTag) a.stories r i) (elements_stop story_events (name_of fields.StoryTag) b.stories s j) h in
    let p = stories_pins a.stories b.stories r s f g i j c.1 in
    let q = header_only a.header b.header tt tt c.0 in
    (λ k. record { header = q k; stories = p.0 k }, p.1)
