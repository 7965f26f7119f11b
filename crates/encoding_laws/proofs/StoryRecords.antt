-- Items, stories and running orders as their canonical encodings write them.
use Rattle.std.proofs.Common.{◌≡◌, false, List, [], ◌∷◌, ◌++◌, refl, subst, ◌∙◌, arith}
use Rattle.std.specs.List.{AllByRecursion, flat_map}
use Rattle.mos_fields.specs.Characters.{Text}
use Rattle.mos_fields.specs.Fields.{name_of}
use Rattle.mos_fields.specs.Forms.{among}
use Rattle.mos_fields.specs.Values.{samples_text}
use Rattle.mos_fields.specs.declared.field.Field.TheVariants as fields
use Rattle.mos_fields.specs.declared.form.Form.TheVariants as forms
use Rattle.mos_tables.specs.declared.column.Shape.TheVariants.{Record}
use Rattle.mos_tables.specs.declared.column.Often.TheVariants.{One, Any}
use Rattle.mos_tables.specs.declared.table.Table.{Table}
use Rattle.mos_tables.specs.declared.table.Table.TheVariants as tables
use Rattle.mos_tables.specs.Tables.{column, required, optional, optional_raw, raw_list}
use Rattle.mos_tables.specs.Events.{Event}
use Rattle.mos_grammar.specs.Records.{Child, key_of, keys}
use Rattle.mos_cursor.specs.Parts.{kept_column}
use Rattle.mos_values.specs.Distinct.{AreDistinct, item_ids, story_ids}
use Rattle.mos_values.specs.Parts.{must, maybe, maybe_as, maybe_raw, raws, element_with}
use Rattle.encoding_laws.specs.Fitting.{table_inside, TextsFit}
use Rattle.encoding_laws.specs.Identifiers.{HasDistinctItems}
use Rattle.encoding_laws.proofs.Pieces.{Canonical}
use Rattle.encoding_laws.proofs.Assembled.{Segment, assembled}
use Rattle.encoding_laws.proofs.KindSegments.{key_segment, records_segment}
use Rattle.encoding_laws.proofs.LevelTexts.{Level, level_both, splits, texts_inside, level_must, level_maybe, level_maybe_as, level_maybe_raw, level_raws, level_element, level_elements, level_joined, texts_of_parts, EachFits, raws_of_parts, text_of_must, must_part, maybe_part, maybe_as_part, maybe_raw_part, raws_part, kept_part}
use Rattle.encoding_laws.proofs.Keys.{fresh, reads_key, keys_keyless, no_keys_yet, keyed_follow, joined_behind}
use Rattle.mos_values.specs.declared.header.Header.{Header}
use Rattle.mos_values.specs.declared.header.HeaderPatch.{HeaderPatch}
use Rattle.mos_values.specs.declared.item.Item.{Item}
use Rattle.mos_values.specs.StoryValue.{Story}
use Rattle.mos_values.specs.OrderValue.{OrderBody}
use Rattle.mos_values.specs.Views.{header_events, patch_events, item_events, items_events, story_head_events, story_events, stories_events, body_events}
use Rattle.mos_values.specs.Sound.{AreSoundItems, IsSoundStory, AreSoundStories, IsSoundBody}

abbrev item_parts : Item → List (List Event)
item_parts i = must fields.ItemID i.id ∷ maybe fields.ItemSlug i.slug ∷ must fields.ObjID i.obj ∷ must fields.MosID i.mos ∷ maybe_raw fields.MosAbstract i.mos_abstract ∷ maybe_raw fields.ObjPaths i.obj_paths ∷ maybe fields.ItemChannel i.channel ∷ maybe_as samples_text fields.ItemEdStart i.ed_start ∷ maybe_as samples_text fields.ItemEdDur i.ed_dur ∷ maybe_as samples_text fields.ItemUserTimingDur i.user_timing_dur ∷ maybe fields.ItemTrigger i.trigger ∷ maybe fields.MacroIn i.macro_in ∷ maybe fields.MacroOut i.macro_out ∷ raws fields.Metadata i.metadata ∷ raws fields.Kept i.others ∷ []

item_levels : (i : Item) → AllByRecursion Level (item_parts i)
item_levels i = (level_must fields.ItemID i.id, (level_maybe fields.ItemSlug i.slug, (level_must fields.ObjID i.obj, (level_must fields.MosID i.mos, (level_maybe_raw fields.MosAbstract i.mos_abstract, (level_maybe_raw fields.ObjPaths i.obj_paths, (level_maybe fields.ItemChannel i.channel, (level_maybe_as samples_text fields.ItemEdStart i.ed_start, (level_maybe_as samples_text fields.ItemEdDur i.ed_dur, (level_maybe_as samples_text fields.ItemUserTimingDur i.user_timing_dur, (level_maybe fields.ItemTrigger i.trigger, (level_maybe fields.MacroIn i.macro_in, (level_maybe fields.MacroOut i.macro_out, (level_raws fields.Metadata i.metadata, (level_raws fields.Kept i.others, tt)))))))))))))))

pub level_item : (i : Item) → Level (item_events i)
unfolding item_events
level_item i = level_joined (item_parts i) (item_levels i)

pub item_canonical : (i : Item) (taken : List Text) (ts : List Table) → among i.id taken ≡ false → EachFits tables.Item (item_events i) → TextsFit (tables.Item ∷ ts) (item_events i) → Canonical tables.Item taken (item_events i)
unfolding item_events
item_canonical i taken ts fr sound texts =
    let h = texts_of_parts (item_parts i) (item_levels i) tables.Item ts texts in
    let s = raws_of_parts (item_parts i) tables.Item sound in
    let b0 : List Child = [] in
    let z0 : Segment tables.Item taken b0 (required fields.ItemID forms.Key) (must fields.ItemID i.id) = key_segment tables.Item taken b0 fields.ItemID forms.Key i.id (refl, refl, refl, refl) (reads_key taken i.id fr (text_of_must tables.Item ts fields.ItemID forms.Key One i.id refl h.0)) in
    let b1 : List Child = b0 ++ z0.children in
    let z1 : Segment tables.Item taken b1 (optional fields.ItemSlug forms.Slug) (maybe fields.ItemSlug i.slug) = maybe_part tables.Item taken b1 ts fields.ItemSlug forms.Slug i.slug ((refl, refl, refl, refl), refl, refl) h.1.0 in
    let b2 : List Child = b1 ++ z1.children in
    let z2 : Segment tables.Item taken b2 (required fields.ObjID forms.OptId) (must fields.ObjID i.obj) = must_part tables.Item taken b2 ts fields.ObjID forms.OptId i.obj ((refl, refl, refl, refl), refl, refl) h.1.1.0 in
    let b3 : List Child = b2 ++ z2.children in
    let z3 : Segment tables.Item taken b3 (required fields.MosID forms.OptId) (must fields.MosID i.mos) = must_part tables.Item taken b3 ts fields.MosID forms.OptId i.mos ((refl, refl, refl, refl), refl, refl) h.1.1.1.0 in
    let b4 : List Child = b3 ++ z3.children in
    let z4 : Segment tables.Item taken b4 (optional_raw fields.MosAbstract) (maybe_raw fields.MosAbstract i.mos_abstract) = maybe_raw_part tables.Item taken b4 fields.MosAbstract i.mos_abstract (refl, refl, refl) s.1.1.1.1.0 in
    let b5 : List Child = b4 ++ z4.children in
    let z5 : Segment tables.Item taken b5 (optional_raw fields.ObjPaths) (maybe_raw fields.ObjPaths i.obj_paths) = maybe_raw_part tables.Item taken b5 fields.ObjPaths i.obj_paths (refl, refl, refl) s.1.1.1.1.1.0 in
    let b6 : List Child = b5 ++ z5.children in
    let z6 : Segment tables.Item taken b6 (optional fields.ItemChannel forms.Text) (maybe fields.ItemChannel i.channel) = maybe_part tables.Item taken b6 ts fields.ItemChannel forms.Text i.channel ((refl, refl, refl, refl), refl, refl) h.1.1.1.1.1.1.0 in
    let b7 : List Child = b6 ++ z6.children in
    let z7 : Segment tables.Item taken b7 (optional fields.ItemEdStart forms.Samples) (maybe_as samples_text fields.ItemEdStart i.ed_start) = maybe_as_part samples_text tables.Item taken b7 ts fields.ItemEdStart forms.Samples i.ed_start ((refl, refl, refl, refl), refl, refl) h.1.1.1.1.1.1.1.0 in
    let b8 : List Child = b7 ++ z7.children in
    let z8 : Segment tables.Item taken b8 (optional fields.ItemEdDur forms.Samples) (maybe_as samples_text fields.ItemEdDur i.ed_dur) = maybe_as_part samples_text tables.Item taken b8 ts fields.ItemEdDur forms.Samples i.ed_dur ((refl, refl, refl, refl), refl, refl) h.1.1.1.1.1.1.1.1.0 in
    let b9 : List Child = b8 ++ z8.children in
    let z9 : Segment tables.Item taken b9 (optional fields.ItemUserTimingDur forms.Samples) (maybe_as samples_text fields.ItemUserTimingDur i.user_timing_dur) = maybe_as_part samples_text tables.Item taken b9 ts fields.ItemUserTimingDur forms.Samples i.user_timing_dur ((refl, refl, refl, refl), refl, refl) h.1.1.1.1.1.1.1.1.1.0 in
    let b10 : List Child = b9 ++ z9.children in
    let z10 : Segment tables.Item taken b10 (optional fields.ItemTrigger forms.Text) (maybe fields.ItemTrigger i.trigger) = maybe_part tables.Item taken b10 ts fields.ItemTrigger forms.Text i.trigger ((refl, refl, refl, refl), refl, refl) h.1.1.1.1.1.1.1.1.1.1.0 in
    let b11 : List Child = b10 ++ z10.children in
    let z11 : Segment tables.Item taken b11 (optional fields.MacroIn forms.Text) (maybe fields.MacroIn i.macro_in) = maybe_part tables.Item taken b11 ts fields.MacroIn forms.Text i.macro_in ((refl, refl, refl, refl), refl, refl) h.1.1.1.1.1.1.1.1.1.1.1.0 in
    let b12 : List Child = b11 ++ z11.children in
    let z12 : Segment tables.Item taken b12 (optional fields.MacroOut forms.Text) (maybe fields.MacroOut i.macro_out) = maybe_part tables.Item taken b12 ts fields.MacroOut forms.Text i.macro_out ((refl, refl, refl, refl), refl, refl) h.1.1.1.1.1.1.1.1.1.1.1.1.0 in
    let b13 : List Child = b12 ++ z12.children in
    let z13 : Segment tables.Item taken b13 (raw_list fields.Metadata) (raws fields.Metadata i.metadata) = raws_part tables.Item taken b13 fields.Metadata i.metadata (refl, refl, refl) s.1.1.1.1.1.1.1.1.1.1.1.1.1.0 in
    let b14 : List Child = b13 ++ z13.children in
    let z14 : Segment tables.Item taken b14 kept_column (raws fields.Kept i.others) = kept_part tables.Item taken b14 i.others refl s.1.1.1.1.1.1.1.1.1.1.1.1.1.1.0 in
    let b15 : List Child = b14 ++ z14.children in
    assembled tables.Item taken (item_parts i) refl (z0, (z1, (z2, (z3, (z4, (z5, (z6, (z7, (z8, (z9, (z10, (z11, (z12, (z13, (z14, tt)))))))))))))))

abbrev patch_parts : HeaderPatch → List (List Event)
patch_parts v = must fields.RoID v.ro ∷ maybe fields.RoSlug v.slug ∷ maybe fields.RoChannel v.channel ∷ maybe fields.RoEdStart v.ed_start ∷ maybe fields.RoEdDur v.ed_dur ∷ maybe fields.RoTrigger v.trigger ∷ maybe fields.MacroIn v.macro_in ∷ maybe fields.MacroOut v.macro_out ∷ raws fields.Metadata v.metadata ∷ raws fields.Kept v.others ∷ []

patch_levels : (v : HeaderPatch) → AllByRecursion Level (patch_parts v)
patch_levels v = (level_must fields.RoID v.ro, (level_maybe fields.RoSlug v.slug, (level_maybe fields.RoChannel v.channel, (level_maybe fields.RoEdStart v.ed_start, (level_maybe fields.RoEdDur v.ed_dur, (level_maybe fields.RoTrigger v.trigger, (level_maybe fields.MacroIn v.macro_in, (level_maybe fields.MacroOut v.macro_out, (level_raws fields.Metadata v.metadata, (level_raws fields.Kept v.others, tt))))))))))

pub level_patch : (v : HeaderPatch) → Level (patch_events v)
unfolding patch_events
level_patch v = level_joined (patch_parts v) (patch_levels v)

pub patch_canonical : (v : HeaderPatch) (taken : List Text) (ts : List Table) → EachFits tables.HeaderPatch (patch_events v) → TextsFit (tables.HeaderPatch ∷ ts) (patch_events v) → Canonical tables.HeaderPatch taken (patch_events v)
unfolding patch_events
patch_canonical v taken ts sound texts =
    let h = texts_of_parts (patch_parts v) (patch_levels v) tables.HeaderPatch ts texts in
    let s = raws_of_parts (patch_parts v) tables.HeaderPatch sound in
    let b0 : List Child = [] in
    let z0 : Segment tables.HeaderPatch taken b0 (required fields.RoID forms.Id) (must fields.RoID v.ro) = must_part tables.HeaderPatch taken b0 ts fields.RoID forms.Id v.ro ((refl, refl, refl, refl), refl, refl) h.0 in
    let b1 : List Child = b0 ++ z0.children in
    let z1 : Segment tables.HeaderPatch taken b1 (optional fields.RoSlug forms.Slug) (maybe fields.RoSlug v.slug) = maybe_part tables.HeaderPatch taken b1 ts fields.RoSlug forms.Slug v.slug ((refl, refl, refl, refl), refl, refl) h.1.0 in
    let b2 : List Child = b1 ++ z1.children in
    let z2 : Segment tables.HeaderPatch taken b2 (optional fields.RoChannel forms.Text) (maybe fields.RoChannel v.channel) = maybe_part tables.HeaderPatch taken b2 ts fields.RoChannel forms.Text v.channel ((refl, refl, refl, refl), refl, refl) h.1.1.0 in
    let b3 : List Child = b2 ++ z2.children in
    let z3 : Segment tables.HeaderPatch taken b3 (optional fields.RoEdStart forms.Text) (maybe fields.RoEdStart v.ed_start) = maybe_part tables.HeaderPatch taken b3 ts fields.RoEdStart forms.Text v.ed_start ((refl, refl, refl, refl), refl, refl) h.1.1.1.0 in
    let b4 : List Child = b3 ++ z3.children in
    let z4 : Segment tables.HeaderPatch taken b4 (optional fields.RoEdDur forms.Text) (maybe fields.RoEdDur v.ed_dur) = maybe_part tables.HeaderPatch taken b4 ts fields.RoEdDur forms.Text v.ed_dur ((refl, refl, refl, refl), refl, refl) h.1.1.1.1.0 in
    let b5 : List Child = b4 ++ z4.children in
    let z5 : Segment tables.HeaderPatch taken b5 (optional fields.RoTrigger forms.Text) (maybe fields.RoTrigger v.trigger) = maybe_part tables.HeaderPatch taken b5 ts fields.RoTrigger forms.Text v.trigger ((refl, refl, refl, refl), refl, refl) h.1.1.1.1.1.0 in
    let b6 : List Child = b5 ++ z5.children in
    let z6 : Segment tables.HeaderPatch taken b6 (optional fields.MacroIn forms.Text) (maybe fields.MacroIn v.macro_in) = maybe_part tables.HeaderPatch taken b6 ts fields.MacroIn forms.Text v.macro_in ((refl, refl, refl, refl), refl, refl) h.1.1.1.1.1.1.0 in
    let b7 : List Child = b6 ++ z6.children in
    let z7 : Segment tables.HeaderPatch taken b7 (optional fields.MacroOut forms.Text) (maybe fields.MacroOut v.macro_out) = maybe_part tables.HeaderPatch taken b7 ts fields.MacroOut forms.Text v.macro_out ((refl, refl, refl, refl), refl, refl) h.1.1.1.1.1.1.1.0 in
    let b8 : List Child = b7 ++ z7.children in
    let z8 : Segment tables.HeaderPatch taken b8 (raw_list fields.Metadata) (raws fields.Metadata v.metadata) = raws_part tables.HeaderPatch taken b8 fields.Metadata v.metadata (refl, refl, refl) s.1.1.1.1.1.1.1.1.0 in
    let b9 : List Child = b8 ++ z8.children in
    let z9 : Segment tables.HeaderPatch taken b9 kept_column (raws fields.Kept v.others) = kept_part tables.HeaderPatch taken b9 v.others refl s.1.1.1.1.1.1.1.1.1.0 in
    let b10 : List Child = b9 ++ z9.children in
    assembled tables.HeaderPatch taken (patch_parts v) refl (z0, (z1, (z2, (z3, (z4, (z5, (z6, (z7, (z8, (z9, tt))))))))))

-- ---- what stands in elements one after another

pub each_inside : {A : Type 0} (t : Table) (ts : List Table) (n : Text) (inner : A → List Event) → ((x : A) → Level (inner x)) → (xs : List A) → TextsFit (t ∷ ts) (flat_map (λ (x : A). element_with n [] (inner x)) xs)
    → AllByRecursion (λ (x : A). TextsFit (table_inside t n [] ∷ (t ∷ ts)) (inner x)) xs
each_inside t ts n inner l [] h = tt
each_inside {A = A} t ts n inner l (x ∷ xs) h =
    let r = splits (level_element n [] (inner x) (l x)) t ts (flat_map (λ (x : A). element_with n [] (inner x)) xs) h in
    (texts_inside n [] (inner x) t ts (l x) r.0, each_inside t ts n inner l xs r.1)

-- ---- stories

item_key : (x : Item) → key_of (element_with (name_of fields.ItemTag) [] (item_events x)) ≡ x.id ∷ []
unfolding item_events must
item_key x = refl

abbrev pub FreshItem : Item → Type 0
FreshItem x = (ks : List Text) → among x.id ks ≡ false → Canonical tables.Item ks (item_events x)

pub items_fresh : (ts : List Table) (xs : List Item) → AreSoundItems xs → AllByRecursion (λ (x : Item). TextsFit (tables.Item ∷ ts) (item_events x)) xs → AllByRecursion FreshItem xs
items_fresh ts [] s h = tt
items_fresh ts (x ∷ xs) s h = ((λ ks fr. item_canonical x ks ts fr s.0 h.0), items_fresh ts xs s.1 h.1)

pub level_items : (xs : List Item) → Level (items_events xs)
unfolding items_events
level_items xs = level_elements (name_of fields.ItemTag) item_events xs level_item

abbrev head_parts : Story → List (List Event)
head_parts v = must fields.StoryID v.id ∷ maybe fields.StorySlug v.slug ∷ maybe fields.StoryNum v.num ∷ raws fields.Metadata v.metadata ∷ raws fields.Kept v.others ∷ []

head_levels : (v : Story) → AllByRecursion Level (head_parts v)
head_levels v = (level_must fields.StoryID v.id, (level_maybe fields.StorySlug v.slug, (level_maybe fields.StoryNum v.num, (level_raws fields.Metadata v.metadata, (level_raws fields.Kept v.others, tt)))))

level_head : (v : Story) → Level (story_head_events v)
unfolding story_head_events
level_head v = level_joined (head_parts v) (head_levels v)

pub level_story : (v : Story) → Level (story_events v)
unfolding story_events
level_story v = level_both (items_events v.items) (level_head v) (level_items v.items)

pub story_canonical : (v : Story) (taken : List Text) (ts : List Table) → among v.id taken ≡ false → IsSoundStory v → AreDistinct (item_ids v.items) → TextsFit (tables.Story ∷ ts) (story_events v) → Canonical tables.Story taken (story_events v)
unfolding story_events story_head_events items_events
story_canonical v taken ts fr sound dist texts =
    let q = splits (level_head v) tables.Story ts (items_events v.items) texts in
    let h = texts_of_parts (head_parts v) (head_levels v) tables.Story ts q.0 in
    let s = raws_of_parts (head_parts v) tables.Story sound.0 in
    let b0 : List Child = [] in
    let z0 : Segment tables.Story taken b0 (required fields.StoryID forms.Key) (must fields.StoryID v.id) = key_segment tables.Story taken b0 fields.StoryID forms.Key v.id (refl, refl, refl, refl) (reads_key taken v.id fr (text_of_must tables.Story ts fields.StoryID forms.Key One v.id refl h.0)) in
    let b1 : List Child = b0 ++ z0.children in
    let z1 : Segment tables.Story taken b1 (optional fields.StorySlug forms.Slug) (maybe fields.StorySlug v.slug) = maybe_part tables.Story taken b1 ts fields.StorySlug forms.Slug v.slug ((refl, refl, refl, refl), refl, refl) h.1.0 in
    let b2 : List Child = b1 ++ z1.children in
    let z2 : Segment tables.Story taken b2 (optional fields.StoryNum forms.Text) (maybe fields.StoryNum v.num) = maybe_part tables.Story taken b2 ts fields.StoryNum forms.Text v.num ((refl, refl, refl, refl), refl, refl) h.1.1.0 in
    let b3 : List Child = b2 ++ z2.children in
    let z3 : Segment tables.Story taken b3 (raw_list fields.Metadata) (raws fields.Metadata v.metadata) = raws_part tables.Story taken b3 fields.Metadata v.metadata (refl, refl, refl) s.1.1.1.0 in
    let b4 : List Child = b3 ++ z3.children in
    let z4 : Segment tables.Story taken b4 kept_column (raws fields.Kept v.others) = kept_part tables.Story taken b4 v.others refl s.1.1.1.1.0 in
    let b5 : List Child = b4 ++ z4.children in
    let k : keys tables.Story b5 ≡ [] = keys_keyless tables.Story b4 z4.children (z4.keyless refl) ∙ keys_keyless tables.Story b3 z3.children (z3.keyless refl) ∙ keys_keyless tables.Story b2 z2.children (z2.keyless refl) ∙ keys_keyless tables.Story b1 z1.children (z1.keyless refl) ∙ keys_keyless tables.Story b0 z0.children (z0.keyless refl) ∙ no_keys_yet tables.Story in
    let g : AllByRecursion FreshItem v.items = items_fresh (tables.Story ∷ ts) v.items sound.1 (each_inside tables.Story ts (name_of fields.ItemTag) item_events level_item v.items q.1) in
    let w = keyed_follow tables.Story taken fields.ItemTag tables.Item item_events (λ (x : Item). x.id) refl (λ b. refl) item_key v.items g b5 [] k (fresh (item_ids v.items) dist) in
    let z5 : Segment tables.Story taken b5 (column fields.ItemTag (Record tables.Item) Any) (items_events v.items) = records_segment tables.Story taken b5 fields.ItemTag tables.Item Any item_events v.items (refl, refl, refl) refl w tt (omega arith) in
    subst (Canonical tables.Story taken) (joined_behind (head_parts v) (items_events v.items)) (assembled tables.Story taken (head_parts v ++ items_events v.items ∷ []) refl (z0, (z1, (z2, (z3, (z4, (z5, tt)))))))

-- ---- running orders

story_key : (x : Story) → key_of (element_with (name_of fields.StoryTag) [] (story_events x)) ≡ x.id ∷ []
unfolding story_events story_head_events must
story_key x = refl

abbrev pub FreshStory : Story → Type 0
FreshStory x = (ks : List Text) → among x.id ks ≡ false → Canonical tables.Story ks (story_events x)

pub stories_fresh : (ts : List Table) (xs : List Story) → AreSoundStories xs → AllByRecursion HasDistinctItems xs → AllByRecursion (λ (x : Story). TextsFit (tables.Story ∷ ts) (story_events x)) xs → AllByRecursion FreshStory xs
stories_fresh ts [] s d h = tt
stories_fresh ts (x ∷ xs) s d h = ((λ ks fr. story_canonical x ks ts fr s.0 d.0 h.0), stories_fresh ts xs s.1 d.1 h.1)

pub level_stories : (xs : List Story) → Level (stories_events xs)
unfolding stories_events
level_stories xs = level_elements (name_of fields.StoryTag) story_events xs level_story

abbrev header_parts : Header → List (List Event)
header_parts v = must fields.RoID v.ro ∷ must fields.RoSlug v.slug ∷ maybe fields.RoChannel v.channel ∷ maybe fields.RoEdStart v.ed_start ∷ maybe fields.RoEdDur v.ed_dur ∷ maybe fields.RoTrigger v.trigger ∷ maybe fields.MacroIn v.macro_in ∷ maybe fields.MacroOut v.macro_out ∷ raws fields.Metadata v.metadata ∷ raws fields.Kept v.others ∷ []

header_levels : (v : Header) → AllByRecursion Level (header_parts v)
header_levels v = (level_must fields.RoID v.ro, (level_must fields.RoSlug v.slug, (level_maybe fields.RoChannel v.channel, (level_maybe fields.RoEdStart v.ed_start, (level_maybe fields.RoEdDur v.ed_dur, (level_maybe fields.RoTrigger v.trigger, (level_maybe fields.MacroIn v.macro_in, (level_maybe fields.MacroOut v.macro_out, (level_raws fields.Metadata v.metadata, (level_raws fields.Kept v.others, tt))))))))))

level_header : (v : Header) → Level (header_events v)
unfolding header_events
level_header v = level_joined (header_parts v) (header_levels v)

pub level_body : (o : OrderBody) → Level (body_events o)
unfolding body_events
level_body o = level_both (stories_events o.stories) (level_header o.header) (level_stories o.stories)

pub body_canonical : (o : OrderBody) (taken : List Text) (ts : List Table) → IsSoundBody o → AreDistinct (story_ids o.stories) → AllByRecursion HasDistinctItems o.stories → TextsFit (tables.Body ∷ ts) (body_events o) → Canonical tables.Body taken (body_events o)
unfolding body_events header_events stories_events
body_canonical o taken ts sound dist items texts =
    let v : Header = o.header in
    let q = splits (level_header v) tables.Body ts (stories_events o.stories) texts in
    let h = texts_of_parts (header_parts v) (header_levels v) tables.Body ts q.0 in
    let s = raws_of_parts (header_parts v) tables.Body sound.0 in
    let b0 : List Child = [] in
    let z0 : Segment tables.Body taken b0 (required fields.RoID forms.Id) (must fields.RoID v.ro) = must_part tables.Body taken b0 ts fields.RoID forms.Id v.ro ((refl, refl, refl, refl), refl, refl) h.0 in
    let b1 : List Child = b0 ++ z0.children in
    let z1 : Segment tables.Body taken b1 (required fields.RoSlug forms.Slug) (must fields.RoSlug v.slug) = must_part tables.Body taken b1 ts fields.RoSlug forms.Slug v.slug ((refl, refl, refl, refl), refl, refl) h.1.0 in
    let b2 : List Child = b1 ++ z1.children in
    let z2 : Segment tables.Body taken b2 (optional fields.RoChannel forms.Text) (maybe fields.RoChannel v.channel) = maybe_part tables.Body taken b2 ts fields.RoChannel forms.Text v.channel ((refl, refl, refl, refl), refl, refl) h.1.1.0 in
    let b3 : List Child = b2 ++ z2.children in
    let z3 : Segment tables.Body taken b3 (optional fields.RoEdStart forms.Text) (maybe fields.RoEdStart v.ed_start) = maybe_part tables.Body taken b3 ts fields.RoEdStart forms.Text v.ed_start ((refl, refl, refl, refl), refl, refl) h.1.1.1.0 in
    let b4 : List Child = b3 ++ z3.children in
    let z4 : Segment tables.Body taken b4 (optional fields.RoEdDur forms.Text) (maybe fields.RoEdDur v.ed_dur) = maybe_part tables.Body taken b4 ts fields.RoEdDur forms.Text v.ed_dur ((refl, refl, refl, refl), refl, refl) h.1.1.1.1.0 in
    let b5 : List Child = b4 ++ z4.children in
    let z5 : Segment tables.Body taken b5 (optional fields.RoTrigger forms.Text) (maybe fields.RoTrigger v.trigger) = maybe_part tables.Body taken b5 ts fields.RoTrigger forms.Text v.trigger ((refl, refl, refl, refl), refl, refl) h.1.1.1.1.1.0 in
    let b6 : List Child = b5 ++ z5.children in
    let z6 : Segment tables.Body taken b6 (optional fields.MacroIn forms.Text) (maybe fields.MacroIn v.macro_in) = maybe_part tables.Body taken b6 ts fields.MacroIn forms.Text v.macro_in ((refl, refl, refl, refl), refl, refl) h.1.1.1.1.1.1.0 in
    let b7 : List Child = b6 ++ z6.children in
    let z7 : Segment tables.Body taken b7 (optional fields.MacroOut forms.Text) (maybe fields.MacroOut v.macro_out) = maybe_part tables.Body taken b7 ts fields.MacroOut forms.Text v.macro_out ((refl, refl, refl, refl), refl, refl) h.1.1.1.1.1.1.1.0 in
    let b8 : List Child = b7 ++ z7.children in
    let z8 : Segment tables.Body taken b8 (raw_list fields.Metadata) (raws fields.Metadata v.metadata) = raws_part tables.Body taken b8 fields.Metadata v.metadata (refl, refl, refl) s.1.1.1.1.1.1.1.1.0 in
    let b9 : List Child = b8 ++ z8.children in
    let z9 : Segment tables.Body taken b9 kept_column (raws fields.Kept v.others) = kept_part tables.Body taken b9 v.others refl s.1.1.1.1.1.1.1.1.1.0 in
    let b10 : List Child = b9 ++ z9.children in
    let k : keys tables.Body b10 ≡ [] = keys_keyless tables.Body b9 z9.children (z9.keyless refl) ∙ keys_keyless tables.Body b8 z8.children (z8.keyless refl) ∙ keys_keyless tables.Body b7 z7.children (z7.keyless refl) ∙ keys_keyless tables.Body b6 z6.children (z6.keyless refl) ∙ keys_keyless tables.Body b5 z5.children (z5.keyless refl) ∙ keys_keyless tables.Body b4 z4.children (z4.keyless refl) ∙ keys_keyless tables.Body b3 z3.children (z3.keyless refl) ∙ keys_keyless tables.Body b2 z2.children (z2.keyless refl) ∙ keys_keyless tables.Body b1 z1.children (z1.keyless refl) ∙ keys_keyless tables.Body b0 z0.children (z0.keyless refl) ∙ no_keys_yet tables.Body in
    let g : AllByRecursion FreshStory o.stories = stories_fresh (tables.Body ∷ ts) o.stories sound.1 items (each_inside tables.Body ts (name_of fields.StoryTag) story_events level_story o.stories q.1) in
    let w = keyed_follow tables.Body taken fields.StoryTag tables.Story story_events (λ (x : Story). x.id) refl (λ b. refl) story_key o.stories g b10 [] k (fresh (story_ids o.stories) dist) in
    let z10 : Segment tables.Body taken b10 (column fields.StoryTag (Record tables.Story) Any) (stories_events o.stories) = records_segment tables.Body taken b10 fields.StoryTag tables.Story Any story_events o.stories (refl, refl, refl) refl w tt (omega arith) in
    subst (Canonical tables.Body taken) (joined_behind (header_parts v) (stories_events o.stories)) (assembled tables.Body taken (header_parts v ++ stories_events o.stories ∷ []) refl (z0, (z1, (z2, (z3, (z4, (z5, (z6, (z7, (z8, (z9, (z10, tt))))))))))))
