-- Records of one table inside another, and the values that they are read as.
use Rattle.std.proofs.Common.{◌≡◌, true, false, List, [], ◌∷◌, ◌++◌, length, map, append_assoc, refl, sym, ap, subst, ◌∙◌, arith}
use Rattle.std.specs.List.{AllByRecursion, flat_map}
use Rattle.std.proofs.lemmas.List.{append-nil}
use Rattle.mos_fields.specs.Characters.{Text}
use Rattle.mos_fields.specs.Fields.{name_of}
use Rattle.mos_fields.specs.Forms.{among}
use Rattle.mos_fields.specs.declared.field.Field.TheVariants as fields
use Rattle.mos_tables.specs.declared.column.Column.{Column}
use Rattle.mos_tables.specs.declared.column.Shape.TheVariants.{Record}
use Rattle.mos_tables.specs.declared.column.Often.TheVariants.{Any}
use Rattle.mos_tables.specs.Tables.{columns, column}
use Rattle.mos_tables.specs.declared.table.Table.{Table}
use Rattle.mos_tables.specs.declared.table.Table.TheVariants as tables
use Rattle.mos_tables.specs.Events.{Attribute, Event, opens, closes}
use Rattle.mos_grammar.specs.Records.{Child, with_aim}
use Rattle.mos_values.specs.Distinct.{AreDistinct, item_ids, story_ids}
use Rattle.mos_values.specs.Parts.{must, element, element_with, joined}
use Rattle.mos_values.specs.Views.{item_events, items_events, story_head_events, story_events, stories_events, patch_events, headers_events}
use Rattle.mos_values.specs.declared.header.HeaderPatch.{HeaderPatch}
use Rattle.mos_values.specs.declared.item.Item.{Item}
use Rattle.mos_values.specs.StoryValue.{Story}
use Rattle.mos_cursor.specs.Accepted.{IsGivenTo, IsAccepted, RecordFits, RecordsFit, first_text, IsFresh, FreshIf, is_keyed}
use Rattle.mos_cursor.specs.Parts.{RecordPart, Part, records, record_events, part_events, parts_events, places}
use Rattle.mos_cursor.specs.Slots.{record_of}
use Rattle.mos_cursor.specs.declared.slot.Nested.{Nested}
use Rattle.mos_cursor.specs.Inner.{inner_events, Holds}
use Rattle.mos_cursor.proofs.NestedRecords.{IsPlain, all_hold, all_elements, first_same}
use Rattle.mos_story_reading.specs.HeaderPlaces.{header_places}
use Rattle.mos_story_reading.proofs.Keys.{FreshKeys, fresh_distinct}

plain_item : IsPlain tables.Item
plain_item = record { same_table = λ before. refl; no_attribute = λ g h. h }

plain_story : IsPlain tables.Story
plain_story = record { same_table = λ before. refl; no_attribute = λ g h. h }

plain_header : IsPlain tables.HeaderPatch
plain_header = record { same_table = λ before. refl; no_attribute = λ g h. h }

-- their first texts are the keys of the values, each fresh
pub all_fresh : {A : Type 0} (read : A → List Event) (key : A → Text) (t u : Table) (earlier : List Text) (rs : List Nested) (xs : List A) → is_keyed t u ≡ true → ((a : A) → first_text (read a) ≡ key a ∷ [])
    → RecordsFit t u earlier (map record_of rs) → map read xs ≡ map inner_events rs → FreshKeys earlier (map key xs)
all_fresh read key t u earlier [] [] b f h e = tt
all_fresh read key t u earlier [] (x ∷ xs) b f h e = absurd cc
all_fresh read key t u earlier (r ∷ rs) [] b f h e = absurd cc
all_fresh read key t u earlier (r ∷ rs) (x ∷ xs) b f h e =
    let k = first_same (read x) r.inner (map read xs) (map inner_events rs) e in
    let first : first_text r.inner ≡ key x ∷ [] = ap first_text (sym k.0) ∙ f x in
    let fresh : FreshIf true earlier (key x ∷ []) = subst (λ (z : List Text). FreshIf true earlier z) first (subst (λ z. FreshIf z earlier (first_text r.inner)) b h.0.fresh) in
    (fresh, all_fresh read key t u (earlier ++ key x ∷ []) rs xs b f (subst (λ (z : List Text). RecordsFit t u (earlier ++ z) (map record_of rs)) first h.1) k.1)

-- ---- items

item_first : (i : Item) → first_text (item_events i) ≡ i.id ∷ []
unfolding item_events must
item_first i = refl

pub items_hold : (t : Table) (earlier : List Text) (rs : List Nested) → RecordsFit t tables.Item earlier (map record_of rs) → AllByRecursion (Holds tables.Item) rs
items_hold t earlier rs h = all_hold t tables.Item earlier rs plain_item h

pub items_read : (t : Table) (earlier : List Text) (rs : List Nested) (xs : List Item) → RecordsFit t tables.Item earlier (map record_of rs) → map item_events xs ≡ map inner_events rs
    → part_events fields.ItemTag (records (map record_of rs)) ≡ items_events xs
unfolding items_events
items_read t earlier rs xs h e = all_elements item_events (name_of fields.ItemTag) t tables.Item earlier rs xs plain_item h e

pub items_distinct : (rs : List Nested) (xs : List Item) → RecordsFit tables.Story tables.Item [] (map record_of rs) → map item_events xs ≡ map inner_events rs → AreDistinct (item_ids xs)
items_distinct rs xs h e = fresh_distinct [] (item_ids xs) (all_fresh item_events (λ i. i.id) tables.Story tables.Item [] rs xs refl item_first h e)

-- ---- stories

story_first : (s : Story) → first_text (story_events s) ≡ s.id ∷ []
unfolding story_events story_head_events must
story_first s = refl

pub stories_hold : (t : Table) (earlier : List Text) (rs : List Nested) → RecordsFit t tables.Story earlier (map record_of rs) → AllByRecursion (Holds tables.Story) rs
stories_hold t earlier rs h = all_hold t tables.Story earlier rs plain_story h

pub stories_read : (t : Table) (earlier : List Text) (rs : List Nested) (xs : List Story) → RecordsFit t tables.Story earlier (map record_of rs) → map story_events xs ≡ map inner_events rs
    → part_events fields.StoryTag (records (map record_of rs)) ≡ stories_events xs
unfolding stories_events
stories_read t earlier rs xs h e = all_elements story_events (name_of fields.StoryTag) t tables.Story earlier rs xs plain_story h e

pub stories_distinct : (rs : List Nested) (xs : List Story) → RecordsFit tables.Body tables.Story [] (map record_of rs) → map story_events xs ≡ map inner_events rs → AreDistinct (story_ids xs)
stories_distinct rs xs h e = fresh_distinct [] (story_ids xs) (all_fresh story_events (λ s. s.id) tables.Body tables.Story [] rs xs refl story_first h e)

-- ---- headers

pub headers_hold : (t : Table) (earlier : List Text) (rs : List Nested) → RecordsFit t tables.HeaderPatch earlier (map record_of rs) → AllByRecursion (Holds tables.HeaderPatch) rs
headers_hold t earlier rs h = all_hold t tables.HeaderPatch earlier rs plain_header h

pub headers_read : (t : Table) (earlier : List Text) (rs : List Nested) (xs : List HeaderPatch) → RecordsFit t tables.HeaderPatch earlier (map record_of rs) → map patch_events xs ≡ map inner_events rs
    → part_events fields.RoTag (records (map record_of rs)) ≡ headers_events xs
unfolding headers_events
headers_read t earlier rs xs h e = all_elements patch_events (name_of fields.RoTag) t tables.HeaderPatch earlier rs xs plain_header h e

-- ---- a whole order

parts_append : (cs ds : List Column) (ps qs : List Part) → length ps ≡ length cs → parts_events cs ps ++ parts_events ds qs ≡ parts_events (cs ++ ds) (ps ++ qs)
parts_append [] ds [] qs h = refl
parts_append [] ds (p ∷ ps) qs h = absurd (omega (arith, h))
parts_append (c ∷ cs) ds [] qs h = absurd (omega (arith, h))
parts_append (c ∷ cs) ds (p ∷ ps) qs h =
    append_assoc (part_events c.field p) (parts_events cs ps) (parts_events ds qs) ∙ ap (λ (z : List Event). part_events c.field p ++ z) (parts_append cs ds ps qs (omega (arith, h)))

-- the parts of a header, and its stories behind them
pub body_parts : (hs : List Part) (s : Part) → length hs ≡ 10 → parts_events header_places hs ++ part_events fields.StoryTag s ≡ parts_events (places (columns tables.Body)) (hs ++ s ∷ [])
body_parts hs s h =
    ap (λ (z : List Event). parts_events header_places hs ++ z) (sym (append-nil (part_events fields.StoryTag s)))
    ∙ parts_append header_places (column fields.StoryTag (Record tables.Story) Any ∷ []) hs (s ∷ []) h
