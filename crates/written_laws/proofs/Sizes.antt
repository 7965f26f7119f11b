-- How many code units the parts of a message have.
use Rattle.std.proofs.Common.{◌≡◌, ℕ, ◌+◌, ◌-◌, ◌*◌, ◌/◌, ◌%◌, ◌≤◌, Bool, true, false, cond, List, [], ◌∷◌, ◌++◌, length, codes, Option, Some, None, arith, refl, ap, ◌∙◌, nat_lt, ◌==◌, length-append}
use Rattle.std.specs.List.{flat_map}
use Rattle.std.specs.Char.Escape.{encode_utf16}
use Rattle.std.proofs.lemmas.List.Concat.{flat_map-cons}
use Rattle.mos_fields.specs.Characters.{Text, units_of}
use Rattle.mos_fields.specs.Escapes.{escaped_char, escaped}
use Rattle.mos_fields.specs.declared.field.Field.{Field}
use Rattle.mos_fields.specs.declared.field.Field.TheVariants as fields
use Rattle.mos_fields.specs.Fields.{name_of}
use Rattle.mos_tables.specs.Canonical.{event_text}
use Rattle.mos_tables.specs.Events.{Attribute, Event, leaf, opens, closes}
use Rattle.mos_values.specs.declared.header.Header.{Header}
use Rattle.mos_values.specs.declared.header.HeaderPatch.{HeaderPatch}
use Rattle.mos_values.specs.declared.message.Envelope.{Envelope}
use Rattle.mos_values.specs.MessageViews.{ids_events, message_events, envelope_events}
use Rattle.mos_values.specs.Parts.{must, maybe, raws, joined, element, element_with}
use Rattle.mos_values.specs.Units.{canonical_units, units_in}
use Rattle.mos_values.specs.Views.{header_events, patch_events, item_events, items_events, story_head_events, story_events, stories_events}
use Rattle.mos_values.proofs.Counts.{units_in_must}
use Rattle.mos_values.proofs.Encoding.{canonical_units-cons, canonical_units-nil, units_in-append, units_in-nil, units_in_element, units_of_name}
use Rattle.mos_edits.specs.Orders.{Item, Story, given_or, given_or_kept, list_or_kept, patched}
use Rattle.written_laws.specs.Lengths.{IsShort, IsShortIfThere, HasShortNames}
use Rattle.written_laws.proofs.Records.{header_parts, patch_parts}
use Rattle.written_laws.proofs.Sums.{total}

-- ---- texts

char-units : (c : ℕ) → length (encode_utf16 c) ≤ 2
char-units c = by (nat_lt c 65536)
  where
    by : (b : Bool) → length (cond b (c ∷ []) ((55296 + (c - 65536) / 1024) ∷ (56320 + (c - 65536) % 1024) ∷ [])) ≤ 2
    by true = omega arith
    by false = omega arith

text-units : (t : Text) → length (units_of t) ≤ 2 * length t
text-units [] = omega arith
text-units (c ∷ cs) =
    let i = text-units cs in
    let k = char-units c in
    let e : length (units_of (c ∷ cs)) ≡ length (encode_utf16 c) + length (units_of cs) = ap length (flat_map-cons encode_utf16 c cs) ∙ length-append (encode_utf16 c) (units_of cs) in
    omega (arith, i, k, e)

char-escaped : (c : ℕ) → length (escaped_char c) ≤ 6
char-escaped c = by (c == 60) (c == 62) (c == 38) (c == 34) (c == 39)
  where
    by : (p q r s t : Bool) → length (cond p (codes "&lt;") (cond q (codes "&gt;") (cond r (codes "&amp;") (cond s (codes "&quot;") (cond t (codes "&apos;") (c ∷ [])))))) ≤ 6
    by true q r s t = omega arith
    by false true r s t = omega arith
    by false false true s t = omega arith
    by false false false true t = omega arith
    by false false false false true = omega arith
    by false false false false false = omega arith

escaped-units : (us : List ℕ) → length (escaped us) ≤ 6 * length us
escaped-units [] = omega arith
escaped-units (u ∷ us) =
    let i = escaped-units us in
    let k = char-escaped u in
    let e : length (escaped (u ∷ us)) ≡ length (escaped_char u) + length (escaped us) = ap length (flat_map-cons escaped_char u us) ∙ length-append (escaped_char u) (escaped us) in
    omega (arith, i, k, e)

-- a field with a short text, where the name has as many letters
pub short-must : (f : Field) (n : ℕ) (t : Text) → n ≡ length (name_of f) → IsShort t → units_in (must f t) ≤ 2 * n + 1541
short-must f n t e h =
    let m = units_in_must f t in
    let a = escaped-units (units_of t) in
    let b = text-units t in
    omega (arith, e, h, m, a, b)

short-maybe : (f : Field) (n : ℕ) (o : Option Text) → n ≡ length (name_of f) → IsShortIfThere o → units_in (maybe f o) ≤ 2 * n + 1541
unfolding maybe
short-maybe f n None e h = let z = units_in-nil in omega (arith, z)
short-maybe f n (Some t) e h = short-must f n t e h

-- ---- elements

one-event : (e : Event) → units_in (e ∷ []) ≤ 2 * length (event_text e)
unfolding units_in
one-event e =
    let c : length (canonical_units (e ∷ [])) ≡ length (units_of (event_text e)) + length (canonical_units []) = ap length (canonical_units-cons e []) ∙ length-append (units_of (event_text e)) (canonical_units []) in
    let z : length (canonical_units []) ≡ 0 = ap length canonical_units-nil in
    let t = text-units (event_text e) in
    omega (arith, c, z, t)

pub units-with : (n : Text) (g : List Attribute) (es : List Event) → units_in (element_with n g es) ≤ 2 * length (event_text (opens n g)) + units_in es + 2 * length (event_text (closes n))
units-with n g es =
    let a : units_in (element_with n g es) ≡ units_in (opens n g ∷ []) + units_in (es ++ closes n ∷ []) = units_in-append (opens n g ∷ []) (es ++ closes n ∷ []) in
    let b = units_in-append es (closes n ∷ []) in
    let c = one-event (opens n g) in
    let d = one-event (closes n) in
    omega (arith, a, b, c, d)

-- an envelope with short names
pub envelope-units : (v : Envelope) → HasShortNames v → units_in (envelope_events v) ≤ units_in (message_events v.message) + 5000
unfolding envelope_events
envelope-units v h =
    let t = units_in_element (codes "mos") (must fields.MosID v.mos ++ must fields.NcsID v.ncs ++ maybe fields.MessageID v.message_id ++ message_events v.message) refl in
    let p = units_in-append (must fields.MosID v.mos ++ must fields.NcsID v.ncs ++ maybe fields.MessageID v.message_id) (message_events v.message) in
    let q = units_in-append (must fields.MosID v.mos ++ must fields.NcsID v.ncs) (maybe fields.MessageID v.message_id) in
    let r = units_in-append (must fields.MosID v.mos) (must fields.NcsID v.ncs) in
    let a = short-must fields.MosID 5 v.mos refl h.0 in
    let b = short-must fields.NcsID 5 v.ncs refl h.1 in
    let c = short-maybe fields.MessageID 9 v.message_id refl h.2 in
    omega (arith, t, p, q, r, a, b, c)

-- ---- lists

units-flat : {X : Type 0} (g : X → List Event) (xs : List X) → units_in (flat_map g xs) ≡ total (λ x. units_in (g x)) xs
units-flat g [] = units_in-nil
units-flat g (x ∷ xs) =
    let e : units_in (flat_map g (x ∷ xs)) ≡ units_in (g x) + units_in (flat_map g xs) = ap units_in (flat_map-cons g x xs) ∙ units_in-append (g x) (flat_map g xs) in
    let i = units-flat g xs in
    omega (arith, e, i)

abbrev pub id_units : Field → Text → ℕ
id_units f x = units_in (must f x)

abbrev pub item_weight : Item → ℕ
item_weight i = units_in (element (name_of fields.ItemTag) (item_events i))

abbrev pub story_weight : Story → ℕ
story_weight s = units_in (element (name_of fields.StoryTag) (story_events s))

pub ids-total : (f : Field) (xs : List Text) → units_in (ids_events f xs) ≡ total (id_units f) xs
unfolding ids_events must
ids-total f [] = units_in-nil
ids-total f (x ∷ xs) =
    let e : units_in (leaf (name_of f) [] x ∷ ids_events f xs) ≡ units_in (leaf (name_of f) [] x ∷ []) + units_in (ids_events f xs) = units_in-append (leaf (name_of f) [] x ∷ []) (ids_events f xs) in
    let i = ids-total f xs in
    omega (arith, e, i)

pub items-total : (xs : List Item) → units_in (items_events xs) ≡ total item_weight xs
unfolding items_events
items-total xs = units-flat (λ i. element (name_of fields.ItemTag) (item_events i)) xs

pub stories-total : (xs : List Story) → units_in (stories_events xs) ≡ total story_weight xs
unfolding stories_events
stories-total xs = units-flat (λ s. element (name_of fields.StoryTag) (story_events s)) xs

-- ---- records, part by part

joined-total : (ess : List (List Event)) → units_in (joined ess) ≡ total units_in ess
joined-total [] = units_in-nil
joined-total (es ∷ ess) = let a = units_in-append es (joined ess) in let i = joined-total ess in omega (arith, a, i)

front-units : (es fs : List Event) → units_in es ≤ units_in (es ++ fs)
front-units es fs = let a = units_in-append es fs in omega (arith, a)

pub item-id : (i : Item) → id_units fields.ItemID i.id ≤ item_weight i
unfolding item_events
item-id i =
    let t = units_in_element (name_of fields.ItemTag) (item_events i) (units_of_name fields.ItemTag) in
    let a : units_in (must fields.ItemID i.id) ≤ units_in (item_events i) = front-units (must fields.ItemID i.id) _ in
    omega (arith, t, a)

pub story-id : (s : Story) → id_units fields.StoryID s.id ≤ story_weight s
unfolding story_events story_head_events
story-id s =
    let t = units_in_element (name_of fields.StoryTag) (story_events s) (units_of_name fields.StoryTag) in
    let w = units_in-append (story_head_events s) (items_events s.items) in
    let a : units_in (must fields.StoryID s.id) ≤ units_in (story_head_events s) = front-units (must fields.StoryID s.id) _ in
    omega (arith, t, w, a)

pub story-items : (s : Story) → total item_weight s.items ≤ story_weight s
unfolding story_events
story-items s =
    let t = units_in_element (name_of fields.StoryTag) (story_events s) (units_of_name fields.StoryTag) in
    let w = units_in-append (story_head_events s) (items_events s.items) in
    let i = items-total s.items in
    omega (arith, t, w, i)

-- ---- a patch is within the header that it leaves

maybe-kept : (f : Field) (new old : Option Text) → units_in (maybe f new) ≤ units_in (maybe f (given_or_kept new old))
unfolding maybe
maybe-kept f None old = let z = units_in-nil in omega (arith, z)
maybe-kept f (Some x) old = omega arith

maybe-given : (f : Field) (new : Option Text) (old : Text) → units_in (maybe f new) ≤ units_in (must f (given_or new old))
unfolding maybe
maybe-given f None old = let z = units_in-nil in omega (arith, z)
maybe-given f (Some x) old = omega arith

raws-kept : (f : Field) (new old : List Text) → units_in (raws f new) ≤ units_in (raws f (list_or_kept new old))
unfolding raws
raws-kept f [] old = let z = units_in-nil in omega (arith, z)
raws-kept f (x ∷ xs) old = omega arith

pub patch-units : (p : HeaderPatch) (h : Header) → units_in (patch_events p) ≤ units_in (must fields.RoID p.ro) + units_in (header_events (patched p h))
unfolding patch_events header_events
patch-units p h =
    let j = joined-total (patch_parts p) in
    let k = joined-total (header_parts (patched p h)) in
    let a = maybe-given fields.RoSlug p.slug h.slug in
    let b = maybe-kept fields.RoChannel p.channel h.channel in
    let c = maybe-kept fields.RoEdStart p.ed_start h.ed_start in
    let d = maybe-kept fields.RoEdDur p.ed_dur h.ed_dur in
    let e = maybe-kept fields.RoTrigger p.trigger h.trigger in
    let f = maybe-kept fields.MacroIn p.macro_in h.macro_in in
    let g = maybe-kept fields.MacroOut p.macro_out h.macro_out in
    let i = raws-kept fields.Metadata p.metadata h.metadata in
    let l = raws-kept fields.Kept p.others h.others in
    omega (arith, j, k, a, b, c, d, e, f, g, i, l)
