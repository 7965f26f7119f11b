-- The sizes of lists, field by field.
use Rattle.std.proofs.Common.{◌≡◌, ℕ, zero, suc, ◌+◌, ◌-◌, ◌/◌, ◌%◌, ◌<◌, ◌≤◌, Bool, true, false, cond, List, [], ◌∷◌, ◌++◌, length, codes, Option, Some, None, refl, sym, ap, ◌∙◌, if◌then◌else◌, nat_lt, arith, length-append}
use Rattle.std.specs.Fmt.{decimal}
use Rattle.std.specs.Char.Escape.{encode_utf16}
use Rattle.std.proofs.lemmas.Bool.Decides.{nat_tests}
use Rattle.std.proofs.lemmas.List.Concat.{flat_map-append, flat_map-cons}
use Rattle.mos_fields.specs.Characters.{Text, units_of}
use Rattle.mos_fields.specs.Escapes.{escaped_char, escaped}
use Rattle.mos_fields.specs.Values.{samples_text}
use Rattle.mos_fields.specs.declared.field.Field.{Field}
use Rattle.mos_fields.specs.declared.field.Field.TheVariants as fields
use Rattle.mos_fields.specs.Fields.{name_of}
use Rattle.mos_tables.specs.Events.{Event, raw}
use Rattle.mos_values.specs.Parts.{must, maybe, maybe_as, must_raw, maybe_raw, raws, joined, element}
use Rattle.mos_values.specs.Units.{units_in, list_events, list_all_events, send_events}
use Rattle.mos_values.specs.Views.{header_events, body_events, item_events, items_events, story_head_events, story_events, stories_events, patch_events, headers_events, story_send_events}
use Rattle.mos_values.proofs.Encoding.{units_in-append, units_in-nil, units_in_element, units_in_raw, units_of_name}
use Rattle.mos_values.proofs.Simple.{simple_decimal}
use Rattle.mos_values.proofs.Counts.{units_in_must, units_in_must_raw, units_in_simple, length_one, length_step}
use Rattle.mos_edits.specs.Orders.{Item, Story, Header, HeaderPatch, OrderBody, StorySend}
use Rattle.mos_edits.specs.Sizes.{char_units, escaped_units, text_units, raw_units, raws_units, field_units, optional_units, optional_raw_units, digits, number_units, item_units, items_units, story_units, stories_units, header_units, patch_units, list_units, ros_units, list_all_units, send_units}
use Rattle.mos_machines.specs.Small.{IsSmall, IsSmallItem, AreSmallItems, AreSmallStories, IsSmallOrder}

-- a character
escaped-char : (c : ℕ) → escaped_units c ≡ length (escaped (encode_utf16 c))
escaped-char c = by (nat_lt c 65536) refl
  where
    by : (b : Bool) → nat_lt c 65536 ≡ b → escaped_units c ≡ length (escaped (cond b (c ∷ []) ((55296 + (c - 65536) / 1024) ∷ (56320 + (c - 65536) % 1024) ∷ [])))
    by true s = grind (arith, nat_tests, s)
    by false s = grind (arith, nat_tests, s)

raw-char : (c : ℕ) → char_units c ≡ length (encode_utf16 c)
raw-char c = by (nat_lt c 65536)
  where
    by : (b : Bool) → (if b then 1 else 2) ≡ length (cond b (c ∷ []) ((55296 + (c - 65536) / 1024) ∷ (56320 + (c - 65536) % 1024) ∷ []))
    by true = refl
    by false = refl

-- texts
text-units : (t : Text) → text_units t ≡ length (escaped (units_of t))
text-units [] = refl
text-units (c ∷ cs) =
    let i = text-units cs in
    let k = escaped-char c in
    let e : length (escaped (encode_utf16 c ++ units_of cs)) ≡ length (escaped (encode_utf16 c)) + length (escaped (units_of cs)) = ap length (flat_map-append escaped_char (encode_utf16 c) (units_of cs)) ∙ length-append (escaped (encode_utf16 c)) (escaped (units_of cs)) in
    let u : units_of (c ∷ cs) ≡ encode_utf16 c ++ units_of cs = flat_map-cons encode_utf16 c cs in
    let l : length (escaped (units_of (c ∷ cs))) ≡ length (escaped (encode_utf16 c ++ units_of cs)) = ap (λ (x : List ℕ). length (escaped x)) u in
    omega (arith, i, k, e, l)

raw-units : (t : Text) → raw_units t ≡ length (units_of t)
raw-units [] = refl
raw-units (c ∷ cs) =
    let i = raw-units cs in
    let k = raw-char c in
    let e : length (units_of (c ∷ cs)) ≡ length (encode_utf16 c) + length (units_of cs) = ap length (flat_map-cons encode_utf16 c cs) ∙ length-append (encode_utf16 c) (units_of cs) in
    omega (arith, i, k, e)

-- fields, where the name has as many letters
must-units : (f : Field) (n : ℕ) (t : Text) → n ≡ length (name_of f) → field_units n t ≡ units_in (must f t)
must-units f n t e = let m = units_in_must f t in let u = text-units t in omega (arith, m, u, e)

maybe-units : (f : Field) (n : ℕ) (o : Option Text) → n ≡ length (name_of f) → optional_units n o ≡ units_in (maybe f o)
unfolding maybe
maybe-units f n None e = sym units_in-nil
maybe-units f n (Some t) e = must-units f n t e

maybe-raw-units : (f : Field) (o : Option Text) → optional_raw_units o ≡ units_in (maybe_raw f o)
unfolding maybe_raw
maybe-raw-units f None = sym units_in-nil
maybe-raw-units f (Some t) = raw-units t ∙ sym (units_in_must_raw f t)

raws-units : (f : Field) (ts : List Text) → raws_units ts ≡ units_in (raws f ts)
unfolding raws
raws-units f [] = sym units_in-nil
raws-units f (t ∷ ts) =
    let i = raws-units f ts in
    let k = raw-units t in
    let e : units_in (raw f t ∷ raws f ts) ≡ units_in (raw f t ∷ []) + units_in (raws f ts) = units_in-append (raw f t ∷ []) (raws f ts) in
    let r = units_in_raw f t in
    omega (arith, i, k, e, r)

-- numbers
digits-step : (n : ℕ) → 10 ≤ n → n < 4294967296 → digits n ≡ digits (n / 10) + 1
digits-step n a b = grind (arith, nat_tests)

digits-one : (n : ℕ) → n < 10 → digits n ≡ 1
digits-one n h = grind (arith, nat_tests)

digits-by : (k n : ℕ) → n < 4294967296 → n ≤ k → digits n ≡ length (decimal n)
digits-by zero n b h = digits-one n (omega (arith, h)) ∙ length_one n (omega (arith, h))
digits-by (suc k) n b h = by (nat_lt n 10) refl (digits-by k (n / 10))
  where
    by : (c : Bool) → nat_lt n 10 ≡ c → (n / 10 < 4294967296 → n / 10 ≤ k → digits (n / 10) ≡ length (decimal (n / 10))) → digits n ≡ length (decimal n)
    by true s i = let l : n < 10 = grind (arith, nat_tests, s) in digits-one n l ∙ length_one n l
    by false s i =
        let l : 10 ≤ n = grind (arith, nat_tests, s) in
        digits-step n l b ∙ length_step n (digits (n / 10)) l b (i (omega (arith, b, l)) (omega (arith, h, l)))

number-units : (f : Field) (n : ℕ) (o : Option ℕ) → IsSmall o → n ≡ length (name_of f) → number_units n o ≡ units_in (maybe_as samples_text f o)
unfolding maybe_as
number-units f n None h e = sym units_in-nil
number-units f n (Some k) h e =
    let s = units_in_simple f (decimal k) (simple_decimal k (omega (arith, h))) in
    let d = digits-by k k h (omega arith) in
    omega (arith, s, d, e)

-- parts, one after the other
abbrev parts_units : List (List Event) → ℕ
parts_units [] = 0
parts_units (es ∷ ess) = units_in es + parts_units ess

joined-units : (ess : List (List Event)) → units_in (joined ess) ≡ parts_units ess
joined-units [] = units_in-nil
joined-units (es ∷ ess) = units_in-append es (joined ess) ∙ ap (λ (n : ℕ). units_in es + n) (joined-units ess)

header-units : (h : Header) → header_units h ≡ units_in (header_events h)
unfolding header_events
header-units h =
    let j = joined-units (
    must fields.RoID h.ro
    ∷ must fields.RoSlug h.slug
    ∷ maybe fields.RoChannel h.channel
    ∷ maybe fields.RoEdStart h.ed_start
    ∷ maybe fields.RoEdDur h.ed_dur
    ∷ maybe fields.RoTrigger h.trigger
    ∷ maybe fields.MacroIn h.macro_in
    ∷ maybe fields.MacroOut h.macro_out
    ∷ raws fields.Metadata h.metadata
    ∷ raws fields.Kept h.others
    ∷ []) in
    let a = must-units fields.RoID 4 h.ro refl in
    let b = must-units fields.RoSlug 6 h.slug refl in
    let c = maybe-units fields.RoChannel 9 h.channel refl in
    let d = maybe-units fields.RoEdStart 9 h.ed_start refl in
    let e = maybe-units fields.RoEdDur 7 h.ed_dur refl in
    let f = maybe-units fields.RoTrigger 9 h.trigger refl in
    let g = maybe-units fields.MacroIn 7 h.macro_in refl in
    let i = maybe-units fields.MacroOut 8 h.macro_out refl in
    let k = raws-units fields.Metadata h.metadata in
    let l = raws-units fields.Kept h.others in
    omega (arith, j, a, b, c, d, e, f, g, i, k, l)

patch-units : (h : HeaderPatch) → patch_units h ≡ units_in (patch_events h)
unfolding patch_events
patch-units h =
    let j = joined-units (
    must fields.RoID h.ro
    ∷ maybe fields.RoSlug h.slug
    ∷ maybe fields.RoChannel h.channel
    ∷ maybe fields.RoEdStart h.ed_start
    ∷ maybe fields.RoEdDur h.ed_dur
    ∷ maybe fields.RoTrigger h.trigger
    ∷ maybe fields.MacroIn h.macro_in
    ∷ maybe fields.MacroOut h.macro_out
    ∷ raws fields.Metadata h.metadata
    ∷ raws fields.Kept h.others
    ∷ []) in
    let a = must-units fields.RoID 4 h.ro refl in
    let b = maybe-units fields.RoSlug 6 h.slug refl in
    let c = maybe-units fields.RoChannel 9 h.channel refl in
    let d = maybe-units fields.RoEdStart 9 h.ed_start refl in
    let e = maybe-units fields.RoEdDur 7 h.ed_dur refl in
    let f = maybe-units fields.RoTrigger 9 h.trigger refl in
    let g = maybe-units fields.MacroIn 7 h.macro_in refl in
    let i = maybe-units fields.MacroOut 8 h.macro_out refl in
    let k = raws-units fields.Metadata h.metadata in
    let l = raws-units fields.Kept h.others in
    omega (arith, j, a, b, c, d, e, f, g, i, k, l)

item-units : (x : Item) → IsSmallItem x → item_units x ≡ units_in (element (name_of fields.ItemTag) (item_events x))
unfolding item_events
item-units x small =
    let j = joined-units (
    must fields.ItemID x.id
    ∷ maybe fields.ItemSlug x.slug
    ∷ must fields.ObjID x.obj
    ∷ must fields.MosID x.mos
    ∷ maybe_raw fields.MosAbstract x.mos_abstract
    ∷ maybe_raw fields.ObjPaths x.obj_paths
    ∷ maybe fields.ItemChannel x.channel
    ∷ maybe_as samples_text fields.ItemEdStart x.ed_start
    ∷ maybe_as samples_text fields.ItemEdDur x.ed_dur
    ∷ maybe_as samples_text fields.ItemUserTimingDur x.user_timing_dur
    ∷ maybe fields.ItemTrigger x.trigger
    ∷ maybe fields.MacroIn x.macro_in
    ∷ maybe fields.MacroOut x.macro_out
    ∷ raws fields.Metadata x.metadata
    ∷ raws fields.Kept x.others
    ∷ []) in
    let t = units_in_element (name_of fields.ItemTag) (item_events x) (units_of_name fields.ItemTag) in
    let a = must-units fields.ItemID 6 x.id refl in
    let b = maybe-units fields.ItemSlug 8 x.slug refl in
    let c = must-units fields.ObjID 5 x.obj refl in
    let d = must-units fields.MosID 5 x.mos refl in
    let e = maybe-raw-units fields.MosAbstract x.mos_abstract in
    let f = maybe-raw-units fields.ObjPaths x.obj_paths in
    let g = maybe-units fields.ItemChannel 11 x.channel refl in
    let i = number-units fields.ItemEdStart 11 x.ed_start small.0 refl in
    let k = number-units fields.ItemEdDur 9 x.ed_dur small.1 refl in
    let l = number-units fields.ItemUserTimingDur 17 x.user_timing_dur small.2 refl in
    let m = maybe-units fields.ItemTrigger 11 x.trigger refl in
    let n = maybe-units fields.MacroIn 7 x.macro_in refl in
    let o = maybe-units fields.MacroOut 8 x.macro_out refl in
    let p = raws-units fields.Metadata x.metadata in
    let q = raws-units fields.Kept x.others in
    omega (arith, j, t, a, b, c, d, e, f, g, i, k, l, m, n, o, p, q)

items-units : (xs : List Item) → AreSmallItems xs → items_units xs ≡ units_in (items_events xs)
unfolding items_events
items-units [] h = sym units_in-nil
items-units (x ∷ xs) h =
    let a = item-units x h.0 in
    let i = items-units xs h.1 in
    let e : units_in (items_events (x ∷ xs)) ≡ units_in (element (name_of fields.ItemTag) (item_events x)) + units_in (items_events xs) =
    ap units_in (flat_map-cons (λ (y : Item). element (name_of fields.ItemTag) (item_events y)) x xs) ∙ units_in-append (element (name_of fields.ItemTag) (item_events x)) (items_events xs) in
    omega (arith, a, i, e)

story-units : (s : Story) → AreSmallItems s.items → story_units s ≡ units_in (element (name_of fields.StoryTag) (story_events s))
unfolding story_events story_head_events
story-units s h =
    let j = joined-units (must fields.StoryID s.id ∷ maybe fields.StorySlug s.slug ∷ maybe fields.StoryNum s.num ∷ raws fields.Metadata s.metadata ∷ raws fields.Kept s.others ∷ []) in
    let t = units_in_element (name_of fields.StoryTag) (story_events s) (units_of_name fields.StoryTag) in
    let w = units_in-append (story_head_events s) (items_events s.items) in
    let i = items-units s.items h in
    let a = must-units fields.StoryID 7 s.id refl in
    let b = maybe-units fields.StorySlug 9 s.slug refl in
    let c = maybe-units fields.StoryNum 8 s.num refl in
    let d = raws-units fields.Metadata s.metadata in
    let e = raws-units fields.Kept s.others in
    omega (arith, j, t, w, i, a, b, c, d, e)

stories-units : (ss : List Story) → AreSmallStories ss → stories_units ss ≡ units_in (stories_events ss)
unfolding stories_events
stories-units [] h = sym units_in-nil
stories-units (s ∷ ss) h =
    let a = story-units s h.0 in
    let i = stories-units ss h.1 in
    let e : units_in (stories_events (s ∷ ss)) ≡ units_in (element (name_of fields.StoryTag) (story_events s)) + units_in (stories_events ss) =
    ap units_in (flat_map-cons (λ (y : Story). element (name_of fields.StoryTag) (story_events y)) s ss) ∙ units_in-append (element (name_of fields.StoryTag) (story_events s)) (stories_events ss) in
    omega (arith, a, i, e)

pub order-units : (o : OrderBody) → IsSmallOrder o → list_units o ≡ units_in (list_events o)
unfolding body_events
order-units o h =
    let t = units_in_element (codes "roList") (body_events o) refl in
    let w = units_in-append (header_events o.header) (stories_events o.stories) in
    let a = header-units o.header in
    let b = stories-units o.stories h in
    omega (arith, t, w, a, b)

ros-units : (hs : List HeaderPatch) → ros_units hs ≡ units_in (headers_events hs)
unfolding headers_events
ros-units [] = sym units_in-nil
ros-units (h ∷ hs) =
    let a = patch-units h in
    let t = units_in_element (name_of fields.RoTag) (patch_events h) (units_of_name fields.RoTag) in
    let i = ros-units hs in
    let e : units_in (headers_events (h ∷ hs)) ≡ units_in (element (name_of fields.RoTag) (patch_events h)) + units_in (headers_events hs) =
    ap units_in (flat_map-cons (λ (y : HeaderPatch). element (name_of fields.RoTag) (patch_events y)) h hs) ∙ units_in-append (element (name_of fields.RoTag) (patch_events h)) (headers_events hs) in
    omega (arith, a, t, i, e)

pub orders-units : (hs : List HeaderPatch) → list_all_units hs ≡ units_in (list_all_events hs)
orders-units hs =
    let t = units_in_element (codes "roListAll") (headers_events hs) refl in
    let i = ros-units hs in
    omega (arith, t, i)

must-raw-units : (f : Field) (t : Text) → raw_units t ≡ units_in (must_raw f t)
must-raw-units f t = raw-units t ∙ sym (units_in_must_raw f t)

pub script-units : (s : StorySend) → send_units s ≡ units_in (send_events s)
unfolding story_send_events
script-units s =
    let j = joined-units (must fields.RoID s.ro ∷ must fields.StoryID s.story ∷ maybe fields.StorySlug s.slug ∷ maybe fields.StoryNum s.num ∷ must_raw fields.StoryBody s.body ∷ raws fields.Metadata s.metadata ∷ raws fields.Kept s.others ∷ []) in
    let t = units_in_element (codes "roStorySend") (story_send_events s) refl in
    let a = must-units fields.RoID 4 s.ro refl in
    let b = must-units fields.StoryID 7 s.story refl in
    let c = maybe-units fields.StorySlug 9 s.slug refl in
    let d = maybe-units fields.StoryNum 8 s.num refl in
    let e = must-raw-units fields.StoryBody s.body in
    let f = raws-units fields.Metadata s.metadata in
    let g = raws-units fields.Kept s.others in
    omega (arith, j, t, a, b, c, d, e, f, g)
