-- Counting the code units of canonical encodings, with 2^64 - 1 for every larger number.
use Rattle.std.proofs.Common.{◌≡◌, ℕ, ◌+◌, ◌-◌, ◌*◌, ◌/◌, ◌%◌, ◌^◌, ◌<◌, ◌≤◌, true, List, [], ◌∷◌, ◌++◌, length, map, take, get_or, min, refl, sym, ap, subst, ◌∙◌, arith, length-append}
use Rattle.std.specs.List.{flat_map}
use Rattle.std.specs.Fmt.{decimal}
use Rattle.std.proofs.lemmas.List.{map-append}
use Rattle.mos_tables.specs.Events.{raw}
use Rattle.mos_values.specs.Pieces.{piece_events, pieces_events}
use Rattle.mos_values.specs.declared.piece.Piece.{Piece}
use Rattle.std.proofs.lemmas.Fmt.{decimal_digit, decimal_step, length-decimal-le}
use Rattle.std.proofs.lemmas.List.{append-nil, take_more, take_all}
use Rattle.std.proofs.lemmas.List.Concat.{flat_map-append}
use Rattle.mos_fields.specs.Characters.{Text, units_of}
use Rattle.mos_fields.specs.Escapes.{escaped_char, escaped}
use Rattle.mos_fields.specs.declared.field.Field.{Field}
use Rattle.mos_fields.specs.Fields.{name_of}
use Rattle.mos_tables.specs.Events.{Event}
use Rattle.mos_values.specs.Parts.{must, must_raw, raws, element}
use Rattle.mos_fields.specs.declared.field.Field.TheVariants as fields
use Rattle.mos_values.specs.Units.{units_in, capped, list_events, list_all_events}
use Rattle.mos_values.specs.declared.item.Item.{Item}
use Rattle.mos_values.specs.declared.mos_obj.MosObj.{MosObj}
use Rattle.mos_values.specs.declared.header.HeaderPatch.{HeaderPatch}
use Rattle.mos_values.specs.StoryValue.{Story}
use Rattle.mos_values.specs.OrderValue.{OrderBody}
use Rattle.mos_values.specs.Views.{header_events, body_events, item_events, items_events, story_head_events, story_events, stories_events, patch_events, headers_events, mos_obj_events, objects_events}
use Rattle.mos_values.proofs.Encoding.{units_in-append, units_in-nil, units_in_leaf, units_in_raw, units_in_element, units_of_name}
use Rattle.mos_values.proofs.Simple.{are_simple, simple_is}

-- more of a list's encoding
pub flat_map_step : {X Y : Type 0} (g : X → List Y) (xs : List X) (i : ℕ) (x : X) → i < length xs → x ≡ get_or xs i x → flat_map g (take (i + 1) xs) ≡ flat_map g (take i xs) ++ g x
flat_map_step g xs i x lt is = ap (flat_map g) (take_more xs i x lt) ∙ rw (← is) (flat_map-append g (take i xs) (x ∷ [])) ∙ ap (λ ys. flat_map g (take i xs) ++ ys) (append-nil (g x))

pub units_step : {X : Type 0} (g : X → List Event) (xs : List X) (i : ℕ) (x : X) (n m r : ℕ) → i < length xs → x ≡ get_or xs i x
    → n ≡ capped (units_in (flat_map g (take i xs))) → m ≡ capped (units_in (g x)) → r ≡ capped (n + m) → r ≡ capped (units_in (flat_map g (take (i + 1) xs)))
units_step g xs i x n m r lt is before here after =
    let e : units_in (flat_map g (take (i + 1) xs)) ≡ units_in (flat_map g (take i xs)) + units_in (g x) = ap units_in (flat_map_step g xs i x lt is) ∙ units_in-append (flat_map g (take i xs)) (g x) in
    omega arith

-- more of a text, escaped
pub escaped_step : (us : List ℕ) (i u n m r : ℕ) → i < length us → u ≡ get_or us i u
    → n ≡ capped (length (escaped (take i us))) → m ≡ length (escaped_char u) → r ≡ capped (n + m) → r ≡ capped (length (escaped (take (i + 1) us)))
escaped_step us i u n m r lt is before here after =
    let e : length (escaped (take (i + 1) us)) ≡ length (escaped (take i us)) + length (escaped_char u) = ap length (flat_map_step escaped_char us i u lt is) ∙ length-append (escaped (take i us)) (escaped_char u) in
    omega arith

-- a field with a text
pub units_in_must : (f : Field) (x : Text) → units_in (must f x) ≡ 2 * length (name_of f) + 5 + length (escaped (units_of x))
unfolding must
units_in_must f x = units_in_leaf (name_of f) x (units_of_name f)

-- with a text that is written as it is
pub units_in_simple : (f : Field) (x : Text) → are_simple x ≡ true → units_in (must f x) ≡ 2 * length (name_of f) + 5 + length x
units_in_simple f x h = units_in_must f x ∙ ap (λ k. 2 * length (name_of f) + 5 + k) (ap length (simple_is x h))

pub units_in_must_raw : (f : Field) (x : Text) → units_in (must_raw f x) ≡ length (units_of x)
unfolding must_raw
units_in_must_raw f x = units_in_raw f x

-- the same, counted
pub count_simple : (f : Field) (x : Text) (a b r : ℕ) → are_simple x ≡ true → a ≡ capped (2 * length (name_of f) + 5) → b ≡ length x → r ≡ capped (a + b) → r ≡ capped (units_in (must f x))
count_simple f x a b r h p q e = let k = units_in_simple f x h in omega (arith, k)

-- ---- numbers

pub length_one : (n : ℕ) → n < 10 → 1 ≡ length (decimal n)
length_one n h = ap length (sym (decimal_digit n h))

pub length_step : (n k : ℕ) → 10 ≤ n → n < 2 ^ 32 → k ≡ length (decimal (n / 10)) → k + 1 ≡ length (decimal n)
length_step n k h lt e =
    let s : length (decimal n) ≡ length (decimal (n / 10)) + 1 = ap length (decimal_step n h (omega arith)) ∙ length-append (decimal (n / 10)) ((48 + n % 10) ∷ []) in
    omega arith

pub length_few : (n k : ℕ) → 10 ≤ n → n < 2 ^ 32 → k ≡ length (decimal (n / 10)) → k + 1 ≤ 10
length_few n k h lt e =
    let s : k + 1 ≡ length (decimal n) = length_step n k h lt e in
    let few : length (decimal n) ≤ 10 = length-decimal-le 10 n (omega arith) (omega arith) (omega arith) in
    omega arith

-- ---- lists

pub no_raws : (f : Field) → 0 ≡ capped (units_in (raws f []))
unfolding raws
no_raws f = let e = units_in-nil in omega (arith, e)

pub raws_step : (f : Field) (xs : List Text) (i : ℕ) (x : Text) (n m r : ℕ) → i < length xs → x ≡ get_or xs i x
    → n ≡ capped (units_in (raws f (take i xs))) → m ≡ capped (length (units_of x)) → r ≡ capped (n + m) → r ≡ capped (units_in (raws f (take (i + 1) xs)))
unfolding raws
raws_step f xs i x n m r lt is before here after =
    let parts : raws f (take (i + 1) xs) ≡ raws f (take i xs) ++ raw f x ∷ [] = ap (raws f) (take_more xs i x lt) ∙ rw (← is) (map-append (raw f) (take i xs) (x ∷ [])) in
    let e : units_in (raws f (take (i + 1) xs)) ≡ units_in (raws f (take i xs)) + units_in (raw f x ∷ []) = ap units_in parts ∙ units_in-append (raws f (take i xs)) (raw f x ∷ []) in
    let k : units_in (raw f x ∷ []) ≡ length (units_of x) = units_in_raw f x in
    omega arith

pub no_pieces : 0 ≡ capped (units_in (pieces_events []))
unfolding pieces_events
no_pieces = let e = units_in-nil in omega (arith, e)

pub pieces_step : (ps : List Piece) (i : ℕ) (p : Piece) (n m r : ℕ) → i < length ps → p ≡ get_or ps i p
    → n ≡ capped (units_in (pieces_events (take i ps))) → m ≡ capped (units_in (piece_events p)) → r ≡ capped (n + m) → r ≡ capped (units_in (pieces_events (take (i + 1) ps)))
unfolding pieces_events
pieces_step ps i p n m r lt is before here after = units_step piece_events ps i p n m r lt is before here after

-- ---- records

-- an element, by what stands in it
pub count_element : (n : Text) (es : List Event) (a r : ℕ) → units_of n ≡ n → a ≡ capped (units_in es) → r ≡ capped (2 * length n + 5 + a) → r ≡ capped (units_in (element n es))
count_element n es a r h e k = let p = units_in_element n es h in omega (arith, p)

pub count_field : (f : Field) (es fs : List Event) (a r : ℕ) → es ≡ fs → a ≡ capped (units_in es) → r ≡ capped (2 * length (name_of f) + 5 + a) → r ≡ capped (units_in (element (name_of f) fs))
count_field f es fs a r same h k = count_element (name_of f) fs a r (units_of_name f) (h ∙ ap (λ xs. capped (units_in xs)) same) k

-- two parts, one behind the other
pub count_both : (es fs gs : List Event) (a b r : ℕ) → a ≡ capped (units_in es) → b ≡ capped (units_in fs) → r ≡ capped (a + b) → gs ≡ es ++ fs → r ≡ capped (units_in gs)
count_both es fs gs a b r p q k e =
    let l : units_in gs ≡ units_in es + units_in fs = ap units_in e ∙ units_in-append es fs in
    omega arith

pub no_items : 0 ≡ capped (units_in (items_events []))
unfolding items_events
no_items = let e = units_in-nil in omega (arith, e)

pub items_step : (xs : List Item) (i : ℕ) (x : Item) (n m r : ℕ) → i < length xs → x ≡ get_or xs i x
    → n ≡ capped (units_in (items_events (take i xs))) → m ≡ capped (units_in (element (name_of fields.ItemTag) (item_events x))) → r ≡ capped (n + m) → r ≡ capped (units_in (items_events (take (i + 1) xs)))
unfolding items_events
items_step xs i x n m r lt is before here after = units_step (λ y. element (name_of fields.ItemTag) (item_events y)) xs i x n m r lt is before here after

pub no_stories : 0 ≡ capped (units_in (stories_events []))
unfolding stories_events
no_stories = let e = units_in-nil in omega (arith, e)

pub stories_step : (xs : List Story) (i : ℕ) (x : Story) (n m r : ℕ) → i < length xs → x ≡ get_or xs i x
    → n ≡ capped (units_in (stories_events (take i xs))) → m ≡ capped (units_in (element (name_of fields.StoryTag) (story_events x))) → r ≡ capped (n + m) → r ≡ capped (units_in (stories_events (take (i + 1) xs)))
unfolding stories_events
stories_step xs i x n m r lt is before here after = units_step (λ y. element (name_of fields.StoryTag) (story_events y)) xs i x n m r lt is before here after

pub no_headers : 0 ≡ capped (units_in (headers_events []))
unfolding headers_events
no_headers = let e = units_in-nil in omega (arith, e)

pub headers_step : (xs : List HeaderPatch) (i : ℕ) (x : HeaderPatch) (n m r : ℕ) → i < length xs → x ≡ get_or xs i x
    → n ≡ capped (units_in (headers_events (take i xs))) → m ≡ capped (units_in (element (name_of fields.RoTag) (patch_events x))) → r ≡ capped (n + m) → r ≡ capped (units_in (headers_events (take (i + 1) xs)))
unfolding headers_events
headers_step xs i x n m r lt is before here after = units_step (λ y. element (name_of fields.RoTag) (patch_events y)) xs i x n m r lt is before here after

pub no_objects : 0 ≡ capped (units_in (objects_events []))
unfolding objects_events
no_objects = let e = units_in-nil in omega (arith, e)

pub objects_step : (xs : List MosObj) (i : ℕ) (x : MosObj) (n m r : ℕ) → i < length xs → x ≡ get_or xs i x
    → n ≡ capped (units_in (objects_events (take i xs))) → m ≡ capped (units_in (element (name_of fields.MosObjTag) (mos_obj_events x))) → r ≡ capped (n + m) → r ≡ capped (units_in (objects_events (take (i + 1) xs)))
unfolding objects_events
objects_step xs i x n m r lt is before here after = units_step (λ y. element (name_of fields.MosObjTag) (mos_obj_events y)) xs i x n m r lt is before here after

pub story_is : (s : Story) → story_events s ≡ story_head_events s ++ items_events s.items
unfolding story_events
story_is s = refl

pub body_is : (b : OrderBody) → body_events b ≡ header_events b.header ++ stories_events b.stories
unfolding body_events
body_is b = refl
