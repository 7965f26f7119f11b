-- The code units of canonical encodings, part by part.
use Rattle.std.proofs.Common.{◌≡◌, ℕ, ◌+◌, ◌-◌, ◌*◌, ◌/◌, ◌%◌, ◌^◌, ◌<◌, ◌≤◌, Bool, true, false, cond, List, [], ◌∷◌, ◌++◌, length, take, get_or, min, codes, refl, sym, ap, subst, ◌∙◌, append_assoc, arith, length-append}
use Rattle.std.specs.Prelude.{nat_lt, ◌==◌}
use Rattle.std.specs.Char.Escape.{encode_utf16}
use Rattle.std.specs.List.{flat_map}
use Rattle.std.proofs.lemmas.Bool.{ltb-false}
use Rattle.std.proofs.lemmas.Bool.Decides.{nat_tests}
use Rattle.std.proofs.lemmas.List.{append-nil, take_more}
use Rattle.std.proofs.lemmas.List.Concat.{flat_map-append, flat_map-cons}
use Rattle.mos_fields.proofs.CharacterLemmas.{chars_of-nil}
use Rattle.mos_fields.specs.Characters.{Text, units_of}
use Rattle.mos_fields.specs.Escapes.{escaped_char, escaped}
use Rattle.mos_fields.specs.Raw.{end_text}
use Rattle.mos_fields.specs.declared.field.Field.{Field}
use Rattle.mos_fields.specs.declared.field.Field.TheVariants as fields
use Rattle.mos_fields.specs.Fields.{name_of}
use Rattle.mos_tables.specs.Events.{Attribute, Event, leaf, raw, opens, closes}
use Rattle.mos_tables.specs.Canonical.{canonical, event_text, start_text, attribute_text}
use Rattle.mos_values.specs.Parts.{must, must_raw, raws, element, element_with}
use Rattle.mos_values.specs.Units.{canonical_units, units_in, capped}

-- ---- lists of events

pub units_of-append : (x y : Text) → units_of (x ++ y) ≡ units_of x ++ units_of y
units_of-append x y = flat_map-append encode_utf16 x y

pub canonical_units-append : (es fs : List Event) → canonical_units (es ++ fs) ≡ canonical_units es ++ canonical_units fs
unfolding canonical_units canonical
canonical_units-append es fs = ap units_of (flat_map-append event_text es fs) ∙ units_of-append (flat_map event_text es) (flat_map event_text fs)

pub canonical_units-nil : canonical_units [] ≡ []
unfolding canonical_units canonical
canonical_units-nil = refl

-- the first event's text, and the others
pub canonical_units-cons : (e : Event) (es : List Event) → canonical_units (e ∷ es) ≡ units_of (event_text e) ++ canonical_units es
unfolding canonical_units canonical
canonical_units-cons e es = ap units_of (flat_map-cons event_text e es) ∙ units_of-append (event_text e) (flat_map event_text es)

pub units_in-append : (es fs : List Event) → units_in (es ++ fs) ≡ units_in es + units_in fs
unfolding units_in
units_in-append es fs = ap length (canonical_units-append es fs) ∙ length-append (canonical_units es) (canonical_units fs)

pub units_in_nil : units_in [] ≡ 0
unfolding units_in
units_in_nil = ap length canonical_units-nil

pub units_in-nil : units_in [] ≡ 0
unfolding units_in
units_in-nil = ap length canonical_units-nil

-- ---- escaping

narrow : (c : ℕ) → nat_lt c 65536 ≡ true → encode_utf16 c ≡ c ∷ []
narrow c e = rw e refl

wide : (c : ℕ) → nat_lt c 65536 ≡ false → encode_utf16 c ≡ (55296 + (c - 65536) / 1024) ∷ (56320 + (c - 65536) % 1024) ∷ []
wide c e = rw e refl

isnt : (c k : ℕ) → k < c → (c == k) ≡ false
isnt c k h = grind (arith, nat_tests)

-- characters past the five marks stand for themselves
plain : (c : ℕ) → 63 ≤ c → escaped_char c ≡ c ∷ []
plain c h =
    let a : (c == 60) ≡ false = isnt c 60 (omega arith) in
    let b : (c == 62) ≡ false = isnt c 62 (omega arith) in
    let d : (c == 38) ≡ false = isnt c 38 (omega arith) in
    let e : (c == 34) ≡ false = isnt c 34 (omega arith) in
    let f : (c == 39) ≡ false = isnt c 39 (omega arith) in
    rw (a, b, d, e, f) refl

-- references are their own code units
of_marks : (c : ℕ) (a b d e f : Bool) → nat_lt c 65536 ≡ true
    → units_of (cond a (codes "&lt;") (cond b (codes "&gt;") (cond d (codes "&amp;") (cond e (codes "&quot;") (cond f (codes "&apos;") (c ∷ []))))))
    ≡ cond a (codes "&lt;") (cond b (codes "&gt;") (cond d (codes "&amp;") (cond e (codes "&quot;") (cond f (codes "&apos;") (c ∷ [])))))
of_marks c true b d e f h = refl
of_marks c false true d e f h = refl
of_marks c false false true e f h = refl
of_marks c false false false true f h = refl
of_marks c false false false false true h = refl
of_marks c false false false false false h = ap (λ (us : Text). us ++ []) (narrow c h)

-- escaping a character's code units is taking those of the escaped character
by_unit : (c : ℕ) (b : Bool) → nat_lt c 65536 ≡ b → units_of (escaped_char c) ≡ escaped (encode_utf16 c)
by_unit c true e = of_marks c (c == 60) (c == 62) (c == 38) (c == 34) (c == 39) e ∙ sym (append-nil (escaped_char c)) ∙ ap escaped (sym (narrow c e))
by_unit c false e =
    let past : 65536 ≤ c = ltb-false c 65536 e in
    let h : ℕ = 55296 + (c - 65536) / 1024 in
    let l : ℕ = 56320 + (c - 65536) % 1024 in
    let left : units_of (escaped_char c) ≡ h ∷ l ∷ [] = ap units_of (plain c (omega arith)) ∙ ap (λ (us : Text). us ++ []) (wide c e) in
    let right : escaped (h ∷ l ∷ []) ≡ h ∷ l ∷ [] = rw (plain h (omega arith), plain l (omega arith)) refl in
    left ∙ sym right ∙ ap escaped (sym (wide c e))

pub escaped-append : (x y : Text) → escaped (x ++ y) ≡ escaped x ++ escaped y
escaped-append x y = flat_map-append escaped_char x y

-- the code units of an escaped text are its code units, escaped
pub units_of-escaped : (x : Text) → units_of (escaped x) ≡ escaped (units_of x)
units_of-escaped [] = refl
units_of-escaped (c ∷ cs) =
    units_of-append (escaped_char c) (escaped cs) ∙ ap (λ (us : Text). us ++ units_of (escaped cs)) (by_unit c (nat_lt c 65536) refl)
    ∙ ap (λ (us : Text). escaped (encode_utf16 c) ++ us) (units_of-escaped cs) ∙ sym (escaped-append (encode_utf16 c) (units_of cs))

-- ---- elements

-- a tag of a name in ASCII
pub start_units : (n : Text) → units_of n ≡ n → units_of (start_text n []) ≡ 60 ∷ (n ++ 62 ∷ [])
start_units n e = ap (λ (us : Text). 60 ∷ us) (ap units_of (ap (λ (x : Text). x ++ 62 ∷ []) (append-nil n)) ∙ units_of-append n (62 ∷ []) ∙ ap (λ (x : Text). x ++ 62 ∷ []) e)

pub end_units : (n : Text) → units_of n ≡ n → units_of (end_text n) ≡ 60 ∷ 47 ∷ (n ++ 62 ∷ [])
end_units n e = ap (λ (us : Text). 60 ∷ 47 ∷ us) (units_of-append n (62 ∷ []) ∙ ap (λ (x : Text). x ++ 62 ∷ []) e)

-- the code units of a field with a text
abbrev pub leaf_units : Text → List ℕ → List ℕ
leaf_units n us = (60 ∷ (n ++ 62 ∷ [])) ++ escaped us ++ (60 ∷ 47 ∷ (n ++ 62 ∷ []))

joins3 : {a b x y z : List ℕ} → a ≡ b ++ x → b ≡ y → x ≡ z → {w v : List ℕ} → w ≡ v → a ++ w ≡ y ++ z ++ v
joins3 p q r k = cc

pub leaf_is : (n x : Text) → units_of n ≡ n → canonical_units (leaf n [] x ∷ []) ≡ leaf_units n (units_of x)
leaf_is n x e =
    canonical_units-cons (leaf n [] x) [] ∙ rw canonical_units-nil (append-nil (units_of (start_text n [] ++ escaped x ++ end_text n)))
    ∙ units_of-append (start_text n [] ++ escaped x) (end_text n) ∙ joins3 (units_of-append (start_text n []) (escaped x)) (start_units n e) (units_of-escaped x) (end_units n e)

pub length-leaf : (n : Text) (us : List ℕ) → length (leaf_units n us) ≡ 2 * length n + 5 + length (escaped us)
length-leaf n us = simp length-append (omega arith)

pub units_in_leaf : (n x : Text) → units_of n ≡ n → units_in (leaf n [] x ∷ []) ≡ 2 * length n + 5 + length (escaped (units_of x))
unfolding units_in
units_in_leaf n x e = ap length (leaf_is n x e) ∙ length-leaf n (units_of x)

joins : {a b x y : List ℕ} → a ≡ b → x ≡ y → a ++ x ≡ b ++ y
joins p q = cc

-- an element round the encoding of what stands in it
pub element_is : (n : Text) (es : List Event) → units_of n ≡ n → canonical_units (element n es) ≡ (60 ∷ (n ++ 62 ∷ [])) ++ (canonical_units es ++ (60 ∷ 47 ∷ (n ++ 62 ∷ [])))
element_is n es e =
    let closing : canonical_units (closes n ∷ []) ≡ 60 ∷ 47 ∷ (n ++ 62 ∷ []) = canonical_units-cons (closes n) [] ∙ ap (λ (us : List ℕ). units_of (end_text n) ++ us) canonical_units-nil ∙ append-nil (units_of (end_text n)) ∙ end_units n e in
    canonical_units-cons (opens n []) (es ++ closes n ∷ []) ∙ joins (start_units n e) (canonical_units-append es (closes n ∷ []) ∙ ap (λ (us : List ℕ). canonical_units es ++ us) closing)

pub units_in_element : (n : Text) (es : List Event) → units_of n ≡ n → units_in (element n es) ≡ 2 * length n + 5 + units_in es
unfolding units_in
units_in_element n es e =
    let k : length (canonical_units (element n es)) ≡ length ((60 ∷ (n ++ 62 ∷ [])) ++ (canonical_units es ++ (60 ∷ 47 ∷ (n ++ 62 ∷ [])))) = ap length (element_is n es e) in
    k ∙ simp length-append (omega arith)

-- raw elements stand as they were written
pub raw_is : (f : Field) (x : Text) → canonical_units (raw f x ∷ []) ≡ units_of x
raw_is f x = canonical_units-cons (raw f x) [] ∙ rw canonical_units-nil (append-nil (units_of x))

pub units_in_raw : (f : Field) (x : Text) → units_in (raw f x ∷ []) ≡ length (units_of x)
unfolding units_in
units_in_raw f x = ap length (raw_is f x)

-- the names of fields are in ASCII
pub units_of_name : (f : Field) → units_of (name_of f) ≡ name_of f
units_of_name fields.MosID = refl
units_of_name fields.NcsID = refl
units_of_name fields.MessageID = refl
units_of_name fields.RoID = refl
units_of_name fields.RoSlug = refl
units_of_name fields.RoChannel = refl
units_of_name fields.RoEdStart = refl
units_of_name fields.RoEdDur = refl
units_of_name fields.RoTrigger = refl
units_of_name fields.MacroIn = refl
units_of_name fields.MacroOut = refl
units_of_name fields.Metadata = refl
units_of_name fields.StoryTag = refl
units_of_name fields.StoryID = refl
units_of_name fields.StorySlug = refl
units_of_name fields.StoryNum = refl
units_of_name fields.ItemTag = refl
units_of_name fields.ItemID = refl
units_of_name fields.ItemSlug = refl
units_of_name fields.ObjID = refl
units_of_name fields.MosAbstract = refl
units_of_name fields.ObjPaths = refl
units_of_name fields.ItemChannel = refl
units_of_name fields.ItemEdStart = refl
units_of_name fields.ItemEdDur = refl
units_of_name fields.ItemUserTimingDur = refl
units_of_name fields.ItemTrigger = refl
units_of_name fields.MosObjTag = refl
units_of_name fields.ObjSlug = refl
units_of_name fields.ObjGroup = refl
units_of_name fields.ObjType = refl
units_of_name fields.ObjTB = refl
units_of_name fields.ObjRev = refl
units_of_name fields.ObjDur = refl
units_of_name fields.Status = refl
units_of_name fields.ObjAir = refl
units_of_name fields.CreatedBy = refl
units_of_name fields.Created = refl
units_of_name fields.ChangedBy = refl
units_of_name fields.Changed = refl
units_of_name fields.Description = refl
units_of_name fields.TimeTag = refl
units_of_name fields.Manufacturer = refl
units_of_name fields.ModelTag = refl
units_of_name fields.HwRev = refl
units_of_name fields.SwRev = refl
units_of_name fields.Dom = refl
units_of_name fields.SerialNumber = refl
units_of_name fields.MachineID = refl
units_of_name fields.OpTime = refl
units_of_name fields.MosRev = refl
units_of_name fields.SupportedProfilesTag = refl
units_of_name fields.MosProfile = refl
units_of_name fields.DefaultActiveX = refl
units_of_name fields.StatusDescription = refl
units_of_name fields.Pause = refl
units_of_name fields.RoTag = refl
units_of_name fields.ElementTarget = refl
units_of_name fields.ElementSource = refl
units_of_name fields.RoAir = refl
units_of_name fields.RoStatus = refl
units_of_name fields.StoryBody = refl
units_of_name fields.DeviceType = refl
units_of_name fields.Number = refl
units_of_name fields.ElementKind = refl
units_of_name fields.OperationKind = refl
units_of_name fields.Message = refl
units_of_name fields.Kept = refl
units_of_name fields.Dropped = refl
