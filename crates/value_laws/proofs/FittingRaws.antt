-- Raw elements that fit the records that they stand in, along the events of a message.
use Rattle.std.proofs.Common.{◌≡◌, Bool, true, false, List, [], ◌∷◌, ◌++◌, refl, sym, subst, append_assoc}
use Rattle.std.specs.List.{AllByRecursion, flat_map}
use Rattle.mos_fields.specs.Characters.{Text}
use Rattle.mos_fields.specs.Forms.{among}
use Rattle.mos_fields.specs.Raw.{IsRaw}
use Rattle.mos_fields.specs.declared.field.Field.{Field}
use Rattle.mos_fields.specs.declared.operation.Operation.{Operation}
use Rattle.mos_tables.specs.declared.aim.Aim.TheVariants.{AtStory}
use Rattle.mos_tables.specs.declared.table.Table.{Table}
use Rattle.mos_tables.specs.declared.table.Table.TheVariants as tables
use Rattle.mos_tables.specs.Events.{Attribute, Event, leaf, raw, opens, closes}
use Rattle.mos_values.specs.Parts.{element_with}
use Rattle.mos_values.specs.Sound.{Fits, taken_names}
use Rattle.encoding_laws.specs.Fitting.{table_inside}

-- ---- what fits

-- an element of a name that no message of the profile has
abbrev pub IsOtherMessage : Text → Type 0
IsOtherMessage x = (n : Text) × IsRaw n x × (among n taken_names ≡ false)

-- a raw element of a record with this table; that of an envelope is its message
abbrev pub RawFits : Table → Field → Text → Type 0
RawFits tables.Envelope f x = IsOtherMessage x
RawFits t f x = Fits t (raw f x)

-- an element_source, whatever its target aims at
abbrev pub settled : Table → Table
settled (tables.Source o a) = tables.Source o AtStory
settled t = t

abbrev pub inside : Table → Text → List Attribute → Table
inside t n g = settled (table_inside t n g)

-- something stands there before the end of a record
abbrev pub begins : List Event → Bool
begins [] = false
begins (leaf n g x ∷ es) = true
begins (raw f x ∷ es) = true
begins (opens n g ∷ es) = true
begins (closes n ∷ es) = false

-- an element_source isn't empty
abbrev pub StartsAs : Table → List Event → Type 0
StartsAs (tables.Source o a) es = begins es ≡ true
StartsAs t es = Unit {0}

-- Each raw element fits the innermost record, and no element_source is empty. The tables are those of the open records,
-- the innermost first. The outermost element is an envelope.
abbrev pub RawsFit : List Table → List Event → Type 0
RawsFit ts [] = Unit {0}
RawsFit (t ∷ ts) (leaf n g x ∷ es) = RawsFit (t ∷ ts) es
RawsFit (t ∷ ts) (raw f x ∷ es) = RawFits t f x × RawsFit (t ∷ ts) es
RawsFit (t ∷ ts) (opens n g ∷ es) = StartsAs (inside t n g) es × RawsFit (inside t n g ∷ (t ∷ ts)) es
RawsFit (t ∷ ts) (closes n ∷ es) = RawsFit ts es
RawsFit [] (leaf n g x ∷ es) = RawsFit [] es
RawsFit [] (raw f x ∷ es) = RawsFit [] es
RawsFit [] (opens n g ∷ es) = RawsFit (tables.Envelope ∷ []) es
RawsFit [] (closes n ∷ es) = RawsFit [] es

pub begins_more : (x y : List Event) → begins x ≡ true → begins (x ++ y) ≡ true
begins_more [] y h = absurd cc
begins_more (leaf n g v ∷ x) y h = refl
begins_more (raw f v ∷ x) y h = refl
begins_more (opens n g ∷ x) y h = refl
begins_more (closes n ∷ x) y h = absurd cc

pub starts_more : (t : Table) (x y : List Event) → StartsAs t x → StartsAs t (x ++ y)
starts_more (tables.Source o a) x y h = begins_more x y h
starts_more t x y h = tt

begins_before : (n : Text) (x r : List Event) → begins (x ++ closes n ∷ r) ≡ true → begins x ≡ true
begins_before n [] r h = absurd cc
begins_before n (leaf m g v ∷ x) r h = refl
begins_before n (raw f v ∷ x) r h = refl
begins_before n (opens m g ∷ x) r h = refl
begins_before n (closes m ∷ x) r h = absurd cc

-- ---- from the parts of a record to the record

-- In a record with this table, what follows fits also behind these events.
abbrev pub Passes : Table → List Event → Type 0
Passes t es = (ts : List Table) (r : List Event) → RawsFit (t ∷ ts) r → RawsFit (t ∷ ts) (es ++ r)

pub passes_none : (t : Table) → Passes t []
passes_none t ts r h = h

pub passes_leaf : (t : Table) (n : Text) (g : List Attribute) (x : Text) → Passes t (leaf n g x ∷ [])
passes_leaf t n g x ts r h = h

pub passes_raw : (t : Table) (f : Field) (x : Text) → RawFits t f x → Passes t (raw f x ∷ [])
passes_raw t f x k ts r h = (k, h)

pub passes_both : (t : Table) (x y : List Event) → Passes t x → Passes t y → Passes t (x ++ y)
passes_both t x y p q ts r h = subst (RawsFit (t ∷ ts)) (sym (append_assoc x y r)) (p ts (y ++ r) (q ts r h))

pub passes_record : (t u : Table) (n : Text) (g : List Attribute) (x : List Event) → inside t n g ≡ u → StartsAs u x → Passes u x → Passes t (opens n g ∷ (x ++ closes n ∷ []))
passes_record t u n g x e s p ts r h =
    let P : Table → Type 0 = λ z. StartsAs z ((x ++ closes n ∷ []) ++ r) × RawsFit (z ∷ (t ∷ ts)) ((x ++ closes n ∷ []) ++ r) in
    let a : List Event = x ++ closes n ∷ r in
    let k : RawsFit (u ∷ (t ∷ ts)) a = p (t ∷ ts) (closes n ∷ r) h in
    subst P (sym e) (starts_more u (x ++ closes n ∷ []) r (starts_more u x (closes n ∷ []) s), subst (RawsFit (u ∷ (t ∷ ts))) (sym (append_assoc x (closes n ∷ []) r)) k)

-- ---- from a record to its parts

-- That these events fit a record with this table says this, and that what follows fits.
abbrev pub Tells : Table → List Event → Type 0 → Type 0
Tells t es P = (ts : List Table) (r : List Event) → RawsFit (t ∷ ts) (es ++ r) → P × RawsFit (t ∷ ts) r

pub tells_none : (t : Table) → Tells t [] (Unit {0})
tells_none t ts r h = (tt, h)

pub tells_both : (t : Table) (x y : List Event) {P Q : Type 0} → Tells t x P → Tells t y Q → Tells t (x ++ y) (P × Q)
tells_both t x y p q ts r h =
    let a = p ts (y ++ r) (subst (RawsFit (t ∷ ts)) (append_assoc x y r) h) in
    let b = q ts r a.1 in
    ((a.0, b.0), b.1)

pub tells_so : (t : Table) (x : List Event) {P Q : Type 0} → (P → Q) → Tells t x P → Tells t x Q
tells_so t x f p ts r h = let a = p ts r h in (f a.0, a.1)

-- what stands in an element
pub tells_element : (t u : Table) (n : Text) (g : List Attribute) (x : List Event) {P : Type 0} → inside t n g ≡ u → Tells u x P → Tells t (element_with n g x) P
tells_element t u n g x e p ts r h =
    let k : RawsFit (u ∷ (t ∷ ts)) ((x ++ closes n ∷ []) ++ r) = subst (λ (z : Table). RawsFit (z ∷ (t ∷ ts)) ((x ++ closes n ∷ []) ++ r)) e h.1 in
    p (t ∷ ts) (closes n ∷ r) (subst (RawsFit (u ∷ (t ∷ ts))) (append_assoc x (closes n ∷ []) r) k)

-- and that there is something in it
pub tells_source : (t : Table) (n : Text) (x : List Event) {P : Type 0} (o : Operation) → inside t n [] ≡ tables.Source o AtStory → Tells (tables.Source o AtStory) x P → Tells t (element_with n [] x) ((begins x ≡ true) × P)
tells_source t n x o e p ts r h =
    let s : begins ((x ++ closes n ∷ []) ++ r) ≡ true = subst (λ (z : Table). StartsAs z ((x ++ closes n ∷ []) ++ r)) e h.0 in
    let q = tells_element t (tables.Source o AtStory) n [] x e p ts r h in
    ((begins_before n x r (subst (λ (z : List Event). begins z ≡ true) (append_assoc x (closes n ∷ []) r) s), q.0), q.1)

-- elements, one behind the other
pub tells_elements : {A : Type 0} (t u : Table) (n : Text) (events : A → List Event) (P : A → Type 0) → inside t n [] ≡ u → ((a : A) → Tells u (events a) (P a)) → (xs : List A) → Tells t (flat_map (λ (z : A). element_with n [] (events z)) xs) (AllByRecursion P xs)
tells_elements t u n events P e p [] = tells_none t
tells_elements {A = A} t u n events P e p (x ∷ xs) =
    tells_both t (element_with n [] (events x)) (flat_map (λ (z : A). element_with n [] (events z)) xs) (tells_element t u n [] (events x) e (p x)) (tells_elements t u n events P e p xs)

-- events with no records among them
pub data Flat : List Event → Type 0 where
  flat_none : Flat []
  flat_leaf : (n : Text) (g : List Attribute) (x : Text) {es : List Event} → Flat es → Flat (leaf n g x ∷ es)
  flat_raw : (f : Field) (x : Text) {es : List Event} → Flat es → Flat (raw f x ∷ es)

pub tells_flat : (t : Table) → ((f : Field) (x : Text) → RawFits t f x → Fits t (raw f x)) → {es : List Event} → Flat es → Tells t es (AllByRecursion (Fits t) es)
tells_flat t p flat_none = tells_none t
tells_flat t p (flat_leaf n g x f) = λ ts r h. let a = tells_flat t p f ts r h in ((tt, a.0), a.1)
tells_flat t p (flat_raw k x f) = λ ts r h. let a = tells_flat t p f ts r h.1 in ((p k x h.0, a.0), a.1)
