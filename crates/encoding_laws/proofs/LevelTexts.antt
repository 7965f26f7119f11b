-- The texts and the raw elements of a record, part by part.
use Rattle.std.proofs.Common.{◌≡◌, Bool, true, false, cond, List, [], ◌∷◌, ◌++◌, map, Option, Some, None, refl, sym, ap, subst, ◌∙◌, append_assoc}
use Rattle.std.specs.List.{AllByRecursion, flat_map}
use Rattle.mos_fields.specs.Characters.{Text}
use Rattle.mos_fields.specs.Fields.{name_of, same_field, same}
use Rattle.mos_fields.specs.Forms.{among, reads}
use Rattle.mos_fields.specs.Raw.{IsRaw}
use Rattle.mos_fields.specs.declared.field.Field.{Field}
use Rattle.mos_fields.specs.declared.field.Field.TheVariants as fields
use Rattle.mos_fields.specs.declared.form.Form.{Form}
use Rattle.mos_tables.specs.declared.column.Column.{Column}
use Rattle.mos_tables.specs.declared.column.Shape.{Shape}
use Rattle.mos_tables.specs.declared.column.Shape.TheVariants.{Leaf, Raw, Record, Message}
use Rattle.mos_tables.specs.declared.column.Often.{Often}
use Rattle.mos_tables.specs.declared.column.Often.TheVariants.{One, Optional, Any}
use Rattle.mos_tables.specs.declared.table.Table.{Table}
use Rattle.mos_tables.specs.Tables.{column, columns, required, optional}
use Rattle.mos_tables.specs.Events.{Attribute, Event, leaf, raw, opens, closes}
use Rattle.mos_grammar.specs.Records.{Child, is_named, column_of}
use Rattle.mos_grammar.proofs.Seen.{or_false}
use Rattle.mos_grammar.proofs.Sound.{same-refl}
use Rattle.mos_cursor.specs.Parts.{kept_column}
use Rattle.mos_cursor.proofs.Roles.{same_is}
use Rattle.mos_values.specs.Parts.{must, maybe, maybe_as, must_raw, maybe_raw, raws, joined, element_with}
use Rattle.mos_values.specs.Sound.{IsOther, IsNamed, Fits}
use Rattle.encoding_laws.specs.Fitting.{inside_columns, TextFits, table_inside, TextsFit}
use Rattle.encoding_laws.proofs.Assembled.{Segment}
use Rattle.encoding_laws.proofs.KindSegments.{is_key, IsTextColumn, must_segment, maybe_segment, IsRawColumn, raws_segment, must_raw_segment, maybe_raw_segment, IsKeptRaw, kept_segment}

-- ---- events whose records all end

pub data Level : List Event → Type 0 where
  level_none : Level []
  level_leaf : (n : Text) (g : List Attribute) (x : Text) {es : List Event} → Level es → Level (leaf n g x ∷ es)
  level_raw : (f : Field) (x : Text) {es : List Event} → Level es → Level (raw f x ∷ es)
  level_record : (n : Text) (g : List Attribute) (inner es : List Event) → Level inner → Level es → Level (opens n g ∷ (inner ++ closes n ∷ es))

pub level_both : {x : List Event} (y : List Event) → Level x → Level y → Level (x ++ y)
level_both y level_none b = b
level_both y (level_leaf n g x a) b = level_leaf n g x (level_both y a b)
level_both y (level_raw f x a) b = level_raw f x (level_both y a b)
level_both y (level_record n g inner es a c) b = subst (λ (z : List Event). Level (opens n g ∷ z)) (sym (append_assoc inner (closes n ∷ es) y)) (level_record n g inner (es ++ y) a (level_both y c b))

mutual
  joined_texts : {x : List Event} → Level x → (t : Table) (ts : List Table) (y : List Event) → TextsFit (t ∷ ts) x → TextsFit (t ∷ ts) y → TextsFit (t ∷ ts) (x ++ y)
  joined_texts level_none t ts y h k = k
  joined_texts (level_leaf n g x a) t ts y h k = (h.0, joined_texts a t ts y h.1 k)
  joined_texts (level_raw f x a) t ts y h k = joined_texts a t ts y h k
  joined_texts (level_record n g inner es a c) t ts y h k =
      let u : Table = table_inside t n g in
      let r = splits a u (t ∷ ts) (closes n ∷ es) h in
      subst (TextsFit (u ∷ (t ∷ ts))) (sym (append_assoc inner (closes n ∷ es) y)) (joined_texts a u (t ∷ ts) (closes n ∷ (es ++ y)) r.0 (joined_texts c t ts y r.1 k))

  pub splits : {x : List Event} → Level x → (t : Table) (ts : List Table) (y : List Event) → TextsFit (t ∷ ts) (x ++ y) → TextsFit (t ∷ ts) x × TextsFit (t ∷ ts) y
  splits level_none t ts y h = (tt, h)
  splits (level_leaf n g x a) t ts y h = let r = splits a t ts y h.1 in ((h.0, r.0), r.1)
  splits (level_raw f x a) t ts y h = splits a t ts y h
  splits (level_record n g inner es a c) t ts y h =
      let u : Table = table_inside t n g in
      let h2 : TextsFit (u ∷ (t ∷ ts)) (inner ++ (closes n ∷ (es ++ y))) = subst (TextsFit (u ∷ (t ∷ ts))) (append_assoc inner (closes n ∷ es) y) h in
      let r = splits a u (t ∷ ts) (closes n ∷ (es ++ y)) h2 in
      let q = splits c t ts y r.1 in
      (joined_texts a u (t ∷ ts) (closes n ∷ es) r.0 q.0, q.1)

-- what stands in an element
pub texts_inside : (n : Text) (g : List Attribute) (es : List Event) (t : Table) (ts : List Table) → Level es → TextsFit (t ∷ ts) (element_with n g es) → TextsFit (table_inside t n g ∷ (t ∷ ts)) es
texts_inside n g es t ts l h = (splits l (table_inside t n g) (t ∷ ts) (closes n ∷ []) h).0

-- ---- parts

pub level_must : (f : Field) (x : Text) → Level (must f x)
unfolding must
level_must f x = level_leaf (name_of f) [] x level_none

pub level_maybe : (f : Field) (x : Option Text) → Level (maybe f x)
unfolding maybe
level_maybe f None = level_none
level_maybe f (Some x) = level_must f x

pub level_maybe_as : {A : Type 0} (write : A → Text) (f : Field) (x : Option A) → Level (maybe_as write f x)
unfolding maybe_as
level_maybe_as write f None = level_none
level_maybe_as write f (Some x) = level_must f (write x)

pub level_must_raw : (f : Field) (x : Text) → Level (must_raw f x)
unfolding must_raw
level_must_raw f x = level_raw f x level_none

pub level_maybe_raw : (f : Field) (x : Option Text) → Level (maybe_raw f x)
unfolding maybe_raw
level_maybe_raw f None = level_none
level_maybe_raw f (Some x) = level_must_raw f x

pub level_raws : (f : Field) (xs : List Text) → Level (raws f xs)
unfolding raws
level_raws f [] = level_none
level_raws f (x ∷ xs) = level_raw f x (level_raws f xs)

pub level_element : (n : Text) (g : List Attribute) (es : List Event) → Level es → Level (element_with n g es)
level_element n g es l = level_record n g es [] l level_none

pub level_elements : {A : Type 0} (n : Text) (inner : A → List Event) (xs : List A) → ((x : A) → Level (inner x)) → Level (flat_map (λ (x : A). element_with n [] (inner x)) xs)
level_elements n inner [] l = level_none
level_elements {A = A} n inner (x ∷ xs) l = level_both (flat_map (λ (x : A). element_with n [] (inner x)) xs) (level_element n [] (inner x) (l x)) (level_elements n inner xs l)

pub level_joined : (ess : List (List Event)) → AllByRecursion Level ess → Level (joined ess)
level_joined [] l = level_none
level_joined (es ∷ ess) l = level_both (joined ess) l.0 (level_joined ess l.1)

pub texts_of_parts : (ess : List (List Event)) → AllByRecursion Level ess → (t : Table) (ts : List Table) → TextsFit (t ∷ ts) (joined ess) → AllByRecursion (TextsFit (t ∷ ts)) ess
texts_of_parts [] l t ts h = tt
texts_of_parts (es ∷ ess) l t ts h = let r = splits l.0 t ts (joined ess) h in (r.0, texts_of_parts ess l.1 t ts r.1)

all_cut : (P : Event → Type 0) (xs ys : List Event) → AllByRecursion P (xs ++ ys) → AllByRecursion P xs × AllByRecursion P ys
all_cut P [] ys a = (tt, a)
all_cut P (x ∷ xs) ys a = let k = all_cut P xs ys a.1 in ((a.0, k.0), k.1)

abbrev pub EachFits : Table → List Event → Type 0
EachFits t es = AllByRecursion (Fits t) es

pub raws_of_parts : (ess : List (List Event)) (t : Table) → EachFits t (joined ess) → AllByRecursion (EachFits t) ess
raws_of_parts [] t h = tt
raws_of_parts (es ∷ ess) t h = let r = all_cut (Fits t) es (joined ess) h in (r.0, raws_of_parts ess t r.1)

-- ---- segments of parts whose texts fit

-- the column of a field with a text that is no key
abbrev pub IsPlainColumn : Table → Field → Form → Often → Type 0
IsPlainColumn t f form o = IsTextColumn t f form o × (inside_columns t ≡ columns t) × (is_key form ≡ false)

pub text_of_must : (t : Table) (ts : List Table) (f : Field) (form : Form) (o : Often) (x : Text) → column_of (inside_columns t) (name_of f) ≡ Some (column f (Leaf form) o) → TextsFit (t ∷ ts) (must f x) → reads form [] x ≡ Some x
unfolding must
text_of_must t ts f form o x i h = subst (λ (z : Option Column). TextFits z x) i h.0

inside_at : (t : Table) (f : Field) (form : Form) (o : Often) → IsPlainColumn t f form o → column_of (inside_columns t) (name_of f) ≡ Some (column f (Leaf form) o)
inside_at t f form o i = ap (λ (z : List Column). column_of z (name_of f)) i.1 ∙ i.0.0

pub must_part : (t : Table) (taken : List Text) (b : List Child) (ts : List Table) (f : Field) (form : Form) (x : Text) → IsPlainColumn t f form One → TextsFit (t ∷ ts) (must f x) → Segment t taken b (required f form) (must f x)
must_part t taken b ts f form x i h = must_segment t taken b f form x i.0 i.2 (text_of_must t ts f form One x (inside_at t f form One i) h)

pub maybe_part : (t : Table) (taken : List Text) (b : List Child) (ts : List Table) (f : Field) (form : Form) (x : Option Text) → IsPlainColumn t f form Optional → TextsFit (t ∷ ts) (maybe f x) → Segment t taken b (optional f form) (maybe f x)
unfolding maybe
maybe_part t taken b ts f form None i h = maybe_segment t taken b f form None i.0 i.2 tt
maybe_part t taken b ts f form (Some x) i h = maybe_segment t taken b f form (Some x) i.0 i.2 (text_of_must t ts f form Optional x (inside_at t f form Optional i) h)

pub maybe_as_part : {A : Type 0} (write : A → Text) (t : Table) (taken : List Text) (b : List Child) (ts : List Table) (f : Field) (form : Form) (x : Option A) → IsPlainColumn t f form Optional → TextsFit (t ∷ ts) (maybe_as write f x) → Segment t taken b (optional f form) (maybe_as write f x)
unfolding maybe_as maybe
maybe_as_part write t taken b ts f form None i h = maybe_part t taken b ts f form None i tt
maybe_as_part write t taken b ts f form (Some x) i h = maybe_part t taken b ts f form (Some (write x)) i h

-- ---- segments of raw parts that are sound

named_raw : (t : Table) (f : Field) (x : Text) → same_field f fields.Kept ≡ false → Fits t (raw f x) → IsRaw (name_of f) x
named_raw t f x k h = subst (λ (z : Bool). IsNamed z t f x) k h

named_raws : (t : Table) (f : Field) (xs : List Text) → same_field f fields.Kept ≡ false → EachFits t (raws f xs) → AllByRecursion (IsRaw (name_of f)) xs
unfolding raws
named_raws t f [] k h = tt
named_raws t f (x ∷ xs) k h = (named_raw t f x k h.0, named_raws t f xs k h.1)

pub raws_part : (t : Table) (taken : List Text) (b : List Child) (f : Field) (xs : List Text) → IsRawColumn t f Any → EachFits t (raws f xs) → Segment t taken b (column f Raw Any) (raws f xs)
raws_part t taken b f xs i h = raws_segment t taken b f xs i (named_raws t f xs i.1 h)

pub must_raw_part : (t : Table) (taken : List Text) (b : List Child) (f : Field) (x : Text) → IsRawColumn t f One → EachFits t (must_raw f x) → Segment t taken b (column f Raw One) (must_raw f x)
unfolding must_raw
must_raw_part t taken b f x i h = must_raw_segment t taken b f x i (named_raw t f x i.1 h.0)

pub maybe_raw_part : (t : Table) (taken : List Text) (b : List Child) (f : Field) (x : Option Text) → IsRawColumn t f Optional → EachFits t (maybe_raw f x) → Segment t taken b (column f Raw Optional) (maybe_raw f x)
unfolding maybe_raw must_raw
maybe_raw_part t taken b f None i h = maybe_raw_segment t taken b f None i tt
maybe_raw_part t taken b f (Some x) i h = maybe_raw_segment t taken b f (Some x) i (named_raw t f x i.1 h.0)

-- a name of no column
abbrev pub has_message : List Column → Bool
has_message [] = false
has_message (c ∷ cs) = cond (elim (c.shape) [ Message ↦ true | Leaf f ↦ false | Raw ↦ false | Record t ↦ false ]) true (has_message cs)

pub same_false : (a b : Text) → same a b ≡ false → same b a ≡ false
same_false a b h = go (same b a) refl
  where
    go : (x : Bool) → same b a ≡ x → x ≡ false
    go false e = refl
    go true e =
        let p : b ≡ a = same_is b a e in
        let q : same a b ≡ true = subst (λ (z : Text). same a z ≡ true) (sym p) (same-refl a) in
        (let z : true ≡ false = sym q ∙ h in cc)

not_named : (c : Column) (n : Text) → elim (c.shape) [ Message ↦ true | Leaf f ↦ false | Raw ↦ false | Record t ↦ false ] ≡ false → same n (name_of c.field) ≡ false → is_named c n ≡ false
not_named c n m h = go c.shape m
  where
    s : same (name_of c.field) n ≡ false
    s = same_false n (name_of c.field) h

    go : (x : Shape) → elim x [ Message ↦ true | Leaf f ↦ false | Raw ↦ false | Record t ↦ false ] ≡ false → elim x [ Message ↦ true | Leaf f ↦ same (name_of c.field) n | Raw ↦ same (name_of c.field) n | Record t ↦ same (name_of c.field) n ] ≡ false
    go Message m = absurd cc
    go (Leaf f) m = s
    go Raw m = s
    go (Record t) m = s

no_column : (cs : List Column) (n : Text) → has_message cs ≡ false → among n (map (λ (c : Column). name_of c.field) cs) ≡ false → column_of cs n ≡ None
no_column [] n m h = refl
no_column (c ∷ cs) n m h =
    let p = or_false (elim (c.shape) [ Message ↦ true | Leaf f ↦ false | Raw ↦ false | Record t ↦ false ]) (has_message cs) m in
    let q = or_false (same n (name_of c.field)) (among n (map (λ (c : Column). name_of c.field) cs)) h in
    rw (not_named c n p.0 q.0) (no_column cs n p.1 q.1)

other_raws : (t : Table) (xs : List Text) → has_message (columns t) ≡ false → EachFits t (raws fields.Kept xs) → AllByRecursion (IsKeptRaw t) xs
unfolding raws
other_raws t [] m h = tt
other_raws t (x ∷ xs) m h =
    let o : IsOther t x = h.0 in
    ((o.0, o.1, no_column (columns t) o.0 m o.2, o.3), other_raws t xs m h.1)

pub kept_part : (t : Table) (taken : List Text) (b : List Child) (xs : List Text) → has_message (columns t) ≡ false → EachFits t (raws fields.Kept xs) → Segment t taken b kept_column (raws fields.Kept xs)
kept_part t taken b xs m h = kept_segment t taken b xs (other_raws t xs m h)
