-- The events of each kind of field are those of its column.
use Rattle.std.proofs.Common.{◌≡◌, ℕ, suc, ◌≤◌, Bool, true, false, List, [], ◌∷◌, ◌++◌, length, Option, Some, None, refl, sym, ap, subst, ◌∙◌, append_assoc, arith}
use Rattle.std.specs.List.{AllByRecursion, flat_map}
use Rattle.std.proofs.lemmas.List.{append-nil}
use Rattle.mos_fields.specs.Characters.{Text}
use Rattle.mos_fields.specs.Fields.{name_of, same_field}
use Rattle.mos_fields.specs.Forms.{reads}
use Rattle.mos_fields.specs.Names.{is_empty, may_grow, named}
use Rattle.mos_fields.specs.Raw.{ValueText, QuotedText, EqualsText, TagText, IsRaw}
use Rattle.mos_fields.specs.Raw as raws_as
use Rattle.mos_fields.specs.declared.field.Field.{Field}
use Rattle.mos_fields.specs.declared.field.Field.TheVariants as fields
use Rattle.mos_fields.specs.declared.form.Form.{Form}
use Rattle.mos_fields.specs.declared.form.Form.TheVariants as forms
use Rattle.mos_tables.specs.declared.column.Column.{Column}
use Rattle.mos_tables.specs.declared.column.Shape.{Shape}
use Rattle.mos_tables.specs.declared.column.Shape.TheVariants.{Leaf, Raw, Record}
use Rattle.mos_tables.specs.declared.column.Often.{Often}
use Rattle.mos_tables.specs.declared.column.Often.TheVariants.{One, Optional, Any}
use Rattle.mos_tables.specs.declared.others.Others.TheVariants.{Kept}
use Rattle.mos_tables.specs.declared.table.Table.{Table}
use Rattle.mos_tables.specs.Tables.{column, columns, others, required, optional, attribute_of_form, attribute_of_table}
use Rattle.mos_tables.specs.Events.{Attribute, Event, leaf, raw, opens, closes}
use Rattle.mos_grammar.specs.Tokens.{Token, open_tag, empty_tag, tail}
use Rattle.mos_grammar.specs.Records.{Child, least_count, column_of, flat, other_role, with_aim, keys, arranged, nested}
use Rattle.mos_lexer.specs.Lexing.{WritesValue, value_ends, value_itself, value_reference, WritesQuoted, quoted_space, quote, WritesEquals, equals_space, equals, WritesTag, ends_start, ends_empty, tag_space, attribute}
use Rattle.mos_cursor.specs.Accepted.{IsGiven}
use Rattle.mos_cursor.specs.Parts.{kept_column}
use Rattle.mos_cursor.proofs.Counts.{Most}
use Rattle.mos_values.specs.Parts.{must, maybe, must_raw, maybe_raw, raws, element_with}
use Rattle.encoding_laws.proofs.Admitted.{given_again, role_of_other, raw_of_column, record_admitted}
use Rattle.encoding_laws.proofs.Pieces.{Piece, leaf_piece, RawTokens, whole_raw, empty_raw, raw_piece, Canonical, record_piece}
use Rattle.encoding_laws.proofs.Ordered.{KeptPiece, kept_piece}
use Rattle.encoding_laws.proofs.Assembled.{ColumnPiece, ColumnPieces, PiecesFor, holds_records, HasNoKey, Segment}

pub field_named : (f : Field) → is_empty (name_of f) ≡ false → named [] (name_of f) ≡ true
unfolding may_grow
field_named fields.MosID h = refl
field_named fields.NcsID h = refl
field_named fields.MessageID h = refl
field_named fields.RoID h = refl
field_named fields.RoSlug h = refl
field_named fields.RoChannel h = refl
field_named fields.RoEdStart h = refl
field_named fields.RoEdDur h = refl
field_named fields.RoTrigger h = refl
field_named fields.MacroIn h = refl
field_named fields.MacroOut h = refl
field_named fields.Metadata h = refl
field_named fields.StoryTag h = refl
field_named fields.StoryID h = refl
field_named fields.StorySlug h = refl
field_named fields.StoryNum h = refl
field_named fields.ItemTag h = refl
field_named fields.ItemID h = refl
field_named fields.ItemSlug h = refl
field_named fields.ObjID h = refl
field_named fields.MosAbstract h = refl
field_named fields.ObjPaths h = refl
field_named fields.ItemChannel h = refl
field_named fields.ItemEdStart h = refl
field_named fields.ItemEdDur h = refl
field_named fields.ItemUserTimingDur h = refl
field_named fields.ItemTrigger h = refl
field_named fields.MosObjTag h = refl
field_named fields.ObjSlug h = refl
field_named fields.ObjGroup h = refl
field_named fields.ObjType h = refl
field_named fields.ObjTB h = refl
field_named fields.ObjRev h = refl
field_named fields.ObjDur h = refl
field_named fields.Status h = refl
field_named fields.ObjAir h = refl
field_named fields.CreatedBy h = refl
field_named fields.Created h = refl
field_named fields.ChangedBy h = refl
field_named fields.Changed h = refl
field_named fields.Description h = refl
field_named fields.TimeTag h = refl
field_named fields.Manufacturer h = refl
field_named fields.ModelTag h = refl
field_named fields.HwRev h = refl
field_named fields.SwRev h = refl
field_named fields.Dom h = refl
field_named fields.SerialNumber h = refl
field_named fields.MachineID h = refl
field_named fields.OpTime h = refl
field_named fields.MosRev h = refl
field_named fields.SupportedProfilesTag h = refl
field_named fields.MosProfile h = refl
field_named fields.DefaultActiveX h = refl
field_named fields.StatusDescription h = refl
field_named fields.Pause h = refl
field_named fields.RoTag h = refl
field_named fields.ElementTarget h = refl
field_named fields.ElementSource h = refl
field_named fields.RoAir h = refl
field_named fields.RoStatus h = refl
field_named fields.StoryBody h = refl
field_named fields.DeviceType h = refl
field_named fields.Number h = refl
field_named fields.ElementKind h = refl
field_named fields.OperationKind h = refl
field_named fields.Message h = absurd cc
field_named fields.Kept h = absurd cc
field_named fields.Dropped h = absurd cc

-- ---- raw elements as tokens

value_back : {q : ℕ} {x z : List ℕ} → ValueText q x z → (w y : List ℕ) → z ≡ w ++ y → (v : Text) × (u : List ℕ) × WritesValue q v u w × (x ≡ u ++ y)
value_back {q = q} raws_as.value_ends w y e = ([], q ∷ w, value_ends, ap (λ (r : List ℕ). q ∷ r) e)
value_back (raws_as.value_itself {c = c} a b t) w y e = let r = value_back t w y e in (c ∷ r.0, c ∷ r.1, value_itself a b r.2, ap (λ (s : List ℕ). c ∷ s) r.3)
value_back (raws_as.value_reference {c = c} m a t) w y e =
    let r = value_back t w y e in (c ∷ r.0, 38 ∷ (m ++ r.1), value_reference m a r.2, ap (λ (s : List ℕ). 38 ∷ s) (ap (λ (s : List ℕ). m ++ s) r.3 ∙ sym (append_assoc m r.1 y)))

quoted_back : {x z : List ℕ} → QuotedText x z → (w y : List ℕ) → z ≡ w ++ y → (v : Text) × (u : List ℕ) × WritesQuoted v u w × (x ≡ u ++ y)
quoted_back (raws_as.quoted_space {c = c} a t) w y e = let r = quoted_back t w y e in (r.0, c ∷ r.1, quoted_space a r.2, ap (λ (s : List ℕ). c ∷ s) r.3)
quoted_back (raws_as.quote {q = q} a t) w y e = let r = value_back t w y e in (r.0, q ∷ r.1, quote a r.2, ap (λ (s : List ℕ). q ∷ s) r.3)

equals_back : {x z : List ℕ} → EqualsText x z → (w y : List ℕ) → z ≡ w ++ y → (v : Text) × (u : List ℕ) × WritesEquals v u w × (x ≡ u ++ y)
equals_back (raws_as.equals_space {c = c} a t) w y e = let r = equals_back t w y e in (r.0, c ∷ r.1, equals_space a r.2, ap (λ (s : List ℕ). c ∷ s) r.3)
equals_back (raws_as.equals t) w y e = let r = quoted_back t w y e in (r.0, 61 ∷ r.1, equals r.2, ap (λ (s : List ℕ). 61 ∷ s) r.3)

tag_back : {s e : Bool} {x y : List ℕ} → TagText s e x y → (g : List Attribute) × (u : List ℕ) × WritesTag s g e u × (x ≡ u ++ y)
tag_back raws_as.ends_start = ([], 62 ∷ [], ends_start, refl)
tag_back raws_as.ends_empty = ([], 47 ∷ (62 ∷ []), ends_empty, refl)
tag_back (raws_as.tag_space {c = c} a t) = let r = tag_back t in (r.0, c ∷ r.1, tag_space a r.2, ap (λ (s : List ℕ). c ∷ s) r.3)
tag_back {y = y} (raws_as.attribute a x z m q t) =
    let r = tag_back t in
    let k = equals_back q r.1 y r.3 in
    (record { name = a; value = k.0 } ∷ r.0, a ++ k.1, attribute a k.1 r.1 m k.2 r.2, ap (λ (s : List ℕ). a ++ s) k.3 ∙ sym (append_assoc a k.1 y))

pub raw_tokens : (n x : Text) → IsRaw n x → (ts : List Token) × RawTokens n x ts
raw_tokens n x (raws_as.raw_empty {x = z} m t) =
    let r = tag_back t in
    let tag : Text = 60 ∷ (n ++ r.1) in
    let e : tag ≡ 60 ∷ (n ++ z) = ap (λ (s : List ℕ). 60 ∷ (n ++ s)) (sym (r.3 ∙ append-nil r.1)) in
    (empty_tag n r.0 (60 ∷ (n ++ z)) ∷ [], subst (λ (s : Text). RawTokens n s (empty_tag n r.0 s ∷ [])) e (empty_raw r.0 tag (r.1, m, r.2, refl, refl)))
raw_tokens n x (raws_as.raw_whole {x = z} {y = y} m t h) =
    let r = tag_back t in
    let tag : Text = 60 ∷ (n ++ r.1) in
    let e : tag ++ y ≡ 60 ∷ (n ++ z) = ap (λ (s : List ℕ). 60 ∷ s) (append_assoc n r.1 y ∙ ap (λ (s : List ℕ). n ++ s) (sym r.3)) in
    (open_tag n r.0 tag ∷ tail y ∷ [], subst (λ (s : Text). RawTokens n s (open_tag n r.0 tag ∷ tail y ∷ [])) e (whole_raw r.0 tag y (r.1, m, r.2, refl, refl) h))

-- ---- segments

abbrev pub segment_of : (t : Table) (taken : List Text) (b : List Child) (c : Column) (xs : List Child) → same_field c.field fields.Kept ≡ false → ColumnPieces t taken b c xs → Most c.often (length xs) → least_count c.often ≤ length xs
    → (holds_records c.shape ≡ false → AllByRecursion HasNoKey xs) → Segment t taken b c (flat xs)
segment_of t taken b c xs k w m l q = record { children = xs; events = refl; pieces = subst (λ (z : Bool). PiecesFor z t taken b c xs) (sym k) w; few = m; enough = l; keyless = q }

pub records_hold : {A : Type 0} → true ≡ false → A
records_hold e = absurd (let p = e in cc)

abbrev pub is_key : Form → Bool
is_key forms.Key = true
is_key f = false

-- beside other keys, where the text is none
pub reads_beside : (form : Form) (taken : List Text) (x : Text) → is_key form ≡ false → reads form [] x ≡ Some x → reads form taken x ≡ Some x
unfolding reads
reads_beside forms.Key taken x k h = absurd cc
reads_beside f taken x k h = h

-- the column of a field with a text and no attribute
abbrev pub IsTextColumn : Table → Field → Form → Often → Type 0
IsTextColumn t f form o = (column_of (columns t) (name_of f) ≡ Some (column f (Leaf form) o)) × (attribute_of_form form ≡ None) × (same_field f fields.Kept ≡ false) × (is_empty (name_of f) ≡ false)

pub text_piece : (t : Table) (taken : List Text) (b : List Child) (f : Field) (form : Form) (o : Often) (x : Text) → IsTextColumn t f form o → reads form taken x ≡ Some x → ColumnPiece t taken b (column f (Leaf form) o) (f, leaf (name_of f) [] x ∷ [])
text_piece t taken b f form o x i r = record {
  name = name_of f;
  named = i.0;
  place = refl;
  piece = leaf_piece t taken b (name_of f) (column f (Leaf form) o) form [] x i.0 refl (subst (λ (z : Option Field). IsGiven z []) (sym i.1) refl) r (field_named f i.3);
}

pub one_text : (t : Table) (taken : List Text) (b : List Child) (f : Field) (form : Form) (o : Often) (x : Text) → IsTextColumn t f form o → reads form taken x ≡ Some x → Most o 1 → least_count o ≤ 1 → Segment t taken b (column f (Leaf form) o) (must f x)
unfolding must
one_text t taken b f form o x i r m l = segment_of t taken b (column f (Leaf form) o) ((f, leaf (name_of f) [] x ∷ []) ∷ []) i.2 (text_piece t taken b f form o x i r, tt) m l (λ e. (refl, tt))

pub key_segment : (t : Table) (taken : List Text) (b : List Child) (f : Field) (form : Form) (x : Text) → IsTextColumn t f form One → reads form taken x ≡ Some x → Segment t taken b (required f form) (must f x)
key_segment t taken b f form x i r = one_text t taken b f form One x i r (omega arith) (omega arith)

pub must_segment : (t : Table) (taken : List Text) (b : List Child) (f : Field) (form : Form) (x : Text) → IsTextColumn t f form One → is_key form ≡ false → reads form [] x ≡ Some x → Segment t taken b (required f form) (must f x)
must_segment t taken b f form x i k r = one_text t taken b f form One x i (reads_beside form taken x k r) (omega arith) (omega arith)

none_segment : (t : Table) (taken : List Text) (b : List Child) (c : Column) → same_field c.field fields.Kept ≡ false → Most c.often 0 → least_count c.often ≤ 0 → Segment t taken b c []
none_segment t taken b c k m l = segment_of t taken b c [] k tt m l (λ e. tt)

-- a text that may be absent
abbrev pub MaybeReads : Form → Option Text → Type 0
MaybeReads form None = Unit {0}
MaybeReads form (Some x) = reads form [] x ≡ Some x

pub maybe_segment : (t : Table) (taken : List Text) (b : List Child) (f : Field) (form : Form) (x : Option Text) → IsTextColumn t f form Optional → is_key form ≡ false → MaybeReads form x → Segment t taken b (optional f form) (maybe f x)
unfolding maybe
maybe_segment t taken b f form None i k r = none_segment t taken b (optional f form) i.2 (omega arith) (omega arith)
maybe_segment t taken b f form (Some x) i k r = one_text t taken b f form Optional x i (reads_beside form taken x k r) (omega arith) (omega arith)

-- raw elements of a column
abbrev pub IsRawColumn : Table → Field → Often → Type 0
IsRawColumn t f o = (column_of (columns t) (name_of f) ≡ Some (column f Raw o)) × (same_field f fields.Kept ≡ false) × (same_field f fields.Dropped ≡ false)

one_raw : (t : Table) (taken : List Text) (b : List Child) (f : Field) (o : Often) (x : Text) → IsRawColumn t f o → IsRaw (name_of f) x → ColumnPiece t taken b (column f Raw o) (f, raw f x ∷ [])
one_raw t taken b f o x i r =
    let k = raw_tokens (name_of f) x r in
    record { name = name_of f; named = i.0; place = refl; piece = raw_piece t taken b (name_of f) f x k.0 (λ q g h. raw_of_column t q (name_of f) g (column f Raw o) i.0 refl h) i.2 k.1 }

raw_children : Field → List Text → List Child
raw_children f [] = []
raw_children f (x ∷ xs) = (f, raw f x ∷ []) ∷ raw_children f xs

raw_pieces : (t : Table) (taken : List Text) (b : List Child) (f : Field) (o : Often) (xs : List Text) → IsRawColumn t f o → AllByRecursion (IsRaw (name_of f)) xs → ColumnPieces t taken b (column f Raw o) (raw_children f xs)
unfolding raw_children
raw_pieces t taken b f o [] i a = tt
raw_pieces t taken b f o (x ∷ xs) i a = (one_raw t taken b f o x i a.0, raw_pieces t taken (b ++ (f, raw f x ∷ []) ∷ []) f o xs i a.1)

raw_flat : (f : Field) (xs : List Text) → flat (raw_children f xs) ≡ raws f xs
unfolding raw_children raws
raw_flat f [] = refl
raw_flat f (x ∷ xs) = ap (λ (z : List Event). raw f x ∷ z) (raw_flat f xs)

raw_keyless : (f : Field) (xs : List Text) → AllByRecursion HasNoKey (raw_children f xs)
unfolding raw_children
raw_keyless f [] = tt
raw_keyless f (x ∷ xs) = (refl, raw_keyless f xs)

pub raws_segment : (t : Table) (taken : List Text) (b : List Child) (f : Field) (xs : List Text) → IsRawColumn t f Any → AllByRecursion (IsRaw (name_of f)) xs → Segment t taken b (column f Raw Any) (raws f xs)
raws_segment t taken b f xs i a = subst (Segment t taken b (column f Raw Any)) (raw_flat f xs) (segment_of t taken b (column f Raw Any) (raw_children f xs) i.1 (raw_pieces t taken b f Any xs i a) tt (omega arith) (λ e. raw_keyless f xs))

abbrev pub MaybeRaw : Field → Option Text → Type 0
MaybeRaw f None = Unit {0}
MaybeRaw f (Some x) = IsRaw (name_of f) x

pub must_raw_segment : (t : Table) (taken : List Text) (b : List Child) (f : Field) (x : Text) → IsRawColumn t f One → IsRaw (name_of f) x → Segment t taken b (column f Raw One) (must_raw f x)
unfolding must_raw
must_raw_segment t taken b f x i r = segment_of t taken b (column f Raw One) ((f, raw f x ∷ []) ∷ []) i.1 (one_raw t taken b f One x i r, tt) (omega arith) (omega arith) (λ e. (refl, tt))

pub maybe_raw_segment : (t : Table) (taken : List Text) (b : List Child) (f : Field) (x : Option Text) → IsRawColumn t f Optional → MaybeRaw f x → Segment t taken b (column f Raw Optional) (maybe_raw f x)
unfolding maybe_raw must_raw
maybe_raw_segment t taken b f None i r = none_segment t taken b (column f Raw Optional) i.1 (omega arith) (omega arith)
maybe_raw_segment t taken b f (Some x) i r = segment_of t taken b (column f Raw Optional) ((f, raw f x ∷ []) ∷ []) i.1 (one_raw t taken b f Optional x i r, tt) (omega arith) (omega arith) (λ e. (refl, tt))

-- elements of other names
abbrev pub IsKeptRaw : Table → Text → Type 0
IsKeptRaw t x = (n : Text) × IsRaw n x × (column_of (columns t) n ≡ None) × (others t n ≡ Kept)

kept_pieces : (t : Table) (taken : List Text) (xs : List Text) → AllByRecursion (IsKeptRaw t) xs → AllByRecursion (KeptPiece t taken) (raw_children fields.Kept xs)
unfolding raw_children
kept_pieces t taken [] a = tt
kept_pieces t taken (x ∷ xs) a =
    let r = a.0 in
    let k = raw_tokens r.0 x r.1 in
    (kept_piece r.0 x r.2 r.3 (λ q. raw_piece t taken q r.0 fields.Kept x k.0 (λ b g h. role_of_other t b r.0 g r.2 ∙ ap other_role r.3) refl k.1), kept_pieces t taken xs a.1)

pub kept_segment : (t : Table) (taken : List Text) (b : List Child) (xs : List Text) → AllByRecursion (IsKeptRaw t) xs → Segment t taken b kept_column (raws fields.Kept xs)
kept_segment t taken b xs a = record { children = raw_children fields.Kept xs; events = raw_flat fields.Kept xs; pieces = kept_pieces t taken xs a; few = tt; enough = omega arith; keyless = λ e. raw_keyless fields.Kept xs }

-- ---- records

abbrev pub IsRecordColumn : Table → Field → Table → Often → Type 0
IsRecordColumn t f u o = (column_of (columns t) (name_of f) ≡ Some (column f (Record u) o)) × (same_field f fields.Kept ≡ false) × (is_empty (name_of f) ≡ false)

abbrev pub record_child : Field → List Attribute → List Event → Child
record_child f g es = (f, element_with (name_of f) g es)

pub record_piece_of : (t : Table) (taken : List Text) (b : List Child) (f : Field) (u : Table) (o : Often) (g : List Attribute) (es : List Event) → IsRecordColumn t f u o → IsGiven (attribute_of_table u) g → Canonical (with_aim b u) (keys t b) es
    → ColumnPiece t taken b (column f (Record u) o) (record_child f g es)
unfolding nested
record_piece_of t taken b f u o g es i d c =
    let v : Table = with_aim b u in
    let w : Canonical v (keys t b) (arranged v c.children) = subst (Canonical v (keys t b)) (sym c.value) c in
    let p : Piece t taken b (name_of f) (f, nested (name_of f) g v c.children) =
    record_piece t taken b (name_of f) f v g c.children (λ q a h. record_admitted t q b (name_of f) g (column f (Record u) o) u i.0 refl d a h) w (field_named f i.2) (given_again (attribute_of_table u) g d).names in
    record { name = name_of f; named = i.0; place = refl; piece = subst (λ (z : List Event). Piece t taken b (name_of f) (f, opens (name_of f) g ∷ (z ++ closes (name_of f) ∷ []))) c.value p }

-- records one after another, each with the keys of those before it
abbrev pub RecordsFollow : {A : Type 0} → Table → List Text → List Child → Field → Table → (A → List Event) → List A → Type 0
RecordsFollow t taken b f u inner [] = Unit {0}
RecordsFollow t taken b f u inner (x ∷ xs) = Canonical (with_aim b u) (keys t b) (inner x) × RecordsFollow t taken (b ++ record_child f [] (inner x) ∷ []) f u inner xs

record_children : {A : Type 0} → Field → (A → List Event) → List A → List Child
record_children f inner [] = []
record_children f inner (x ∷ xs) = record_child f [] (inner x) ∷ record_children f inner xs

record_pieces : {A : Type 0} (t : Table) (taken : List Text) (b : List Child) (f : Field) (u : Table) (o : Often) (inner : A → List Event) (xs : List A) → IsRecordColumn t f u o → IsGiven (attribute_of_table u) [] → RecordsFollow t taken b f u inner xs
    → ColumnPieces t taken b (column f (Record u) o) (record_children f inner xs)
unfolding record_children
record_pieces t taken b f u o inner [] i d w = tt
record_pieces t taken b f u o inner (x ∷ xs) i d w = (record_piece_of t taken b f u o [] (inner x) i d w.0, record_pieces t taken (b ++ record_child f [] (inner x) ∷ []) f u o inner xs i d w.1)

records_flat : {A : Type 0} (f : Field) (inner : A → List Event) (xs : List A) → flat (record_children f inner xs) ≡ flat_map (λ (x : A). element_with (name_of f) [] (inner x)) xs
unfolding record_children
records_flat f inner [] = refl
records_flat f inner (x ∷ xs) = ap (λ (z : List Event). element_with (name_of f) [] (inner x) ++ z) (records_flat f inner xs)

records_length : {A : Type 0} (f : Field) (inner : A → List Event) (xs : List A) → length (record_children f inner xs) ≡ length xs
unfolding record_children
records_length f inner [] = refl
records_length f inner (x ∷ xs) = ap suc (records_length f inner xs)

pub records_segment : {A : Type 0} (t : Table) (taken : List Text) (b : List Child) (f : Field) (u : Table) (o : Often) (inner : A → List Event) (xs : List A) → IsRecordColumn t f u o → IsGiven (attribute_of_table u) [] → RecordsFollow t taken b f u inner xs
    → Most o (length xs) → least_count o ≤ length xs → Segment t taken b (column f (Record u) o) (flat_map (λ (x : A). element_with (name_of f) [] (inner x)) xs)
records_segment {A = A} t taken b f u o inner xs i d w m l =
    let n : length xs ≡ length (record_children f inner xs) = sym (records_length f inner xs) in
    subst (Segment t taken b (column f (Record u) o)) (records_flat f inner xs)
    (segment_of t taken b (column f (Record u) o) (record_children f inner xs) i.1 (record_pieces t taken b f u o inner xs i d w) (subst (Most o) n m) (subst (λ (z : ℕ). least_count o ≤ z) n l) (λ e. records_hold e))

pub record_segment : (t : Table) (taken : List Text) (b : List Child) (f : Field) (u : Table) (o : Often) (g : List Attribute) (es : List Event) → IsRecordColumn t f u o → IsGiven (attribute_of_table u) g → Canonical (with_aim b u) (keys t b) es
    → Most o 1 → least_count o ≤ 1 → Segment t taken b (column f (Record u) o) (element_with (name_of f) g es)
record_segment t taken b f u o g es i d w m l =
    subst (Segment t taken b (column f (Record u) o)) (append-nil (element_with (name_of f) g es)) (segment_of t taken b (column f (Record u) o) (record_child f g es ∷ []) i.1 (record_piece_of t taken b f u o g es i d w, tt) m l (λ e. records_hold e))

pub absent_segment : (t : Table) (taken : List Text) (b : List Child) (f : Field) (s : Shape) (o : Often) → same_field f fields.Kept ≡ false → Most o 0 → least_count o ≤ 0 → Segment t taken b (column f s o) []
absent_segment t taken b f s o k m l = none_segment t taken b (column f s o) k m l
