-- What the children of an accepted roAck are.
use Rattle.std.proofs.Common.{◌≡◌, Bool, true, false, cond, List, [], ◌∷◌, Option, Some, None, refl, sym, ap, subst, ◌∙◌}
use Rattle.std.specs.Prelude.{◌&&◌}
use Rattle.std.specs.List.{AllByRecursion}
use Rattle.mos_fields.specs.Characters.{Text}
use Rattle.mos_fields.specs.Fields.{name_of, same}
use Rattle.mos_fields.specs.Forms.{reads, is_white, is_trimmed}
use Rattle.mos_fields.specs.declared.field.Field.{Field}
use Rattle.mos_fields.specs.declared.field.Field.TheVariants as fields
use Rattle.mos_fields.specs.declared.form.Form.{Form}
use Rattle.mos_tables.specs.declared.column.Column.{Column}
use Rattle.mos_tables.specs.declared.column.Shape.{Shape}
use Rattle.mos_tables.specs.declared.column.Shape.TheVariants.{Leaf, Raw, Record, Message}
use Rattle.mos_tables.specs.declared.table.Table.{Table}
use Rattle.mos_tables.specs.declared.table.Table.TheVariants as tables
use Rattle.mos_tables.specs.Events.{Attribute, Event, leaf}
use Rattle.mos_tables.specs.Tables.{columns, attribute_of_form}
use Rattle.mos_grammar.specs.Records.{Child, seen_of, is_optional, is_named, column_of, field_fault, if_field, attribute_fault, given_of, OpenField, leaf_role, raw_role, record_role, role, role_by, leaf_event, field_events, raw_events}
use Rattle.mos_cursor.specs.Accepted.{IsGiven}
use Rattle.mos_cursor.proofs.Roles.{same_is, IsAdmitted, LeafRole, RawRole, raw_column, raw_message, raw_kept, raw_dropped, RecordRole, record_column, record_message, leaf_says, raw_says, record_says, given_is}
use Rattle.mos_cursor.proofs.Columns.{column_of-named, column_of-all}
use Rattle.mos_cursor.proofs.Children.{LeafItem, leaf_lacks, leaf_some}

-- a child of a column with a text
abbrev pub TextOf : List Text → Column → Shape → List Event → Type 0
TextOf taken c (Leaf form) es = LeafItem taken c form es
TextOf taken c s es = ⊥

-- It is of a column that may stand behind these children, or adds nothing.
pub data AckChild (taken : List Text) (before : List Child) : Field → List Event → Type 0 where
  of_column : (n : Text) (c : Column) (es : List Event) → column_of (columns tables.RoAck) n ≡ Some c → field_fault (columns tables.RoAck) (seen_of tables.RoAck before) (name_of c.field) ≡ None
      → TextOf taken c c.shape es → AckChild taken before c.field es
  of_dropped : AckChild taken before fields.Dropped []

-- ---- texts

named_leaf : (c : Column) (n : Text) (form : Form) → c.shape ≡ Leaf form → is_named c n ≡ true → n ≡ name_of c.field
named_leaf c n form e h = sym (same_is (name_of c.field) n (go c.shape e h))
  where
    go : (s : Shape) → s ≡ Leaf form → elim s [ Message ↦ true | Leaf f ↦ same (name_of c.field) n | Raw ↦ same (name_of c.field) n | Record t ↦ same (name_of c.field) n ] ≡ true → same (name_of c.field) n ≡ true
    go (Leaf f) e h = h
    go Raw e h = h
    go (Record u) e h = h
    go Message e h = absurd cc

leaf_item : (taken : List Text) (c : Column) (form : Form) (n : Text) (p : OpenField) (x : Text) (es : List Event) (b : Bool) (r : Option Text) → (b ≡ true → is_optional c.often ≡ true) → reads form taken x ≡ r
    → IsGiven (attribute_of_form form) p.given → n ≡ name_of c.field → cond b (Some []) (leaf_event n p r) ≡ Some es → LeafItem taken c form es
leaf_item taken c form n p x es true r l e g m h = let q : [] ≡ es = cc in subst (LeafItem taken c form) q (leaf_lacks (l refl))
leaf_item taken c form n p x es false None l e g m h = absurd cc
leaf_item taken c form n p x es false (Some y) l e g m h =
    let q : leaf n p.given y ∷ [] ≡ es = cc in
    let k : leaf (name_of c.field) p.given y ∷ [] ≡ es = ap (λ (z : Text). leaf z p.given y ∷ []) (sym m) ∙ q in
    subst (LeafItem taken c form) k (leaf_some p.given x y g e)

lacking_optional : (a b w : Bool) → ((a && b) && w) ≡ true → a ≡ true
lacking_optional true b w h = refl
lacking_optional false b w h = absurd cc

pub leaf_child : (before : List Child) (taken : List Text) (n : Text) (g : List Attribute) (o : OpenField) (x : Text) (es : List Event)
    → IsAdmitted tables.RoAck before n g (leaf_role o) → field_events n o taken x ≡ Some es → AckChild taken before o.field es
unfolding field_events
leaf_child before taken n g o x es a h =
    let r : LeafRole tables.RoAck before n g o = leaf_says a in
    let c : Column = r.column in
    let form : Form = r.form in
    let p : OpenField = record { field = c.field; form = form; may_lack = is_optional c.often && is_trimmed form; given = given_of (attribute_of_form form) g } in
    let m : n ≡ name_of c.field = named_leaf c n form r.shape (column_of-named (columns tables.RoAck) n c r.is_column.named) in
    let P : OpenField → Type 0 = λ (p : OpenField). cond (p.may_lack && is_white x) (Some []) (leaf_event n p (reads p.form taken x)) ≡ Some es in
    let Q : OpenField → Type 0 = λ (p : OpenField). attribute_fault (attribute_of_form p.form) g ≡ None in
    let F : Option Column → Type 0 = λ (k : Option Column). if_field k (field_fault (columns tables.RoAck) (seen_of tables.RoAck before) n) ≡ None in
    let d : IsGiven (attribute_of_form form) p.given = given_is (attribute_of_form form) g (subst Q r.field_is a.inside) in
    let i : LeafItem taken c form es = leaf_item taken c form n p x es (p.may_lack && is_white x) (reads form taken x) (λ e. lacking_optional (is_optional c.often) (is_trimmed form) (is_white x) e) refl d m (subst P r.field_is h) in
    let w : field_fault (columns tables.RoAck) (seen_of tables.RoAck before) n ≡ None = subst F r.is_column.named a.outside in
    let u : field_fault (columns tables.RoAck) (seen_of tables.RoAck before) (name_of c.field) ≡ None = subst (λ (z : Text). field_fault (columns tables.RoAck) (seen_of tables.RoAck before) z ≡ None) m w in
    let f : AckChild taken before c.field es = of_column n c es r.is_column.named u (subst (λ (s : Shape). TextOf taken c s es) (sym r.shape) i) in
    subst (λ (q : OpenField). AckChild taken before q.field es) (sym r.field_is) f

-- ---- other elements

abbrev IsText : Shape → Type 0
IsText (Leaf form) = Unit {0}
IsText s = ⊥

abbrev HoldsText : Column → Type 0
HoldsText c = IsText c.shape

all_texts : AllByRecursion HoldsText (columns tables.RoAck)
all_texts = (tt, (tt, (tt, (tt, (tt, (tt, (tt, tt)))))))

text_of : (n : Text) (c : Column) (s : Shape) → column_of (columns tables.RoAck) n ≡ Some c → c.shape ≡ s → IsText s
text_of n c s h e = subst IsText e (column_of-all HoldsText (columns tables.RoAck) n c all_texts h)

dropped_is : (f : Field) → raw_role fields.Dropped ≡ raw_role f → fields.Dropped ≡ f
dropped_is f e = cc

other_dropped : (before : List Child) (n : Text) (g : List Attribute) (f : Field) → role tables.RoAck before n g ≡ raw_role f → column_of (columns tables.RoAck) n ≡ None → fields.Dropped ≡ f
unfolding role
other_dropped before n g f a e = dropped_is f (sym (ap (λ (k : Option Column). role_by tables.RoAck before n g k) e) ∙ a)

pub raw_child : (before : List Child) (taken : List Text) (n : Text) (g : List Attribute) (f : Field) (x : Text) → IsAdmitted tables.RoAck before n g (raw_role f) → AckChild taken before f (raw_events f x)
raw_child before taken n g f x a = go (raw_says a)
  where
    dropped : column_of (columns tables.RoAck) n ≡ None → AckChild taken before f (raw_events f x)
    dropped o = subst (λ (z : Field). AckChild taken before z (raw_events z x)) (other_dropped before n g f a.read_as o) of_dropped

    go : RawRole tables.RoAck before n g f → AckChild taken before f (raw_events f x)
    go (raw_column c i s e) = absurd (text_of n c Raw i.named s)
    go (raw_message c i s e) = absurd (text_of n c Message i.named s)
    go (raw_kept o e) = dropped o
    go (raw_dropped o e) = dropped o

pub no_record : (before : List Child) (n : Text) (g i : List Attribute) (f : Field) (u : Table) → IsAdmitted tables.RoAck before n g (record_role f u i) → ⊥
no_record before n g i f u a = go (record_says a)
  where
    go : RecordRole tables.RoAck before n g f u i → ⊥
    go (record_column c v j s e x y) = text_of n c (Record v) j.named s
    go (record_message c j s e x y) = text_of n c Message j.named s
