-- What the children of an accepted record are.
use Rattle.std.proofs.Common.{◌≡◌, Bool, true, false, cond, List, [], ◌∷◌, ◌++◌, Option, Some, None, refl, sym, ap, subst, ◌∙◌, append_assoc}
use Rattle.std.specs.Prelude.{◌&&◌, codes}
use Rattle.std.specs.List.{AllByRecursion}
use Rattle.std.proofs.lemmas.List.{append-nil}
use Rattle.mos_fields.specs.Characters.{Text}
use Rattle.mos_fields.specs.Fields.{name_of, same_field, same}
use Rattle.mos_fields.specs.Forms.{among, reads, is_white, is_trimmed}
use Rattle.mos_fields.specs.Raw.{IsRawElement}
use Rattle.mos_fields.specs.Values.{operation_text}
use Rattle.mos_fields.specs.declared.field.Field.{Field}
use Rattle.mos_fields.specs.declared.field.Field.TheVariants as fields
use Rattle.mos_fields.specs.declared.form.Form.{Form}
use Rattle.mos_fields.specs.declared.operation.Operation.{Operation}
use Rattle.mos_fields.specs.declared.operation.Operation.TheVariants.{Insert, Replace, Move, Delete, Swap}
use Rattle.mos_tables.specs.declared.column.Column.{Column}
use Rattle.mos_tables.specs.declared.column.Shape.{Shape}
use Rattle.mos_tables.specs.declared.column.Shape.TheVariants.{Leaf, Raw, Record, Message}
use Rattle.mos_tables.specs.declared.table.Table.{Table}
use Rattle.mos_tables.specs.declared.table.Table.TheVariants as tables
use Rattle.mos_tables.specs.Events.{Attribute, Event, leaf, raw}
use Rattle.mos_tables.specs.Tables.{columns, messages, table_of_name, attribute_of_table, attribute_of_form, words_of, operation_of}
use Rattle.mos_grammar.specs.Tokens.{Token, close_tag}
use Rattle.mos_grammar.specs.declared.fault.Fault.TheVariants.{Value as fault_value}
use Rattle.mos_grammar.specs.Records.{Child, is_optional, is_named, column_of, values_of, attribute_fault, value_fault, given_of, OpenField, Role, leaf_role, raw_role, record_role, operation_in, message_of, with_aim, leaf_event, field_events, arranged, nested, raw_events, keys, Content, ends, white_space, field, empty_leaf, empty_leaf_tag, raw_element, raw_tag, record_element, record_tag, admission, empty_admission}
use Rattle.mos_grammar.specs.Records as grammar
use Rattle.mos_cursor.specs.Parts.{RecordPart, record_events}
use Rattle.mos_cursor.specs.Accepted.{IsWritten, IsAccepted, IsGiven, IsGivenTo, MessageFits}
use Rattle.mos_cursor.proofs.RawElements.{raw_of_tail, raw_of_tag}
use Rattle.mos_cursor.proofs.Roles.{same_is, IsAdmitted, leaf_is, raw_is, record_is, empty_leaf_is, empty_raw_is, empty_record_is, LeafRole, RawRole, raw_column, raw_message, raw_kept, raw_dropped, RecordRole, record_column, record_message, leaf_says, raw_says, record_says, given_is}
use Rattle.mos_cursor.proofs.Columns.{column_with, known_column, column_of-named, column_of-all, column_with-same, table_facts, IsInner, NoAction}

-- ---- children

-- what a child of a column with a text adds
pub data LeafItem (taken : List Text) (c : Column) (form : Form) : List Event → Type 0 where
  leaf_lacks : is_optional c.often ≡ true → LeafItem taken c form []
  leaf_some : (g : List Attribute) (x y : Text) → IsGiven (attribute_of_form form) g → reads form taken x ≡ Some y → LeafItem taken c form (leaf (name_of c.field) g y ∷ [])

pub data RawItem (c : Column) : List Event → Type 0 where
  raw_item : (x : Text) → IsRawElement x → RawItem c (raw c.field x ∷ [])

pub data RecordItem (t : Table) (before : List Child) (c : Column) (u : Table) : List Event → Type 0 where
  record_item : (p : RecordPart) → IsGivenTo u p.given → IsAccepted (with_aim before u) (keys t before) p.inner → RecordItem t before c u (record_events (name_of c.field) p)

pub data MessageItem (c : Column) : List Event → Type 0 where
  message_raw : (x : Text) → IsRawElement x → MessageItem c (raw c.field x ∷ [])
  message_item : (n : Text) (p : RecordPart) → MessageFits n p → MessageItem c (record_events n p)

abbrev pub ItemOf : Table → List Child → List Text → Column → Shape → List Event → Type 0
ItemOf t before taken c (Leaf form) es = LeafItem taken c form es
ItemOf t before taken c Raw es = RawItem c es
ItemOf t before taken c (Record u) es = RecordItem t before c u es
ItemOf t before taken c Message es = MessageItem c es

-- A child behind these: it is of a column, or of another element.
pub data ChildFits (t : Table) (before : List Child) (taken : List Text) : Field → List Event → Type 0 where
  of_column : (c : Column) (es : List Event) → column_with (columns t) c.field ≡ Some c → ItemOf t before taken c c.shape es → ChildFits t before taken c.field es
  of_kept : (x : Text) → IsRawElement x → ChildFits t before taken fields.Kept (raw fields.Kept x ∷ [])
  of_dropped : ChildFits t before taken fields.Dropped []

abbrev pub AllChildren : Table → List Text → List Child → List Child → Type 0
AllChildren t taken before [] = Unit {0}
AllChildren t taken before (c ∷ cs) = ChildFits t before taken c.0 c.1 × AllChildren t taken (before ++ c ∷ []) cs

push : (t : Table) (taken : List Text) (before cs : List Child) (c : Child) → AllChildren t taken before cs → ChildFits t (before ++ cs) taken c.0 c.1 → AllChildren t taken before (cs ++ c ∷ [])
push t taken before [] c a h = (subst (λ (b : List Child). ChildFits t b taken c.0 c.1) (append-nil before) h, tt)
push t taken before (d ∷ cs) c a h =
    (a.0, push t taken (before ++ d ∷ []) cs c a.1 (subst (λ (b : List Child). ChildFits t b taken c.0 c.1) (sym (append_assoc before (d ∷ []) cs)) h))

-- ---- attributes of actions

abbrev ActionIs : Operation → Table → Type 0
ActionIs o (tables.Action p) = o ≡ p
ActionIs o t = Unit {0}

abbrev NamedAction : Operation → Text × Table → Type 0
NamedAction o m = ActionIs o m.1

named_action : (o : Operation) (n : Text) (u : Table) (ms : List (Text × Table)) → AllByRecursion (NamedAction o) ms → table_of_name n ms ≡ Some u → ActionIs o u
named_action o n u [] a h = absurd cc
named_action o n u (m ∷ ms) a h = go (same m.0 n) h (λ e. named_action o n u ms a.1 e)
  where
    go : (b : Bool) → cond b (Some m.1) (table_of_name n ms) ≡ Some u → (table_of_name n ms ≡ Some u → ActionIs o u) → ActionIs o u
    go true h ih = let e : m.1 ≡ u = cc in subst (ActionIs o) e a.0
    go false h ih = ih h

all_actions : (o : Operation) → AllByRecursion (NamedAction o) (messages o)
all_actions o = (tt, (tt, (tt, (tt, (tt, (tt, (tt, (tt, (tt, (tt, (tt, (tt, (tt, (tt, (tt, (tt, (tt, (refl, (tt, (tt, (tt, tt)))))))))))))))))))))

-- a word that is an operation is the word of that operation
word_of_operation : (v : Text) → among v (words_of fields.OperationKind) ≡ true → v ≡ operation_text (operation_of v)
word_of_operation v h = one (same v (codes "INSERT")) refl h
  where
    by : (w : Text) (o : Operation) → same v w ≡ true → w ≡ operation_text (operation_of w) → v ≡ operation_text (operation_of v)
    by w o e k = subst (λ (z : Text). z ≡ operation_text (operation_of z)) (sym (same_is v w e)) k

    five : (b : Bool) → same v (codes "SWAP") ≡ b → cond b true false ≡ true → v ≡ operation_text (operation_of v)
    five true e h = by (codes "SWAP") Swap e refl
    five false e h = absurd cc

    four : (b : Bool) → same v (codes "DELETE") ≡ b → cond b true (cond (same v (codes "SWAP")) true false) ≡ true → v ≡ operation_text (operation_of v)
    four true e h = by (codes "DELETE") Delete e refl
    four false e h = five (same v (codes "SWAP")) refl h

    three : (b : Bool) → same v (codes "MOVE") ≡ b → cond b true (cond (same v (codes "DELETE")) true (cond (same v (codes "SWAP")) true false)) ≡ true → v ≡ operation_text (operation_of v)
    three true e h = by (codes "MOVE") Move e refl
    three false e h = four (same v (codes "DELETE")) refl h

    two : (b : Bool) → same v (codes "REPLACE") ≡ b → cond b true (cond (same v (codes "MOVE")) true (cond (same v (codes "DELETE")) true (cond (same v (codes "SWAP")) true false))) ≡ true → v ≡ operation_text (operation_of v)
    two true e h = by (codes "REPLACE") Replace e refl
    two false e h = three (same v (codes "MOVE")) refl h

    one : (b : Bool) → same v (codes "INSERT") ≡ b → cond b true (cond (same v (codes "REPLACE")) true (cond (same v (codes "MOVE")) true (cond (same v (codes "DELETE")) true (cond (same v (codes "SWAP")) true false)))) ≡ true → v ≡ operation_text (operation_of v)
    one true e h = by (codes "INSERT") Insert e refl
    one false e h = two (same v (codes "REPLACE")) refl h

-- the operation of the tag's attribute
given_operation : (vs : List Text) (o : Operation) → value_fault fields.OperationKind vs ≡ None → operation_in vs ≡ o → grammar.first_value (name_of fields.OperationKind) vs ≡ record { name = name_of fields.OperationKind; value = operation_text o } ∷ []
given_operation [] o h e = absurd cc
given_operation (v ∷ []) o h e = go (among v (words_of fields.OperationKind)) refl h
  where
    go : (b : Bool) → among v (words_of fields.OperationKind) ≡ b → cond b None (Some (fault_value fields.OperationKind)) ≡ None → grammar.first_value (name_of fields.OperationKind) (v ∷ []) ≡ record { name = name_of fields.OperationKind; value = operation_text o } ∷ []
    go true k h =
        let p : v ≡ operation_text o = word_of_operation v k ∙ ap operation_text e in
        ap (λ (z : Text). let a : Attribute = record { name = name_of fields.OperationKind; value = z } in a ∷ []) p
    go false k h = absurd cc
given_operation (v ∷ w ∷ vs) o h e = absurd cc

given_to : (u : Table) (n : Text) (g : List Attribute) → message_of n g ≡ Some u → attribute_fault (attribute_of_table u) g ≡ None → IsGivenTo u (given_of (attribute_of_table u) g)
given_to u n g m h = go u m h (named_action (operation_in (values_of (name_of fields.OperationKind) g)) n u (messages (operation_in (values_of (name_of fields.OperationKind) g))) (all_actions (operation_in (values_of (name_of fields.OperationKind) g))) m)
  where
    plain : (v : Table) → attribute_fault (attribute_of_table v) g ≡ None → IsGiven (attribute_of_table v) (given_of (attribute_of_table v) g)
    plain v h = given_is (attribute_of_table v) g h

    go : (v : Table) → message_of n g ≡ Some v → attribute_fault (attribute_of_table v) g ≡ None → ActionIs (operation_in (values_of (name_of fields.OperationKind) g)) v → IsGivenTo v (given_of (attribute_of_table v) g)
    go (tables.Action o) m h e = given_operation (values_of (name_of fields.OperationKind) g) o h e
    go tables.Envelope m h e = plain tables.Envelope h
    go tables.Body m h e = plain tables.Body h
    go tables.HeaderPatch m h e = plain tables.HeaderPatch h
    go tables.Story m h e = plain tables.Story h
    go tables.Item m h e = plain tables.Item h
    go tables.MosObj m h e = plain tables.MosObj h
    go tables.Heartbeat m h e = plain tables.Heartbeat h
    go tables.NoFields m h e = plain tables.NoFields h
    go tables.ListMachInfo m h e = plain tables.ListMachInfo h
    go tables.SupportedProfiles m h e = plain tables.SupportedProfiles h
    go tables.MosAck m h e = plain tables.MosAck h
    go tables.MosReqObj m h e = plain tables.MosReqObj h
    go tables.MosReqAll m h e = plain tables.MosReqAll h
    go tables.MosListAll m h e = plain tables.MosListAll h
    go tables.OneOrder m h e = plain tables.OneOrder h
    go tables.RoListAll m h e = plain tables.RoListAll h
    go tables.ElementStat m h e = plain tables.ElementStat h
    go (tables.Target o) m h e = plain (tables.Target o) h
    go (tables.Source o a) m h e = plain (tables.Source o a) h
    go tables.ReadyToAir m h e = plain tables.ReadyToAir h
    go tables.RoAck m h e = plain tables.RoAck h
    go tables.StorySend m h e = plain tables.StorySend h

-- of a record that is no action
given_inner : (v : Table) (c : Column) (before : List Child) (g : List Attribute) → IsInner c → c.shape ≡ Record v → attribute_fault (attribute_of_table (with_aim before v)) g ≡ None → IsGivenTo v (given_of (attribute_of_table v) g)
given_inner v c before g i e h = go v (subst NoAction e i) h
  where
    go : (v : Table) → NoAction (Record v) → attribute_fault (attribute_of_table (with_aim before v)) g ≡ None → IsGivenTo v (given_of (attribute_of_table v) g)
    go (tables.Action o) i h = absurd i
    go (tables.Target o) i h = given_is (attribute_of_table (tables.Target o)) g h
    go (tables.Source o a) i h = given_is (attribute_of_table (tables.Source o a)) g h
    go tables.Envelope i h = given_is (attribute_of_table tables.Envelope) g h
    go tables.Body i h = given_is (attribute_of_table tables.Body) g h
    go tables.HeaderPatch i h = given_is (attribute_of_table tables.HeaderPatch) g h
    go tables.Story i h = given_is (attribute_of_table tables.Story) g h
    go tables.Item i h = given_is (attribute_of_table tables.Item) g h
    go tables.MosObj i h = given_is (attribute_of_table tables.MosObj) g h
    go tables.Heartbeat i h = given_is (attribute_of_table tables.Heartbeat) g h
    go tables.NoFields i h = given_is (attribute_of_table tables.NoFields) g h
    go tables.ListMachInfo i h = given_is (attribute_of_table tables.ListMachInfo) g h
    go tables.SupportedProfiles i h = given_is (attribute_of_table tables.SupportedProfiles) g h
    go tables.MosAck i h = given_is (attribute_of_table tables.MosAck) g h
    go tables.MosReqObj i h = given_is (attribute_of_table tables.MosReqObj) g h
    go tables.MosReqAll i h = given_is (attribute_of_table tables.MosReqAll) g h
    go tables.MosListAll i h = given_is (attribute_of_table tables.MosListAll) g h
    go tables.OneOrder i h = given_is (attribute_of_table tables.OneOrder) g h
    go tables.RoListAll i h = given_is (attribute_of_table tables.RoListAll) g h
    go tables.ElementStat i h = given_is (attribute_of_table tables.ElementStat) g h
    go tables.ReadyToAir i h = given_is (attribute_of_table tables.ReadyToAir) g h
    go tables.RoAck i h = given_is (attribute_of_table tables.RoAck) g h
    go tables.StorySend i h = given_is (attribute_of_table tables.StorySend) g h

-- ---- each child

pub written_split : (x y : List Token) → AllByRecursion IsWritten (x ++ y) → AllByRecursion IsWritten x × AllByRecursion IsWritten y
written_split [] y a = (tt, a)
written_split (t ∷ x) y a = let p = written_split x y a.1 in ((a.0, p.0), p.1)

named_leaf : (c : Column) (n : Text) (form : Form) → c.shape ≡ Leaf form → is_named c n ≡ true → n ≡ name_of c.field
named_leaf c n form e h = sym (same_is (name_of c.field) n (go c.shape e h))
  where
    go : (s : Shape) → s ≡ Leaf form → elim s [ Message ↦ true | Leaf f ↦ same (name_of c.field) n | Raw ↦ same (name_of c.field) n | Record t ↦ same (name_of c.field) n ] ≡ true → same (name_of c.field) n ≡ true
    go (Leaf f) e h = h
    go Raw e h = h
    go (Record u) e h = h
    go Message e h = absurd cc

named_record : (c : Column) (n : Text) (u : Table) → c.shape ≡ Record u → is_named c n ≡ true → n ≡ name_of c.field
named_record c n u e h = sym (same_is (name_of c.field) n (go c.shape e h))
  where
    go : (s : Shape) → s ≡ Record u → elim s [ Message ↦ true | Leaf f ↦ same (name_of c.field) n | Raw ↦ same (name_of c.field) n | Record t ↦ same (name_of c.field) n ] ≡ true → same (name_of c.field) n ≡ true
    go (Leaf f) e h = h
    go Raw e h = h
    go (Record u) e h = h
    go Message e h = absurd cc

-- a text
leaf_item : (taken : List Text) (c : Column) (form : Form) (n : Text) (p : OpenField) (x : Text) (es : List Event) (b : Bool) (r : Option Text) → (b ≡ true → is_optional c.often ≡ true) → reads form taken x ≡ r
    → IsGiven (attribute_of_form form) p.given → n ≡ name_of c.field → cond b (Some []) (leaf_event n p r) ≡ Some es → LeafItem taken c form es
leaf_item taken c form n p x es true r l e g m h = let q : [] ≡ es = cc in subst (LeafItem taken c form) q (leaf_lacks (l refl))
leaf_item taken c form n p x es false None l e g m h = absurd cc
leaf_item taken c form n p x es false (Some y) l e g m h =
    let q : leaf n p.given y ∷ [] ≡ es = cc in
    let k : leaf (name_of c.field) p.given y ∷ [] ≡ es = ap (λ (z : Text). leaf z p.given y ∷ []) (sym m) ∙ q in
    subst (LeafItem taken c form) k (leaf_some p.given x y g e)

lacking_optional : (a b w : Bool) → ((a && b) && w) ≡ true → a ≡ true
lacking_optional true b w h = refl
lacking_optional false b w h = absurd cc

leaf_child : (t : Table) (before : List Child) (taken : List Text) (n : Text) (g : List Attribute) (o : OpenField) (x : Text) (es : List Event)
    → IsAdmitted t before n g (leaf_role o) → field_events n o taken x ≡ Some es → ChildFits t before taken o.field es
unfolding field_events
leaf_child t before taken n g o x es a h =
    let r : LeafRole t before n g o = leaf_says a in
    let c : Column = r.column in
    let form : Form = r.form in
    let p : OpenField = record { field = c.field; form = form; may_lack = is_optional c.often && is_trimmed form; given = given_of (attribute_of_form form) g } in
    let k : column_with (columns t) c.field ≡ Some c = known_column t n c r.is_column.named in
    let m : n ≡ name_of c.field = named_leaf c n form r.shape (column_of-named (columns t) n c r.is_column.named) in
    let P : OpenField → Type 0 = λ (p : OpenField). cond (p.may_lack && is_white x) (Some []) (leaf_event n p (reads p.form taken x)) ≡ Some es in
    let Q : OpenField → Type 0 = λ (p : OpenField). attribute_fault (attribute_of_form p.form) g ≡ None in
    let d : IsGiven (attribute_of_form form) p.given = given_is (attribute_of_form form) g (subst Q r.field_is a.inside) in
    let i : LeafItem taken c form es = leaf_item taken c form n p x es (p.may_lack && is_white x) (reads form taken x) (λ e. lacking_optional (is_optional c.often) (is_trimmed form) (is_white x) e) refl d m (subst P r.field_is h) in
    let f : ChildFits t before taken c.field es = of_column c es k (subst (λ (s : Shape). ItemOf t before taken c s es) (sym r.shape) i) in
    subst (λ (q : OpenField). ChildFits t before taken q.field es) (sym r.field_is) f

-- a raw element
raw_child : (t : Table) (before : List Child) (taken : List Text) (n : Text) (g : List Attribute) (f : Field) (x : Text) → IsAdmitted t before n g (raw_role f) → IsRawElement x → ChildFits t before taken f (raw_events f x)
raw_child t before taken n g f x a h = go (raw_says a)
  where
    -- no column is that of dropped elements
    column_event : (c : Column) → column_with (columns t) c.field ≡ Some c → raw c.field x ∷ [] ≡ raw_events c.field x
    column_event c k = two (same_field c.field fields.Dropped) refl
      where
        two : (b : Bool) → same_field c.field fields.Dropped ≡ b → raw c.field x ∷ [] ≡ cond b [] (raw c.field x ∷ [])
        two true e =
            let p : column_with (columns t) c.field ≡ None = column_with-same (columns t) c.field fields.Dropped e ∙ (table_facts t).no_dropped in
            absurd cc
        two false e = refl

    go : RawRole t before n g f → ChildFits t before taken f (raw_events f x)
    go (raw_column c i s e) =
        let k : column_with (columns t) c.field ≡ Some c = known_column t n c i.named in
        let w : ChildFits t before taken c.field (raw c.field x ∷ []) = of_column c (raw c.field x ∷ []) k (subst (λ (s : Shape). ItemOf t before taken c s (raw c.field x ∷ [])) (sym s) (raw_item x h)) in
        subst (λ (p : Field). ChildFits t before taken p (raw_events p x)) (sym e) (subst (ChildFits t before taken c.field) (column_event c k) w)
    go (raw_message c i s e) =
        let k : column_with (columns t) c.field ≡ Some c = known_column t n c i.named in
        let w : ChildFits t before taken c.field (raw c.field x ∷ []) = of_column c (raw c.field x ∷ []) k (subst (λ (s : Shape). ItemOf t before taken c s (raw c.field x ∷ [])) (sym s) (message_raw x h)) in
        subst (λ (p : Field). ChildFits t before taken p (raw_events p x)) (sym e) (subst (ChildFits t before taken c.field) (column_event c k) w)
    go (raw_kept o e) = subst (λ (p : Field). ChildFits t before taken p (raw_events p x)) (sym e) (of_kept x h)
    go (raw_dropped o e) = subst (λ (p : Field). ChildFits t before taken p (raw_events p x)) (sym e) of_dropped

-- a record
record_child : (t : Table) (before : List Child) (taken : List Text) (n : Text) (g i : List Attribute) (f : Field) (u : Table) (inner : List Child) (r : List Token)
    → IsAdmitted t before n g (record_role f u i) → Content u (keys t before) [] inner r → AllByRecursion IsWritten r → ChildFits t before taken f (nested n i u inner)
unfolding nested
record_child t before taken n g i f u inner r a d w = go (record_says a)
  where
    p : RecordPart
    p = record { given = i; inner = arranged u inner }

    whole : IsAccepted u (keys t before) (arranged u inner)
    whole = record { all = inner; tokens = r; content = d; written = w; value = refl }

    go : RecordRole t before n g f u i → ChildFits t before taken f (record_events n p)
    go (record_column c v j s e x y) =
        let k : column_with (columns t) c.field ≡ Some c = known_column t n c j.named in
        let m : n ≡ name_of c.field = named_record c n v s (column_of-named (columns t) n c j.named) in
        let q : IsGivenTo v i = subst (IsGivenTo v) (sym y) (given_inner v c before g (column_of-all IsInner (columns t) n c (table_facts t).inner j.named) s (subst (λ (z : Table). attribute_fault (attribute_of_table z) g ≡ None) x a.inside)) in
        let z : RecordItem t before c v (record_events (name_of c.field) p) = record_item p q (subst (λ (b : Table). IsAccepted b (keys t before) (arranged u inner)) x whole) in
        let b : ItemOf t before taken c c.shape (record_events n p) = subst (λ (o : Shape). ItemOf t before taken c o (record_events n p)) (sym s) (subst (λ (b : Text). RecordItem t before c v (record_events b p)) (sym m) z) in
        subst (λ (b : Field). ChildFits t before taken b (record_events n p)) (sym e) (of_column c (record_events n p) k b)
    go (record_message c j s e x y) =
        let k : column_with (columns t) c.field ≡ Some c = known_column t n c j.named in
        let q : IsGivenTo u i = subst (IsGivenTo u) (sym y) (given_to u n g x a.inside) in
        let z : MessageFits n p = record { operation = operation_in (values_of (name_of fields.OperationKind) g); table = u; named = x; taken = keys t before; given = q; accepted = whole } in
        let b : ItemOf t before taken c c.shape (record_events n p) = subst (λ (o : Shape). ItemOf t before taken c o (record_events n p)) (sym s) (message_item n p z) in
        subst (λ (b : Field). ChildFits t before taken b (record_events n p)) (sym e) (of_column c (record_events n p) k b)

pub each : {t : Table} {taken : List Text} {before all : List Child} {r : List Token} → Content t taken before all r → AllByRecursion IsWritten r → AllChildren t taken [] before → AllChildren t taken [] all
each (ends h) w a = a
each (white_space h d) w a = each d w.1 a
each {t = t} {taken = taken} {before = before} (field {n = n} {x = x} {y = y} {g = g} {o = o} {es = es} h e d) w a =
    each d w.1.1.1 (push t taken [] before (o.field, es) a (leaf_child t before taken n g o y es (leaf_is h) e))
each {t = t} {taken = taken} {before = before} (empty_leaf {n = n} {g = g} {o = o} {es = es} h e d) w a =
    each d w.1.1 (push t taken [] before (o.field, es) a (leaf_child t before taken n g o [] es (leaf_is h) e))
each {t = t} {taken = taken} {before = before} (empty_leaf_tag {n = n} {g = g} {o = o} {es = es} h e d) w a =
    each d w.1 (push t taken [] before (o.field, es) a (leaf_child t before taken n g o [] es (empty_leaf_is taken h) e))
each {t = t} {taken = taken} {before = before} (raw_element {n = n} {tag = tag} {x = x} {g = g} {f = f} h e d) w a =
    each d w.1.1 (push t taken [] before (f, raw_events f (tag ++ x)) a (raw_child t before taken n g f (tag ++ x) (raw_is h) (raw_of_tail n x tag g w.0 e)))
each {t = t} {taken = taken} {before = before} (raw_tag {n = n} {tag = tag} {g = g} {f = f} h d) w a =
    each d w.1 (push t taken [] before (f, raw_events f tag) a (raw_child t before taken n g f tag (empty_raw_is taken h) (raw_of_tag n tag g w.0)))
each {t = t} {taken = taken} {before = before} (record_element {u = u} {inner = inner} {n = n} {g = g} {h = i} {r = r} {s = s} {f = f} h d e) w a =
    let p = written_split r (close_tag n ∷ s) w.1 in
    each e p.1.1 (push t taken [] before (f, nested n i u inner) a (record_child t before taken n g i f u inner r (record_is h) d p.0))
each {t = t} {taken = taken} {before = before} (record_tag {u = u} {n = n} {g = g} {h = i} {f = f} h e d) w a =
    each d w.1 (push t taken [] before (f, nested n i u []) a (record_child t before taken n g i f u [] [] (empty_record_is taken h) (ends e) tt))
