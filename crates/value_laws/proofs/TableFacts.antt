-- What the tables say of raw elements, of the records inside, and of the message of an envelope.
use Rattle.std.proofs.Common.{◌≡◌, Bool, true, false, cond, List, [], ◌∷◌, ◌++◌, map, Option, Some, None, refl, sym, ap, subst, ◌∙◌}
use Rattle.std.specs.Prelude.{nat_lt, codes}
use Rattle.std.specs.List.{AllByRecursion}
use Rattle.mos_fields.specs.Characters.{Text}
use Rattle.mos_fields.specs.Fields.{name_of, same}
use Rattle.mos_fields.specs.Forms.{among, trimmed}
use Rattle.mos_fields.specs.declared.field.Field.TheVariants as fields
use Rattle.mos_fields.specs.declared.operation.Operation.{Operation}
use Rattle.mos_fields.specs.declared.operation.Operation.TheVariants.{Insert, Replace, Move, Delete, Swap}
use Rattle.mos_tables.specs.declared.aim.Aim.{Aim}
use Rattle.mos_tables.specs.declared.aim.Aim.TheVariants.{Nowhere, AtStory, AtItem}
use Rattle.mos_tables.specs.declared.column.Column.{Column}
use Rattle.mos_tables.specs.declared.column.Shape.{Shape}
use Rattle.mos_tables.specs.declared.column.Shape.TheVariants.{Leaf, Raw, Record, Message}
use Rattle.mos_tables.specs.declared.column.Often.TheVariants.{Count}
use Rattle.mos_fields.specs.declared.form.Form.TheVariants as forms
use Rattle.mos_tables.specs.declared.table.Table.{Table}
use Rattle.mos_tables.specs.declared.table.Table.TheVariants as tables
use Rattle.mos_tables.specs.Events.{Attribute}
use Rattle.mos_tables.specs.Tables.{column, required, optional, source_column, columns, messages, table_of_name, attribute_of_table, words_of, operation_of}
use Rattle.mos_grammar.specs.declared.fault.Fault.TheVariants.{Value as wrong_value}
use Rattle.mos_grammar.specs.Records.{Child, least_count, is_optional, is_named, column_of, values_of, value_fault, attribute_fault, first_value, given_of, operation_in, message_of, with_aim}
use Rattle.mos_grammar.proofs.Seen.{or_false}
use Rattle.mos_grammar.proofs.Sound.{same-refl}
use Rattle.mos_cursor.proofs.Roles.{same_is}
use Rattle.mos_values.specs.Sound.{taken_names}
use Rattle.encoding_laws.specs.Fitting.{inside_columns, table_of_shape, table_of_column}
use Rattle.value_laws.proofs.FittingRaws.{settled, inside}

-- ---- shapes of columns

abbrev pub is_raw_shape : Shape → Bool
is_raw_shape Raw = true
is_raw_shape s = false

abbrev pub is_message_shape : Shape → Bool
is_message_shape Message = true
is_message_shape s = false

abbrev any_shape : (Shape → Bool) → List Column → Bool
any_shape p [] = false
any_shape p (c ∷ cs) = cond (p c.shape) true (any_shape p cs)

none_of_shape : (p : Shape → Bool) (cs : List Column) (n : Text) (c : Column) → any_shape p cs ≡ false → column_of cs n ≡ Some c → p c.shape ≡ false
none_of_shape p [] n c a h = absurd cc
none_of_shape p (d ∷ cs) n c a h =
    let q = or_false (p d.shape) (any_shape p cs) a in
    go (is_named d n) h q.0 (λ e. none_of_shape p cs n c q.1 e)
  where
    go : (b : Bool) → cond b (Some d) (column_of cs n) ≡ Some c → p d.shape ≡ false → (column_of cs n ≡ Some c → p c.shape ≡ false) → p c.shape ≡ false
    go true h k ih = let e : d ≡ c = cc in subst (λ (x : Column). p x.shape ≡ false) e k
    go false h k ih = ih h

-- What an element_source holds: texts or records, one at least.
pub record IsSourceColumn (c : Column) : Type 0 where
  pub not_optional : is_optional c.often ≡ false
  pub wanted : nat_lt 0 (least_count c.often) ≡ true
  pub no_raw : is_raw_shape c.shape ≡ false
  pub no_message : is_message_shape c.shape ≡ false

pub source_facts : (o : Operation) (a : Aim) → IsSourceColumn (source_column o a)
source_facts Insert AtItem = record { not_optional = refl; wanted = refl; no_raw = refl; no_message = refl }
source_facts Insert a = record { not_optional = refl; wanted = refl; no_raw = refl; no_message = refl }
source_facts Replace AtItem = record { not_optional = refl; wanted = refl; no_raw = refl; no_message = refl }
source_facts Replace a = record { not_optional = refl; wanted = refl; no_raw = refl; no_message = refl }
source_facts Move AtItem = record { not_optional = refl; wanted = refl; no_raw = refl; no_message = refl }
source_facts Move a = record { not_optional = refl; wanted = refl; no_raw = refl; no_message = refl }
source_facts Delete Nowhere = record { not_optional = refl; wanted = refl; no_raw = refl; no_message = refl }
source_facts Delete a = record { not_optional = refl; wanted = refl; no_raw = refl; no_message = refl }
source_facts Swap Nowhere = record { not_optional = refl; wanted = refl; no_raw = refl; no_message = refl }
source_facts Swap a = record { not_optional = refl; wanted = refl; no_raw = refl; no_message = refl }

pub only_column : (d c : Column) (n : Text) → column_of (d ∷ []) n ≡ Some c → d ≡ c
only_column d c n h = go (is_named d n) h
  where
    go : (b : Bool) → cond b (Some d) None ≡ Some c → d ≡ c
    go true h = cc
    go false h = absurd cc

-- an envelope alone holds a message
abbrev pub IsEnvelope : Table → Type 0
IsEnvelope tables.Envelope = Unit {0}
IsEnvelope t = ⊥

pub holds_message : (t : Table) (n : Text) (c : Column) → column_of (columns t) n ≡ Some c → c.shape ≡ Message → IsEnvelope t
holds_message t n c h s = go t h
  where
    no : is_message_shape c.shape ≡ false → ⊥
    no k = let q : true ≡ false = sym (ap is_message_shape s) ∙ k in cc

    go : (t : Table) → column_of (columns t) n ≡ Some c → IsEnvelope t
    go tables.Envelope h = tt
    go (tables.Source o a) h = no (none_of_shape is_message_shape (source_column o a ∷ []) n c (rw (source_facts o a).no_message refl) h)
    go t h = no (none_of_shape is_message_shape (columns t) n c refl h)

-- and no other raw elements
pub no_raw_column : (n : Text) (c : Column) → column_of (columns tables.Envelope) n ≡ Some c → c.shape ≡ Raw → ⊥
no_raw_column n c h s =
    let k : is_raw_shape c.shape ≡ false = none_of_shape is_raw_shape (columns tables.Envelope) n c refl h in
    let q : true ≡ false = sym (ap is_raw_shape s) ∙ k in
    cc

-- ---- names

pub same_no : (a b : Text) → same a b ≡ false → same b a ≡ false
same_no a b h = go (same b a) refl
  where
    go : (x : Bool) → same b a ≡ x → x ≡ false
    go false e = refl
    go true e =
        let p : b ≡ a = same_is b a e in
        let q : same a b ≡ true = subst (λ (z : Text). same a z ≡ true) (sym p) (same-refl a) in
        (let z : true ≡ false = sym q ∙ h in cc)

-- a name that no column has
pub no_column_name : (cs : List Column) (n : Text) → column_of cs n ≡ None → among n (map (λ (c : Column). name_of c.field) cs) ≡ false
no_column_name [] n h = refl
no_column_name (c ∷ cs) n h = go c.shape h (λ e. no_column_name cs n e)
  where
    test : (b : Bool) → same (name_of c.field) n ≡ b → cond b (Some c) (column_of cs n) ≡ None → (column_of cs n ≡ None → among n (map (λ (c : Column). name_of c.field) cs) ≡ false) → cond (same n (name_of c.field)) true (among n (map (λ (c : Column). name_of c.field) cs)) ≡ false
    test true e h ih = absurd cc
    test false e h ih = rw (same_no (name_of c.field) n e) (ih h)

    go : (s : Shape) → cond (elim s [ Message ↦ true | Leaf f ↦ same (name_of c.field) n | Raw ↦ same (name_of c.field) n | Record t ↦ same (name_of c.field) n ]) (Some c) (column_of cs n) ≡ None → (column_of cs n ≡ None → among n (map (λ (c : Column). name_of c.field) cs) ≡ false)
        → cond (same n (name_of c.field)) true (among n (map (λ (c : Column). name_of c.field) cs)) ≡ false
    go Message h ih = absurd cc
    go (Leaf f) h ih = test (same (name_of c.field) n) refl h ih
    go Raw h ih = test (same (name_of c.field) n) refl h ih
    go (Record t) h ih = test (same (name_of c.field) n) refl h ih

no_table_name : (ms : List (Text × Table)) (n : Text) → table_of_name n ms ≡ None → among n (map (λ (m : Text × Table). m.0) ms) ≡ false
no_table_name [] n h = refl
no_table_name (m ∷ ms) n h = go (same m.0 n) refl h (λ e. no_table_name ms n e)
  where
    go : (b : Bool) → same m.0 n ≡ b → cond b (Some m.1) (table_of_name n ms) ≡ None → (table_of_name n ms ≡ None → among n (map (λ (m : Text × Table). m.0) ms) ≡ false) → cond (same n m.0) true (among n (map (λ (m : Text × Table). m.0) ms)) ≡ false
    go true e h ih = absurd cc
    go false e h ih = rw (same_no m.0 n e) (ih h)

not_among : (n : Text) (xs ys : List Text) → among n xs ≡ false → among n ys ≡ false → among n (xs ++ ys) ≡ false
not_among n [] ys p q = q
not_among n (x ∷ xs) ys p q = let r = or_false (same n x) (among n xs) p in rw r.0 (not_among n xs ys r.1 q)

-- the name of a message's element, of no message of the profile
pub other_name : (n : Text) (c : Column) (o : Operation) → column_of (columns tables.Envelope) n ≡ Some c → c.shape ≡ Message → table_of_name n (messages o) ≡ None → among n taken_names ≡ false
other_name n c o h s m = three (same (codes "mosID") n) refl (same (codes "ncsID") n) refl (same (codes "messageID") n) refl h
  where
    E : Shape → Type 0
    E z = is_message_shape z ≡ true

    shape_of : (d : Column) → Some d ≡ Some c → is_message_shape d.shape ≡ true
    shape_of d e = let q : d ≡ c = cc in subst (λ (x : Column). E x.shape) (sym q) (ap is_message_shape s)

    three : (p : Bool) → same (codes "mosID") n ≡ p → (q : Bool) → same (codes "ncsID") n ≡ q → (r : Bool) → same (codes "messageID") n ≡ r
        → cond p (Some (required fields.MosID forms.Id)) (cond q (Some (required fields.NcsID forms.Id)) (cond r (Some (optional fields.MessageID forms.OptId)) (Some (column fields.Message Message (Count 1))))) ≡ Some c
        → among n taken_names ≡ false
    three true e q f r g h = let k : false ≡ true = shape_of (required fields.MosID forms.Id) h in absurd cc
    three false e true f r g h = let k : false ≡ true = shape_of (required fields.NcsID forms.Id) h in absurd cc
    three false e false f true g h = let k : false ≡ true = shape_of (optional fields.MessageID forms.OptId) h in absurd cc
    three false e false f false g h =
        let k : among n (codes "mosID" ∷ codes "ncsID" ∷ codes "messageID" ∷ []) ≡ false = rw (same_no (codes "mosID") n e, same_no (codes "ncsID") n f, same_no (codes "messageID") n g) refl in
        not_among n (map (λ (m : Text × Table). m.0) (messages Insert)) (codes "mosID" ∷ codes "ncsID" ∷ codes "messageID" ∷ []) (no_table_name (messages o) n m) k

-- ---- the table of a record inside

found_in : (d : Column) (cs : List Column) (n : Text) (c : Column) → ((m : Text) → is_named d m ≡ same (name_of d.field) m) → column_of cs (name_of d.field) ≡ Some d → column_of (d ∷ []) n ≡ Some c → column_of cs n ≡ Some c
found_in d cs n c k i h = go (is_named d n) refl h
  where
    go : (b : Bool) → is_named d n ≡ b → cond b (Some d) None ≡ Some c → column_of cs n ≡ Some c
    go false e h = absurd cc
    go true e h =
        let p : name_of d.field ≡ n = same_is (name_of d.field) n (sym (k n) ∙ e) in
        let q : Some d ≡ Some c = h in
        subst (λ (z : Text). column_of cs z ≡ Some c) p (i ∙ q)

source_inside : (o : Operation) (a : Aim) (n : Text) (c : Column) → column_of (source_column o a ∷ []) n ≡ Some c → column_of (source_column o Nowhere ∷ source_column o AtStory ∷ source_column o AtItem ∷ []) n ≡ Some c
source_inside Insert Nowhere n c h = found_in (source_column Insert Nowhere) (inside_columns (tables.Source Insert Nowhere)) n c (λ m. refl) refl h
source_inside Insert AtStory n c h = found_in (source_column Insert AtStory) (inside_columns (tables.Source Insert AtStory)) n c (λ m. refl) refl h
source_inside Insert AtItem n c h = found_in (source_column Insert AtItem) (inside_columns (tables.Source Insert AtItem)) n c (λ m. refl) refl h
source_inside Replace Nowhere n c h = found_in (source_column Replace Nowhere) (inside_columns (tables.Source Replace Nowhere)) n c (λ m. refl) refl h
source_inside Replace AtStory n c h = found_in (source_column Replace AtStory) (inside_columns (tables.Source Replace AtStory)) n c (λ m. refl) refl h
source_inside Replace AtItem n c h = found_in (source_column Replace AtItem) (inside_columns (tables.Source Replace AtItem)) n c (λ m. refl) refl h
source_inside Move Nowhere n c h = found_in (source_column Move Nowhere) (inside_columns (tables.Source Move Nowhere)) n c (λ m. refl) refl h
source_inside Move AtStory n c h = found_in (source_column Move AtStory) (inside_columns (tables.Source Move AtStory)) n c (λ m. refl) refl h
source_inside Move AtItem n c h = found_in (source_column Move AtItem) (inside_columns (tables.Source Move AtItem)) n c (λ m. refl) refl h
source_inside Delete Nowhere n c h = found_in (source_column Delete Nowhere) (inside_columns (tables.Source Delete Nowhere)) n c (λ m. refl) refl h
source_inside Delete AtStory n c h = found_in (source_column Delete AtStory) (inside_columns (tables.Source Delete AtStory)) n c (λ m. refl) refl h
source_inside Delete AtItem n c h = found_in (source_column Delete AtItem) (inside_columns (tables.Source Delete AtItem)) n c (λ m. refl) refl h
source_inside Swap Nowhere n c h = found_in (source_column Swap Nowhere) (inside_columns (tables.Source Swap Nowhere)) n c (λ m. refl) refl h
source_inside Swap AtStory n c h = found_in (source_column Swap AtStory) (inside_columns (tables.Source Swap AtStory)) n c (λ m. refl) refl h
source_inside Swap AtItem n c h = found_in (source_column Swap AtItem) (inside_columns (tables.Source Swap AtItem)) n c (λ m. refl) refl h

inside_column : (t : Table) (n : Text) (c : Column) → column_of (columns t) n ≡ Some c → column_of (inside_columns t) n ≡ Some c
inside_column (tables.Source o a) n c h = source_inside o a n c h
inside_column t n c h = h

settled_columns : (t : Table) → inside_columns (settled t) ≡ inside_columns t
settled_columns (tables.Source o a) = refl
settled_columns t = refl

-- by the shape of its column
pub inside_of_column : (t : Table) (n : Text) (g : List Attribute) (c : Column) (s : Shape) → column_of (columns t) n ≡ Some c → c.shape ≡ s → inside (settled t) n g ≡ settled (table_of_shape n g s)
inside_of_column t n g c s h e =
    let p : column_of (inside_columns (settled t)) n ≡ Some c = ap (λ (z : List Column). column_of z n) (settled_columns t) ∙ inside_column t n c h in
    ap (λ (z : Option Column). settled (table_of_column n g z)) p ∙ ap (λ (z : Shape). settled (table_of_shape n g z)) e

pub settled_aim : (before : List Child) (v : Table) → settled v ≡ settled (with_aim before v)
settled_aim before (tables.Source o a) = refl
settled_aim before v = refl

-- ---- messages

abbrev with_operation : Operation → Table → Table
with_operation p (tables.Action o) = tables.Action p
with_operation p t = t

abbrev renamed : Operation → Text × Table → Text × Table
renamed p m = (m.0, with_operation p m.1)

table_renamed : (p : Operation) (n : Text) (u : Table) (ms : List (Text × Table)) → table_of_name n ms ≡ Some u → table_of_name n (map (renamed p) ms) ≡ Some (with_operation p u)
table_renamed p n u [] h = absurd cc
table_renamed p n u (m ∷ ms) h = go (same m.0 n) h (λ e. table_renamed p n u ms e)
  where
    go : (b : Bool) → cond b (Some m.1) (table_of_name n ms) ≡ Some u → (table_of_name n ms ≡ Some u → table_of_name n (map (renamed p) ms) ≡ Some (with_operation p u)) → cond b (Some (with_operation p m.1)) (table_of_name n (map (renamed p) ms)) ≡ Some (with_operation p u)
    go true h ih = let e : m.1 ≡ u = cc in ap (λ (z : Table). Some (with_operation p z)) e
    go false h ih = ih h

named_again : (n : Text) (o p : Operation) (u : Table) → table_of_name n (messages o) ≡ Some u → table_of_name n (messages p) ≡ Some (with_operation p u)
named_again n o p u h = table_renamed p n u (messages o) h

among_words : (P : Text → Type 0) (v : Text) (ws : List Text) → AllByRecursion P ws → among v ws ≡ true → P v
among_words P v [] a h = absurd cc
among_words P v (w ∷ ws) a h = go (same v w) refl h (λ e. among_words P v ws a.1 e)
  where
    go : (b : Bool) → same v w ≡ b → cond b true (among v ws) ≡ true → (among v ws ≡ true → P v) → P v
    go true e h ih = subst P (sym (same_is v w e)) a.0
    go false e h ih = ih h

-- an operation's word is read as written
trimmed_operation : (v : Text) → among v (words_of fields.OperationKind) ≡ true → operation_of v ≡ operation_of (trimmed v)
trimmed_operation v h = among_words (λ (w : Text). operation_of w ≡ operation_of (trimmed w)) v (words_of fields.OperationKind) (refl, (refl, (refl, (refl, (refl, tt))))) h

-- The attribute that stands in the events shows the table that the tag's attributes did.
pub shown : (n : Text) (g : List Attribute) (u : Table) → message_of n g ≡ Some u → attribute_fault (attribute_of_table u) g ≡ None → message_of n (given_of (attribute_of_table u) g) ≡ Some u
shown n g (tables.Action o) m f = go (values_of (name_of fields.OperationKind) g) m f
  where
    go : (vs : List Text) → table_of_name n (messages (operation_in vs)) ≡ Some (tables.Action o) → value_fault fields.OperationKind vs ≡ None → message_of n (first_value (name_of fields.OperationKind) vs) ≡ Some (tables.Action o)
    go [] m f = absurd cc
    go (v ∷ w ∷ vs) m f = absurd cc
    go (v ∷ []) m f = two (among v (words_of fields.OperationKind)) refl f
      where
        two : (b : Bool) → among v (words_of fields.OperationKind) ≡ b → cond b None (Some (wrong_value fields.OperationKind)) ≡ None → table_of_name n (messages (operation_of (trimmed v))) ≡ Some (tables.Action o)
        two true e f = subst (λ (p : Operation). table_of_name n (messages p) ≡ Some (tables.Action o)) (trimmed_operation v e) m
        two false e f = absurd cc
shown n g u m f = named_again n (operation_in (values_of (name_of fields.OperationKind) g)) (operation_in (values_of (name_of fields.OperationKind) (given_of (attribute_of_table u) g))) u m
