-- The attributes of a canonical encoding, and how its elements are admitted.
use Rattle.std.proofs.Common.{◌≡◌, Bool, true, false, cond, List, [], ◌∷◌, Option, Some, None, refl, sym, ap, subst, ◌∙◌}
use Rattle.std.specs.Prelude.{◌&&◌}
use Rattle.std.specs.List.{AllByRecursion}
use Rattle.mos_fields.specs.Characters.{Text, are_allowed}
use Rattle.mos_fields.specs.Fields.{name_of, same}
use Rattle.mos_fields.specs.Names.{may_grow, named}
use Rattle.mos_fields.specs.Forms.{among, is_space, is_white, behind_white, trimmed, is_trimmed, reads}
use Rattle.mos_fields.specs.declared.field.Field.{Field}
use Rattle.mos_fields.specs.declared.field.Field.TheVariants as fields
use Rattle.mos_fields.specs.declared.form.Form.{Form}
use Rattle.mos_fields.specs.declared.form.Form.TheVariants as forms
use Rattle.mos_fields.specs.declared.operation.Operation.{Operation}
use Rattle.mos_tables.specs.declared.column.Column.{Column}
use Rattle.mos_tables.specs.declared.column.Shape.TheVariants.{Leaf, Raw, Record, Message}
use Rattle.mos_tables.specs.declared.table.Table.{Table}
use Rattle.mos_tables.specs.declared.table.Table.TheVariants as tables
use Rattle.mos_tables.specs.Events.{Attribute, leaf}
use Rattle.mos_tables.specs.Tables.{columns, messages, table_of_name, others, attribute_of_table, attribute_of_form, words_of}
use Rattle.mos_grammar.specs.declared.fault.Fault.{Fault}
use Rattle.mos_grammar.specs.declared.fault.Fault.TheVariants.{Value as fault_value}
use Rattle.mos_grammar.specs.Records.{Child, times, seen_of, is_full, is_optional, column_of, values_of, value_fault, attribute_fault, first_value, given_of, OpenField, Role, leaf_role, raw_role, record_role, operation_in, message_of, aim_of, with_aim, message_role, role_at, other_role, role, earlier, role_fault, inside_fault, outside_fault, field_events, admitted, admitted_leaf, admitted_raw, admitted_record, admission, empty_admission}
use Rattle.mos_grammar.proofs.Sound.{same-refl}
use Rattle.mos_cursor.specs.Accepted.{IsGiven}
use Rattle.mos_cursor.proofs.Roles.{same_is}
use Rattle.encoding_laws.proofs.Written.{IsNamedAttribute}

-- ---- attributes

among_all : (P : Text → Type 0) (v : Text) (ws : List Text) → AllByRecursion P ws → among v ws ≡ true → P v
among_all P v [] a h = absurd cc
among_all P v (w ∷ ws) a h = go (same v w) refl h (λ e. among_all P v ws a.1 e)
  where
    go : (b : Bool) → same v w ≡ b → cond b true (among v ws) ≡ true → (among v ws ≡ true → P v) → P v
    go true e h ih = subst P (sym (same_is v w e)) a.0
    go false e h ih = ih h

abbrev IsTrimmedWord : Text → Type 0
IsTrimmedWord w = trimmed w ≡ w

words_trimmed : (a : Field) → AllByRecursion IsTrimmedWord (words_of a)
words_trimmed fields.DeviceType = (refl, (refl, tt))
words_trimmed fields.Number = (refl, (refl, (refl, (refl, (refl, (refl, (refl, (refl, (refl, (refl, tt))))))))))
words_trimmed fields.ElementKind = (refl, (refl, (refl, tt)))
words_trimmed fields.OperationKind = (refl, (refl, (refl, (refl, (refl, tt)))))
words_trimmed f = tt

abbrev IsAllowedWord : Text → Type 0
IsAllowedWord w = are_allowed w ≡ true

words_allowed : (a : Field) → AllByRecursion IsAllowedWord (words_of a)
words_allowed fields.DeviceType = (refl, (refl, tt))
words_allowed fields.Number = (refl, (refl, (refl, (refl, (refl, (refl, (refl, (refl, (refl, (refl, tt))))))))))
words_allowed fields.ElementKind = (refl, (refl, (refl, tt)))
words_allowed fields.OperationKind = (refl, (refl, (refl, (refl, (refl, tt)))))
words_allowed f = tt

attribute_named : (a : Field) (v : Text) → among v (words_of a) ≡ true → named [] (name_of a) ≡ true
unfolding may_grow
attribute_named fields.DeviceType v h = refl
attribute_named fields.Number v h = refl
attribute_named fields.ElementKind v h = refl
attribute_named fields.OperationKind v h = refl
attribute_named f v h = absurd cc

-- What is given is given again, without a fault.
pub record GivenAgain (o : Option Field) (g : List Attribute) : Type 0 where
  pub same_given : given_of o g ≡ g
  pub fine : attribute_fault o g ≡ None
  pub names : AllByRecursion IsNamedAttribute g

one_attribute : (a : Field) (v : Text) → among v (words_of a) ≡ true → GivenAgain (Some a) (record { name = name_of a; value = v } ∷ [])
one_attribute a v h = record {
  same_given = ap (first_value (name_of a)) values;
  fine = ap (value_fault a) values ∙ rw h refl;
  names = ((attribute_named a v h, among_all IsAllowedWord v (words_of a) (words_allowed a) h), tt);
}
  where
    one : Attribute
    one = record { name = name_of a; value = v }

    values : values_of (name_of a) (one ∷ []) ≡ v ∷ []
    values = rw (same-refl (name_of a), among_all IsTrimmedWord v (words_of a) (words_trimmed a) h) refl

pub given_again : (o : Option Field) (g : List Attribute) → IsGiven o g → GivenAgain o g
given_again None g h = subst (GivenAgain None) (sym h) (record { same_given = refl; fine = refl; names = tt })
given_again (Some a) g h = subst (GivenAgain (Some a)) (sym h.1) (one_attribute a h.0 h.2)

-- ---- messages by their names

abbrev is_action : Table → Bool
is_action (tables.Action o) = true
is_action t = false

-- the same names, and the same tables but for actions
abbrev Alike : List (Text × Table) → List (Text × Table) → Type 0
Alike [] [] = Unit {0}
Alike [] (k ∷ ks) = ⊥
Alike (m ∷ ms) [] = ⊥
Alike (m ∷ ms) (k ∷ ks) = (m.0 ≡ k.0) × (is_action m.1 ≡ false → m.1 ≡ k.1) × Alike ms ks

all_alike : (o p : Operation) → Alike (messages o) (messages p)
all_alike o p = (refl, (λ e. refl), (refl, (λ e. refl), (refl, (λ e. refl), (refl, (λ e. refl), (refl, (λ e. refl), (refl, (λ e. refl), (refl, (λ e. refl), (refl, (λ e. refl), (refl, (λ e. refl), (refl, (λ e. refl), (refl, (λ e. refl), (refl, (λ e. refl), (refl, (λ e. refl), (refl, (λ e. refl), (refl, (λ e. refl), (refl, (λ e. refl), (refl, (λ e. refl), (refl, (λ e. absurd (let q : true ≡ false = e in cc)), (refl, (λ e. refl), (refl, (λ e. refl), (refl, (λ e. refl), tt)))))))))))))))))))))

alike_found : (n : Text) (u : Table) (ms ks : List (Text × Table)) → Alike ms ks → is_action u ≡ false → table_of_name n ms ≡ Some u → table_of_name n ks ≡ Some u
alike_found n u [] [] a i h = h
alike_found n u [] (k ∷ ks) a i h = absurd a
alike_found n u (m ∷ ms) [] a i h = absurd a
alike_found n u (m ∷ ms) (k ∷ ks) a i h = subst (λ (z : Text). cond (same z n) (Some k.1) (table_of_name n ks) ≡ Some u) a.0 (go (same m.0 n) h (λ e. alike_found n u ms ks a.2 i e))
  where
    go : (b : Bool) → cond b (Some m.1) (table_of_name n ms) ≡ Some u → (table_of_name n ms ≡ Some u → table_of_name n ks ≡ Some u) → cond b (Some k.1) (table_of_name n ks) ≡ Some u
    go true h ih = let e : m.1 ≡ u = cc in ap Some (sym (a.1 (ap is_action e ∙ i)) ∙ e)
    go false h ih = ih h

alike_none : (n : Text) (ms ks : List (Text × Table)) → Alike ms ks → table_of_name n ms ≡ None → table_of_name n ks ≡ None
alike_none n [] [] a h = h
alike_none n [] (k ∷ ks) a h = absurd a
alike_none n (m ∷ ms) [] a h = absurd a
alike_none n (m ∷ ms) (k ∷ ks) a h = subst (λ (z : Text). cond (same z n) (Some k.1) (table_of_name n ks) ≡ None) a.0 (go (same m.0 n) h (λ e. alike_none n ms ks a.2 e))
  where
    go : (b : Bool) → cond b (Some m.1) (table_of_name n ms) ≡ None → (table_of_name n ms ≡ None → table_of_name n ks ≡ None) → cond b (Some k.1) (table_of_name n ks) ≡ None
    go true h ih = absurd cc
    go false h ih = ih h

abbrev operation_given : List Attribute → Operation
operation_given g = operation_in (values_of (name_of fields.OperationKind) g)

-- what is no message with some attributes is none with others
pub no_message : (n : Text) (g h : List Attribute) → message_of n g ≡ None → message_of n h ≡ None
no_message n g h e = alike_none n (messages (operation_given g)) (messages (operation_given h)) (all_alike (operation_given g) (operation_given h)) e

-- a message of a table that names no attribute, or one of its own
plain_message : (n : Text) (u : Table) (g h : List Attribute) → is_action u ≡ false → message_of n g ≡ Some u → message_of n h ≡ Some u
plain_message n u g h i e = alike_found n u (messages (operation_given g)) (messages (operation_given h)) (all_alike (operation_given g) (operation_given h)) i e

-- the operation that is given is given again
action_message : (n : Text) (u : Table) (g : List Attribute) → attribute_fault (Some fields.OperationKind) g ≡ None → message_of n g ≡ Some u → message_of n (given_of (Some fields.OperationKind) g) ≡ Some u
action_message n u g f e = ap (λ (vs : List Text). table_of_name n (messages (operation_in vs))) (go (values_of (name_of fields.OperationKind) g) f) ∙ e
  where
    go : (vs : List Text) → value_fault fields.OperationKind vs ≡ None → values_of (name_of fields.OperationKind) (first_value (name_of fields.OperationKind) vs) ≡ vs
    go [] f = absurd cc
    go (v ∷ []) f = two (among v (words_of fields.OperationKind)) refl f
      where
        two : (b : Bool) → among v (words_of fields.OperationKind) ≡ b → cond b None (Some (fault_value fields.OperationKind)) ≡ None → trimmed v ∷ [] ≡ v ∷ []
        two true k f = ap (λ (z : Text). z ∷ []) (among_all IsTrimmedWord v (words_of fields.OperationKind) (words_trimmed fields.OperationKind) k)
        two false k f = absurd cc
    go (v ∷ w ∷ vs) f = absurd cc

pub message_again : (n : Text) (u : Table) (g : List Attribute) → attribute_fault (attribute_of_table u) g ≡ None → message_of n g ≡ Some u → message_of n (given_of (attribute_of_table u) g) ≡ Some u
message_again n (tables.Action o) g f e = action_message n (tables.Action o) g f e
message_again n u g f e = plain_message n u g (given_of (attribute_of_table u) g) refl e

-- ---- elements that may stand behind children

-- the record has room for an element of this column
abbrev pub HasRoom : List Field → Option Column → Type 0
HasRoom seen None = Unit {0}
HasRoom seen (Some c) = is_full c.often (times c.field seen) ≡ false

-- An element of this name may stand behind these children.
pub record Opens (t : Table) (b : List Child) (n : Text) : Type 0 where
  pub outside : outside_fault t b n ≡ None
  pub room : HasRoom (seen_of t b) (column_of (columns t) n)

pub role_of_column : (t : Table) (b : List Child) (n : Text) (g : List Attribute) (c : Column) → column_of (columns t) n ≡ Some c → Opens t b n → role t b n g ≡ role_at b n g c c.shape
unfolding role
role_of_column t b n g c e h =
    let r : is_full c.often (times c.field (seen_of t b)) ≡ false = subst (HasRoom (seen_of t b)) e h.room in
    rw (e, r) refl

pub role_of_other : (t : Table) (b : List Child) (n : Text) (g : List Attribute) → column_of (columns t) n ≡ None → role t b n g ≡ other_role (others t n)
unfolding role
role_of_other t b n g e = rw e refl

admit : (t : Table) (b : List Child) (n : Text) (g : List Attribute) (w : Role) → role t b n g ≡ w → outside_fault t b n ≡ None → role_fault w g ≡ None → admission t b n g ≡ admitted w None
unfolding admission
admit t b n g w e o f =
    ap (λ (r : Role). admitted r (earlier (outside_fault t b n) (role_fault r g))) e ∙ ap (λ (k : Option Fault). admitted w (earlier k (role_fault w g))) o ∙ ap (admitted w) f

admit_empty : (t : Table) (taken : List Text) (b : List Child) (n : Text) (g : List Attribute) (f : Field) → role t b n g ≡ raw_role f → outside_fault t b n ≡ None → empty_admission t taken b n g ≡ admitted_raw f
unfolding empty_admission
admit_empty t taken b n g f e o =
    ap (λ (r : Role). admitted r (earlier (outside_fault t b n) (earlier (role_fault r g) (inside_fault n r taken)))) e ∙ ap (λ (k : Option Fault). admitted (raw_role f) (earlier k None)) o

-- ---- fields with a text

abbrev pub field_of : Column → Form → List Attribute → OpenField
field_of c form g = record { field = c.field; form = form; may_lack = is_optional c.often && is_trimmed form; given = g }

pub leaf_admitted : (t : Table) (b : List Child) (n : Text) (g : List Attribute) (c : Column) (form : Form) → column_of (columns t) n ≡ Some c → c.shape ≡ Leaf form → IsGiven (attribute_of_form form) g → Opens t b n
    → admission t b n g ≡ admitted_leaf (field_of c form g)
leaf_admitted t b n g c form e s i h =
    let again = given_again (attribute_of_form form) g i in
    let r : role t b n g ≡ leaf_role (field_of c form g) = role_of_column t b n g c e h ∙ ap (role_at b n g c) s ∙ ap (λ (z : List Attribute). leaf_role (field_of c form z)) again.same_given in
    admit t b n g (leaf_role (field_of c form g)) r h.outside again.fine

white_front : (y : Text) → is_white y ≡ true → behind_white y ≡ []
white_front [] h = refl
white_front (c ∷ y) h = go (is_space c) h (λ e. white_front y e)
  where
    go : (b : Bool) → (b && is_white y) ≡ true → (is_white y ≡ true → behind_white y ≡ []) → cond b (behind_white y) (c ∷ y) ≡ []
    go true h ih = ih h
    go false h ih = absurd cc

white_trimmed : (y : Text) → is_white y ≡ true → trimmed y ≡ []
white_trimmed y h = rw (white_front y h) refl

-- nothing but white space is no number, time or word
unread_white : (form : Form) (taken : List Text) (y : Text) → is_trimmed form ≡ true → is_white y ≡ true → reads form taken y ≡ None
unfolding reads
unread_white forms.Samples taken y t h = rw (white_trimmed y h) refl
unread_white forms.Rev taken y t h = rw (white_trimmed y h) refl
unread_white forms.Time taken y t h = rw (white_trimmed y h) refl
unread_white forms.Air taken y t h = rw (white_trimmed y h) refl
unread_white forms.ObjType taken y t h = rw (white_trimmed y h) refl
unread_white f taken y t h = absurd cc

pub leaf_read : (n : Text) (c : Column) (form : Form) (g : List Attribute) (taken : List Text) (y : Text) → reads form taken y ≡ Some y → field_events n (field_of c form g) taken y ≡ Some (leaf n g y ∷ [])
unfolding field_events
leaf_read n c form g taken y e =
    let k : ((is_optional c.often && is_trimmed form) && is_white y) ≡ false = go (is_optional c.often) (is_trimmed form) (is_white y) refl refl in
    rw (k, e) refl
  where
    go : (a b w : Bool) → is_trimmed form ≡ b → is_white y ≡ w → ((a && b) && w) ≡ false
    go true true true p q = let z : None ≡ Some y = sym (unread_white form taken y p q) ∙ e in absurd cc
    go true true false p q = refl
    go true false w p q = refl
    go false b w p q = refl

-- ---- raw elements

pub raw_admitted : (t : Table) (b : List Child) (n : Text) (g : List Attribute) (f : Field) → role t b n g ≡ raw_role f → Opens t b n → admission t b n g ≡ admitted_raw f
raw_admitted t b n g f e h = admit t b n g (raw_role f) e h.outside refl

pub raw_admitted_empty : (t : Table) (taken : List Text) (b : List Child) (n : Text) (g : List Attribute) (f : Field) → role t b n g ≡ raw_role f → Opens t b n → empty_admission t taken b n g ≡ admitted_raw f
raw_admitted_empty t taken b n g f e h = admit_empty t taken b n g f e h.outside

pub raw_of_column : (t : Table) (b : List Child) (n : Text) (g : List Attribute) (c : Column) → column_of (columns t) n ≡ Some c → c.shape ≡ Raw → Opens t b n → role t b n g ≡ raw_role c.field
raw_of_column t b n g c e s h = role_of_column t b n g c e h ∙ ap (role_at b n g c) s

pub raw_of_message : (t : Table) (b : List Child) (n : Text) (g : List Attribute) (c : Column) → column_of (columns t) n ≡ Some c → c.shape ≡ Message → message_of n g ≡ None → Opens t b n → role t b n g ≡ raw_role c.field
raw_of_message t b n g c e s m h = role_of_column t b n g c e h ∙ ap (role_at b n g c) s ∙ ap (message_role c.field g) m

-- ---- records

aim_same : (b p : List Child) (v : Table) → aim_of b ≡ aim_of p → with_aim b v ≡ with_aim p v
aim_same b p (tables.Source o a) e = ap (tables.Source o) e
aim_same b p v e = refl

pub aim_attribute : (p : List Child) (v : Table) → attribute_of_table (with_aim p v) ≡ attribute_of_table v
aim_attribute p (tables.Source o a) = refl
aim_attribute p v = refl

pub record_admitted : (t : Table) (b p : List Child) (n : Text) (g : List Attribute) (c : Column) (v : Table) → column_of (columns t) n ≡ Some c → c.shape ≡ Record v → IsGiven (attribute_of_table v) g → aim_of b ≡ aim_of p → Opens t b n
    → admission t b n g ≡ admitted_record c.field (with_aim p v) g
record_admitted t b p n g c v e s i a h =
    let again = given_again (attribute_of_table v) g i in
    let r : role t b n g ≡ record_role c.field (with_aim p v) g = role_of_column t b n g c e h ∙ ap (role_at b n g c) s ∙ ap (λ (z : List Attribute). record_role c.field (with_aim b v) z) again.same_given ∙ ap (λ (z : Table). record_role c.field z g) (aim_same b p v a) in
    admit t b n g (record_role c.field (with_aim p v) g) r h.outside (ap (λ (z : Option Field). attribute_fault z g) (aim_attribute p v) ∙ again.fine)

pub message_admitted : (t : Table) (b : List Child) (n : Text) (g : List Attribute) (c : Column) (u : Table) → column_of (columns t) n ≡ Some c → c.shape ≡ Message → message_of n g ≡ Some u → IsGiven (attribute_of_table u) g → Opens t b n
    → admission t b n g ≡ admitted_record c.field u g
message_admitted t b n g c u e s m i h =
    let again = given_again (attribute_of_table u) g i in
    let r : role t b n g ≡ record_role c.field u g = role_of_column t b n g c e h ∙ ap (role_at b n g c) s ∙ ap (message_role c.field g) m ∙ ap (record_role c.field u) again.same_given in
    admit t b n g (record_role c.field u g) r h.outside again.fine
