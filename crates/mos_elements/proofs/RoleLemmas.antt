-- How elements are read.
use Rattle.std.proofs.Common.{◌≡◌, ℕ, Bool, true, false, cond, ◌&&◌, ◌||◌, List, [], ◌∷◌, Option, Some, None, refl, sym, ap, ◌∙◌, subst}
use Rattle.std.specs.Prelude.{is_some}
use Rattle.mos_fields.specs.Characters.{Text}
use Rattle.mos_fields.specs.Fields.{name_of, same}
use Rattle.mos_fields.specs.Forms.{is_trimmed, reads}
use Rattle.mos_fields.specs.declared.field.Field.{Field}
use Rattle.mos_fields.specs.declared.field.Field.TheVariants as fields
use Rattle.mos_fields.specs.declared.form.Form.{Form}
use Rattle.mos_fields.specs.declared.operation.Operation.{Operation}
use Rattle.mos_fields.proofs.WordLemmas.{same_is}
use Rattle.mos_tables.specs.Events.{Attribute}
use Rattle.mos_tables.specs.Tables.{columns, others, attribute_of_table, attribute_of_form}
use Rattle.mos_tables.specs.declared.column.Column.{Column}
use Rattle.mos_tables.specs.declared.column.Shape.TheVariants as shapes
use Rattle.mos_tables.specs.declared.table.Table.{Table}
use Rattle.mos_tables.specs.declared.table.Table.TheVariants.{Envelope, Body, HeaderPatch, Story, Item, MosObj, Heartbeat, NoFields, ListMachInfo, SupportedProfiles, MosAck, MosReqObj, MosReqAll, MosListAll, OneOrder, RoListAll, ElementStat, Action, Target, Source, ReadyToAir, RoAck, StorySend}
use Rattle.mos_grammar.specs.declared.fault.Fault.{Fault}
use Rattle.mos_grammar.specs.declared.fault.Fault.TheVariants.{Value as wrong_value}
use Rattle.mos_grammar.specs.Records.{Child, column_of, is_named, is_full, is_optional, times, seen_of, given_of, operation_in, values_of, message_of, message_role, role, role_at, role_by, other_role, with_aim, Role, out_of_place, leaf_role, raw_role, record_role, admitted_leaf, role_fault, attribute_fault, inside_fault, field_events, text_fault, leaf_event, OpenField, earlier, admitted, admission, empty_admission, outside_fault}
use Rattle.mos_columns.specs.Counts.{counts_of}
use Rattle.mos_columns.specs.Messages.{all_messages, named_in, record_if, record_of}
use Rattle.mos_columns.proofs.MessageLaws.{message_is}
use Rattle.mos_events.specs.EventView.{message_text}
use Rattle.mos_events.specs.declared.element_name.ElementName.TheVariants as names
use Rattle.mos_events.specs.declared.message_name.MessageName.{MessageName}
use Rattle.mos_events.specs.declared.known_attribute.KnownAttribute.{KnownAttribute}
use Rattle.mos_forms.specs.Known.{IsGivenAs}
use Rattle.mos_elements.proofs.TextLemmas.{events_empty}
use Rattle.mos_elements.specs.Opened.{times_by}
use Rattle.mos_elements.specs.Roles.{IsRole, IsAdmission, BeginsAs, role_of, wanted_of}
use Rattle.mos_elements.specs.declared.open_field.OpenField.{OpenField as OpenFieldCode}
use Rattle.mos_elements.specs.declared.role.Role.{Role as RoleCode}
use Rattle.mos_elements.specs.declared.role.Role.TheVariants as roles
use Rattle.mos_elements.specs.declared.admission.Admission.{Admission as AdmissionCode}
use Rattle.mos_elements.specs.declared.admission.Admission.TheVariants as admissions

-- ---- columns by name

pub column_named : (cs : List Column) (n : Text) (c : Column) → column_of cs n ≡ Some c → is_named c n ≡ true
column_named [] n c e = absurd (cc)
column_named (d ∷ cs) n c e = go (is_named d n) refl e (column_named cs n c)
  where
    go : (b : Bool) → is_named d n ≡ b → cond b (Some d) (column_of cs n) ≡ Some c → (column_of cs n ≡ Some c → is_named c n ≡ true) → is_named c n ≡ true
    go true h e next = subst (λ (z : Column). is_named z n ≡ true) (let i : d ≡ c = cc in i) h
    go false h e next = next e

pub times_is : (cs : List Column) (seen : List Field) (n : Text) (c : Column) → column_of cs n ≡ Some c → times_by cs (counts_of cs seen) n ≡ times c.field seen
times_is [] seen n c e = absurd (cc)
times_is (d ∷ cs) seen n c e = go (is_named d n) e (times_is cs seen n c)
  where
    go : (b : Bool) → cond b (Some d) (column_of cs n) ≡ Some c → (column_of cs n ≡ Some c → times_by cs (counts_of cs seen) n ≡ times c.field seen) → cond b (times d.field seen) (times_by cs (counts_of cs seen) n) ≡ times c.field seen
    go true e next = ap (λ (z : Column). times z.field seen) (let i : d ≡ c = cc in i)
    go false e next = next e

-- ---- roles of columns

leaf_named : (c : Column) (form : Form) (n : Text) → c.shape ≡ shapes.Leaf form → is_named c n ≡ true → name_of c.field ≡ n
leaf_named c form n e h = same_is (name_of c.field) n (rw e at h)

record_named : (c : Column) (u : Table) (n : Text) → c.shape ≡ shapes.Record u → is_named c n ≡ true → name_of c.field ≡ n
record_named c u n e h = same_is (name_of c.field) n (rw e at h)

leaf_as : Field → Form → List Attribute → Bool → Role
leaf_as f form g lack = leaf_role (record { field = f; form = form; may_lack = lack; given = given_of (attribute_of_form form) g })

pub leaf_is : (before : List Child) (n : Text) (g : List Attribute) (c : Column) (form : Form) (lack : Bool) → c.shape ≡ shapes.Leaf form → is_named c n ≡ true → lack ≡ (is_optional c.often && is_trimmed form)
    → IsRole (roles.Leaf c.field form lack) n g (role_at before n g c c.shape)
unfolding leaf_as
leaf_is before n g c form lack e h l = record {
  is = ap (leaf_as c.field form g) l ∙ sym (ap (role_at before n g c) e);
  name = leaf_named c form n e h;
}

aim_attribute : (before : List Child) (u : Table) → attribute_of_table (with_aim before u) ≡ attribute_of_table u
aim_attribute before Envelope = refl
aim_attribute before Body = refl
aim_attribute before HeaderPatch = refl
aim_attribute before Story = refl
aim_attribute before Item = refl
aim_attribute before MosObj = refl
aim_attribute before Heartbeat = refl
aim_attribute before NoFields = refl
aim_attribute before ListMachInfo = refl
aim_attribute before SupportedProfiles = refl
aim_attribute before MosAck = refl
aim_attribute before MosReqObj = refl
aim_attribute before MosReqAll = refl
aim_attribute before MosListAll = refl
aim_attribute before OneOrder = refl
aim_attribute before RoListAll = refl
aim_attribute before ElementStat = refl
aim_attribute before (Action o) = refl
aim_attribute before (Target o) = refl
aim_attribute before (Source o a) = refl
aim_attribute before ReadyToAir = refl
aim_attribute before RoAck = refl
aim_attribute before StorySend = refl

pub record_is : (before : List Child) (n : Text) (g : List Attribute) (c : Column) (u t : Table) → c.shape ≡ shapes.Record u → is_named c n ≡ true → t ≡ with_aim before u
    → IsRole (roles.Record c.field t (names.Field c.field)) n g (role_at before n g c c.shape)
record_is before n g c u t e h a = record {
  is = ap (λ (z : Table). record_role c.field z (given_of (attribute_of_table z) g)) a ∙ (ap (λ o. record_role c.field (with_aim before u) (given_of o g)) (aim_attribute before u) ∙ sym (ap (role_at before n g c) e));
  name = record_named c u n e h;
}

-- ---- messages

found_name : (n : Text) (ms : List MessageName) (m : MessageName) → named_in n ms ≡ Some m → message_text m ≡ n
found_name n [] m e = absurd (cc)
found_name n (k ∷ ms) m e = go (same (message_text k) n) refl e (found_name n ms m)
  where
    go : (b : Bool) → same (message_text k) n ≡ b → cond b (Some k) (named_in n ms) ≡ Some m → (named_in n ms ≡ Some m → message_text m ≡ n) → message_text m ≡ n
    go true h e next = ap message_text (let i : m ≡ k = cc in i) ∙ same_is (message_text k) n h
    go false h e next = next e

pub message_lost : (f : Field) (n : Text) (g : List Attribute) → named_in n all_messages ≡ None → IsRole (roles.Raw f) n g (message_role f g (message_of n g))
message_lost f n g e = record {
  is = sym (ap (message_role f g) (message_is n (operation_in (values_of (name_of fields.OperationKind) g)) ∙ ap (record_if (operation_in (values_of (name_of fields.OperationKind) g))) e));
  name = tt;
}

pub message_found : (f : Field) (n : Text) (g : List Attribute) (m : MessageName) (o : Operation) (t : Table) → named_in n all_messages ≡ Some m → o ≡ operation_in (values_of (name_of fields.OperationKind) g) → t ≡ record_of o m
    → IsRole (roles.Record f t (names.Message m)) n g (message_role f g (message_of n g))
message_found f n g m o t e i r = record {
  is = ap (λ (z : Table). record_role f z (given_of (attribute_of_table z) g)) (r ∙ ap (λ (k : Operation). record_of k m) i)
      ∙ sym (ap (message_role f g) (message_is n (operation_in (values_of (name_of fields.OperationKind) g)) ∙ ap (record_if (operation_in (values_of (name_of fields.OperationKind) g))) e));
  name = found_name n all_messages m e;
}

-- ---- roles

pub role_none : (r : RoleCode) (t : Table) (before : List Child) (n : Text) (g : List Attribute) → column_of (columns t) n ≡ None → IsRole r n g (other_role (others t n)) → IsRole r n g (role t before n g)
unfolding role
role_none r t before n g e h = subst (IsRole r n g) (sym (ap (role_by t before n g) e)) h

pub role_full : (t : Table) (before : List Child) (n : Text) (g : List Attribute) (c : Column) (k : ℕ) (b : Bool) → column_of (columns t) n ≡ Some c → k ≡ times_by (columns t) (counts_of (columns t) (seen_of t before)) n
    → b ≡ is_full c.often k → b ≡ true → IsRole roles.OutOfPlace n g (role t before n g)
unfolding role
role_full t before n g c k b e h f w = record {
  is = sym (ap (role_by t before n g) e ∙ ap (λ z. cond z out_of_place (role_at before n g c c.shape)) (sym (f ∙ ap (is_full c.often) (h ∙ times_is (columns t) (seen_of t before) n c e)) ∙ w));
  name = tt;
}

pub role_room : (t : Table) (before : List Child) (n : Text) (g : List Attribute) (c : Column) (k : ℕ) (b : Bool) → column_of (columns t) n ≡ Some c → k ≡ times_by (columns t) (counts_of (columns t) (seen_of t before)) n
    → b ≡ is_full c.often k → b ≡ false → role_at before n g c c.shape ≡ role t before n g
unfolding role
role_room t before n g c k b e h f w =
    sym (ap (role_by t before n g) e ∙ ap (λ z. cond z out_of_place (role_at before n g c c.shape)) (sym (f ∙ ap (is_full c.often) (h ∙ times_is (columns t) (seen_of t before) n c e)) ∙ w))

-- ---- admissions

fault_is : (r : RoleCode) (g : List Attribute) → role_fault (role_of r g) g ≡ attribute_fault (wanted_of r) g
fault_is roles.OutOfPlace g = refl
fault_is (roles.Leaf f form lack) g = refl
fault_is (roles.Raw f) g = refl
fault_is (roles.Record f t e) g = refl

pub leaf_inside : (n : Text) (f : Field) (form : Form) (lack : Bool) (g : List Attribute) → cond (lack || is_some (reads form [] [])) None (Some (wrong_value f)) ≡ inside_fault n (role_of (roles.Leaf f form lack) g) []
unfolding field_events
leaf_inside n f form true g = refl
leaf_inside n f form false g = go (reads form [] [])
  where
    o : OpenField
    o = record { field = f; form = form; may_lack = false; given = given_of (attribute_of_form form) g }

    go : (x : Option Text) → cond (is_some x) None (Some (wrong_value f)) ≡ text_fault o (leaf_event n o x)
    go None = refl
    go (Some x) = refl

pub without_fault : (a : AdmissionCode) (r : RoleCode) (n : Text) (g : List Attribute) (k : Option KnownAttribute) (out inside : Option Fault) → IsGivenAs (wanted_of r) g k → earlier out inside ≡ None
    → IsAdmission a n (admitted (role_of r g) None) → IsAdmission a n (admitted (role_of r g) (earlier out (earlier (role_fault (role_of r g) g) inside)))
without_fault a r n g k out inside h e i =
    let p : earlier (role_fault (role_of r g) g) inside ≡ inside = ap (λ z. earlier z inside) (fault_is r g ∙ h.fine) in
    subst (λ z. IsAdmission a n (admitted (role_of r g) z)) (sym (ap (earlier out) p ∙ e)) i

nothing_inside : (k : Option Fault) → earlier k None ≡ k
nothing_inside None = refl
nothing_inside (Some f) = refl

pub start_is : (a : AdmissionCode) (r : RoleCode) (t : Table) (before : List Child) (n : Text) (g : List Attribute) (out : Option Fault) → IsRole r n g (role t before n g) → out ≡ outside_fault t before n
    → IsAdmission a n (admitted (role_of r g) (earlier out (earlier (role_fault (role_of r g) g) None))) → IsAdmission a n (admission t before n g)
unfolding admission
start_is a r t before n g out i o h = subst (IsAdmission a n)
    (ap (λ z. admitted (role_of r g) (earlier out z)) (nothing_inside (role_fault (role_of r g) g)) ∙ (ap (λ z. admitted (role_of r g) (earlier z (role_fault (role_of r g) g))) o
    ∙ ap (λ w. admitted w (earlier (outside_fault t before n) (role_fault w g))) i.is)) h

pub empty_is : (a : AdmissionCode) (r : RoleCode) (t : Table) (before : List Child) (n : Text) (g : List Attribute) (out inside : Option Fault) → IsRole r n g (role t before n g) → out ≡ outside_fault t before n
    → inside ≡ inside_fault n (role_of r g) [] → IsAdmission a n (admitted (role_of r g) (earlier out (earlier (role_fault (role_of r g) g) inside))) → IsAdmission a n (empty_admission t [] before n g)
unfolding empty_admission
empty_is a r t before n g out inside i o k h = subst (IsAdmission a n)
    (ap (λ z. admitted (role_of r g) (earlier out (earlier (role_fault (role_of r g) g) z))) k ∙ (ap (λ z. admitted (role_of r g) (earlier z (earlier (role_fault (role_of r g) g) (inside_fault n (role_of r g) [])))) o
    ∙ ap (λ w. admitted w (earlier (outside_fault t before n) (earlier (role_fault w g) (inside_fault n w [])))) i.is)) h

-- ---- keys beside

inside_beside : (n : Text) (w : Role) (taken : List Text) → inside_fault n w taken ≡ inside_fault n w []
inside_beside n out_of_place taken = refl
inside_beside n (leaf_role o) taken = ap (text_fault o) (events_empty n o taken)
inside_beside n (raw_role f) taken = refl
inside_beside n (record_role f u g) taken = refl

pub admission_beside : (t : Table) (taken : List Text) (before : List Child) (n : Text) (g : List Attribute) → empty_admission t taken before n g ≡ empty_admission t [] before n g
unfolding empty_admission
admission_beside t taken before n g = ap (λ k. admitted (role t before n g) (earlier (outside_fault t before n) (earlier (role_fault (role t before n g) g) k))) (inside_beside n (role t before n g) taken)

-- ---- plain fields

pub plain_is : (o : OpenFieldCode) (c : Column) → BeginsAs o c → (t : Table) (before : List Child) (n : Text) (g : List Attribute) → column_of (columns t) n ≡ Some c → outside_fault t before n ≡ None
    → IsAdmission (admissions.AsLeaf o) n (admission t before n g)
unfolding admission
plain_is o c b t before n g e k =
    let w : Role = leaf_role (record { field = c.field; form = b.form; may_lack = is_optional c.often && is_trimmed b.form; given = [] }) in
    let r : role t before n g ≡ w = sym (role_room t before n g c (times_by (columns t) (counts_of (columns t) (seen_of t before)) n) (is_full c.often (times_by (columns t) (counts_of (columns t) (seen_of t before)) n)) e refl refl (b.plain.room (times_by (columns t) (counts_of (columns t) (seen_of t before)) n)))
    ∙ (ap (role_at before n g c) b.shape ∙ ap (λ x. leaf_role (record { field = c.field; form = b.form; may_lack = is_optional c.often && is_trimmed b.form; given = given_of x g })) b.plain.wants) in
    record {
      is = ap admitted_leaf b.plain.is ∙ sym (ap (λ z. admitted z (earlier (outside_fault t before n) (role_fault z g))) r
          ∙ (ap (λ z. admitted w (earlier z (role_fault w g))) k ∙ ap (λ x. admitted w (attribute_fault x g)) b.plain.wants));
      name = ap (λ (z : OpenField). name_of z.field) b.plain.is ∙ leaf_named c b.form n b.shape (column_named (columns t) n c e);
    }
