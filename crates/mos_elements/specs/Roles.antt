-- How an element is read and how it begins, in memory, as the grammar's.
use Rattle.std.specs.Prelude.{◌≡◌, ◌&&◌, ℕ, false, List, [], Option, None, ⊤}
use Rattle.mos_fields.specs.Characters.{Text}
use Rattle.mos_fields.specs.Fields.{name_of}
use Rattle.mos_fields.specs.Forms.{is_trimmed}
use Rattle.mos_fields.specs.declared.form.Form.{Form}
use Rattle.mos_fields.specs.declared.field.Field.{Field}
use Rattle.mos_tables.specs.Events.{Attribute}
use Rattle.mos_tables.specs.declared.column.Column.{Column}
use Rattle.mos_tables.specs.declared.column.Often.{Often}
use Rattle.mos_tables.specs.declared.column.Shape.TheVariants as shapes
use Rattle.mos_tables.specs.Tables.{attribute_of_table, attribute_of_form}
use Rattle.mos_events.specs.EventView.{element_text, attributes_of}
use Rattle.mos_grammar.specs.Records.{given_of, is_full, is_optional, out_of_place, leaf_role, raw_role, record_role, not_admitted, admitted_leaf, admitted_raw, admitted_record}
use Rattle.mos_grammar.specs.Records.{OpenField as OpenFieldOf, Role as RoleOf, Admission as AdmissionOf}
use Rattle.mos_elements.specs.declared.open_field.OpenField.{OpenField}
use Rattle.mos_elements.specs.declared.role.Role.{Role}
use Rattle.mos_elements.specs.declared.role.Role.TheVariants.{OutOfPlace, Leaf, Raw, Record}
use Rattle.mos_elements.specs.declared.admission.Admission.{Admission}
use Rattle.mos_elements.specs.declared.admission.Admission.TheVariants.{Refused, AsLeaf, AsRaw, AsRecord}

abbrev pub open_field_of : OpenField → OpenFieldOf
open_field_of o = record { field = o.field; form = o.form; may_lack = o.may_lack; given = attributes_of o.attribute }

-- the attribute that the role's table or form names
abbrev pub wanted_of : Role → Option Field
wanted_of OutOfPlace = None
wanted_of (Leaf f form lack) = attribute_of_form form
wanted_of (Raw f) = None
wanted_of (Record f t e) = attribute_of_table t

-- the role of an element with these attributes
abbrev pub role_of : Role → List Attribute → RoleOf
role_of OutOfPlace g = out_of_place
role_of (Leaf f form lack) g = leaf_role (record { field = f; form = form; may_lack = lack; given = given_of (attribute_of_form form) g })
role_of (Raw f) g = raw_role f
role_of (Record f t e) g = record_role f t (given_of (attribute_of_table t) g)

-- the element's name is the one that its role has
abbrev pub HasName : Role → Text → Type 0
HasName OutOfPlace n = ⊤
HasName (Leaf f form lack) n = name_of f ≡ n
HasName (Raw f) n = ⊤
HasName (Record f t e) n = element_text e ≡ n

-- the element with this name and these attributes has this role
pub record IsRole (r : Role) (n : Text) (g : List Attribute) (w : RoleOf) : Type 0 where
  pub is : role_of r g ≡ w
  pub name : HasName r n

abbrev pub admission_of : Admission → AdmissionOf
admission_of (Refused k) = not_admitted k
admission_of (AsLeaf o) = admitted_leaf (open_field_of o)
admission_of (AsRaw f) = admitted_raw f
admission_of (AsRecord f t e a) = admitted_record f t (attributes_of a)

abbrev pub HasAdmittedName : Admission → Text → Type 0
HasAdmittedName (Refused k) n = ⊤
HasAdmittedName (AsLeaf o) n = name_of o.field ≡ n
HasAdmittedName (AsRaw f) n = ⊤
HasAdmittedName (AsRecord f t e a) n = element_text e ≡ n

-- the element with this name begins so
pub record IsAdmission (a : Admission) (n : Text) (w : AdmissionOf) : Type 0 where
  pub is : admission_of a ≡ w
  pub name : HasAdmittedName a n

-- a field of this form begins so, whatever its attributes are, and however often it was seen
pub record IsPlain (o : OpenField) (f : Field) (often : Often) (form : Form) : Type 0 where
  pub is : open_field_of o ≡ record { field = f; form = form; may_lack = is_optional often && is_trimmed form; given = [] }
  pub wants : attribute_of_form form ≡ None
  pub room : (k : ℕ) → is_full often k ≡ false

-- an element of this column begins as this field where its tag shows no fault
pub record BeginsAs (o : OpenField) (c : Column) : Type 0 where
  pub form : Form
  pub shape : c.shape ≡ shapes.Leaf form
  pub plain : IsPlain o c.field c.often form
