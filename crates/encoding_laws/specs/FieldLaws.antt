-- What is written of a value is read as that value, and which texts are raw elements.
use Rattle.std.specs.Prelude.{◌≡◌, ◌↔◌, ℕ, ◌<◌, ◌≤◌, ◌^◌, true, false, None, length}
use Rattle.mos_fields.specs.Characters.{Text, are_allowed}
use Rattle.mos_fields.specs.ElementFaults.{unread_fault}
use Rattle.mos_fields.specs.Elements.{is_element}
use Rattle.mos_fields.specs.Faults.{Fault, text_fault, id_fault, opt_id_fault, slug_fault, name_fault, samples_fault, rev_fault, time_fault, air_fault, obj_type_fault, operation_fault, level_fault, field_fault}
use Rattle.mos_fields.specs.Fields.{name_of}
use Rattle.mos_fields.specs.Forms.{number_in, trimmed}
use Rattle.mos_fields.specs.Limits.{IsId, id_limit, slug_limit}
use Rattle.mos_fields.specs.Names.{is_name, is_empty}
use Rattle.mos_fields.specs.Raw.{IsRawElement}
use Rattle.mos_fields.specs.Values.{samples_text, rev_text, time_text, air_text, obj_type_text, operation_text, level_text}
use Rattle.mos_fields.specs.declared.air.Air.{Air}
use Rattle.mos_fields.specs.declared.field.Field.{Field}
use Rattle.mos_fields.specs.declared.level.Level.{Level}
use Rattle.mos_fields.specs.declared.obj_type.ObjType.{ObjType}
use Rattle.mos_fields.specs.declared.operation.Operation.{Operation}
use Rattle.mos_fields.specs.declared.time.MosTime.{MosTime}

-- The text that is written of this value has no fault, and every value as which it may be read is this one.
abbrev pub IsReadBack : {A : Type 0} → Fault → (A → Type 0) → A → Type 0
IsReadBack fault Reads a = (fault ≡ None) × ((b : _) → Reads b → b ≡ a)

-- ---- texts, which are written character for character

abbrev pub TextsAreReadBack : Type 0
TextsAreReadBack = (x : Text) → are_allowed x ≡ true → IsReadBack (text_fault x) (λ y. y ≡ x) x

abbrev pub IdsAreReadBack : Type 0
IdsAreReadBack = (x : Text) → are_allowed x ≡ true → IsId x → IsReadBack (id_fault x) (λ y. y ≡ x) x

abbrev pub OptIdsAreReadBack : Type 0
OptIdsAreReadBack = (x : Text) → are_allowed x ≡ true → length x ≤ id_limit → IsReadBack (opt_id_fault x) (λ y. y ≡ x) x

abbrev pub SlugsAreReadBack : Type 0
SlugsAreReadBack = (x : Text) → are_allowed x ≡ true → length x ≤ slug_limit → IsReadBack (slug_fault x) (λ y. y ≡ x) x

abbrev pub NamesAreReadBack : Type 0
NamesAreReadBack = (x : Text) → are_allowed x ≡ true → is_name x ≡ true → IsReadBack (name_fault x) (λ y. y ≡ x) x

abbrev pub UnreadsAreReadBack : Type 0
UnreadsAreReadBack = (x : Text) → are_allowed x ≡ true → IsRawElement x → IsReadBack (unread_fault x) (λ y. y ≡ x) x

-- ---- numbers

abbrev pub SamplesAreReadBack : Type 0
SamplesAreReadBack = (n : ℕ) → n < 2 ^ 32 → IsReadBack (samples_fault (samples_text n)) (λ m. m ≡ number_in (trimmed (samples_text n))) n

abbrev pub RevsAreReadBack : Type 0
RevsAreReadBack = (n : ℕ) → n ≤ 999 → IsReadBack (rev_fault (rev_text n)) (λ m. m ≡ number_in (trimmed (rev_text n))) n

-- ---- times

abbrev pub TimesAreReadBack : Type 0
TimesAreReadBack = (t : MosTime) → IsReadBack (time_fault (time_text t)) (λ u. time_text u ≡ trimmed (time_text t)) t

-- ---- words

abbrev pub AirsAreReadBack : Type 0
AirsAreReadBack = (a : Air) → IsReadBack (air_fault (air_text a)) (λ b. trimmed (air_text a) ≡ air_text b) a

abbrev pub ObjTypesAreReadBack : Type 0
ObjTypesAreReadBack = (a : ObjType) → IsReadBack (obj_type_fault (obj_type_text a)) (λ b. trimmed (obj_type_text a) ≡ obj_type_text b) a

abbrev pub OperationsAreReadBack : Type 0
OperationsAreReadBack = (a : Operation) → IsReadBack (operation_fault (operation_text a)) (λ b. trimmed (operation_text a) ≡ operation_text b) a

abbrev pub LevelsAreReadBack : Type 0
LevelsAreReadBack = (a : Level) → IsReadBack (level_fault (level_text a)) (λ b. trimmed (level_text a) ≡ level_text b) a

-- a field that has a name
abbrev pub FieldsAreReadBack : Type 0
FieldsAreReadBack = (a : Field) → is_empty (name_of a) ≡ false → IsReadBack (field_fault (name_of a)) (λ b. name_of a ≡ name_of b) a

-- ---- raw elements

-- The texts that are found to be raw elements are those that the relation admits.
abbrev pub ElementsAreRaw : Type 0
ElementsAreRaw = (x : Text) → (is_element x ≡ true) ↔ IsRawElement x
