-- The text of a value pins the value.
use Rattle.std.proofs.Common.{◌≡◌, ℕ, ◌+◌, ◌%◌, ◌<◌, ◌^◌, Bool, true, false, List, [], ◌∷◌, ◌++◌, Option, Some, None, refl, sym, ap, ◌∙◌, arith}
use Rattle.std.specs.Fmt.{decimal}
use Rattle.std.proofs.lemmas.Bool.Decides.{nat_tests}
use Rattle.std.proofs.lemmas.Fmt.{decimal_injective}
use Rattle.mos_fields.specs.Characters.{Text}
use Rattle.mos_fields.specs.Forms.{is_digit, trimmed}
use Rattle.mos_fields.specs.Values.{samples_text, time_text, air_text, air_values, obj_type_text, obj_type_values, level_text, level_values, operation_text, operation_values, word_of}
use Rattle.mos_fields.specs.declared.air.Air.{Air}
use Rattle.mos_fields.specs.declared.air.Air.TheVariants as airs
use Rattle.mos_fields.specs.declared.level.Level.{Level}
use Rattle.mos_fields.specs.declared.level.Level.TheVariants as levels
use Rattle.mos_fields.specs.declared.obj_type.ObjType.{ObjType}
use Rattle.mos_fields.specs.declared.obj_type.ObjType.TheVariants as types
use Rattle.mos_fields.specs.declared.operation.Operation.{Operation}
use Rattle.mos_fields.specs.declared.operation.Operation.TheVariants as operations
use Rattle.mos_fields.specs.declared.time.MosTime.{MosTime}
use Rattle.mos_values.specs.Views.{ack_status_text, answer_text, device_type_text}
use Rattle.mos_values.specs.declared.mos_ack.AckStatus.{AckStatus}
use Rattle.mos_values.specs.declared.mos_ack.AckStatus.TheVariants.{Ack, Nack}
use Rattle.mos_values.specs.declared.profile.DeviceType.{DeviceType}
use Rattle.mos_values.specs.declared.profile.DeviceType.TheVariants.{Ncs, Mos}
use Rattle.encoding_laws.proofs.NumberLaws.{is_solid, solid_trimmed, digit_solid}
use Rattle.encoding_laws.proofs.TimeLaws.{time_all, times_back}
use Rattle.value_laws.specs.Ranges.{IsSmall}
use Rattle.value_laws.proofs.FieldParts.{listed_as, a_text}

-- ---- numbers

pub one_number : (m n : ℕ) → m < 2 ^ 32 → n < 2 ^ 32 → decimal m ≡ decimal n → m ≡ n
one_number m n h i e = decimal_injective m n (omega (arith, h)) (omega (arith, i)) e

pub a_number : (o p : Option ℕ) → IsSmall o → IsSmall p → listed_as samples_text o ++ [] ≡ listed_as samples_text p ++ [] → o ≡ p
a_number None None h i e = refl
a_number None (Some n) h i e = absurd cc
a_number (Some m) None h i e = absurd cc
a_number (Some m) (Some n) h i e = ap (λ k. Some k) (one_number m n h i (a_text (decimal m) (decimal n) e))

-- ---- times

digit_is : (k : ℕ) → is_digit (48 + k % 10) ≡ true
digit_is k = grind (arith, nat_tests)

time_trimmed : (t : MosTime) → trimmed (time_text t) ≡ time_text t
time_trimmed t = solid_trimmed (time_text t) (time_all is_solid (λ k. digit_solid (48 + k % 10) (digit_is k)) refl t)

pub one_time : (t u : MosTime) → time_text t ≡ time_text u → t ≡ u
one_time t u e = (times_back u).1 t (e ∙ sym (time_trimmed u))

-- ---- words

some_same : {A : Type 0} (a b : A) → Some a ≡ Some b → a ≡ b
some_same a b e = cc

one_word : {A : Type 0} (text : A → Text) (values : List A) → ((a : A) → word_of text values (text a) ≡ Some a) → (a b : A) → text a ≡ text b → a ≡ b
one_word text values found a b e = some_same a b (sym (found a) ∙ (ap (word_of text values) e ∙ found b))

air_found : (a : Air) → word_of air_text air_values (air_text a) ≡ Some a
air_found airs.Ready = refl
air_found airs.NotReady = refl

pub one_air : (a b : Air) → air_text a ≡ air_text b → a ≡ b
one_air = one_word air_text air_values air_found

type_found : (a : ObjType) → word_of obj_type_text obj_type_values (obj_type_text a) ≡ Some a
type_found types.Still = refl
type_found types.Audio = refl
type_found types.Video = refl
type_found types.Other = refl

pub one_type : (a b : ObjType) → obj_type_text a ≡ obj_type_text b → a ≡ b
one_type = one_word obj_type_text obj_type_values type_found

level_found : (a : Level) → word_of level_text level_values (level_text a) ≡ Some a
level_found levels.Ro = refl
level_found levels.Story = refl
level_found levels.Item = refl

pub one_level : (a b : Level) → level_text a ≡ level_text b → a ≡ b
one_level = one_word level_text level_values level_found

operation_found : (a : Operation) → word_of operation_text operation_values (operation_text a) ≡ Some a
operation_found operations.Insert = refl
operation_found operations.Replace = refl
operation_found operations.Move = refl
operation_found operations.Delete = refl
operation_found operations.Swap = refl

pub one_operation : (a b : Operation) → operation_text a ≡ operation_text b → a ≡ b
one_operation = one_word operation_text operation_values operation_found

pub one_ack : (a b : AckStatus) → ack_status_text a ≡ ack_status_text b → a ≡ b
one_ack = one_word ack_status_text (Ack ∷ Nack ∷ []) ack_found
  where
    ack_found : (a : AckStatus) → word_of ack_status_text (Ack ∷ Nack ∷ []) (ack_status_text a) ≡ Some a
    ack_found Ack = refl
    ack_found Nack = refl

pub one_device : (a b : DeviceType) → device_type_text a ≡ device_type_text b → a ≡ b
one_device = one_word device_type_text (Ncs ∷ Mos ∷ []) device_found
  where
    device_found : (a : DeviceType) → word_of device_type_text (Ncs ∷ Mos ∷ []) (device_type_text a) ≡ Some a
    device_found Ncs = refl
    device_found Mos = refl

pub one_answer : (a b : Bool) → answer_text a ≡ answer_text b → a ≡ b
one_answer = one_word answer_text (true ∷ false ∷ []) answer_found
  where
    answer_found : (a : Bool) → word_of answer_text (true ∷ false ∷ []) (answer_text a) ≡ Some a
    answer_found true = refl
    answer_found false = refl
