-- The texts of times and of words are in their forms.
use Rattle.std.proofs.Common.{◌≡◌, ℕ, ◌+◌, ◌%◌, Bool, true, false, [], Option, Some, None, refl, ap, arith}
use Rattle.std.specs.Prelude.{is_none}
use Rattle.std.proofs.lemmas.Bool.Decides.{nat_tests}
use Rattle.mos_fields.specs.Characters.{Text}
use Rattle.mos_fields.specs.Faults.{text_fault, fault_if}
use Rattle.mos_fields.specs.Forms.{is_digit, is_time, trimmed, only_if, reads}
use Rattle.mos_fields.specs.Values.{air_text, obj_type_text, time_text}
use Rattle.mos_fields.specs.declared.air.Air.{Air}
use Rattle.mos_fields.specs.declared.air.Air.TheVariants as airs
use Rattle.mos_fields.specs.declared.fault.FieldFault.TheVariants.{BadTime as bad_time}
use Rattle.mos_fields.specs.declared.form.Form.{Form}
use Rattle.mos_fields.specs.declared.form.Form.TheVariants as forms
use Rattle.mos_fields.specs.declared.obj_type.ObjType.{ObjType}
use Rattle.mos_fields.specs.declared.obj_type.ObjType.TheVariants as types
use Rattle.mos_fields.specs.declared.time.MosTime.{MosTime}
use Rattle.mos_fields.proofs.FaultLemmas.{allowed_without_fault, neither}
use Rattle.mos_values.specs.declared.mos_ack.AckStatus.{AckStatus}
use Rattle.mos_values.specs.declared.mos_ack.AckStatus.TheVariants.{Ack, Nack}
use Rattle.mos_values.specs.Views.{ack_status_text, answer_text}
use Rattle.encoding_laws.proofs.NumberLaws.{is_solid, digit_solid, solid_trimmed}
use Rattle.encoding_laws.proofs.TimeLaws.{time_all, times_back}
use Rattle.value_facts.specs.FitValues.{IsText, IsWrittenIfAny}

pub air_text_is : (a : Air) → IsText forms.Air (air_text a)
unfolding reads
air_text_is airs.Ready = (refl, refl)
air_text_is airs.NotReady = (refl, refl)

pub obj_type_text_is : (a : ObjType) → IsText forms.ObjType (obj_type_text a)
unfolding reads
obj_type_text_is types.Still = (refl, refl)
obj_type_text_is types.Audio = (refl, refl)
obj_type_text_is types.Video = (refl, refl)
obj_type_text_is types.Other = (refl, refl)

pub ack_status_text_is : (a : AckStatus) → IsText forms.AckWord (ack_status_text a)
unfolding reads
ack_status_text_is Ack = (refl, refl)
ack_status_text_is Nack = (refl, refl)

pub answer_text_is : (b : Bool) → IsText forms.Profile (answer_text b)
unfolding reads
answer_text_is true = (refl, refl)
answer_text_is false = (refl, refl)

-- a time's text has no white space round it, and no fault
digit_is : (k : ℕ) → is_digit (48 + k % 10) ≡ true
digit_is k = grind (arith, nat_tests)

time_trimmed : (t : MosTime) → trimmed (time_text t) ≡ time_text t
time_trimmed t = solid_trimmed (time_text t) (time_all is_solid (λ k. digit_solid (48 + k % 10) (digit_is k)) refl t)

time_parts : (t : MosTime) → (text_fault (time_text t) ≡ None) × (fault_if (is_none (reads forms.Time [] (time_text t))) bad_time ≡ None)
time_parts t = neither (text_fault (time_text t)) (fault_if (is_none (reads forms.Time [] (time_text t))) bad_time) (times_back t).0

pub time_text_is : (t : MosTime) → IsText forms.Time (time_text t)
unfolding reads
time_text_is t = (go (is_time (trimmed (time_text t))) refl (time_parts t).1, allowed_without_fault (time_text t) (time_parts t).0)
  where
    go : (b : Bool) → is_time (trimmed (time_text t)) ≡ b → fault_if (is_none (only_if b (trimmed (time_text t)))) bad_time ≡ None → only_if b (trimmed (time_text t)) ≡ Some (time_text t)
    go true e h = ap Some (time_trimmed t)
    go false e h = absurd cc

-- of values that may be absent
pub if_any : {A : Type 0} (write : A → Text) (form : Form) → ((a : A) → IsText form (write a)) → (x : Option A) → IsWrittenIfAny write form x
if_any write form f None = tt
if_any write form f (Some a) = f a
