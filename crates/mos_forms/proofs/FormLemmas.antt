-- What the answers of the types of fields tell of a text's form.
use Rattle.std.proofs.Common.{◌≡◌, ℕ, ◌+◌, Bool, true, false, List, [], ◌∷◌, Option, Some, None, Result, Ok, Err, refl}
use Rattle.std.specs.Prelude.{is_ok, is_some, is_none}
use Rattle.std.proofs.lemmas.Bool.{and_parts}
use Rattle.mos_fields.specs.Characters.{Text, is_allowed, are_allowed}
use Rattle.mos_fields.specs.declared.fault.FieldFault.{FieldFault}
use Rattle.mos_fields.specs.declared.fault.FieldFault.TheVariants.{BadNumber as bad_number, BadTime as bad_time}
use Rattle.mos_fields.specs.declared.form.Form.{Form}
use Rattle.mos_fields.specs.declared.form.Form.TheVariants as forms
use Rattle.mos_fields.specs.Forms.{reads, only_if, trimmed, shortest_digits}
use Rattle.mos_fields.specs.declared.time.MosTime.{MosTime}
use Rattle.mos_forms.specs.Canonical.{reads_beside, taken_for}
use Rattle.mos_fields.specs.Faults.{AnswersOnlyFault, bad_char_from, form_fault, fault_if, samples_fault, rev_fault, time_fault}

pub allowed_from : (k : ℕ) (x : Text) → are_allowed x ≡ true → bad_char_from k x ≡ None
allowed_from k [] h = refl
allowed_from k (c ∷ cs) h = let p = and_parts (is_allowed c) (are_allowed cs) h in rw p.0 (allowed_from (k + 1) cs p.1)

told_as : {A : Type 0} (f : FieldFault) (o : Option Text) (r : Result A FieldFault) → AnswersOnlyFault (fault_if (is_none o) f) r → is_ok r ≡ is_some o
told_as f (Some y) (Ok v) h = refl
told_as f (Some y) (Err e) h = absurd (cc)
told_as f None (Ok v) h = absurd (cc)
told_as f None (Err e) h = refl

told : {A : Type 0} (form : Form) (f : FieldFault) (x : Text) (r : Result A FieldFault) → are_allowed x ≡ true → AnswersOnlyFault (form_fault form f x) r → is_ok r ≡ is_some (reads form [] x)
told {A} form f x r a h = told_as f (reads form [] x) r (rw (allowed_from 0 x a) at h)

pub samples_told : (x : Text) (r : Result ℕ FieldFault) → are_allowed x ≡ true → AnswersOnlyFault (samples_fault x) r → is_ok r ≡ is_some (reads forms.Samples [] x)
samples_told x r a h = told forms.Samples bad_number x r a h

pub rev_told : (x : Text) (r : Result ℕ FieldFault) → are_allowed x ≡ true → AnswersOnlyFault (rev_fault x) r → is_ok r ≡ is_some (reads forms.Rev [] x)
rev_told x r a h = told forms.Rev bad_number x r a h

pub time_told : (x : Text) (r : Result MosTime FieldFault) → are_allowed x ≡ true → AnswersOnlyFault (time_fault x) r → is_ok r ≡ is_some (reads forms.Time [] x)
time_told x r a h = told forms.Time bad_time x r a h

if_some : (b : Bool) (x : Text) → is_some (only_if b x) ≡ true → Some x ≡ only_if b x
if_some true x h = refl
if_some false x h = absurd (cc)

-- what a text of the form is written as
pub samples_read : (x : Text) → is_some (reads forms.Samples [] x) ≡ true → Some (shortest_digits (trimmed x)) ≡ reads forms.Samples [] x
unfolding reads
samples_read x h = if_some _ (shortest_digits (trimmed x)) h

pub rev_read : (x : Text) → is_some (reads forms.Rev [] x) ≡ true → Some (shortest_digits (trimmed x)) ≡ reads forms.Rev [] x
unfolding reads
rev_read x h = if_some _ (shortest_digits (trimmed x)) h

pub time_read : (x : Text) → is_some (reads forms.Time [] x) ≡ true → Some (trimmed x) ≡ reads forms.Time [] x
unfolding reads
time_read x h = if_some _ (trimmed x) h

-- a text is read beside keys as beside the answer whether it is one of them
pub reads_is : (form : Form) (taken : List Text) (x : Text) → reads form taken x ≡ reads_beside form (taken_for form x taken) x
unfolding reads reads_beside
reads_is forms.Id taken x = refl
reads_is forms.Key taken x = refl
reads_is forms.OptId taken x = refl
reads_is forms.Slug taken x = refl
reads_is forms.Text taken x = refl
reads_is forms.Samples taken x = refl
reads_is forms.Rev taken x = refl
reads_is forms.Time taken x = refl
reads_is forms.Air taken x = refl
reads_is forms.ObjType taken x = refl
reads_is forms.AckWord taken x = refl
reads_is forms.Profile taken x = refl
