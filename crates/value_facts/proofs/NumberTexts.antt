-- The digits of numbers are the canonical texts of their forms.
use Rattle.std.proofs.Common.{◌≡◌, ℕ, ◌<◌, ◌≤◌, ◌^◌, true, [], Option, Some, None, refl, ap, ◌∙◌}
use Rattle.std.specs.Prelude.{is_none}
use Rattle.std.specs.Fmt.{decimal}
use Rattle.mos_fields.specs.Characters.{Text, are_allowed}
use Rattle.mos_fields.specs.Faults.{text_fault, fault_if}
use Rattle.mos_fields.specs.Forms.{number_in, trimmed, reads}
use Rattle.mos_fields.specs.Numbers.{number_value}
use Rattle.mos_fields.specs.Values.{samples_text, rev_text}
use Rattle.mos_fields.specs.declared.fault.FieldFault.TheVariants.{BadNumber as bad_number}
use Rattle.mos_fields.specs.declared.form.Form.{Form}
use Rattle.mos_fields.specs.declared.form.Form.TheVariants as forms
use Rattle.mos_fields.proofs.FaultLemmas.{allowed_without_fault, neither}
use Rattle.mos_fields.proofs.NumberLemmas.{samples_value, samples_found, samples_lost, rev_value, rev_found, rev_lost}
use Rattle.encoding_laws.proofs.NumberLaws.{samples_back, revs_back}

-- without a fault there is a canonical text
not_none : (form : Form) (x : Text) → fault_if (is_none (reads form [] x)) bad_number ≡ None → reads form [] x ≡ None → ⊥
not_none form x h e = go (reads form [] x) e h
  where
    go : (r : Option Text) → r ≡ None → fault_if (is_none r) bad_number ≡ None → ⊥
    go None e h = cc
    go (Some y) e h = cc

pub samples_allowed : (n : ℕ) → n < 2 ^ 32 → are_allowed (samples_text n) ≡ true
samples_allowed n h = allowed_without_fault (decimal n) (neither (text_fault (decimal n)) (fault_if (is_none (reads forms.Samples [] (decimal n))) bad_number) (samples_back n h).0).0

pub samples_read : (n : ℕ) → n < 2 ^ 32 → reads forms.Samples [] (samples_text n) ≡ Some (samples_text n)
samples_read n h = go (number_value 10 4294967295 (trimmed (decimal n))) refl
  where
    go : (v : Option ℕ) → number_value 10 4294967295 (trimmed (decimal n)) ≡ v → reads forms.Samples [] (decimal n) ≡ Some (decimal n)
    go (Some m) e = samples_found (decimal n) m e ∙ ap (λ k. Some (decimal k)) (samples_value (decimal n) m e ∙ (samples_back n h).1 (number_in (trimmed (decimal n))) refl)
    go None e = absurd (not_none forms.Samples (decimal n) (neither (text_fault (decimal n)) (fault_if (is_none (reads forms.Samples [] (decimal n))) bad_number) (samples_back n h).0).1 (samples_lost (decimal n) e))

pub rev_allowed : (n : ℕ) → n ≤ 999 → are_allowed (rev_text n) ≡ true
rev_allowed n h = allowed_without_fault (decimal n) (neither (text_fault (decimal n)) (fault_if (is_none (reads forms.Rev [] (decimal n))) bad_number) (revs_back n h).0).0

pub rev_read : (n : ℕ) → n ≤ 999 → reads forms.Rev [] (rev_text n) ≡ Some (rev_text n)
rev_read n h = go (number_value 3 999 (trimmed (decimal n))) refl
  where
    go : (v : Option ℕ) → number_value 3 999 (trimmed (decimal n)) ≡ v → reads forms.Rev [] (decimal n) ≡ Some (decimal n)
    go (Some m) e = rev_found (decimal n) m e ∙ ap (λ k. Some (decimal k)) (rev_value (decimal n) m e ∙ (revs_back n h).1 (number_in (trimmed (decimal n))) refl)
    go None e = absurd (not_none forms.Rev (decimal n) (neither (text_fault (decimal n)) (fault_if (is_none (reads forms.Rev [] (decimal n))) bad_number) (revs_back n h).0).1 (rev_lost (decimal n) e))
