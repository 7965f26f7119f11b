-- Numbers are read back from their digits.
use Rattle.std.proofs.Common.{◌≡◌, ℕ, ◌-◌, ◌<◌, ◌≤◌, ◌^◌, Bool, true, false, cond, not, ◌&&◌, leb, [], ◌∷◌, length, reverse, Some, None, refl, ap, ◌∙◌, arith}
use Rattle.std.specs.List.{list_all}
use Rattle.std.specs.Fmt.{decimal}
use Rattle.std.proofs.lemmas.Bool.{and_parts, and_from, le-leb}
use Rattle.std.proofs.lemmas.Bool.Decides.{nat_tests}
use Rattle.std.proofs.lemmas.Fmt.{digits_decimal, digits_value-decimal, length-decimal-le, decimal_nonempty}
use Rattle.std.proofs.lemmas.List.{reverse-reverse, reverse-append}
use Rattle.std.proofs.lemmas.List.Folds.{list_all-append}
use Rattle.mos_fields.specs.Characters.{Text, is_allowed}
use Rattle.mos_fields.specs.Forms.{is_space, is_digit, is_digits, number_in, shortest_digits, behind_white, before_white, trimmed, only_if, number_up_to, reads}
use Rattle.mos_fields.specs.Faults.{text_fault, samples_fault, rev_fault}
use Rattle.mos_fields.specs.declared.form.Form.TheVariants as forms
use Rattle.mos_fields.specs.declared.fault.FieldFault.TheVariants.{BadNumber as bad_number}
use Rattle.mos_fields.proofs.NumberLemmas.{own}
use Rattle.mos_fields.proofs.FaultLemmas.{form_fine}
use Rattle.encoding_laws.specs.FieldLaws.{SamplesAreReadBack, RevsAreReadBack}
use Rattle.encoding_laws.proofs.TextLaws.{allowed_text}

-- ---- texts without white space

abbrev pub is_solid : ℕ → Bool
is_solid c = not (is_space c)

pub all_where : (p q : ℕ → Bool) → ((c : ℕ) → p c ≡ true → q c ≡ true) → (x : Text) → list_all p x ≡ true → list_all q x ≡ true
all_where p q f [] h = refl
all_where p q f (c ∷ x) h = let r = and_parts (p c) (list_all p x) h in and_from (q c) (list_all q x) (f c r.0) (all_where p q f x r.1)

no_space : (b : Bool) → not b ≡ true → b ≡ false
no_space true h = absurd cc
no_space false h = refl

all_reverse : (p : ℕ → Bool) (x : Text) → list_all p x ≡ true → list_all p (reverse x) ≡ true
all_reverse p [] h = refl
all_reverse p (c ∷ x) h =
    let r = and_parts (p c) (list_all p x) h in
    ap (list_all p) (reverse-append (c ∷ []) x) ∙ (list_all-append p (reverse x) (c ∷ []) ∙ and_from (list_all p (reverse x)) (list_all p (c ∷ [])) (all_reverse p x r.1) (and_from (p c) true r.0 refl))

solid_front : (x : Text) → list_all is_solid x ≡ true → behind_white x ≡ x
solid_front [] h = refl
solid_front (c ∷ x) h = let r = and_parts (is_solid c) (list_all is_solid x) h in ap (λ b. cond b (behind_white x) (c ∷ x)) (no_space (is_space c) r.0)

-- nothing is dropped round them
pub solid_trimmed : (x : Text) → list_all is_solid x ≡ true → trimmed x ≡ x
solid_trimmed x h = ap before_white (solid_front x h) ∙ (ap reverse (solid_front (reverse x) (all_reverse is_solid x h)) ∙ reverse-reverse x)

-- ---- digits

pub digit_solid : (c : ℕ) → is_digit c ≡ true → is_solid c ≡ true
digit_solid c h = grind (arith, nat_tests)

pub digit_allowed : (c : ℕ) → is_digit c ≡ true → is_allowed c ≡ true
digit_allowed c h = grind (arith, nat_tests)

decimal_digits : (n : ℕ) → n < 2 ^ 64 → is_digits (decimal n) ≡ true
decimal_digits n h = digits_decimal own n h

pub decimal_trimmed : (n : ℕ) → n < 2 ^ 64 → trimmed (decimal n) ≡ decimal n
decimal_trimmed n h = solid_trimmed (decimal n) (all_where is_digit is_solid digit_solid (decimal n) (decimal_digits n h))

decimal_fits : (k most n : ℕ) → 0 < k → n < 10 ^ k → n ≤ most → n < 2 ^ 64
    → number_up_to k most (trimmed (decimal n)) ≡ Some (shortest_digits (decimal n))
decimal_fits k most n some l m h =
    let value : number_in (decimal n) ≡ n = digits_value-decimal own n h in
    let test : (leb 1 (length (decimal n)) && leb (length (decimal n)) k && is_digits (decimal n) && leb (number_in (decimal n)) most) ≡ true =
    and_from _ _ (and_from _ _ (and_from _ _ (le-leb 1 (length (decimal n)) (decimal_nonempty n h)) (le-leb (length (decimal n)) k (length-decimal-le k n some l h))) (decimal_digits n h)) (le-leb (number_in (decimal n)) most (let g : number_in (decimal n) ≤ most = omega arith in g)) in
    ap (number_up_to k most) (decimal_trimmed n h) ∙ ap (λ b. only_if b (shortest_digits (decimal n))) test

decimal_text : (n : ℕ) → n < 2 ^ 64 → text_fault (decimal n) ≡ None
decimal_text n h = allowed_text (decimal n) (all_where is_digit is_allowed digit_allowed (decimal n) (decimal_digits n h))

decimal_value : (n : ℕ) → n < 2 ^ 64 → number_in (trimmed (decimal n)) ≡ n
decimal_value n h = ap number_in (decimal_trimmed n h) ∙ digits_value-decimal own n h

samples_fine : (n : ℕ) → n < 2 ^ 32 → n < 2 ^ 64 → samples_fault (decimal n) ≡ None
unfolding reads
samples_fine n h k = form_fine forms.Samples bad_number (decimal n) (shortest_digits (decimal n)) (decimal_text n k) (decimal_fits 10 4294967295 n (omega arith) (omega arith) (omega arith) k)

rev_fine : (n : ℕ) → n ≤ 999 → n < 2 ^ 64 → rev_fault (decimal n) ≡ None
unfolding reads
rev_fine n h k = form_fine forms.Rev bad_number (decimal n) (shortest_digits (decimal n)) (decimal_text n k) (decimal_fits 3 999 n (omega arith) (omega arith) (omega arith) k)

pub samples_back : SamplesAreReadBack
samples_back n h = let k : n < 2 ^ 64 = omega arith in (samples_fine n h k, λ m e. e ∙ decimal_value n k)

pub revs_back : RevsAreReadBack
revs_back n h = let k : n < 2 ^ 64 = omega arith in (rev_fine n h k, λ m e. e ∙ decimal_value n k)
