-- Plain numbers are kept as they are.
use Rattle.std.proofs.Common.{◌≡◌, ℕ, zero, suc, ◌+◌, ◌-◌, ◌*◌, ◌<◌, ◌≤◌, Bool, true, false, cond, not, ◌&&◌, leb, [], ◌∷◌, length, reverse, Some, refl, sym, ap, ◌∙◌, subst, arith}
use Rattle.std.specs.Prelude.{◌==◌, ◌||◌, nat_le, nat_lt}
use Rattle.std.proofs.lemmas.Bool.{and_parts, and_from, leb-true, le-leb, ltb-true}
use Rattle.std.proofs.lemmas.Bool.Decides.{nat_tests}
use Rattle.std.proofs.lemmas.List.{reverse-append, reverse-reverse}
use Rattle.std.proofs.lemmas.List.Folds.{list_all-append}
use Rattle.mos_fields.specs.Characters.{Text, are_allowed, chars_of, units_of, is_high}
use Rattle.mos_fields.specs.Forms.{reads, only_if, at_most, trimmed, before_white, behind_white, is_digit, is_digits, is_empty, is_space, number_from, number_in, shortest_digits}
use Rattle.mos_fields.specs.declared.form.Form.TheVariants as forms
use Rattle.mos_fields.proofs.CharacterLemmas.{chars_of-nil, chars_of-lone, chars_of-units_of}
use Rattle.mos_forms.specs.Plain.{is_plain_number}

-- ---- digits

digit_not_high : (c : ℕ) → is_digit c ≡ true → is_high c ≡ false
digit_not_high c e = grind (arith, nat_tests)

digit_not_space : (c : ℕ) → is_digit c ≡ true → is_space c ≡ false
digit_not_space c e = grind (arith, nat_tests)

digits_chars : (us : Text) → is_digits us ≡ true → chars_of us ≡ us
digits_chars [] e = chars_of-nil
digits_chars (u ∷ us) e = let p = and_parts (is_digit u) (is_digits us) e in
    chars_of-lone u us (digit_not_high u p.0) ∙ ap (λ z. u ∷ z) (digits_chars us p.1)

digits_reversed : (x : Text) → is_digits x ≡ true → is_digits (reverse x) ≡ true
digits_reversed [] e = refl
digits_reversed (c ∷ cs) e = let p = and_parts (is_digit c) (is_digits cs) e in
    ap is_digits (reverse-append (c ∷ []) cs) ∙ (list_all-append is_digit (reverse cs) (c ∷ []) ∙ and_from (is_digits (reverse cs)) (is_digit c && true) (digits_reversed cs p.1) (and_from (is_digit c) true p.0 refl))

-- no white space stands in front of digits
digits_first : (x : Text) → is_digits x ≡ true → behind_white x ≡ x
digits_first [] e = refl
digits_first (c ∷ cs) e = ap (λ b. cond b (behind_white cs) (c ∷ cs)) (digit_not_space c (and_parts (is_digit c) (is_digits cs) e).0)

digits_trimmed : (x : Text) → is_digits x ≡ true → trimmed x ≡ x
digits_trimmed x e = ap before_white (digits_first x e) ∙ (ap reverse (digits_first (reverse x) (digits_reversed x e)) ∙ reverse-reverse x)

-- ---- how large a number of so many digits is

abbrev tenfold : ℕ → ℕ → ℕ
tenfold zero m = m
tenfold (suc k) m = tenfold k (m * 10)

tenfold_grows : (k m : ℕ) → m ≤ tenfold k m
tenfold_grows zero m = let e : tenfold zero m ≡ m = refl in omega (arith, e)
tenfold_grows (suc k) m = let g = tenfold_grows k (m * 10) in omega (arith, g)

digit_small : (c : ℕ) → is_digit c ≡ true → c ≤ 57
digit_small c e = leb-true c 57 (and_parts (leb 48 c) (leb c 57) e).1

bounded : (k n m : ℕ) (x : Text) → is_digits x ≡ true → length x ≤ k → n < m → number_from n x < tenfold k m
bounded k n m [] e l h = let g = tenfold_grows k m in omega (arith, g, h)
bounded zero n m (c ∷ cs) e l h = absurd (omega (arith, l))
bounded (suc k) n m (c ∷ cs) e l h = let p = and_parts (is_digit c) (is_digits cs) e in let s = digit_small c p.0 in
    bounded k (n * 10 + (c - 48)) (m * 10) cs p.1 (omega (arith, l)) (omega (arith, s, h))

-- ---- plain numbers

no_zero : (c : ℕ) (cs : Text) (a b : Bool) → (not a || b) ≡ true → cond (a && not b) (shortest_digits cs) (c ∷ cs) ≡ c ∷ cs
no_zero c cs false b e = refl
no_zero c cs true true e = refl
no_zero c cs true false e = absurd (cc)

all_true : (a b d f : Bool) (x y : Text) → a ≡ true → b ≡ true → d ≡ true → f ≡ true → y ≡ x → Some x ≡ only_if (a && b && d && f) y
all_true a b d f x y p q r s e = rw (p, q, r, s, e) refl

units_read : (us : Text) → is_plain_number us ≡ true → (is_digits us ≡ true) × (Some us ≡ reads forms.Samples [] us)
unfolding is_plain_number reads
units_read [] e = absurd (cc)
units_read (c ∷ cs) e =
    let p = and_parts (nat_lt (length cs) 9 && (not (c == 48) || is_empty cs)) (is_digits (c ∷ cs)) e in
    let q = and_parts (nat_lt (length cs) 9) (not (c == 48) || is_empty cs) p.0 in
    let few = ltb-true (length cs) 9 q.0 in
    let small : number_in (c ∷ cs) < 1000000000 = bounded 9 0 1 (c ∷ cs) p.1 (omega (arith, few)) (omega arith) in (
      p.1,
      all_true (nat_le 1 (length (c ∷ cs))) (at_most 10 (c ∷ cs)) (is_digits (c ∷ cs)) (nat_le (number_in (c ∷ cs)) 4294967295) (c ∷ cs) (shortest_digits (c ∷ cs))
          (le-leb 1 (length (c ∷ cs)) (omega arith)) (le-leb (length (c ∷ cs)) 10 (omega (arith, few))) p.1 (le-leb (number_in (c ∷ cs)) 4294967295 (omega (arith, small))) (no_zero c cs (c == 48) (is_empty cs) q.1)
          ∙ sym (ap (λ y. only_if (nat_le 1 (length y) && at_most 10 y && is_digits y && nat_le (number_in y) 4294967295) (shortest_digits y)) (digits_trimmed (c ∷ cs) p.1)),
    )

-- a text whose units are a plain number is kept as it is
pub plain_samples : (x : Text) → are_allowed x ≡ true → is_plain_number (units_of x) ≡ true → Some x ≡ reads forms.Samples [] x
plain_samples x a e =
    let r = units_read (units_of x) e in
    let same : units_of x ≡ x = sym (digits_chars (units_of x) r.0) ∙ chars_of-units_of x a in
    subst (λ z. Some z ≡ reads forms.Samples [] z) same r.1
