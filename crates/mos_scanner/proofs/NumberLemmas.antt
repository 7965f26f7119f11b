-- References by number: what one more character does.
use Rattle.std.proofs.Common.{◌≡◌, ℕ, ◌+◌, ◌-◌, ◌*◌, ◌<◌, Bool, true, false, cond, ◌&&◌, [], ◌∷◌, ◌++◌, refl, sym, ap, ◌∙◌, subst, arith, lit≤}
use Rattle.std.specs.Prelude.{◌==◌, nat_le, nat_lt}
use Rattle.std.specs.List.{list_all}
use Rattle.std.proofs.lemmas.Bool.{and_parts, and_from, lt-ltb, ltb-true, ltb-false, cond-false}
use Rattle.std.proofs.lemmas.Bool.Decides.{nat_tests}
use Rattle.mos_fields.specs.Characters.{Text, is_allowed}
use Rattle.mos_fields.specs.Names.{is_empty}
use Rattle.mos_fields.specs.References.{is_digit, number_in, is_hex, hex_value, hex_from, of_number, may_end, may_number, reference_of, begins_reference}
use Rattle.mos_scanner.specs.References.{is_ascii, IsBeginning, IsNoBeginning, IsReferred, IsDigits, ended_of, decimal_of, hexadecimal_of}
use Rattle.mos_scanner.specs.declared.reference.Reference.TheVariants.{Decimal, Hexadecimal}
use Rattle.mos_scanner.specs.declared.reference.Referred.{Referred}
use Rattle.mos_scanner.specs.declared.reference.Referred.TheVariants.{Found, Begun, Never}
use Rattle.mos_scanner.proofs.ReferenceLemmas.{number-push, hex-push, may_end-low, digit_no_mark, hex_no_mark, digit_small, hex_small, number_open, number_found, number_unfinished, number_other, number_long, number_stops, number_begins, digits_more}

-- digits are ASCII
digits_ascii : (digit : ℕ → Bool) (ds : Text) → ((c : ℕ) → digit c ≡ true → c < 128) → list_all digit ds ≡ true → list_all is_ascii ds ≡ true
digits_ascii digit [] s e = refl
digits_ascii digit (c ∷ ds) s e =
    let h = and_parts (digit c) (list_all digit ds) e in
    and_from (is_ascii c) (list_all is_ascii ds) (lt-ltb c 128 (s c h.0)) (digits_ascii digit ds s h.1)

digit_not_x : (c : ℕ) → is_digit c ≡ true → (c == 120) ≡ false
digit_not_x c e = grind (arith, nat_tests)

-- what stands behind `#`, where it isn't `x` alone
decimal_is : (ds : Text) (c : ℕ) → list_all is_digit ds ≡ true → (is_empty ds ≡ true → (c == 120) ≡ false) → reference_of (35 ∷ (ds ++ c ∷ [])) ≡ of_number is_digit number_in [] (ds ++ c ∷ [])
unfolding reference_of
decimal_is [] c e x = cond-false (c == 120) _ _ (x refl)
decimal_is (d ∷ ds) c e x = cond-false (d == 120) _ _ (digit_not_x d (and_parts (is_digit d) (list_all is_digit ds) e).0)

decimal_begins : (ds : Text) (c : ℕ) → list_all is_digit ds ≡ true → (is_empty ds ≡ true → (c == 120) ≡ false) → begins_reference (35 ∷ (ds ++ c ∷ [])) ≡ may_number 10 is_digit number_in (ds ++ c ∷ [])
unfolding begins_reference
decimal_begins [] c e x = cond-false (c == 120) _ _ (x refl)
decimal_begins (d ∷ ds) c e x = cond-false (d == 120) _ _ (digit_not_x d (and_parts (is_digit d) (list_all is_digit ds) e).0)

hex_is : (ds : Text) (c : ℕ) → reference_of (35 ∷ 120 ∷ (ds ++ c ∷ [])) ≡ of_number is_hex (hex_from 0) [] (ds ++ c ∷ [])
unfolding reference_of
hex_is ds c = refl

hex_begins : (ds : Text) (c : ℕ) → begins_reference (35 ∷ 120 ∷ (ds ++ c ∷ [])) ≡ may_number 16 is_hex (hex_from 0) (ds ++ c ∷ [])
unfolding begins_reference
hex_begins ds c = refl

pub decimal_ended : (ds : Text) (n v : ℕ) → IsDigits is_digit number_in ds n v → (c : ℕ) → c ≡ 59 → (out : Referred) → out ≡ ended_of n v → IsReferred out (35 ∷ (ds ++ c ∷ []))
decimal_ended ds n v g c e out o = subst (λ z. IsReferred out (35 ∷ (ds ++ z ∷ []))) (sym e) (subst (λ z. IsReferred z (35 ∷ (ds ++ 59 ∷ []))) (sym o) (go (nat_le 1 n && is_allowed v) refl))
  where
    go : (b : Bool) → (nat_le 1 n && is_allowed v) ≡ b → IsReferred (cond b (Found v) Never) (35 ∷ (ds ++ 59 ∷ []))
    go true h = number_found is_digit number_in 10 digit_no_mark (35 ∷ (ds ++ 59 ∷ [])) ds n v g (decimal_is ds 59 g.all (λ q. refl)) h
    go false h = number_unfinished is_digit number_in 10 digit_no_mark (35 ∷ (ds ++ 59 ∷ [])) ds n v g (decimal_is ds 59 g.all (λ q. refl)) (decimal_begins ds 59 g.all (λ q. refl)) refl h

pub decimal_other : (ds : Text) (n v c : ℕ) → IsDigits is_digit number_in ds n v → (is_empty ds ≡ true → (c == 120) ≡ false) → (c == 59) ≡ false → is_digit c ≡ false → IsNoBeginning (35 ∷ (ds ++ c ∷ []))
decimal_other ds n v c g x m d = number_other is_digit number_in 10 digit_no_mark (35 ∷ (ds ++ c ∷ [])) ds c n v g (decimal_is ds c g.all x) (decimal_begins ds c g.all x) m d

pub decimal_grows : (ds : Text) (n v c w : ℕ) → IsDigits is_digit number_in ds n v → is_digit c ≡ true → w ≡ (v * 10 + (c - 48)) → (out : Referred) → out ≡ decimal_of n w → IsReferred out (35 ∷ (ds ++ c ∷ []))
decimal_grows ds n v c w g d e out o = subst (λ z. IsReferred z (35 ∷ (ds ++ c ∷ []))) (sym o) (go (nat_lt n 8) (may_end 10 w w (7 - n)) refl refl)
  where
    written : number_in (ds ++ c ∷ []) ≡ w
    written = number-push 0 ds c ∙ ap (λ k. k * 10 + (c - 48)) g.written ∙ sym e

    go : (a b : Bool) → nat_lt n 8 ≡ a → may_end 10 w w (7 - n) ≡ b → IsReferred (cond (a && b) (Begun (Decimal (n + 1) w)) Never) (35 ∷ (ds ++ c ∷ []))
    go true true h k =
        let lt = ltb-true n 8 h in
        let low = may_end-low 10 w w (7 - n) (omega arith) k in
        let s = g.short in
        let more = digits_more is_digit number_in 10 digit_no_mark ds c n v w g d lt written low in
        record {
          not = decimal_is ds c g.all (λ q. digit_not_x c d) ∙ number_open is_digit number_in 10 digit_no_mark ds c g.all (digit_no_mark c d);
          begins = number_begins is_digit number_in 10 digit_no_mark (35 ∷ (ds ++ c ∷ [])) ds c n v w g (decimal_begins ds c g.all (λ q. digit_not_x c d)) d lt written k;
          ascii = digits_ascii is_digit (ds ++ c ∷ []) digit_small more.all;
          at = record { digits = ds ++ c ∷ []; is = refl; written = more };
          bounded = record { short = more.short; low = low };
        }
    go true false h k = number_stops is_digit number_in 10 digit_no_mark (35 ∷ (ds ++ c ∷ [])) ds c n v w g (decimal_is ds c g.all (λ q. digit_not_x c d)) (decimal_begins ds c g.all (λ q. digit_not_x c d)) d (ltb-true n 8 h) written k
    go false b h k = number_long is_digit number_in 10 digit_no_mark (35 ∷ (ds ++ c ∷ [])) ds c n v g (decimal_is ds c g.all (λ q. digit_not_x c d)) (decimal_begins ds c g.all (λ q. digit_not_x c d)) d (ltb-false n 8 h)

pub hexadecimal_ended : (ds : Text) (n v : ℕ) → IsDigits is_hex (hex_from 0) ds n v → (c : ℕ) → c ≡ 59 → (out : Referred) → out ≡ ended_of n v → IsReferred out (35 ∷ 120 ∷ (ds ++ c ∷ []))
hexadecimal_ended ds n v g c e out o = subst (λ z. IsReferred out (35 ∷ 120 ∷ (ds ++ z ∷ []))) (sym e) (subst (λ z. IsReferred z (35 ∷ 120 ∷ (ds ++ 59 ∷ []))) (sym o) (go (nat_le 1 n && is_allowed v) refl))
  where
    go : (b : Bool) → (nat_le 1 n && is_allowed v) ≡ b → IsReferred (cond b (Found v) Never) (35 ∷ 120 ∷ (ds ++ 59 ∷ []))
    go true h = number_found is_hex (hex_from 0) 16 hex_no_mark (35 ∷ 120 ∷ (ds ++ 59 ∷ [])) ds n v g (hex_is ds 59) h
    go false h = number_unfinished is_hex (hex_from 0) 16 hex_no_mark (35 ∷ 120 ∷ (ds ++ 59 ∷ [])) ds n v g (hex_is ds 59) (hex_begins ds 59) refl h

pub hexadecimal_other : (ds : Text) (n v c : ℕ) → IsDigits is_hex (hex_from 0) ds n v → (c == 59) ≡ false → is_hex c ≡ false → IsNoBeginning (35 ∷ 120 ∷ (ds ++ c ∷ []))
hexadecimal_other ds n v c g m d = number_other is_hex (hex_from 0) 16 hex_no_mark (35 ∷ 120 ∷ (ds ++ c ∷ [])) ds c n v g (hex_is ds c) (hex_begins ds c) m d

pub hexadecimal_grows : (ds : Text) (n v c w : ℕ) → IsDigits is_hex (hex_from 0) ds n v → is_hex c ≡ true → w ≡ (v * 16 + hex_value c) → (out : Referred) → out ≡ hexadecimal_of n w → IsReferred out (35 ∷ 120 ∷ (ds ++ c ∷ []))
hexadecimal_grows ds n v c w g d e out o = subst (λ z. IsReferred z (35 ∷ 120 ∷ (ds ++ c ∷ []))) (sym o) (go (nat_lt n 8) (may_end 16 w w (7 - n)) refl refl)
  where
    written : hex_from 0 (ds ++ c ∷ []) ≡ w
    written = hex-push 0 ds c ∙ ap (λ k. k * 16 + hex_value c) g.written ∙ sym e

    go : (a b : Bool) → nat_lt n 8 ≡ a → may_end 16 w w (7 - n) ≡ b → IsReferred (cond (a && b) (Begun (Hexadecimal (n + 1) w)) Never) (35 ∷ 120 ∷ (ds ++ c ∷ []))
    go true true h k =
        let lt = ltb-true n 8 h in
        let low = may_end-low 16 w w (7 - n) (omega arith) k in
        let s = g.short in
        let more = digits_more is_hex (hex_from 0) 16 hex_no_mark ds c n v w g d lt written low in
        record {
          not = hex_is ds c ∙ number_open is_hex (hex_from 0) 16 hex_no_mark ds c g.all (hex_no_mark c d);
          begins = number_begins is_hex (hex_from 0) 16 hex_no_mark (35 ∷ 120 ∷ (ds ++ c ∷ [])) ds c n v w g (hex_begins ds c) d lt written k;
          ascii = digits_ascii is_hex (ds ++ c ∷ []) hex_small more.all;
          at = record { digits = ds ++ c ∷ []; is = refl; written = more };
          bounded = record { short = more.short; low = low };
        }
    go true false h k = number_stops is_hex (hex_from 0) 16 hex_no_mark (35 ∷ 120 ∷ (ds ++ c ∷ [])) ds c n v w g (hex_is ds c) (hex_begins ds c) d (ltb-true n 8 h) written k
    go false b h k = number_long is_hex (hex_from 0) 16 hex_no_mark (35 ∷ 120 ∷ (ds ++ c ∷ [])) ds c n v g (hex_is ds c) (hex_begins ds c) d (ltb-false n 8 h)

-- no digit, and `x`
pub decimal_x : (ds : Text) (n v c : ℕ) → IsDigits is_digit number_in ds n v → c ≡ 120 → n ≡ 0 → IsBeginning (Hexadecimal 0 0) (35 ∷ (ds ++ c ∷ []))
unfolding reference_of begins_reference
decimal_x [] n v c g e z = subst (λ k. IsBeginning (Hexadecimal 0 0) (35 ∷ k ∷ [])) (sym e) (record {
  not = refl;
  begins = refl;
  ascii = refl;
  at = record { digits = []; is = refl; written = record { all = refl; counted = refl; short = lit≤ tt; written = refl; low = lit≤ tt } };
  bounded = record { short = lit≤ tt; low = lit≤ tt };
})
decimal_x (d ∷ ds) n v c g e z = let l = g.counted in absurd (omega (arith, l, z))

-- digits, and `x`
pub decimal_no_x : (ds : Text) (n v c : ℕ) → IsDigits is_digit number_in ds n v → c ≡ 120 → (n ≡ 0 → ⊥) → IsNoBeginning (35 ∷ (ds ++ c ∷ []))
decimal_no_x [] n v c g e z = absurd (z (sym g.counted))
decimal_no_x (d ∷ ds) n v c g e z = subst (λ k. IsNoBeginning (35 ∷ ((d ∷ ds) ++ k ∷ []))) (sym e) (decimal_other (d ∷ ds) n v 120 g (λ q. absurd (no q)) refl refl)
  where
    no : false ≡ true → ⊥
    no q = cc
