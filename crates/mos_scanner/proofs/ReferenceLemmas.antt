-- References by number, digit after digit.
use Rattle.std.proofs.Common.{◌≡◌, ℕ, zero, suc, ◌+◌, ◌-◌, ◌*◌, ◌<◌, ◌≤◌, Bool, true, false, cond, ◌&&◌, ◌||◌, [], ◌∷◌, ◌++◌, length, refl, sym, ap, ◌∙◌, arith, append_assoc}
use Rattle.std.specs.Prelude.{Some, None, ◌==◌, nat_le}
use Rattle.std.specs.List.{list_all}
use Rattle.std.proofs.lemmas.Bool.{both_ways, and_parts, and_from, and_left, and_right, or_from, leb-true, le-leb, leb-false, lt-leb, cond-true, cond-false}
use Rattle.std.proofs.lemmas.Bool.Decides.{nat_tests}
use Rattle.std.proofs.lemmas.List.{append-nil, length-append}
use Rattle.std.proofs.lemmas.List.Folds.{list_all-append}
use Rattle.mos_fields.specs.Characters.{Text, is_allowed}
use Rattle.mos_fields.specs.Names.{is_empty}
use Rattle.mos_fields.specs.References.{is_digit, number_from, is_hex, hex_value, hex_from, of_number, reference_of, has_allowed, may_end, may_number, begins_reference}
use Rattle.mos_scanner.specs.References.{last_character, IsDigits, IsReference, IsNoBeginning}

-- ---- numbers

pub number-push : (k : ℕ) (ds : Text) (c : ℕ) → number_from k (ds ++ c ∷ []) ≡ number_from k ds * 10 + (c - 48)
number-push k [] c = refl
number-push k (d ∷ ds) c = number-push (k * 10 + (d - 48)) ds c

pub hex-push : (k : ℕ) (ds : Text) (c : ℕ) → hex_from k (ds ++ c ∷ []) ≡ hex_from k ds * 16 + hex_value c
hex-push k [] c = refl
hex-push k (d ∷ ds) c = hex-push (k * 16 + hex_value d) ds c

-- what may end in an allowed character isn't above the last one
past : (low high : ℕ) → last_character < low → has_allowed low high ≡ false
past low high h = grind (arith, nat_tests)

more_past : (radix low : ℕ) → 0 < radix → last_character < low → last_character < low * radix
more_past (suc r) low h g = let e : low * suc r ≡ low * r + low = mul_suc low r in omega (arith, e)
  where
    mul_suc : (a b : ℕ) → a * suc b ≡ a * b + a
    mul_suc a b = omega arith
more_past zero low h g = absurd (omega arith)

pub may_end-past : (radix low high k : ℕ) → 0 < radix → last_character < low → may_end radix low high k ≡ false
may_end-past radix low high zero p h = past low high h
may_end-past radix low high (suc k) p h = ap (λ b. cond b true (may_end radix (low * radix) (high * radix + (radix - 1)) k)) (past low high h) ∙ may_end-past radix (low * radix) (high * radix + (radix - 1)) k p (more_past radix low p h)

pub may_end-none : (radix low high k : ℕ) → has_allowed low high ≡ false → k ≡ 0 → may_end radix low high k ≡ false
may_end-none radix low high zero e z = e
may_end-none radix low high (suc k) e z = absurd (omega (arith, z))

pub may_end-now : (radix low high k : ℕ) → has_allowed low high ≡ true → may_end radix low high k ≡ true
may_end-now radix low high zero e = e
may_end-now radix low high (suc k) e = ap (λ b. cond b true (may_end radix (low * radix) (high * radix + (radix - 1)) k)) e

pub may_end-more : (radix low high k : ℕ) → has_allowed low high ≡ false → (k ≡ 0 → ⊥) → may_end radix low high k ≡ may_end radix (low * radix) (high * radix + (radix - 1)) (k - 1)
may_end-more radix low high zero e n = absurd (n refl)
may_end-more radix low high (suc k) e n = ap (λ b. cond b true (may_end radix (low * radix) (high * radix + (radix - 1)) k)) e ∙ ap (may_end radix (low * radix) (high * radix + (radix - 1))) (let s : k ≡ suc k - 1 = omega arith in s)

pub may_end-low : (radix low high k : ℕ) → 0 < radix → may_end radix low high k ≡ true → low ≤ last_character
may_end-low radix low high k p e = go (nat_le low last_character) refl
  where
    go : (b : Bool) → nat_le low last_character ≡ b → low ≤ last_character
    go true h = leb-true low last_character h
    go false h = absurd (both_ways (may_end radix low high k) (may_end-past radix low high k p (leb-false low last_character h)) e)

-- none is allowed up to there, so it is small
pub small_high : (low high : ℕ) → has_allowed low high ≡ false → low ≤ last_character → high < 65536
small_high low high e l = grind (arith, nat_tests)

-- ---- one more character behind digits

pub digit_no_mark : (c : ℕ) → is_digit c ≡ true → (c == 59) ≡ false
digit_no_mark c e = grind (arith, nat_tests)

pub hex_no_mark : (c : ℕ) → is_hex c ≡ true → (c == 59) ≡ false
hex_no_mark c e = grind (arith, nat_tests)

pub digit_small : (c : ℕ) → is_digit c ≡ true → c < 128
digit_small c e = grind (arith, nat_tests)

pub hex_small : (c : ℕ) → is_hex c ≡ true → c < 128
hex_small c e = grind (arith, nat_tests)

or-false : (a b : Bool) → a ≡ false → (a || b) ≡ b
or-false false b e = refl
or-false true b e = absurd cc

and-true : (a b : Bool) → a ≡ true → (a && b) ≡ b
and-true true b e = refl
and-true false b e = absurd cc

module _ (digit : ℕ → Bool) (number : Text → ℕ) (radix : ℕ) (no_mark : (c : ℕ) → digit c ≡ true → (c == 59) ≡ false) where
  of_number-pass : (d ds cs : Text) → list_all digit ds ≡ true → of_number digit number d (ds ++ cs) ≡ of_number digit number (d ++ ds) cs
  of_number-pass d [] cs e = ap (λ z. of_number digit number z cs) (sym (append-nil d))
  of_number-pass d (c ∷ ds) cs e =
      let h = and_parts (digit c) (list_all digit ds) e in
      cond-false (c == 59) _ _ (no_mark c h.0)
      ∙ (of_number-pass (d ++ c ∷ []) ds cs h.1 ∙ ap (λ z. of_number digit number z cs) (append_assoc d (c ∷ []) ds))

  of_number-mark : (ds : Text) → list_all digit ds ≡ true → of_number digit number [] (ds ++ 59 ∷ []) ≡ cond (true && nat_le 1 (length ds) && nat_le (length ds) 8 && list_all digit ds && is_allowed (number ds)) (Some (number ds)) None
  of_number-mark ds e = of_number-pass [] ds (59 ∷ []) e

  pub number_open : (ds : Text) (c : ℕ) → list_all digit ds ≡ true → (c == 59) ≡ false → of_number digit number [] (ds ++ c ∷ []) ≡ None
  number_open ds c e n = of_number-pass [] ds (c ∷ []) e ∙ cond-false (c == 59) _ _ n

  not_all : (ds : Text) (c : ℕ) → digit c ≡ false → list_all digit (ds ++ c ∷ []) ≡ false
  not_all ds c n = list_all-append digit ds (c ∷ []) ∙ and_right (list_all digit ds) (digit c && true) (and_left (digit c) true n)

  not_empty : (ds : Text) (c : ℕ) → is_empty (ds ++ c ∷ []) ≡ false
  not_empty [] c = refl
  not_empty (d ∷ ds) c = refl

  may_number-other : (ds : Text) (c : ℕ) → digit c ≡ false → may_number radix digit number (ds ++ c ∷ []) ≡ false
  may_number-other ds c n =
      or_from (is_empty (ds ++ c ∷ [])) _ (not_empty ds c) (and_left _ _ (and_left _ _ (not_all ds c n)))

  length-push : (ds : Text) (c n : ℕ) → length ds ≡ n → length (ds ++ c ∷ []) ≡ n + 1
  length-push ds c n e = length-append ds (c ∷ []) ∙ ap (λ k. k + 1) e

  may_number-long : (ds : Text) (c : ℕ) → 8 ≤ length ds → may_number radix digit number (ds ++ c ∷ []) ≡ false
  may_number-long ds c h =
      or_from (is_empty (ds ++ c ∷ [])) _ (not_empty ds c) (and_left _ _ (and_right _ _ (lt-leb (length (ds ++ c ∷ [])) 8 (let l = length-push ds c (length ds) refl in omega (arith, h, l)))))

  all_more : (ds : Text) (c : ℕ) → list_all digit ds ≡ true → digit c ≡ true → list_all digit (ds ++ c ∷ []) ≡ true
  all_more ds c e d = list_all-append digit ds (c ∷ []) ∙ and_from (list_all digit ds) (digit c && true) e (and_from (digit c) true d refl)

  may_number-digit : (ds : Text) (c n v : ℕ) → list_all digit ds ≡ true → digit c ≡ true → length ds ≡ n → n < 8 → number (ds ++ c ∷ []) ≡ v
      → may_number radix digit number (ds ++ c ∷ []) ≡ may_end radix v v (7 - n)
  may_number-digit ds c n v e d l h w =
      let long = length-push ds c n l in
      or-false (is_empty (ds ++ c ∷ [])) _ (not_empty ds c)
      ∙ (and-true _ _ (and_from _ _ (all_more ds c e d) (le-leb (length (ds ++ c ∷ [])) 8 (omega (arith, long, h))))
      ∙ (ap (λ k. may_end radix k k (8 - length (ds ++ c ∷ []))) w ∙ ap (may_end radix v v) (let s : 8 - length (ds ++ c ∷ []) ≡ 7 - n = omega (arith, long, h) in s)))

  -- so many digits and `;`
  pub number_found : (x ds : Text) (n v : ℕ) → IsDigits digit number ds n v → reference_of x ≡ of_number digit number [] (ds ++ 59 ∷ []) → (nat_le 1 n && is_allowed v) ≡ true → IsReference x v
  number_found x ds n v g r e =
      let p = and_parts (nat_le 1 n) (is_allowed v) e in
      let s = g.short in
      let l = g.counted in
      record {
        is = r ∙ (of_number-mark ds g.all ∙ (cond-true _ _ _ (and_from _ _ (and_from _ _ (and_from _ _ (and_from _ _ refl (ap (nat_le 1) l ∙ p.0)) (le-leb (length ds) 8 (omega arith))) g.all) (ap is_allowed g.written ∙ p.1)) ∙ ap Some g.written));
        allowed = p.1;
      }

  pub number_unfinished : (x ds : Text) (n v : ℕ) → IsDigits digit number ds n v → reference_of x ≡ of_number digit number [] (ds ++ 59 ∷ []) → begins_reference x ≡ may_number radix digit number (ds ++ 59 ∷ [])
      → digit 59 ≡ false → (nat_le 1 n && is_allowed v) ≡ false → IsNoBeginning x
  number_unfinished x ds n v g r b m e = record {
    not = r ∙ (of_number-mark ds g.all ∙ cond-false _ _ _ (fails (nat_le 1 (length ds)) (nat_le (length ds) 8) (list_all digit ds) (is_allowed (number ds))
        (ap (λ k. nat_le 1 k && is_allowed (number ds)) g.counted ∙ (ap (λ k. nat_le 1 n && is_allowed k) g.written ∙ e))));
    begins = b ∙ may_number-other ds 59 m;
  }
    where
      fails : (p q r s : Bool) → (p && s) ≡ false → (true && p && q && r && s) ≡ false
      fails true q r true h = absurd cc
      fails true q r false h = and_right _ _ refl
      fails false q r s h = refl

  pub number_other : (x ds : Text) (c n v : ℕ) → IsDigits digit number ds n v → reference_of x ≡ of_number digit number [] (ds ++ c ∷ []) → begins_reference x ≡ may_number radix digit number (ds ++ c ∷ [])
      → (c == 59) ≡ false → digit c ≡ false → IsNoBeginning x
  number_other x ds c n v g r b m e = record { not = r ∙ number_open ds c g.all m; begins = b ∙ may_number-other ds c e }

  pub number_long : (x ds : Text) (c n v : ℕ) → IsDigits digit number ds n v → reference_of x ≡ of_number digit number [] (ds ++ c ∷ []) → begins_reference x ≡ may_number radix digit number (ds ++ c ∷ [])
      → digit c ≡ true → 8 ≤ n → IsNoBeginning x
  number_long x ds c n v g r b d h = let l = g.counted in
      record { not = r ∙ number_open ds c g.all (no_mark c d); begins = b ∙ may_number-long ds c (omega arith) }

  pub number_stops : (x ds : Text) (c n v w : ℕ) → IsDigits digit number ds n v → reference_of x ≡ of_number digit number [] (ds ++ c ∷ []) → begins_reference x ≡ may_number radix digit number (ds ++ c ∷ [])
      → digit c ≡ true → n < 8 → number (ds ++ c ∷ []) ≡ w → may_end radix w w (7 - n) ≡ false → IsNoBeginning x
  number_stops x ds c n v w g r b d h e f = record { not = r ∙ number_open ds c g.all (no_mark c d); begins = b ∙ (may_number-digit ds c n w g.all d g.counted h e ∙ f) }

  pub number_begins : (x ds : Text) (c n v w : ℕ) → IsDigits digit number ds n v → begins_reference x ≡ may_number radix digit number (ds ++ c ∷ [])
      → digit c ≡ true → n < 8 → number (ds ++ c ∷ []) ≡ w → may_end radix w w (7 - n) ≡ true → begins_reference x ≡ true
  number_begins x ds c n v w g b d h e f = b ∙ (may_number-digit ds c n w g.all d g.counted h e ∙ f)

  pub digits_more : (ds : Text) (c n v w : ℕ) → IsDigits digit number ds n v → digit c ≡ true → n < 8 → number (ds ++ c ∷ []) ≡ w → w ≤ last_character → IsDigits digit number (ds ++ c ∷ []) (n + 1) w
  digits_more ds c n v w g d h e l = record {
    all = all_more ds c g.all d;
    counted = length-push ds c n g.counted;
    short = omega (arith, h);
    written = e;
    low = l;
  }
