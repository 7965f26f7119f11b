-- What begins a reference goes on to one.
use Rattle.std.proofs.Common.{◌≡◌, ℕ, zero, suc, ◌+◌, ◌-◌, ◌*◌, ◌/◌, ◌%◌, ◌<◌, ◌≤◌, Bool, true, false, cond, eqb, [], ◌∷◌, ◌++◌, length, Option, Some, None, refl, sym, ap, ◌∙◌, append_assoc, ◌⊎◌, inl, inr, codes, arith}
use Rattle.std.specs.Prelude.{◌&&◌, ◌||◌, nat_le}
use Rattle.std.specs.List.{list_all}
use Rattle.std.proofs.lemmas.Bool.{eqb-true}
use Rattle.std.proofs.lemmas.Bool.Decides.{nat_tests}
use Rattle.std.proofs.lemmas.List.{append-nil, length-append}
use Rattle.std.proofs.lemmas.List.Folds.{list_all-append}
use Rattle.mos_fields.specs.Characters.{Text, is_allowed}
use Rattle.mos_fields.specs.Names.{is_empty}
use Rattle.mos_fields.specs.References.{is_digit, number_from, number_in, is_hex, hex_value, hex_from, of_number, numeric, reference_of, is_front, begins_named, named_references, has_allowed, may_end, may_number, begins_numeric, begins_number, begins_reference}
use Rattle.mos_lexer.proofs.References.{decimal_append, hex_append}

-- what makes a reference of a beginning
pub record Completion (m : Text) : Type 0 where
  pub rest : Text
  pub char : ℕ
  pub some : is_empty rest ≡ false
  pub is : reference_of (m ++ rest) ≡ Some char

no_both : {A : Type 0} (b : Bool) → b ≡ true → b ≡ false → A
no_both true h k = absurd cc
no_both false h k = absurd cc

and_parts : (a b : Bool) → (a && b) ≡ true → (a ≡ true) × (b ≡ true)
and_parts true b h = (refl, h)
and_parts false b h = absurd cc

-- the rest behind a front
front_rest : (x y : Text) → is_front x y ≡ true → (k : Text) × (x ++ k ≡ y)
front_rest [] y h = (y, refl)
front_rest (c ∷ x) [] h = absurd cc
front_rest (c ∷ x) (d ∷ y) h =
    let p = and_parts (eqb c d) (is_front x y) h in
    let r = front_rest x y p.1 in
    (r.0, ap (λ (z : Text). c ∷ z) r.1 ∙ ap (λ (z : ℕ). z ∷ y) (eqb-true c d p.0))

some_rest : (m k : Text) (d : ℕ) → reference_of m ≡ None → reference_of (m ++ k) ≡ Some d → is_empty k ≡ false
some_rest m [] d n e = absurd (clash (reference_of m) n (ap reference_of (sym (append-nil m)) ∙ e))
  where
    clash : (o : Option ℕ) → o ≡ None → o ≡ Some d → ⊥
    clash None h k = cc
    clash (Some x) h k = cc
some_rest m (c ∷ k) d n e = refl

by_name : (m y : Text) (d : ℕ) → reference_of m ≡ None → reference_of y ≡ Some d → is_front m y ≡ true → Completion m
by_name m y d n e f =
    let r = front_rest m y f in
    let i : reference_of (m ++ r.0) ≡ Some d = ap reference_of r.1 ∙ e in
    record { rest = r.0; char = d; some = some_rest m r.0 d n i; is = i }

named_rest : (m : Text) → reference_of m ≡ None → begins_named m named_references ≡ true → Completion m
unfolding reference_of
named_rest m n h = first (is_front m (codes "lt;")) refl h
  where
    fifth : (b : Bool) → is_front m (codes "apos;") ≡ b → cond b true false ≡ true → Completion m
    fifth true e h = by_name m (codes "apos;") 39 n refl e
    fifth false e h = absurd cc

    fourth : (b : Bool) → is_front m (codes "quot;") ≡ b → cond b true (cond (is_front m (codes "apos;")) true false) ≡ true → Completion m
    fourth true e h = by_name m (codes "quot;") 34 n refl e
    fourth false e h = fifth (is_front m (codes "apos;")) refl h

    third : (b : Bool) → is_front m (codes "amp;") ≡ b → cond b true (cond (is_front m (codes "quot;")) true (cond (is_front m (codes "apos;")) true false)) ≡ true → Completion m
    third true e h = by_name m (codes "amp;") 38 n refl e
    third false e h = fourth (is_front m (codes "quot;")) refl h

    second : (b : Bool) → is_front m (codes "gt;") ≡ b → cond b true (cond (is_front m (codes "amp;")) true (cond (is_front m (codes "quot;")) true (cond (is_front m (codes "apos;")) true false))) ≡ true → Completion m
    second true e h = by_name m (codes "gt;") 62 n refl e
    second false e h = third (is_front m (codes "amp;")) refl h

    first : (b : Bool) → is_front m (codes "lt;") ≡ b → cond b true (cond (is_front m (codes "gt;")) true (cond (is_front m (codes "amp;")) true (cond (is_front m (codes "quot;")) true (cond (is_front m (codes "apos;")) true false)))) ≡ true → Completion m
    first true e h = by_name m (codes "lt;") 60 n refl e
    first false e h = second (is_front m (codes "gt;")) refl h

-- ---- numbers

-- an allowed character of an interval
abbrev pub Allowed : ℕ → ℕ → Type 0
Allowed low high = (q : ℕ) × (low ≤ q) × (q ≤ high) × (is_allowed q ≡ true)

at_least : (low a : ℕ) → (q : ℕ) × (low ≤ q) × (a ≤ q) × ((q ≡ low) ⊎ (q ≡ a))
at_least low a = go (nat_le low a) refl
  where
    go : (b : Bool) → nat_le low a ≡ b → (q : ℕ) × (low ≤ q) × (a ≤ q) × ((q ≡ low) ⊎ (q ≡ a))
    go true e = (a, grind (arith, nat_tests), omega arith, inr refl)
    go false e = (low, omega arith, grind (arith, nat_tests), inl refl)

within : (low high a b : ℕ) → low ≤ high → (nat_le low b && nat_le a high) ≡ true → a ≤ b → ((q : ℕ) → a ≤ q → q ≤ b → is_allowed q ≡ true) → Allowed low high
within low high a b le h ab f =
    let q = at_least low a in
    let p = and_parts (nat_le low b) (nat_le a high) h in
    let lb : low ≤ b = grind (arith, nat_tests) in
    let ah : a ≤ high = grind (arith, nat_tests) in
    (q.0, q.1, top q.3 high le ah, f q.0 q.2 (top q.3 b lb ab))
  where
    top : {q : ℕ} → (q ≡ low) ⊎ (q ≡ a) → (z : ℕ) → low ≤ z → a ≤ z → q ≤ z
    top (inl e) z i j = omega arith
    top (inr e) z i j = omega arith

or_cases : {A : Type 0} (a b : Bool) → (a || b) ≡ true → (a ≡ true → A) → (b ≡ true → A) → A
or_cases true b h f g = f refl
or_cases false b h f g = g h

allowed_in : (low high : ℕ) → low ≤ high → has_allowed low high ≡ true → Allowed low high
allowed_in low high le h =
    or_cases ((((nat_le low 10 && nat_le 9 high) || (nat_le low 13 && nat_le 13 high)) || (nat_le low 55295 && nat_le 32 high)) || (nat_le low 65533 && nat_le 57344 high)) (nat_le low 1114111 && nat_le 65536 high) h
    (λ h. or_cases (((nat_le low 10 && nat_le 9 high) || (nat_le low 13 && nat_le 13 high)) || (nat_le low 55295 && nat_le 32 high)) (nat_le low 65533 && nat_le 57344 high) h
    (λ h. or_cases ((nat_le low 10 && nat_le 9 high) || (nat_le low 13 && nat_le 13 high)) (nat_le low 55295 && nat_le 32 high) h
    (λ h. or_cases (nat_le low 10 && nat_le 9 high) (nat_le low 13 && nat_le 13 high) h
    (λ h. within low high 9 10 le h (omega arith) (λ q a b. grind (arith, nat_tests)))
    (λ h. within low high 13 13 le h (omega arith) (λ q a b. grind (arith, nat_tests))))
    (λ h. within low high 32 55295 le h (omega arith) (λ q a b. grind (arith, nat_tests))))
    (λ h. within low high 57344 65533 le h (omega arith) (λ q a b. grind (arith, nat_tests))))
    (λ h. within low high 65536 1114111 le h (omega arith) (λ q a b. grind (arith, nat_tests)))

-- digits that go on to an allowed character
pub record Digits (digit : ℕ → Bool) (value : ℕ → Text → ℕ) (low high k : ℕ) : Type 0 where
  pub start : ℕ
  pub digits : Text
  pub least : low ≤ start
  pub most : start ≤ high
  pub short : length digits ≤ k
  pub all : list_all digit digits ≡ true
  pub allowed : is_allowed (value start digits) ≡ true

no_digits : (digit : ℕ → Bool) (value : ℕ → Text → ℕ) (low high k : ℕ) → ((q : ℕ) → value q [] ≡ q) → Allowed low high → Digits digit value low high k
no_digits digit value low high k e a = record { start = a.0; digits = []; least = a.1; most = a.2; short = omega arith; all = refl; allowed = ap is_allowed (e a.0) ∙ a.3 }

digit_char : (q : ℕ) → (is_digit (48 + q % 10) ≡ true) × ((q / 10) * 10 + ((48 + q % 10) - 48) ≡ q)
digit_char q = (grind (arith, nat_tests), omega arith)

both_all : (a b : Bool) → a ≡ true → b ≡ true → (a && b) ≡ true
both_all true b h k = k
both_all false b h k = absurd cc

-- one digit before others
decimal_before : (low high k : ℕ) → Digits is_digit number_from (low * 10) (high * 10 + (10 - 1)) k → Digits is_digit number_from low high (suc k)
decimal_before low high k d =
    let c = digit_char d.start in
    record {
      start = d.start / 10;
      digits = (48 + d.start % 10) ∷ d.digits;
      least = (let i = d.least in omega (arith, i));
      most = (let i = d.most in omega (arith, i));
      short = (let i = d.short in omega (arith, i));
      all = both_all (is_digit (48 + d.start % 10)) (list_all is_digit d.digits) c.0 d.all;
      allowed = ap (λ (z : ℕ). is_allowed (number_from z d.digits)) c.1 ∙ d.allowed;
    }

decimal_digits : (low high k : ℕ) → low ≤ high → may_end 10 low high k ≡ true → Digits is_digit number_from low high k
decimal_digits low high zero le h = no_digits is_digit number_from low high 0 (λ q. refl) (allowed_in low high le h)
decimal_digits low high (suc k) le h = go (λ i. decimal_digits (low * 10) (high * 10 + (10 - 1)) k (omega (arith, le)) i) (has_allowed low high) refl h
  where
    go : (may_end 10 (low * 10) (high * 10 + (10 - 1)) k ≡ true → Digits is_digit number_from (low * 10) (high * 10 + (10 - 1)) k) → (b : Bool) → has_allowed low high ≡ b → cond b true (may_end 10 (low * 10) (high * 10 + (10 - 1)) k) ≡ true → Digits is_digit number_from low high (suc k)
    go f true e i = no_digits is_digit number_from low high (suc k) (λ q. refl) (allowed_in low high le e)
    go f false e i = decimal_before low high k (f i)

hex_digit_of : ℕ → ℕ
hex_digit_of r = cond (nat_le r 9) (48 + r) (87 + r)

hex_char : (q : ℕ) → (is_hex (hex_digit_of (q % 16)) ≡ true) × (hex_value (hex_digit_of (q % 16)) ≡ q % 16)
unfolding hex_digit_of
hex_char q = go (nat_le (q % 16) 9) refl
  where
    small : q % 16 < 16
    small = omega arith

    go : (b : Bool) → nat_le (q % 16) 9 ≡ b → (is_hex (cond b (48 + q % 16) (87 + q % 16)) ≡ true) × (hex_value (cond b (48 + q % 16) (87 + q % 16)) ≡ q % 16)
    go true e = low_digit (q % 16) (le_from (q % 16) e)
      where
        le_from : (r : ℕ) → nat_le r 9 ≡ true → r ≤ 9
        le_from r e = grind (arith, nat_tests)

        low_digit : (r : ℕ) → r ≤ 9 → (is_hex (48 + r) ≡ true) × (hex_value (48 + r) ≡ r)
        low_digit r h = (let d : is_digit (48 + r) ≡ true = grind (arith, nat_tests) in (rw d refl, rw d (omega arith)))
    go false e = high_digit (q % 16) (gt_from (q % 16) e) small
      where
        gt_from : (r : ℕ) → nat_le r 9 ≡ false → 9 < r
        gt_from r e = grind (arith, nat_tests)

        high_digit : (r : ℕ) → 9 < r → r < 16 → (is_hex (87 + r) ≡ true) × (hex_value (87 + r) ≡ r)
        high_digit r h s = (let d : is_digit (87 + r) ≡ false = grind (arith, nat_tests) in let a : nat_le 97 (87 + r) ≡ true = grind (arith, nat_tests) in let b : nat_le (87 + r) 102 ≡ true = grind (arith, nat_tests) in (rw (d, a, b) refl, rw (d, a) (omega arith)))

hex_before : (low high k : ℕ) → Digits is_hex hex_from (low * 16) (high * 16 + (16 - 1)) k → Digits is_hex hex_from low high (suc k)
hex_before low high k d =
    let c = hex_char d.start in
    let e : (d.start / 16) * 16 + hex_value (hex_digit_of (d.start % 16)) ≡ d.start = ap (λ (z : ℕ). (d.start / 16) * 16 + z) c.1 ∙ omega arith in
    record {
      start = d.start / 16;
      digits = hex_digit_of (d.start % 16) ∷ d.digits;
      least = (let i = d.least in omega (arith, i));
      most = (let i = d.most in omega (arith, i));
      short = (let i = d.short in omega (arith, i));
      all = both_all (is_hex (hex_digit_of (d.start % 16))) (list_all is_hex d.digits) c.0 d.all;
      allowed = ap (λ (z : ℕ). is_allowed (hex_from z d.digits)) e ∙ d.allowed;
    }

hex_digits : (low high k : ℕ) → low ≤ high → may_end 16 low high k ≡ true → Digits is_hex hex_from low high k
hex_digits low high zero le h = no_digits is_hex hex_from low high 0 (λ q. refl) (allowed_in low high le h)
hex_digits low high (suc k) le h = go (λ i. hex_digits (low * 16) (high * 16 + (16 - 1)) k (omega (arith, le)) i) (has_allowed low high) refl h
  where
    go : (may_end 16 (low * 16) (high * 16 + (16 - 1)) k ≡ true → Digits is_hex hex_from (low * 16) (high * 16 + (16 - 1)) k) → (b : Bool) → has_allowed low high ≡ b → cond b true (may_end 16 (low * 16) (high * 16 + (16 - 1)) k) ≡ true → Digits is_hex hex_from low high (suc k)
    go f true e i = no_digits is_hex hex_from low high (suc k) (λ q. refl) (allowed_in low high le e)
    go f false e i = hex_before low high k (f i)

-- digits behind which `;` stands
of_number_is : (digit : ℕ → Bool) (value : Text → ℕ) (x d : Text) → ((c : ℕ) → digit c ≡ true → eqb c 59 ≡ false) → list_all digit x ≡ true
    → of_number digit value d (x ++ 59 ∷ []) ≡ cond (true && nat_le 1 (length (d ++ x)) && nat_le (length (d ++ x)) 8 && list_all digit (d ++ x) && is_allowed (value (d ++ x))) (Some (value (d ++ x))) None
of_number_is digit value [] d f h = ap (λ (z : Text). cond (true && nat_le 1 (length z) && nat_le (length z) 8 && list_all digit z && is_allowed (value z)) (Some (value z)) None) (sym (append-nil d))
of_number_is digit value (c ∷ x) d f h =
    let p = and_parts (digit c) (list_all digit x) h in
    rw (f c p.0) (of_number_is digit value x (d ++ c ∷ []) f p.1 ∙ ap (λ (z : Text). cond (true && nat_le 1 (length z) && nat_le (length z) 8 && list_all digit z && is_allowed (value z)) (Some (value z)) None) (append_assoc d (c ∷ []) x))

number_is : (digit : ℕ → Bool) (value : Text → ℕ) (x : Text) → ((c : ℕ) → digit c ≡ true → eqb c 59 ≡ false) → list_all digit x ≡ true → nat_le 1 (length x) ≡ true → nat_le (length x) 8 ≡ true → is_allowed (value x) ≡ true
    → of_number digit value [] (x ++ 59 ∷ []) ≡ Some (value x)
number_is digit value x f a b c d = of_number_is digit value x [] f a ∙ rw (a, b, c, d) refl

digit_not : (c : ℕ) → is_digit c ≡ true → eqb c 59 ≡ false
digit_not c h = grind (arith, nat_tests)

hex_not : (c : ℕ) → is_hex c ≡ true → eqb c 59 ≡ false
hex_not c h = grind (arith, nat_tests)

-- the digits that were read, and those that go on
abbrev pub NumberRest : (Text → Option ℕ) → Text → Type 0
NumberRest f x = (k : Text) × (d : ℕ) × (f (x ++ k) ≡ Some d)

decimal_rest : (c : ℕ) (cs : Text) → list_all is_digit (c ∷ cs) ≡ true → nat_le (length (c ∷ cs)) 8 ≡ true → may_end 10 (number_in (c ∷ cs)) (number_in (c ∷ cs)) (8 - length (c ∷ cs)) ≡ true
    → NumberRest (of_number is_digit number_in []) (c ∷ cs)
decimal_rest c cs all short ends =
    let m : Text = c ∷ cs in
    let d = decimal_digits (number_in m) (number_in m) (8 - length m) (omega arith) ends in
    let s : d.start ≡ number_in m = (let a = d.least in let b = d.most in omega (arith, a, b)) in
    let n : length (m ++ d.digits) ≡ length m + length d.digits = length-append m d.digits in
    let le : length m ≤ 8 = grind (arith, nat_tests) in
    let few : length d.digits ≤ 8 - length m = d.short in
    let upper : length (m ++ d.digits) ≤ 8 = omega (arith, n, le, few) in
    let b : nat_le (length (m ++ d.digits)) 8 ≡ true = grind (arith, nat_tests) in
    let v : is_allowed (number_in (m ++ d.digits)) ≡ true = ap is_allowed (decimal_append 0 m d.digits ∙ ap (λ (z : ℕ). number_from z d.digits) (sym s)) ∙ d.allowed in
    let w : list_all is_digit (m ++ d.digits) ≡ true = list_all-append is_digit m d.digits ∙ both_all (list_all is_digit m) (list_all is_digit d.digits) all d.all in
    (d.digits ++ 59 ∷ [], number_in (m ++ d.digits), ap (of_number is_digit number_in []) (sym (append_assoc m d.digits (59 ∷ []))) ∙ number_is is_digit number_in (m ++ d.digits) digit_not w (grind (arith, nat_tests)) b v)

hex_rest : (c : ℕ) (cs : Text) → list_all is_hex (c ∷ cs) ≡ true → nat_le (length (c ∷ cs)) 8 ≡ true → may_end 16 (hex_from 0 (c ∷ cs)) (hex_from 0 (c ∷ cs)) (8 - length (c ∷ cs)) ≡ true
    → NumberRest (of_number is_hex (hex_from 0) []) (c ∷ cs)
hex_rest c cs all short ends =
    let m : Text = c ∷ cs in
    let d = hex_digits (hex_from 0 m) (hex_from 0 m) (8 - length m) (omega arith) ends in
    let s : d.start ≡ hex_from 0 m = (let a = d.least in let b = d.most in omega (arith, a, b)) in
    let n : length (m ++ d.digits) ≡ length m + length d.digits = length-append m d.digits in
    let le : length m ≤ 8 = grind (arith, nat_tests) in
    let few : length d.digits ≤ 8 - length m = d.short in
    let upper : length (m ++ d.digits) ≤ 8 = omega (arith, n, le, few) in
    let b : nat_le (length (m ++ d.digits)) 8 ≡ true = grind (arith, nat_tests) in
    let v : is_allowed (hex_from 0 (m ++ d.digits)) ≡ true = ap is_allowed (hex_append 0 m d.digits ∙ ap (λ (z : ℕ). hex_from z d.digits) (sym s)) ∙ d.allowed in
    let w : list_all is_hex (m ++ d.digits) ≡ true = list_all-append is_hex m d.digits ∙ both_all (list_all is_hex m) (list_all is_hex d.digits) all d.all in
    (d.digits ++ 59 ∷ [], hex_from 0 (m ++ d.digits), ap (of_number is_hex (hex_from 0) []) (sym (append_assoc m d.digits (59 ∷ []))) ∙ number_is is_hex (hex_from 0) (m ++ d.digits) hex_not w (grind (arith, nat_tests)) b v)

number_parts : (a b c : Bool) → ((a && b) && c) ≡ true → (a ≡ true) × (b ≡ true) × (c ≡ true)
number_parts true true c h = (refl, refl, h)
number_parts true false c h = absurd cc
number_parts false b c h = absurd cc

numeric_rest : (x : Text) → begins_numeric x ≡ true → NumberRest numeric x
numeric_rest [] h = (codes "9;", 9, refl)
numeric_rest (c ∷ cs) h = go (eqb c 120) refl h
  where
    hex : (cs : Text) → may_number 16 is_hex (hex_from 0) cs ≡ true → NumberRest (of_number is_hex (hex_from 0) []) cs
    hex [] i = (codes "9;", 9, refl)
    hex (d ∷ ds) i = let p = number_parts (list_all is_hex (d ∷ ds)) (nat_le (length (d ∷ ds)) 8) (may_end 16 (hex_from 0 (d ∷ ds)) (hex_from 0 (d ∷ ds)) (8 - length (d ∷ ds))) i in hex_rest d ds p.0 p.1 p.2

    go : (b : Bool) → eqb c 120 ≡ b → cond b (may_number 16 is_hex (hex_from 0) cs) (may_number 10 is_digit number_in (c ∷ cs)) ≡ true → NumberRest numeric (c ∷ cs)
    go true e i = (let r = hex cs i in (r.0, r.1, rw e r.2))
    go false e i = (let p = number_parts (list_all is_digit (c ∷ cs)) (nat_le (length (c ∷ cs)) 8) (may_end 10 (number_in (c ∷ cs)) (number_in (c ∷ cs)) (8 - length (c ∷ cs))) i in let r = decimal_rest c cs p.0 p.1 p.2 in (r.0, r.1, rw e r.2))

-- What begins a reference, and is none, goes on to one.
pub completion : (m : Text) → begins_reference m ≡ true → reference_of m ≡ None → Completion m
unfolding begins_reference reference_of
completion [] b n = record { rest = codes "lt;"; char = 60; some = refl; is = refl }
completion (c ∷ cs) b n = or_cases (begins_named (c ∷ cs) named_references) (begins_number (c ∷ cs)) b (λ h. named_rest (c ∷ cs) n h) (λ h. go (eqb c 35) refl h)
  where
    go : (i : Bool) → eqb c 35 ≡ i → cond i (begins_numeric cs) false ≡ true → Completion (c ∷ cs)
    go false e h = absurd cc
    go true e h =
        let r = numeric_rest cs h in
        let i : reference_of ((c ∷ cs) ++ r.0) ≡ Some r.1 = ap (λ (z : ℕ). reference_of (z ∷ (cs ++ r.0))) (eqb-true c 35 e) ∙ r.2 in
        record { rest = r.0; char = r.1; some = some_rest (c ∷ cs) r.0 r.1 n i; is = i }
