-- No reference is the front of another, and a front of one may become one.
use Rattle.std.proofs.Common.{◌≡◌, ℕ, zero, suc, ◌+◌, ◌*◌, ◌-◌, ◌<◌, ◌≤◌, Bool, true, false, cond, eqb, leb, List, [], ◌∷◌, ◌++◌, length, Option, Some, None, refl, sym, ap, subst, ◌∙◌, append_assoc, arith, codes, ◌⊎◌, inl, inr}
use Rattle.std.specs.Prelude.{◌==◌, ◌&&◌, ◌||◌, nat_le}
use Rattle.std.specs.List.{list_all}
use Rattle.std.proofs.lemmas.Bool.{eqb-true, leb-true, le-leb}
use Rattle.std.proofs.lemmas.List.{append-nil, length-append}
use Rattle.mos_fields.specs.Characters.{Text, is_allowed}
use Rattle.mos_fields.specs.Fields.{same}
use Rattle.mos_fields.specs.Names.{is_empty}
use Rattle.mos_fields.specs.References.{is_digit, number_from, number_in, is_hex, hex_value, hex_from, named_references, of_number, numeric, or_numeric, reference_of, is_front, begins_named, has_allowed, may_end, may_number, begins_numeric, begins_number, begins_reference}
use Rattle.mos_grammar.proofs.Sound.{same-is}
use Rattle.mos_lexer.proofs.Forward.{ReferenceLaws, no_both}

conj : (a b : Bool) → (a && b) ≡ true → (a ≡ true) × (b ≡ true)
conj true b h = (refl, h)
conj false b h = absurd (no_both false h refl)

both : (a b : Bool) → a ≡ true → b ≡ true → (a && b) ≡ true
both true b h k = k
both false b h k = absurd (no_both false h refl)

or_left : (a b : Bool) → a ≡ true → (a || b) ≡ true
or_left true b h = refl
or_left false b h = absurd (no_both false h refl)

or_right : (a b : Bool) → b ≡ true → (a || b) ≡ true
or_right true b h = refl
or_right false b h = h

one_of : (a b : Bool) → (a || b) ≡ true → (a ≡ true) ⊎ (b ≡ true)
one_of true b h = inl refl
one_of false b h = inr h

-- ---- a reference ends at its `;`

abbrev pub ends_semicolon : Text → Bool
ends_semicolon [] = false
ends_semicolon (c ∷ cs) = cond (c == 59) (is_empty cs) (ends_semicolon cs)

abbrev pub all_semicolon : List (Text × ℕ) → Bool
all_semicolon [] = true
all_semicolon (p ∷ ps) = ends_semicolon p.0 && all_semicolon ps

five : (a b c d f : Bool) → (a && b && c && d && f) ≡ true → (a ≡ true) × (b ≡ true) × (c ≡ true) × (d ≡ true) × (f ≡ true)
five a b c d f h =
    let p = conj (a && b && c && d) f h in
    let q = conj (a && b && c) d p.0 in
    let r = conj (a && b) c q.0 in
    let s = conj a b r.0 in
    (s.0, s.1, r.1, q.1, p.1)

taken_if : {A : Type 0} (b : Bool) (x e : A) → cond b (Some x) None ≡ Some e → b ≡ true
taken_if true x e h = refl
taken_if false x e h = absurd cc

-- the digits before the `;`: these are in all, and the number is an allowed character
abbrev pub DigitsOf : (ℕ → Bool) → (Text → ℕ) → Text → Text → Type 0
DigitsOf digit value d x = (b : Text) × (x ≡ b ++ 59 ∷ []) × (list_all digit (d ++ b) ≡ true) × (nat_le (length (d ++ b)) 8 ≡ true) × (is_allowed (value (d ++ b)) ≡ true) × (ends_semicolon x ≡ true)

empty_is : (x : Text) → is_empty x ≡ true → x ≡ []
empty_is [] h = refl
empty_is (c ∷ x) h = absurd (no_both false h refl)

pub of_number_digits : (digit : ℕ → Bool) (value : Text → ℕ) (d x : Text) (e : ℕ) → of_number digit value d x ≡ Some e → DigitsOf digit value d x
of_number_digits digit value d [] e h = absurd cc
of_number_digits digit value d (c ∷ x) e h = go (eqb c 59) refl (λ k. of_number_digits digit value (d ++ c ∷ []) x e k) h
  where
    go : (b : Bool) → eqb c 59 ≡ b → (of_number digit value (d ++ c ∷ []) x ≡ Some e → DigitsOf digit value (d ++ c ∷ []) x)
        → cond b (cond (is_empty x && nat_le 1 (length d) && nat_le (length d) 8 && list_all digit d && is_allowed (value d)) (Some (value d)) None) (of_number digit value (d ++ c ∷ []) x) ≡ Some e
        → DigitsOf digit value d (c ∷ x)
    go true i ih h =
        let f = five (is_empty x) (nat_le 1 (length d)) (nat_le (length d) 8) (list_all digit d) (is_allowed (value d)) (taken_if (is_empty x && nat_le 1 (length d) && nat_le (length d) 8 && list_all digit d && is_allowed (value d)) (value d) e h) in
        let n = sym (append-nil d) in
        ([], (let p : c ≡ 59 = eqb-true c 59 i in rw (p, empty_is x f.0) refl), subst (λ (z : Text). list_all digit z ≡ true) n f.3, subst (λ (z : Text). nat_le (length z) 8 ≡ true) n f.2, subst (λ (z : Text). is_allowed (value z) ≡ true) n f.4, rw i f.0)
    go false i ih h =
        let k = ih h in
        let n = append_assoc d (c ∷ []) k.0 in
        (c ∷ k.0, ap (λ (z : Text). c ∷ z) k.1, subst (λ (z : Text). list_all digit z ≡ true) n k.2, subst (λ (z : Text). nat_le (length z) 8 ≡ true) n k.3, subst (λ (z : Text). is_allowed (value z) ≡ true) n k.4, rw i k.5)

numeric_ends : (x : Text) (e : ℕ) → numeric x ≡ Some e → ends_semicolon x ≡ true
numeric_ends [] e h = absurd cc
numeric_ends (c ∷ x) e h = go (eqb c 120) refl h
  where
    go : (b : Bool) → eqb c 120 ≡ b → cond b (of_number is_hex (hex_from 0) [] x) (of_number is_digit number_in [] (c ∷ x)) ≡ Some e → ends_semicolon (c ∷ x) ≡ true
    go true i h = let k = of_number_digits is_hex (hex_from 0) [] x e h in let p : c ≡ 120 = eqb-true c 120 i in rw p k.5
    go false i h = (of_number_digits is_digit number_in [] (c ∷ x) e h).5

or_numeric_ends : (x : Text) (ps : List (Text × ℕ)) (e : ℕ) → all_semicolon ps ≡ true → or_numeric x ps ≡ Some e → ends_semicolon x ≡ true
or_numeric_ends [] [] e a h = absurd cc
or_numeric_ends (c ∷ x) [] e a h = go (eqb c 35) refl h
  where
    go : (b : Bool) → eqb c 35 ≡ b → cond b (numeric x) None ≡ Some e → ends_semicolon (c ∷ x) ≡ true
    go true i h = let p : c ≡ 35 = eqb-true c 35 i in rw p (numeric_ends x e h)
    go false i h = absurd cc
or_numeric_ends [] (p ∷ ps) e a h = go (λ k. or_numeric_ends [] ps e (conj (ends_semicolon p.0) (all_semicolon ps) a).1 k) (same [] p.0) refl h
  where
    go : (or_numeric [] ps ≡ Some e → ends_semicolon [] ≡ true) → (b : Bool) → same [] p.0 ≡ b → cond b (Some p.1) (or_numeric [] ps) ≡ Some e → ends_semicolon [] ≡ true
    go ih true i h = subst (λ (z : Text). ends_semicolon z ≡ true) (sym (same-is [] p.0 i)) (conj (ends_semicolon p.0) (all_semicolon ps) a).0
    go ih false i h = ih h
or_numeric_ends (c ∷ x) (p ∷ ps) e a h = go (λ k. or_numeric_ends (c ∷ x) ps e (conj (ends_semicolon p.0) (all_semicolon ps) a).1 k) (same (c ∷ x) p.0) refl h
  where
    go : (or_numeric (c ∷ x) ps ≡ Some e → ends_semicolon (c ∷ x) ≡ true) → (b : Bool) → same (c ∷ x) p.0 ≡ b → cond b (Some p.1) (or_numeric (c ∷ x) ps) ≡ Some e → ends_semicolon (c ∷ x) ≡ true
    go ih true i h = subst (λ (z : Text). ends_semicolon z ≡ true) (sym (same-is (c ∷ x) p.0 i)) (conj (ends_semicolon p.0) (all_semicolon ps) a).0
    go ih false i h = ih h

ends_front : (m k : Text) → ends_semicolon (m ++ k) ≡ true → is_empty k ≡ false → ends_semicolon m ≡ false
ends_front [] k h ne = refl
ends_front (c ∷ m) k h ne = go (λ e. ends_front m k e ne) (eqb c 59) h
  where
    some : (m k : Text) → is_empty (m ++ k) ≡ true → is_empty k ≡ false → ⊥
    some [] k h ne = no_both (is_empty k) h ne
    some (d ∷ m) k h ne = no_both false h refl

    go : (ends_semicolon (m ++ k) ≡ true → ends_semicolon m ≡ false) → (b : Bool) → cond b (is_empty (m ++ k)) (ends_semicolon (m ++ k)) ≡ true → cond b (is_empty m) (ends_semicolon m) ≡ false
    go ih true h = absurd (some m k h ne)
    go ih false h = ih h

no_front : (m k : Text) (d : ℕ) → reference_of (m ++ k) ≡ Some d → is_empty k ≡ false → reference_of m ≡ None
unfolding reference_of
no_front m k d h ne = go (or_numeric m named_references) refl
  where
    go : (o : Option ℕ) → or_numeric m named_references ≡ o → or_numeric m named_references ≡ None
    go None e = e
    go (Some a) e = absurd (no_both (ends_semicolon m) (or_numeric_ends m named_references a refl e) (ends_front m k (or_numeric_ends (m ++ k) named_references d refl h) ne))

-- ---- the numbers that digits may still write

-- an allowed character between two numbers
allowed_between : (x low high : ℕ) → low ≤ x → x ≤ high → is_allowed x ≡ true → has_allowed low high ≡ true
allowed_between x low high l h a = first (one_of ((x == 9) || (x == 10) || (x == 13) || (nat_le 32 x && nat_le x 55295) || (nat_le 57344 x && nat_le x 65533)) (nat_le 65536 x && nat_le x 1114111) a)
  where
    A : Bool
    A = nat_le low 10 && nat_le 9 high

    B : Bool
    B = nat_le low 13 && nat_le 13 high

    C : Bool
    C = nat_le low 55295 && nat_le 32 high

    D : Bool
    D = nat_le low 65533 && nat_le 57344 high

    E : Bool
    E = nat_le low 1114111 && nat_le 65536 high

    in_range : (a b : ℕ) → (nat_le a x && nat_le x b) ≡ true → (nat_le low b && nat_le a high) ≡ true
    in_range a b k = let p = conj (nat_le a x) (nat_le x b) k in both (nat_le low b) (nat_le a high) (le-leb low b (omega (arith, l, leb-true x b p.1))) (le-leb a high (omega (arith, h, leb-true a x p.0)))

    ten : x ≤ 10 → 9 ≤ x → A ≡ true
    ten p q = both (nat_le low 10) (nat_le 9 high) (le-leb low 10 (omega (arith, l, p))) (le-leb 9 high (omega (arith, h, q)))

    thirteen : x ≡ 13 → B ≡ true
    thirteen p = both (nat_le low 13) (nat_le 13 high) (le-leb low 13 (omega (arith, l, p))) (le-leb 13 high (omega (arith, h, p)))

    from_a : A ≡ true → has_allowed low high ≡ true
    from_a k = or_left (A || B || C || D) E (or_left (A || B || C) D (or_left (A || B) C (or_left A B k)))

    from_b : B ≡ true → has_allowed low high ≡ true
    from_b k = or_left (A || B || C || D) E (or_left (A || B || C) D (or_left (A || B) C (or_right A B k)))

    fifth : ((x == 9) ≡ true) ⊎ ((x == 10) ≡ true) → has_allowed low high ≡ true
    fifth (inl k) = let p : x ≡ 9 = eqb-true x 9 k in from_a (ten (omega (arith, p)) (omega (arith, p)))
    fifth (inr k) = let p : x ≡ 10 = eqb-true x 10 k in from_a (ten (omega (arith, p)) (omega (arith, p)))

    fourth : (((x == 9) || (x == 10)) ≡ true) ⊎ ((x == 13) ≡ true) → has_allowed low high ≡ true
    fourth (inl k) = fifth (one_of (x == 9) (x == 10) k)
    fourth (inr k) = from_b (thirteen (eqb-true x 13 k))

    third : (((x == 9) || (x == 10) || (x == 13)) ≡ true) ⊎ ((nat_le 32 x && nat_le x 55295) ≡ true) → has_allowed low high ≡ true
    third (inl k) = fourth (one_of ((x == 9) || (x == 10)) (x == 13) k)
    third (inr k) = or_left (A || B || C || D) E (or_left (A || B || C) D (or_right (A || B) C (in_range 32 55295 k)))

    second : (((x == 9) || (x == 10) || (x == 13) || (nat_le 32 x && nat_le x 55295)) ≡ true) ⊎ ((nat_le 57344 x && nat_le x 65533) ≡ true) → has_allowed low high ≡ true
    second (inl k) = third (one_of ((x == 9) || (x == 10) || (x == 13)) (nat_le 32 x && nat_le x 55295) k)
    second (inr k) = or_left (A || B || C || D) E (or_right (A || B || C) D (in_range 57344 65533 k))

    first : (((x == 9) || (x == 10) || (x == 13) || (nat_le 32 x && nat_le x 55295) || (nat_le 57344 x && nat_le x 65533)) ≡ true) ⊎ ((nat_le 65536 x && nat_le x 1114111) ≡ true) → has_allowed low high ≡ true
    first (inl k) = second (one_of ((x == 9) || (x == 10) || (x == 13) || (nat_le 32 x && nat_le x 55295)) (nat_le 57344 x && nat_le x 65533) k)
    first (inr k) = or_right (A || B || C || D) E (in_range 65536 1114111 k)

may_now : (radix low high k : ℕ) → has_allowed low high ≡ true → may_end radix low high k ≡ true
may_now radix low high zero h = h
may_now radix low high (suc k) h = rw h refl

may_later : (a b : Bool) → b ≡ true → cond a true b ≡ true
may_later true b h = refl
may_later false b h = h

digit_small : (c : ℕ) → is_digit c ≡ true → c - 48 ≤ 9
digit_small c h = let p = conj (nat_le 48 c) (nat_le c 57) h in omega (arith, leb-true c 57 p.1, leb-true 48 c p.0)

hex_small : (c : ℕ) → is_hex c ≡ true → hex_value c ≤ 15
hex_small c h = go (is_digit c) refl (nat_le 97 c) refl (one_of (is_digit c || (nat_le 97 c && nat_le c 102)) (nat_le 65 c && nat_le c 70) h)
  where
    go : (b : Bool) → is_digit c ≡ b → (d : Bool) → nat_le 97 c ≡ d → ((is_digit c || (nat_le 97 c && nat_le c 102)) ≡ true) ⊎ ((nat_le 65 c && nat_le c 70) ≡ true) → cond b (c - 48) (cond d (c - 87) (c - 55)) ≤ 15
    go true i d j k = let q = digit_small c i in omega (arith, q)
    go false i true j (inl k) = let p = one_of (is_digit c) (nat_le 97 c && nat_le c 102) k in two p
      where
        two : (is_digit c ≡ true) ⊎ ((nat_le 97 c && nat_le c 102) ≡ true) → c - 87 ≤ 15
        two (inl e) = absurd (no_both (is_digit c) e i)
        two (inr e) = let q = conj (nat_le 97 c) (nat_le c 102) e in omega (arith, leb-true c 102 q.1, leb-true 97 c q.0)
    go false i true j (inr k) = let q = conj (nat_le 65 c) (nat_le c 70) k in omega (arith, leb-true c 70 q.1, leb-true 97 c j)
    go false i false j (inl k) = two (one_of (is_digit c) (nat_le 97 c && nat_le c 102) k)
      where
        two : (is_digit c ≡ true) ⊎ ((nat_le 97 c && nat_le c 102) ≡ true) → c - 55 ≤ 15
        two (inl e) = absurd (no_both (is_digit c) e i)
        two (inr e) = let q = conj (nat_le 97 c) (nat_le c 102) e in absurd (no_both (nat_le 97 c) q.0 j)
    go false i false j (inr k) = let q = conj (nat_le 65 c) (nat_le c 70) k in omega (arith, leb-true c 70 q.1, leb-true 65 c q.0)

decimal_ends : (b : Text) (x low high k : ℕ) → low ≤ x → x ≤ high → length b ≤ k → list_all is_digit b ≡ true → is_allowed (number_from x b) ≡ true → may_end 10 low high k ≡ true
decimal_ends [] x low high k l h n d a = may_now 10 low high k (allowed_between x low high l h a)
decimal_ends (c ∷ b) x low high zero l h n d a = absurd (omega (arith, n))
decimal_ends (c ∷ b) x low high (suc k) l h n d a =
    let p = conj (is_digit c) (list_all is_digit b) d in
    let s = digit_small c p.0 in
    may_later (has_allowed low high) (may_end 10 (low * 10) (high * 10 + 9) k)
    (decimal_ends b (x * 10 + (c - 48)) (low * 10) (high * 10 + 9) k (omega (arith, l)) (omega (arith, h, s)) (omega (arith, n)) p.1 a)

hex_ends : (b : Text) (x low high k : ℕ) → low ≤ x → x ≤ high → length b ≤ k → list_all is_hex b ≡ true → is_allowed (hex_from x b) ≡ true → may_end 16 low high k ≡ true
hex_ends [] x low high k l h n d a = may_now 16 low high k (allowed_between x low high l h a)
hex_ends (c ∷ b) x low high zero l h n d a = absurd (omega (arith, n))
hex_ends (c ∷ b) x low high (suc k) l h n d a =
    let p = conj (is_hex c) (list_all is_hex b) d in
    let s = hex_small c p.0 in
    may_later (has_allowed low high) (may_end 16 (low * 16) (high * 16 + 15) k)
    (hex_ends b (x * 16 + hex_value c) (low * 16) (high * 16 + 15) k (omega (arith, l)) (omega (arith, h, s)) (omega (arith, n)) p.1 a)

all_front : (f : ℕ → Bool) (a b : Text) → list_all f (a ++ b) ≡ true → (list_all f a ≡ true) × (list_all f b ≡ true)
all_front f [] b h = (refl, h)
all_front f (c ∷ a) b h =
    let p = conj (f c) (list_all f (a ++ b)) h in
    let q = all_front f a b p.1 in
    (both (f c) (list_all f a) p.0 q.0, q.1)

pub decimal_append : (k : ℕ) (a b : Text) → number_from k (a ++ b) ≡ number_from (number_from k a) b
decimal_append k [] b = refl
decimal_append k (c ∷ a) b = decimal_append (k * 10 + (c - 48)) a b

pub hex_append : (k : ℕ) (a b : Text) → hex_from k (a ++ b) ≡ hex_from (hex_from k a) b
hex_append k [] b = refl
hex_append k (c ∷ a) b = hex_append (k * 16 + hex_value c) a b

-- digits and `;` that go on behind a front: the front is of digits
front_digits : (a k b : Text) → a ++ k ≡ b ++ 59 ∷ [] → is_empty k ≡ false → (c : Text) × (b ≡ a ++ c)
front_digits [] k b e ne = (b, refl)
front_digits (x ∷ a) k [] e ne = absurd (go a k ne (tail_of x (a ++ k) e))
  where
    tail_of : (x : ℕ) (r : Text) → ◌≡◌ {A = Text} (x ∷ r) (59 ∷ []) → r ≡ []
    tail_of x r e = cc

    go : (a k : Text) → is_empty k ≡ false → a ++ k ≡ [] → ⊥
    go [] k ne e = no_both (is_empty k) (ap is_empty e) ne
    go (y ∷ a) k ne e = nothing_is y (a ++ k) e
      where
        nothing_is : (y : ℕ) (r : Text) → ◌≡◌ {A = Text} (y ∷ r) [] → ⊥
        nothing_is y r e = cc
front_digits (x ∷ a) k (y ∷ b) e ne =
    let p = parts x y (a ++ k) (b ++ 59 ∷ []) e in
    let q = front_digits a k b p.1 ne in
    (q.0, ap (λ (z : Text). y ∷ z) q.1 ∙ ap (λ (z : ℕ). z ∷ (a ++ q.0)) (sym p.0))
  where
    parts : (c d : ℕ) (r q : Text) → ◌≡◌ {A = Text} (c ∷ r) (d ∷ q) → (c ≡ d) × (r ≡ q)
    parts c d r q e = (cc, cc)

decimal_may : (a k : Text) (d : ℕ) → of_number is_digit number_in [] (a ++ k) ≡ Some d → is_empty k ≡ false → may_number 10 is_digit number_in a ≡ true
decimal_may a k d h ne =
    let f = of_number_digits is_digit number_in [] (a ++ k) d h in
    let q = front_digits a k f.0 f.1 ne in
    let all = all_front is_digit a q.0 (subst (λ (z : Text). list_all is_digit z ≡ true) q.1 f.2) in
    let n : length a + length q.0 ≤ 8 = omega (arith, length-append a q.0, leb-true (length (a ++ q.0)) 8 (subst (λ (z : Text). nat_le (length z) 8 ≡ true) q.1 f.3)) in
    let w : is_allowed (number_from (number_in a) q.0) ≡ true = subst (λ (z : ℕ). is_allowed z ≡ true) (ap number_in q.1 ∙ decimal_append 0 a q.0) f.4 in
    or_right (is_empty a) (list_all is_digit a && nat_le (length a) 8 && may_end 10 (number_in a) (number_in a) (8 - length a))
    (both (list_all is_digit a && nat_le (length a) 8) (may_end 10 (number_in a) (number_in a) (8 - length a)) (both (list_all is_digit a) (nat_le (length a) 8) all.0 (le-leb (length a) 8 (omega (arith, n))))
    (decimal_ends q.0 (number_in a) (number_in a) (number_in a) (8 - length a) (omega arith) (omega arith) (omega (arith, n)) all.1 w))

hex_may : (a k : Text) (d : ℕ) → of_number is_hex (hex_from 0) [] (a ++ k) ≡ Some d → is_empty k ≡ false → may_number 16 is_hex (hex_from 0) a ≡ true
hex_may a k d h ne =
    let f = of_number_digits is_hex (hex_from 0) [] (a ++ k) d h in
    let q = front_digits a k f.0 f.1 ne in
    let all = all_front is_hex a q.0 (subst (λ (z : Text). list_all is_hex z ≡ true) q.1 f.2) in
    let n : length a + length q.0 ≤ 8 = omega (arith, length-append a q.0, leb-true (length (a ++ q.0)) 8 (subst (λ (z : Text). nat_le (length z) 8 ≡ true) q.1 f.3)) in
    let w : is_allowed (hex_from (hex_from 0 a) q.0) ≡ true = subst (λ (z : ℕ). is_allowed z ≡ true) (ap (hex_from 0) q.1 ∙ hex_append 0 a q.0) f.4 in
    or_right (is_empty a) (list_all is_hex a && nat_le (length a) 8 && may_end 16 (hex_from 0 a) (hex_from 0 a) (8 - length a))
    (both (list_all is_hex a && nat_le (length a) 8) (may_end 16 (hex_from 0 a) (hex_from 0 a) (8 - length a)) (both (list_all is_hex a) (nat_le (length a) 8) all.0 (le-leb (length a) 8 (omega (arith, n))))
    (hex_ends q.0 (hex_from 0 a) (hex_from 0 a) (hex_from 0 a) (8 - length a) (omega arith) (omega arith) (omega (arith, n)) all.1 w))

numeric_may : (m k : Text) (d : ℕ) → numeric (m ++ k) ≡ Some d → is_empty k ≡ false → begins_numeric m ≡ true
numeric_may [] k d h ne = refl
numeric_may (c ∷ m) k d h ne = go (eqb c 120) h
  where
    go : (b : Bool) → cond b (of_number is_hex (hex_from 0) [] (m ++ k)) (of_number is_digit number_in [] (c ∷ (m ++ k))) ≡ Some d → cond b (may_number 16 is_hex (hex_from 0) m) (may_number 10 is_digit number_in (c ∷ m)) ≡ true
    go true h = hex_may m k d h ne
    go false h = decimal_may (c ∷ m) k d h ne

front_of : (m k : Text) → is_front m (m ++ k) ≡ true
front_of [] k = refl
front_of (c ∷ m) k = both (eqb c c) (is_front m (m ++ k)) (Rattle.std.proofs.Common.eq-eqb c c refl) (front_of m k)

or_numeric_may : (c : ℕ) (m k : Text) (ps : List (Text × ℕ)) (d : ℕ) → or_numeric (c ∷ (m ++ k)) ps ≡ Some d → is_empty k ≡ false → (begins_named (c ∷ m) ps || begins_number (c ∷ m)) ≡ true
or_numeric_may c m k [] d h ne = go (eqb c 35) h
  where
    go : (b : Bool) → cond b (numeric (m ++ k)) None ≡ Some d → cond b (begins_numeric m) false ≡ true
    go true h = numeric_may m k d h ne
    go false h = absurd cc
or_numeric_may c m k (p ∷ ps) d h ne = go (λ e. or_numeric_may c m k ps d e ne) (same (c ∷ (m ++ k)) p.0) refl h
  where
    still : (a b n : Bool) → (b || n) ≡ true → (cond a true b || n) ≡ true
    still true b n h = refl
    still false b n h = h

    go : (or_numeric (c ∷ (m ++ k)) ps ≡ Some d → (begins_named (c ∷ m) ps || begins_number (c ∷ m)) ≡ true) → (b : Bool) → same (c ∷ (m ++ k)) p.0 ≡ b → cond b (Some p.1) (or_numeric (c ∷ (m ++ k)) ps) ≡ Some d
        → (cond (is_front (c ∷ m) p.0) true (begins_named (c ∷ m) ps) || begins_number (c ∷ m)) ≡ true
    go ih true i h = rw (subst (λ (z : Text). is_front (c ∷ m) z ≡ true) (same-is (c ∷ (m ++ k)) p.0 i) (front_of (c ∷ m) k)) refl
    go ih false i h = still (is_front (c ∷ m) p.0) (begins_named (c ∷ m) ps) (begins_number (c ∷ m)) (ih h)

goes_on : (m k : Text) (d : ℕ) → reference_of (m ++ k) ≡ Some d → is_empty k ≡ false → begins_reference m ≡ true
unfolding reference_of begins_reference
goes_on [] k d h ne = refl
goes_on (c ∷ m) k d h ne = or_numeric_may c m k named_references d h ne

pub reference_laws : ReferenceLaws
reference_laws = record { no_front = no_front; goes_on = goes_on }
