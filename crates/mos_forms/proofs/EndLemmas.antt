-- What a text ends with.
use Rattle.std.proofs.Common.{◌≡◌, ℕ, ◌+◌, ◌-◌, ◌<◌, Bool, true, false, cond, length, get_or, take, [], ◌∷◌, ◌++◌, refl, sym, ap, ◌∙◌, arith, append_assoc, eq-eqb}
use Rattle.std.specs.Prelude.{◌==◌}
use Rattle.std.proofs.lemmas.Bool.{and_parts, and_from, eqb-true}
use Rattle.std.proofs.lemmas.List.{append_cancel_right, length-append, length-take-le, get_or-take, get_or-append-add}
use Rattle.mos_fields.specs.Characters.{Text}
use Rattle.mos_fields.specs.Fields.{same}
use Rattle.mos_fields.specs.Raw.{end_text, ends_with}

-- ---- ends

same_is : (x y : Text) → same x y ≡ true → x ≡ y
same_is [] [] e = refl
same_is [] (y ∷ ys) e = absurd cc
same_is (x ∷ xs) [] e = absurd cc
same_is (x ∷ xs) (y ∷ ys) e = let p = and_parts (x == y) (same xs ys) e in
    ap (λ z. z ∷ xs) (eqb-true x y p.0) ∙ ap (λ z. y ∷ z) (same_is xs ys p.1)

is_same : (x : Text) → same x x ≡ true
is_same [] = refl
is_same (x ∷ xs) = and_from (x == x) (same xs xs) (eq-eqb x x refl) (is_same xs)

pub ends_true : (e p : Text) → ends_with e (p ++ e) ≡ true
ends_true [] [] = refl
ends_true (a ∷ e) [] = ap (λ z. cond z true (ends_with (a ∷ e) e)) (is_same (a ∷ e))
ends_true e (c ∷ p) = go (ends_true e p) (same e (c ∷ (p ++ e)))
  where
    go : ends_with e (p ++ e) ≡ true → (b : Bool) → cond b true (ends_with e (p ++ e)) ≡ true
    go r true = refl
    go r false = r

pub ends_false : (e us : Text) → ((p : Text) → us ≡ p ++ e → ⊥) → ends_with e us ≡ false
ends_false e [] n = go (same e []) refl
  where
    go : (b : Bool) → same e [] ≡ b → same e [] ≡ false
    go false h = h
    go true h = absurd (n [] (sym (same_is e [] h)))
ends_false e (c ∷ us) n = go (ends_false e us (λ p i. n (c ∷ p) (ap (λ z. c ∷ z) i))) (same e (c ∷ us)) refl
  where
    go : ends_with e us ≡ false → (b : Bool) → same e (c ∷ us) ≡ b → cond (same e (c ∷ us)) true (ends_with e us) ≡ false
    go r true h = absurd (n [] (sym (same_is e (c ∷ us) h)))
    go r false h = ap (λ z. cond z true (ends_with e us)) h ∙ r

-- what an end tag stands behind, part by part

whole_end : (n p : Text) → p ++ end_text n ≡ ((p ++ 60 ∷ 47 ∷ []) ++ n) ++ 62 ∷ []
whole_end n p = ap (λ z. p ++ z) (let e : end_text n ≡ (60 ∷ 47 ∷ []) ++ (n ++ 62 ∷ []) = refl in e) ∙ (sym (append_assoc p (60 ∷ 47 ∷ []) (n ++ 62 ∷ [])) ∙ sym (append_assoc (p ++ 60 ∷ 47 ∷ []) n (62 ∷ [])))

pub end_found : (n us a b d : Text) → us ≡ a ++ 62 ∷ [] → a ≡ b ++ n → b ≡ d ++ 60 ∷ 47 ∷ [] → ends_with (end_text n) us ≡ true
end_found n us a b d e f g =
    ap (ends_with (end_text n)) (e ∙ (ap (λ z. z ++ 62 ∷ []) (f ∙ ap (λ z. z ++ n) g) ∙ sym (whole_end n d))) ∙ ends_true (end_text n) d

pub end_without_mark : (n us : Text) → ((a : Text) → us ≡ a ++ 62 ∷ [] → ⊥) → ends_with (end_text n) us ≡ false
end_without_mark n us h = ends_false (end_text n) us (λ p i. h ((p ++ 60 ∷ 47 ∷ []) ++ n) (i ∙ whole_end n p))

pub end_without_name : (n us a : Text) → us ≡ a ++ 62 ∷ [] → ((b : Text) → a ≡ b ++ n → ⊥) → ends_with (end_text n) us ≡ false
end_without_name n us a e h = ends_false (end_text n) us (λ p i. h (p ++ 60 ∷ 47 ∷ []) (append_cancel_right a ((p ++ 60 ∷ 47 ∷ []) ++ n) (62 ∷ []) (sym e ∙ (i ∙ whole_end n p))))

pub end_without_begin : (n us a b : Text) → us ≡ a ++ 62 ∷ [] → a ≡ b ++ n → ((d : Text) → b ≡ d ++ 60 ∷ 47 ∷ [] → ⊥) → ends_with (end_text n) us ≡ false
end_without_begin n us a b e f h = ends_false (end_text n) us (λ p i.
    h p (append_cancel_right b (p ++ 60 ∷ 47 ∷ []) n (sym f ∙ append_cancel_right a ((p ++ 60 ∷ 47 ∷ []) ++ n) (62 ∷ []) (sym e ∙ (i ∙ whole_end n p)))))

-- ---- the `/` of an end tag

pub end_without_slash : (n us : Text) (i : ℕ) → i < length us → (length n < i → get_or us (i - length n - 1) 0 ≡ 47 → ⊥) → ends_with (end_text n) (take (i + 1) us) ≡ false
end_without_slash n us i h d = ends_false (end_text n) (take (i + 1) us) (λ p e. here p e (long p e))
  where
    long : (p : Text) → take (i + 1) us ≡ p ++ end_text n → length p + length n + 2 ≡ i
    long p e =
        let whole = ap length e ∙ length-append p (end_text n) in
        let inner = length-append n (62 ∷ []) in
        let front = length-take-le (i + 1) us (omega (arith, h)) in
        omega (arith, whole, inner, front, h)

    here : (p : Text) → take (i + 1) us ≡ p ++ end_text n → length p + length n + 2 ≡ i → ⊥
    here p e l = d (omega (arith, l)) (
        ap (λ k. get_or us k 0) (let k : i - length n - 1 ≡ length p + 1 = omega (arith, l) in k)
        ∙ (sym (get_or-take (i + 1) us (length p + 1) 0 (omega (arith, l)))
        ∙ (ap (λ z. get_or z (length p + 1) 0) e
        ∙ get_or-append-add p (end_text n) 1 0)))
