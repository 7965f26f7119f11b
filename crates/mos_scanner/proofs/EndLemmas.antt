-- What a text ends with.
use Rattle.std.proofs.Common.{◌≡◌, ℕ, Bool, true, false, cond, ◌&&◌, List, [], ◌∷◌, ◌++◌, refl, sym, ap, ◌∙◌, arith, append_assoc, eq-eqb, ne_eqb}
use Rattle.std.specs.Prelude.{◌==◌}
use Rattle.std.specs.List.{list_all}
use Rattle.std.proofs.lemmas.Bool.{and_parts, and_from, eqb-true, ltb-true}
use Rattle.std.proofs.lemmas.Bool.Decides.{nat_tests}
use Rattle.std.proofs.lemmas.List.{append_cancel_right}
use Rattle.std.proofs.lemmas.List.Folds.{list_all-append}
use Rattle.mos_fields.specs.Characters.{Text, chars_of, is_high, is_low, pair_char}
use Rattle.mos_fields.specs.Fields.{same}
use Rattle.mos_fields.specs.Forms.{is_white}
use Rattle.mos_fields.specs.Names.{is_name}
use Rattle.mos_fields.specs.Raw.{end_text, ends_with, is_space}
use Rattle.mos_scanner.specs.References.{is_ascii}
use Rattle.mos_fields.proofs.CharacterLemmas.{chars_of-pair, chars_of-unpaired}
use Rattle.mos_scanner.proofs.PartLemmas.{name_is_ascii}

-- ---- units and characters

pair_not_space : (u v : ℕ) → is_space (pair_char u v) ≡ false
pair_not_space u v = grind (arith, nat_tests)

high_not_space : (u : ℕ) → is_high u ≡ true → is_space u ≡ false
high_not_space u h = grind (arith, nat_tests)

pub white_chars : (us : List ℕ) → is_white (chars_of us) ≡ is_white us
unfolding chars_of
white_chars [] = refl
white_chars (u ∷ []) = refl
white_chars (u ∷ v ∷ us) = go (white_chars (v ∷ us)) (is_high u && is_low v) refl
  where
    go : is_white (chars_of (v ∷ us)) ≡ is_white (v ∷ us) → (b : Bool) → (is_high u && is_low v) ≡ b → is_white (chars_of (u ∷ v ∷ us)) ≡ is_white (u ∷ v ∷ us)
    go r true e =
        let p = and_parts (is_high u) (is_low v) e in
        ap is_white (chars_of-pair u v us p.0 p.1)
        ∙ (ap (λ z. z && is_white (chars_of us)) (pair_not_space u v) ∙ sym (ap (λ z. z && is_white (v ∷ us)) (high_not_space u p.0)))
    go r false e = ap is_white (chars_of-unpaired u v us e) ∙ ap (λ z. is_space u && z) r

ascii_not_pair : (a u v : ℕ) → is_ascii a ≡ true → (a == pair_char u v) ≡ false
ascii_not_pair a u v h = ne_eqb a (pair_char u v) (λ e. let l = ltb-true a 128 h in omega (arith, l, e))

ascii_not_high : (a u : ℕ) → is_ascii a ≡ true → is_high u ≡ true → (a == u) ≡ false
ascii_not_high a u h i = grind (arith, nat_tests)

ascii_not_low : (a u : ℕ) → is_ascii a ≡ true → is_low u ≡ true → (a == u) ≡ false
ascii_not_low a u h i = grind (arith, nat_tests)

differs : (a u : ℕ) (x y : Text) → (a == u) ≡ false → same (a ∷ x) (u ∷ y) ≡ false
differs a u x y e = ap (λ z. z && same x y) e

same_chars : (e us : List ℕ) → list_all is_ascii e ≡ true → same e (chars_of us) ≡ same e us
unfolding chars_of
same_chars e [] h = refl
same_chars e (u ∷ []) h = refl
same_chars [] (u ∷ v ∷ us) h = empty (is_high u && is_low v)
  where
    empty : (b : Bool) → same [] (cond b (pair_char u v ∷ chars_of us) (u ∷ chars_of (v ∷ us))) ≡ false
    empty true = refl
    empty false = refl
same_chars (a ∷ e) (u ∷ v ∷ us) h = go (same_chars e (v ∷ us) (and_parts (is_ascii a) (list_all is_ascii e) h).1) (is_high u && is_low v) refl
  where
    go : same e (chars_of (v ∷ us)) ≡ same e (v ∷ us) → (b : Bool) → (is_high u && is_low v) ≡ b → same (a ∷ e) (chars_of (u ∷ v ∷ us)) ≡ same (a ∷ e) (u ∷ v ∷ us)
    go r true p =
        let q = and_parts (is_high u) (is_low v) p in
        let i = (and_parts (is_ascii a) (list_all is_ascii e) h).0 in
        ap (same (a ∷ e)) (chars_of-pair u v us q.0 q.1) ∙ (differs a (pair_char u v) e (chars_of us) (ascii_not_pair a u v i) ∙ sym (differs a u e (v ∷ us) (ascii_not_high a u i q.0)))
    go r false p = ap (same (a ∷ e)) (chars_of-unpaired u v us p) ∙ ap (λ z. (a == u) && z) r

-- ASCII at the end of characters is that at the end of their units
pub ends_chars : (a : ℕ) (e us : List ℕ) → list_all is_ascii (a ∷ e) ≡ true → ends_with (a ∷ e) (chars_of us) ≡ ends_with (a ∷ e) us
unfolding chars_of
ends_chars a e [] h = refl
ends_chars a e (u ∷ []) h = refl
ends_chars a e (u ∷ v ∷ us) h = go (ends_chars a e us h) (ends_chars a e (v ∷ us) h) (is_high u && is_low v) refl
  where
    i : is_ascii a ≡ true
    i = (and_parts (is_ascii a) (list_all is_ascii e) h).0

    go : ends_with (a ∷ e) (chars_of us) ≡ ends_with (a ∷ e) us → ends_with (a ∷ e) (chars_of (v ∷ us)) ≡ ends_with (a ∷ e) (v ∷ us) → (b : Bool) → (is_high u && is_low v) ≡ b → ends_with (a ∷ e) (chars_of (u ∷ v ∷ us)) ≡ ends_with (a ∷ e) (u ∷ v ∷ us)
    go r s true p =
        let q = and_parts (is_high u) (is_low v) p in
        ap (ends_with (a ∷ e)) (chars_of-pair u v us q.0 q.1)
        ∙ (ap (λ z. cond z true (ends_with (a ∷ e) (chars_of us))) (differs a (pair_char u v) e (chars_of us) (ascii_not_pair a u v i))
        ∙ (r
        ∙ (sym (ap (λ z. cond z true (ends_with (a ∷ e) us)) (differs a v e us (ascii_not_low a v i q.1)))
        ∙ sym (ap (λ z. cond z true (ends_with (a ∷ e) (v ∷ us))) (differs a u e (v ∷ us) (ascii_not_high a u i q.0))))))
    go r s false p =
        ap (ends_with (a ∷ e)) (chars_of-unpaired u v us p)
        ∙ (ap (λ z. cond ((a == u) && z) true (ends_with (a ∷ e) (chars_of (v ∷ us)))) (same_chars e (v ∷ us) (and_parts (is_ascii a) (list_all is_ascii e) h).1)
        ∙ ap (λ z. cond (same (a ∷ e) (u ∷ v ∷ us)) true z) s)

-- ---- ends

same_is : (x y : Text) → same x y ≡ true → x ≡ y
same_is [] [] e = refl
same_is [] (y ∷ ys) e = absurd cc
same_is (x ∷ xs) [] e = absurd cc
same_is (x ∷ xs) (y ∷ ys) e = let p = and_parts (x == y) (same xs ys) e in
    ap (λ z. z ∷ xs) (eqb-true x y p.0) ∙ ap (λ z. y ∷ z) (same_is xs ys p.1)

is_same : (x : Text) → same x x ≡ true
is_same [] = refl
is_same (x ∷ xs) = and_from (x == x) (same xs xs) (eq-eqb x x refl) (is_same xs)

pub ends_true : (e p : Text) → ends_with e (p ++ e) ≡ true
ends_true [] [] = refl
ends_true (a ∷ e) [] = ap (λ z. cond z true (ends_with (a ∷ e) e)) (is_same (a ∷ e))
ends_true e (c ∷ p) = go (ends_true e p) (same e (c ∷ (p ++ e)))
  where
    go : ends_with e (p ++ e) ≡ true → (b : Bool) → cond b true (ends_with e (p ++ e)) ≡ true
    go r true = refl
    go r false = r

pub ends_false : (e us : Text) → ((p : Text) → us ≡ p ++ e → ⊥) → ends_with e us ≡ false
ends_false e [] n = go (same e []) refl
  where
    go : (b : Bool) → same e [] ≡ b → same e [] ≡ false
    go false h = h
    go true h = absurd (n [] (sym (same_is e [] h)))
ends_false e (c ∷ us) n = go (ends_false e us (λ p i. n (c ∷ p) (ap (λ z. c ∷ z) i))) (same e (c ∷ us)) refl
  where
    go : ends_with e us ≡ false → (b : Bool) → same e (c ∷ us) ≡ b → cond (same e (c ∷ us)) true (ends_with e us) ≡ false
    go r true h = absurd (n [] (sym (same_is e (c ∷ us) h)))
    go r false h = ap (λ z. cond z true (ends_with e us)) h ∙ r

-- ---- end tags

end_is_ascii : (n : Text) → is_name n ≡ true → list_all is_ascii (end_text n) ≡ true
end_is_ascii n h = list_all-append is_ascii n (62 ∷ []) ∙ and_from (list_all is_ascii n) true (name_is_ascii n h) refl

pub ends_units : (n us : Text) → is_name n ≡ true → ends_with (end_text n) (chars_of us) ≡ ends_with (end_text n) us
ends_units n us h = ends_chars 60 (47 ∷ (n ++ 62 ∷ [])) us (end_is_ascii n h)

-- what an end tag stands behind, part by part

whole_end : (n p : Text) → p ++ end_text n ≡ ((p ++ 60 ∷ 47 ∷ []) ++ n) ++ 62 ∷ []
whole_end n p = ap (λ z. p ++ z) (let e : end_text n ≡ (60 ∷ 47 ∷ []) ++ (n ++ 62 ∷ []) = refl in e) ∙ (sym (append_assoc p (60 ∷ 47 ∷ []) (n ++ 62 ∷ [])) ∙ sym (append_assoc (p ++ 60 ∷ 47 ∷ []) n (62 ∷ [])))

pub end_found : (n us a b d : Text) → us ≡ a ++ 62 ∷ [] → a ≡ b ++ n → b ≡ d ++ 60 ∷ 47 ∷ [] → ends_with (end_text n) us ≡ true
end_found n us a b d e f g =
    ap (ends_with (end_text n)) (e ∙ (ap (λ z. z ++ 62 ∷ []) (f ∙ ap (λ z. z ++ n) g) ∙ sym (whole_end n d))) ∙ ends_true (end_text n) d

pub end_without_mark : (n us : Text) → ((a : Text) → us ≡ a ++ 62 ∷ [] → ⊥) → ends_with (end_text n) us ≡ false
end_without_mark n us h = ends_false (end_text n) us (λ p i. h ((p ++ 60 ∷ 47 ∷ []) ++ n) (i ∙ whole_end n p))

pub end_without_name : (n us a : Text) → us ≡ a ++ 62 ∷ [] → ((b : Text) → a ≡ b ++ n → ⊥) → ends_with (end_text n) us ≡ false
end_without_name n us a e h = ends_false (end_text n) us (λ p i. h (p ++ 60 ∷ 47 ∷ []) (append_cancel_right a ((p ++ 60 ∷ 47 ∷ []) ++ n) (62 ∷ []) (sym e ∙ (i ∙ whole_end n p))))

pub end_without_begin : (n us a b : Text) → us ≡ a ++ 62 ∷ [] → a ≡ b ++ n → ((d : Text) → b ≡ d ++ 60 ∷ 47 ∷ [] → ⊥) → ends_with (end_text n) us ≡ false
end_without_begin n us a b e f h = ends_false (end_text n) us (λ p i.
    h p (append_cancel_right b (p ++ 60 ∷ 47 ∷ []) n (sym f ∙ append_cancel_right a ((p ++ 60 ∷ 47 ∷ []) ++ n) (62 ∷ []) (sym e ∙ (i ∙ whole_end n p)))))
