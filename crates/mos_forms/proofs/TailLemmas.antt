-- Where the rest of a raw element ends, in characters and in code units.
use Rattle.std.proofs.Common.{◌≡◌, ℕ, ◌+◌, ◌-◌, ◌<◌, ◌≤◌, zero, suc, Bool, true, false, cond, ◌&&◌, eqb, length, get_or, take, drop, List, [], ◌∷◌, ◌++◌, refl, sym, ap, ◌∙◌, subst, arith, append_assoc, eq-eqb, ne_eqb, length-drop}
use Rattle.std.specs.Prelude.{◌==◌}
use Rattle.std.specs.List.{list_all}
use Rattle.std.proofs.lemmas.Bool.{and_parts, and_from, eqb-true, lt-ltb}
use Rattle.std.proofs.lemmas.Bool.Decides.{nat_tests}
use Rattle.std.proofs.lemmas.List.{append-nil, take_more, drop_more}
use Rattle.std.proofs.lemmas.List.Folds.{list_all-append}
use Rattle.mos_fields.specs.Characters.{Text, IsUtf16, chars_of, are_allowed, is_high, is_low, pair_char}
use Rattle.mos_fields.specs.Fields.{same}
use Rattle.mos_fields.specs.Names.{is_empty, is_name, named, is_start, is_further, may_grow}
use Rattle.mos_fields.specs.Raw.{end_text, ends_with, is_tail, tail_from}
use Rattle.mos_fields.proofs.CharacterLemmas.{chars_of-nil, chars_of-lone, chars_of-pair, chars_of-unpaired, allowed_not_high, head_allowed}
use Rattle.mos_forms.specs.Tails.{IsNoEnd, tail_units}
use Rattle.mos_forms.proofs.NameLemmas.{is_ascii, ascii_not_pair, ascii_not_high, differs, same_chars}
use Rattle.mos_forms.proofs.EndLemmas.{end_without_mark, end_without_slash}

-- ---- names

start_further : (c : ℕ) → is_start c ≡ true → is_further c ≡ true
start_further c e = grind (arith, nat_tests)

further_small : (c : ℕ) → is_further c ≡ true → c < 128
further_small c e = grind (arith, nat_tests)

pub grow_further : (n : Text) (c : ℕ) → may_grow n c ≡ true → is_further c ≡ true
unfolding may_grow
grow_further [] c e = start_further c e
grow_further (d ∷ n) c e = (and_parts _ _ e).0

if_parts : (a b : Bool) → cond a b false ≡ true → (a ≡ true) × (b ≡ true)
if_parts true b h = (refl, h)
if_parts false b h = absurd cc

-- each character of a name is one of names
named_further : (p n : Text) → named p n ≡ true → list_all is_further n ≡ true
named_further p [] e = refl
named_further p (d ∷ n) e =
    let h = if_parts (may_grow p d) (named (p ++ d ∷ []) n) e in
    and_from (is_further d) (list_all is_further n) (grow_further p d h.0) (named_further (p ++ d ∷ []) n h.1)

further_ascii : (n : Text) → list_all is_further n ≡ true → list_all is_ascii n ≡ true
further_ascii [] e = refl
further_ascii (c ∷ n) e =
    let h = and_parts (is_further c) (list_all is_further n) e in
    and_from (is_ascii c) (list_all is_ascii n) (lt-ltb c 128 (further_small c h.0)) (further_ascii n h.1)

pub name_is_ascii : (n : Text) → is_name n ≡ true → list_all is_ascii n ≡ true
name_is_ascii n e = further_ascii n (named_further [] n e)

-- ---- ends

ascii_not_low : (a u : ℕ) → is_ascii a ≡ true → is_low u ≡ true → (a == u) ≡ false
ascii_not_low a u h i = grind (arith, nat_tests)

-- ASCII at the end of characters is that at the end of their units
pub ends_chars : (a : ℕ) (e us : List ℕ) → list_all is_ascii (a ∷ e) ≡ true → ends_with (a ∷ e) (chars_of us) ≡ ends_with (a ∷ e) us
unfolding chars_of
ends_chars a e [] h = refl
ends_chars a e (u ∷ []) h = refl
ends_chars a e (u ∷ v ∷ us) h = go (ends_chars a e us h) (ends_chars a e (v ∷ us) h) (is_high u && is_low v) refl
  where
    i : is_ascii a ≡ true
    i = (and_parts (is_ascii a) (list_all is_ascii e) h).0

    go : ends_with (a ∷ e) (chars_of us) ≡ ends_with (a ∷ e) us → ends_with (a ∷ e) (chars_of (v ∷ us)) ≡ ends_with (a ∷ e) (v ∷ us) → (b : Bool) → (is_high u && is_low v) ≡ b → ends_with (a ∷ e) (chars_of (u ∷ v ∷ us)) ≡ ends_with (a ∷ e) (u ∷ v ∷ us)
    go r s true p =
        let q = and_parts (is_high u) (is_low v) p in
        ap (ends_with (a ∷ e)) (chars_of-pair u v us q.0 q.1)
        ∙ (ap (λ z. cond z true (ends_with (a ∷ e) (chars_of us))) (differs a (pair_char u v) e (chars_of us) (ascii_not_pair a u v i))
        ∙ (r
        ∙ (sym (ap (λ z. cond z true (ends_with (a ∷ e) us)) (differs a v e us (ascii_not_low a v i q.1)))
        ∙ sym (ap (λ z. cond z true (ends_with (a ∷ e) (v ∷ us))) (differs a u e (v ∷ us) (ascii_not_high a u i q.0))))))
    go r s false p =
        ap (ends_with (a ∷ e)) (chars_of-unpaired u v us p)
        ∙ (ap (λ z. cond ((a == u) && z) true (ends_with (a ∷ e) (chars_of (v ∷ us)))) (same_chars e (v ∷ us) (and_parts (is_ascii a) (list_all is_ascii e) h).1)
        ∙ ap (λ z. cond (same (a ∷ e) (u ∷ v ∷ us)) true z) s)

end_is_ascii : (n : Text) → is_name n ≡ true → list_all is_ascii (end_text n) ≡ true
end_is_ascii n h = list_all-append is_ascii n (62 ∷ []) ∙ and_from (list_all is_ascii n) true (name_is_ascii n h) refl

pub ends_units : (n us : Text) → is_name n ≡ true → ends_with (end_text n) (chars_of us) ≡ ends_with (end_text n) us
ends_units n us h = ends_chars 60 (47 ∷ (n ++ 62 ∷ [])) us (end_is_ascii n h)

-- ---- rests

-- a front in units ends as one in characters does, whatever stands behind them
record SameEnds (e front units : Text) : Type 0 where
  same : (us : List ℕ) → ends_with e (front ++ chars_of us) ≡ ends_with e (units ++ us)

high_not_mark : (u : ℕ) → is_high u ≡ true → u ≡ 62 → ⊥
high_not_mark u h e = let f : is_high 62 ≡ true = subst (λ z. is_high z ≡ true) e h in absurd (cc)

last_is : (a b : Text) (u v : ℕ) → a ++ u ∷ [] ≡ b ++ v ∷ [] → u ≡ v
last_is [] [] u v e = cc
last_is [] (d ∷ []) u v e = absurd (cc)
last_is [] (d ∷ c ∷ b) u v e = absurd (cc)
last_is (c ∷ []) [] u v e = absurd (cc)
last_is (c ∷ d ∷ a) [] u v e = absurd (cc)
last_is (c ∷ a) (d ∷ b) u v e = last_is a b u v (let t : a ++ u ∷ [] ≡ b ++ v ∷ [] = cc in t)

no_end_at_high : (n units : Text) (u : ℕ) → is_high u ≡ true → ends_with (end_text n) (units ++ u ∷ []) ≡ false
no_end_at_high n units u h = end_without_mark n (units ++ u ∷ []) (λ a e. high_not_mark u h (last_is units a u 62 e))

empty_chars : (us : List ℕ) → is_empty (chars_of us) ≡ is_empty us
unfolding chars_of
empty_chars [] = refl
empty_chars (u ∷ []) = refl
empty_chars (u ∷ v ∷ us) = go (is_high u && is_low v)
  where
    go : (b : Bool) → is_empty (cond b (pair_char u v ∷ chars_of us) (u ∷ chars_of (v ∷ us))) ≡ false
    go true = refl
    go false = refl

lone_ends : (e front units : Text) (u : ℕ) → is_high u ≡ false → SameEnds e front units → SameEnds e (front ++ u ∷ []) (units ++ u ∷ [])
lone_ends e front units u h s = record {
  same = λ us. ap (ends_with e) (append_assoc front (u ∷ []) (chars_of us) ∙ ap (λ z. front ++ z) (sym (chars_of-lone u us h))) ∙ (s.same (u ∷ us) ∙ ap (ends_with e) (sym (append_assoc units (u ∷ []) us)));
}

pair_ends : (e front units : Text) (u v : ℕ) → is_high u ≡ true → is_low v ≡ true → SameEnds e front units → SameEnds e (front ++ pair_char u v ∷ []) ((units ++ u ∷ []) ++ v ∷ [])
pair_ends e front units u v h l s = record {
  same = λ us. ap (ends_with e) (append_assoc front (pair_char u v ∷ []) (chars_of us) ∙ ap (λ z. front ++ z) (sym (chars_of-pair u v us h l))) ∙ (s.same (u ∷ v ∷ us)
      ∙ ap (ends_with e) (sym (append_assoc units (u ∷ []) (v ∷ us)) ∙ sym (append_assoc (units ++ u ∷ []) (v ∷ []) us)));
}

ends_at : (e front units : Text) → SameEnds e front units → ends_with e front ≡ ends_with e units
ends_at e front units s = ap (ends_with e) (sym (append-nil front) ∙ ap (λ z. front ++ z) (sym chars_of-nil)) ∙ (s.same [] ∙ ap (ends_with e) (append-nil units))

lone_rest : (n front units : Text) (u : ℕ) (us : List ℕ) → is_high u ≡ false → SameEnds (end_text n) front units
    → (SameEnds (end_text n) (front ++ u ∷ []) (units ++ u ∷ []) → tail_from n (front ++ u ∷ []) (chars_of us) ≡ tail_units n (units ++ u ∷ []) us)
    → tail_from n front (u ∷ chars_of us) ≡ tail_units n units (u ∷ us)
lone_rest n front units u us h s next =
    let t = lone_ends (end_text n) front units u h s in
    ap (λ b. cond b (is_empty (chars_of us)) (tail_from n (front ++ u ∷ []) (chars_of us))) (ends_at (end_text n) (front ++ u ∷ []) (units ++ u ∷ []) t)
    ∙ (ap (λ b. cond (ends_with (end_text n) (units ++ u ∷ [])) b (tail_from n (front ++ u ∷ []) (chars_of us))) (empty_chars us)
    ∙ ap (cond (ends_with (end_text n) (units ++ u ∷ [])) (is_empty us)) (next t))

pair_rest : (n front units : Text) (u v : ℕ) (us : List ℕ) → is_high u ≡ true → is_low v ≡ true → SameEnds (end_text n) front units
    → (SameEnds (end_text n) (front ++ pair_char u v ∷ []) ((units ++ u ∷ []) ++ v ∷ []) → tail_from n (front ++ pair_char u v ∷ []) (chars_of us) ≡ tail_units n ((units ++ u ∷ []) ++ v ∷ []) us)
    → tail_from n front (pair_char u v ∷ chars_of us) ≡ tail_units n units (u ∷ v ∷ us)
pair_rest n front units u v us h l s next =
    let t = pair_ends (end_text n) front units u v h l s in
    ap (λ b. cond b (is_empty (chars_of us)) (tail_from n (front ++ pair_char u v ∷ []) (chars_of us))) (ends_at (end_text n) (front ++ pair_char u v ∷ []) ((units ++ u ∷ []) ++ v ∷ []) t)
    ∙ (ap (λ b. cond (ends_with (end_text n) ((units ++ u ∷ []) ++ v ∷ [])) b (tail_from n (front ++ pair_char u v ∷ []) (chars_of us))) (empty_chars us)
    ∙ (ap (cond (ends_with (end_text n) ((units ++ u ∷ []) ++ v ∷ [])) (is_empty us)) (next t)
    ∙ sym (ap (λ b. cond b (is_empty (v ∷ us)) (tail_units n (units ++ u ∷ []) (v ∷ us))) (no_end_at_high n units u h))))

rest_by_units : (n front units : Text) (us : List ℕ) → are_allowed (chars_of us) ≡ true → SameEnds (end_text n) front units → tail_from n front (chars_of us) ≡ tail_units n units us
unfolding chars_of
rest_by_units n front units [] a s = refl
rest_by_units n front units (u ∷ []) a s = lone_rest n front units u [] (allowed_not_high u (head_allowed u [] a).0) s (λ t. refl)
rest_by_units n front units (u ∷ v ∷ us) a s = go (is_high u && is_low v) refl (λ p r t. rest_by_units n (front ++ pair_char u v ∷ []) ((units ++ u ∷ []) ++ v ∷ []) us r t) (λ r t. rest_by_units n (front ++ u ∷ []) (units ++ u ∷ []) (v ∷ us) r t)
  where
    go : (b : Bool) → (is_high u && is_low v) ≡ b
        → (Unit {0} → are_allowed (chars_of us) ≡ true → SameEnds (end_text n) (front ++ pair_char u v ∷ []) ((units ++ u ∷ []) ++ v ∷ []) → tail_from n (front ++ pair_char u v ∷ []) (chars_of us) ≡ tail_units n ((units ++ u ∷ []) ++ v ∷ []) us)
        → (are_allowed (chars_of (v ∷ us)) ≡ true → SameEnds (end_text n) (front ++ u ∷ []) (units ++ u ∷ []) → tail_from n (front ++ u ∷ []) (chars_of (v ∷ us)) ≡ tail_units n (units ++ u ∷ []) (v ∷ us))
        → tail_from n front (chars_of (u ∷ v ∷ us)) ≡ tail_units n units (u ∷ v ∷ us)
    go true b f g =
        let p = and_parts (is_high u) (is_low v) b in
        let c = chars_of-pair u v us p.0 p.1 in
        let r = head_allowed (pair_char u v) (chars_of us) (sym (ap are_allowed c) ∙ a) in
        ap (tail_from n front) c ∙ pair_rest n front units u v us p.0 p.1 s (f tt r.1)
    go false b f g =
        let c = chars_of-unpaired u v us b in
        let r = head_allowed u (chars_of (v ∷ us)) (sym (ap are_allowed c) ∙ a) in
        ap (tail_from n front) c ∙ lone_rest n front units u (v ∷ us) (allowed_not_high u r.0) s (g r.1)

pub tail_by_units : (n us : Text) → is_name n ≡ true → IsUtf16 us → tail_units n [] us ≡ is_tail n (chars_of us)
unfolding is_tail
tail_by_units n us h w = sym (rest_by_units n [] [] us w.allowed (record { same = λ vs. ends_units n vs h }))

-- ---- unit after unit

pub rest_at : (n us : Text) (i : ℕ) → i < length us
    → tail_units n (take i us) (drop i us) ≡ cond (ends_with (end_text n) (take (i + 1) us)) (is_empty (drop (i + 1) us)) (tail_units n (take (i + 1) us) (drop (i + 1) us))
rest_at n us i h = ap (tail_units n (take i us)) (drop_more us i 0 h)
    ∙ ap (λ z. cond (ends_with (end_text n) z) (is_empty (drop (i + 1) us)) (tail_units n z (drop (i + 1) us))) (sym (take_more us i 0 h))

nothing_behind : (x : Text) (k m : ℕ) → length x + k ≡ m → eqb k m ≡ is_empty x
nothing_behind [] k m h = eq-eqb k m (omega arith)
nothing_behind (c ∷ x) k m h = ne_eqb k m (λ e. omega arith)

pub last_place : (us : Text) (i : ℕ) → i < length us → eqb (i + 1) (length us) ≡ is_empty (drop (i + 1) us)
last_place us i h = nothing_behind (drop (i + 1) us) (i + 1) (length us) (let l = length-drop (i + 1) us in omega (arith, l, h))

pub ends_here : (n us : Text) (i : ℕ) → i < length us → ends_with (end_text n) (take (i + 1) us) ≡ true → tail_units n (take i us) (drop i us) ≡ eqb (i + 1) (length us)
ends_here n us i h e = rest_at n us i h ∙ (ap (λ b. cond b (is_empty (drop (i + 1) us)) (tail_units n (take (i + 1) us) (drop (i + 1) us))) e ∙ sym (last_place us i h))

pub goes_on : (n us : Text) (i : ℕ) → i < length us → ends_with (end_text n) (take (i + 1) us) ≡ false → tail_units n (take i us) (drop i us) ≡ tail_units n (take (i + 1) us) (drop (i + 1) us)
goes_on n us i h e = rest_at n us i h ∙ ap (λ b. cond b (is_empty (drop (i + 1) us)) (tail_units n (take (i + 1) us) (drop (i + 1) us))) e

-- ---- a text that ends otherwise than with `>`

pub no_mark_at : (n us : Text) (i : ℕ) → i < length us → (get_or us i 0 ≡ 62 → ⊥) → ends_with (end_text n) (take (i + 1) us) ≡ false
no_mark_at n us i h d = end_without_mark n (take (i + 1) us) (λ a e. d (last_is (take i us) a (get_or us i 0) 62 (sym (take_more us i 0 h) ∙ e)))

-- ---- places at which no end tag ends

no_end_at : (n us : Text) (i : ℕ) → i < length us → (length n < i → IsNoEnd us (length n + 1) i) → ends_with (end_text n) (take (i + 1) us) ≡ false
no_end_at n us i h d = go (get_or us i 0 == 62) refl
  where
    place : i - length n - 1 ≡ i - (length n + 1)
    place = omega arith

    go : (b : Bool) → (get_or us i 0 == 62) ≡ b → ends_with (end_text n) (take (i + 1) us) ≡ false
    go true e = end_without_slash n us i h (λ l s. d l (eqb-true (get_or us i 0) 62 e) (ap (λ k. get_or us k 0) (sym place) ∙ s))
    go false e = no_mark_at n us i h (λ m. let t : false ≡ true = sym e ∙ eq-eqb (get_or us i 0) 62 m in absurd (cc))

skipped : (n us : Text) (i m : ℕ) → i + m ≤ length us → ((k : ℕ) → i ≤ k → k < i + m → length n < k → IsNoEnd us (length n + 1) k) → tail_units n (take i us) (drop i us) ≡ tail_units n (take (i + m) us) (drop (i + m) us)
skipped n us i zero h d = ap (λ j. tail_units n (take j us) (drop j us)) (omega arith)
skipped n us i (suc m) h d =
    goes_on n us i (omega (arith, h)) (no_end_at n us i (omega (arith, h)) (d i (omega arith) (omega arith)))
    ∙ (skipped n us (i + 1) m (omega (arith, h)) (λ k a b. d k (omega (arith, a)) (omega (arith, b)))
    ∙ ap (λ j. tail_units n (take j us) (drop j us)) (omega arith))

pub ends_skipped : (n us : Text) (i j : ℕ) → i ≤ j → j ≤ length us → ((k : ℕ) → i ≤ k → k < j → length n < k → IsNoEnd us (length n + 1) k) → tail_units n (take i us) (drop i us) ≡ tail_units n (take j us) (drop j us)
ends_skipped n us i j a b d =
    skipped n us i (j - i) (omega (arith, a, b)) (λ k c e. d k c (omega (arith, a, e)))
    ∙ ap (λ m. tail_units n (take m us) (drop m us)) (omega (arith, a))

-- what a walk over the places knows in front of `k`
abbrev pub NoneFound : Text → ℕ → ℕ → ℕ → Bool → Type 0
NoneFound us back from k found = found ≡ false → (j : ℕ) → from ≤ j → j < k → IsNoEnd us back j
