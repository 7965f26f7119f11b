-- The code units of a raw element begin with `<` and its name, and go on with what can't belong to a name.
use Rattle.std.proofs.Common.{◌≡◌, ℕ, suc, ◌+◌, ◌≤◌, Bool, true, false, cond, ◌&&◌, List, [], ◌∷◌, ◌++◌, length, take, drop, refl, sym, ap, ◌∙◌, subst, arith, Decides}
use Rattle.std.specs.Char.Escape.{encode_utf16}
use Rattle.std.specs.Prelude.{◌==◌, nat_lt}
use Rattle.std.proofs.lemmas.Bool.{and_parts}
use Rattle.std.proofs.lemmas.Bool.Decides.{nat_tests}
use Rattle.mos_fields.specs.Characters.{Text, units_of}
use Rattle.mos_fields.specs.Elements.{name_count}
use Rattle.mos_fields.specs.Fields.{same}
use Rattle.mos_fields.specs.Names.{is_start, is_further, may_grow, named, is_name}
use Rattle.mos_fields.specs.Raw.{is_space, TagText, ends_start, ends_empty, tag_space, IsRaw, raw_empty, raw_whole, IsRawElement}
use Rattle.mos_fields.proofs.WordLemmas.{same_is, same_self}

-- ---- the characters of a name

abbrev AllFurther : Text → Type 0
AllFurther [] = Unit {0}
AllFurther (c ∷ cs) = (is_further c ≡ true) × AllFurther cs

start_further : (c : ℕ) → is_start c ≡ true → is_further c ≡ true
start_further c h = rw h refl

grown : (n : Text) (c : ℕ) → may_grow n c ≡ true → is_further c ≡ true
unfolding may_grow
grown [] c h = start_further c h
grown (d ∷ n) c h = (and_parts (is_further c) _ h).0

if_true : (a b : Bool) → cond a b false ≡ true → (a ≡ true) × (b ≡ true)
if_true true b h = (refl, h)
if_true false b h = absurd cc

all_further : (f x : Text) → named f x ≡ true → AllFurther x
all_further f [] h = tt
all_further f (c ∷ cs) h = let p = if_true (may_grow f c) _ h in (grown f c p.0, all_further (f ++ c ∷ []) cs p.1)

-- ---- code units

one_unit : (c : ℕ) → nat_lt c 65536 ≡ true → encode_utf16 c ≡ c ∷ []
one_unit c h = rw h refl

further_small : (c : ℕ) → is_further c ≡ true → nat_lt c 65536 ≡ true
further_small c h = grind (arith, nat_tests)

space_small : (c : ℕ) → is_space c ≡ true → nat_lt c 65536 ≡ true
space_small c h = grind (arith, nat_tests)

space_further : (c : ℕ) → is_space c ≡ true → is_further c ≡ false
space_further c h = grind (arith, nat_tests)

units_front : (n r : Text) → AllFurther n → units_of (n ++ r) ≡ n ++ units_of r
units_front [] r f = refl
units_front (c ∷ n) r f = ap (λ z. z ++ units_of (n ++ r)) (one_unit c (further_small c f.0)) ∙ ap (λ z. c ∷ z) (units_front n r f.1)

-- ---- what stands behind a name

behind_name : (e : Bool) (x y : Text) → TagText false e x y → name_count (units_of x) ≡ 0
behind_name e x y ends_start = refl
behind_name e x y ends_empty = refl
behind_name e x y (tag_space {c = c} {x = z} s t) =
    ap (λ u. name_count (u ++ units_of z)) (one_unit c (space_small c s)) ∙ ap (λ b. cond b (1 + name_count (units_of z)) 0) (space_further c s)

count_name : (n y : Text) → AllFurther n → name_count y ≡ 0 → name_count (n ++ y) ≡ length n
count_name [] y f s = s
count_name (c ∷ n) y f s = let h : 1 + name_count (n ++ y) ≡ suc (length n) = omega (arith, count_name n y f.1 s) in rw f.0 h

take_name : (n y : Text) → take (length n) (n ++ y) ≡ n
take_name [] y = refl
take_name (c ∷ n) y = ap (λ z. c ∷ z) (take_name n y)

-- ---- raw elements

-- the name that stands behind the first code unit
abbrev pub name_inside : List ℕ → Text
name_inside us = take (name_count (drop 1 us)) (drop 1 us)

front_name : (n r : Text) → is_name n ≡ true → name_count (units_of r) ≡ 0 → name_inside (units_of (60 ∷ (n ++ r))) ≡ n
front_name n r h z =
    let f : AllFurther n = all_further [] n h in
    let u : drop 1 (units_of (60 ∷ (n ++ r))) ≡ n ++ units_of r = units_front n r f in
    ap (λ us. take (name_count us) us) u ∙ (ap (λ k. take k (n ++ units_of r)) (count_name n (units_of r) f z) ∙ take_name n (units_of r))

pub name_is : (n x : Text) → IsRaw n x → name_inside (units_of x) ≡ n
name_is n x (raw_empty {x = r} h t) = front_name n r h (behind_name true r [] t)
name_is n x (raw_whole {x = r} {y = y} h t l) = front_name n r h (behind_name false r y t)

pub raw_some : (x : Text) → IsRawElement x → 1 ≤ length (units_of x)
raw_some x r = go r.0 x r.1
  where
    go : (n z : Text) → IsRaw n z → 1 ≤ length (units_of z)
    go n z (raw_empty {x = y} h t) = let k : length (units_of (60 ∷ (n ++ y))) ≡ suc (length (units_of (n ++ y))) = refl in omega arith
    go n z (raw_whole {x = y} h t l) = let k : length (units_of (60 ∷ (n ++ y))) ≡ suc (length (units_of (n ++ y))) = refl in omega arith

inside_is : (x : Text) (us b : List ℕ) (k : ℕ) → us ≡ units_of x → b ≡ drop 1 us → k ≡ name_count b → name_inside (units_of x) ≡ take k b
inside_is x us b k e d f =
    let g : drop 1 (units_of x) ≡ b = ap (λ z. drop 1 z) (sym e) ∙ sym d in
    ap (λ z. take (name_count z) z) g ∙ ap (λ j. take j b) (sym f)

pub raw_named : (x : Text) (us b : List ℕ) (k : ℕ) → us ≡ units_of x → b ≡ drop 1 us → k ≡ name_count b → IsRawElement x → IsRaw (take k b) x
raw_named x us b k e d f r =
    let P : Text → Type 0 = λ n. IsRaw n x in
    subst P (sym (name_is r.0 x r.1) ∙ inside_is x us b k e d f) r.1

pub raw_only : (x : Text) (us b : List ℕ) (k : ℕ) → us ≡ units_of x → b ≡ drop 1 us → k ≡ name_count b → (n : Text) → IsRaw n x → n ≡ take k b
raw_only x us b k e d f n h = sym (name_is n x h) ∙ inside_is x us b k e d f

-- ---- comparing names

pub is_named : (b : Bool) (w n x : Text) → b ≡ same n w → IsRaw n x → ((m : Text) → IsRaw m x → m ≡ n) → Decides b (IsRaw w x)
is_named b w n x e h only =
    let P : Text → Type 0 = λ m. IsRaw m x in (
      λ t. subst P (same_is n w (sym e ∙ t)) h,
      λ r. e ∙ (ap (λ m. same n m) (only w r) ∙ same_self n),
    )

pub same_turned : (x y : Text) → same x y ≡ same y x
same_turned [] [] = refl
same_turned [] (d ∷ y) = refl
same_turned (c ∷ x) [] = refl
same_turned (c ∷ x) (d ∷ y) = ap (λ b. b && same x y) (turned c d) ∙ ap (λ b. (d == c) && b) (same_turned x y)
  where
    turned : (a b : ℕ) → (a == b) ≡ (b == a)
    turned a b = grind (arith, nat_tests)

-- a name is its code units
pub name_units : (n : Text) → is_name n ≡ true → units_of n ≡ n
name_units n h = go n (all_further [] n h)
  where
    go : (m : Text) → AllFurther m → units_of m ≡ m
    go [] f = refl
    go (c ∷ m) f = ap (λ z. z ++ units_of m) (one_unit c (further_small c f.0)) ∙ ap (λ z. c ∷ z) (go m f.1)
