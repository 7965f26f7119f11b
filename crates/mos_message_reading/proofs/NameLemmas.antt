-- The name of a raw element is what stands behind its `<` as long as a name can go on.
use Rattle.std.proofs.Common.{◌≡◌, ℕ, zero, suc, ◌+◌, arith, Result, Ok, Err, IfOk, Bool, true, false, cond, [], ◌∷◌, ◌++◌, length, take, None, refl, sym, subst, ap, ◌∙◌}
use Rattle.std.specs.Prelude.{◌&&◌, ◌||◌, ◌==◌, IsOkUnless}
use Rattle.std.proofs.lemmas.Bool.{eqb-true}
use Rattle.mos_fields.specs.Characters.{Text, is_allowed, are_allowed}
use Rattle.mos_fields.specs.Elements.{name_count}
use Rattle.mos_fields.specs.Faults.{Fault, AnswersFault, bad_char_from, text_fault}
use Rattle.mos_fields.specs.declared.fault.FieldFault.{FieldFault}
use Rattle.mos_fields.specs.declared.fault.FieldFault.TheVariants.{NoMemory as out_of_memory}
use Rattle.mos_fields.specs.Names.{is_start, is_further, may_grow, named, is_name}
use Rattle.mos_fields.specs.Raw.{is_space, TagText, ends_start, ends_empty, tag_space, IsRaw, raw_empty, raw_whole, IsRawElement}

both : (a b : Bool) → a && b ≡ true → (a ≡ true) × (b ≡ true)
both true b h = (refl, h)
both false b h = absurd cc

-- ---- allowed characters

allowed_from : (k : ℕ) (x : Text) → are_allowed x ≡ true → bad_char_from k x ≡ None
allowed_from k [] h = refl
allowed_from k (c ∷ cs) h = let p = both (is_allowed c) (are_allowed cs) h in rw p.0 (allowed_from (k + 1) cs p.1)

pub allowed_fine : (x : Text) → are_allowed x ≡ true → text_fault x ≡ None
allowed_fine x h = allowed_from 0 x h

pub allowed_front : (k : ℕ) (x : Text) → are_allowed x ≡ true → are_allowed (take k x) ≡ true
allowed_front zero x h = refl
allowed_front (suc k) [] h = refl
allowed_front (suc k) (c ∷ cs) h = let p = both (is_allowed c) (are_allowed cs) h in rw p.0 (allowed_front k cs p.1)

pub allowed_behind : (c : ℕ) (x : Text) → are_allowed (c ∷ x) ≡ true → are_allowed x ≡ true
allowed_behind c x h = (both (is_allowed c) (are_allowed x) h).1

-- ---- the characters of a name

abbrev AllFurther : Text → Type 0
AllFurther [] = Unit {0}
AllFurther (c ∷ cs) = (is_further c ≡ true) × AllFurther cs

start_further : (c : ℕ) → is_start c ≡ true → is_further c ≡ true
start_further c h = rw h refl

grown : (n : Text) (c : ℕ) → may_grow n c ≡ true → is_further c ≡ true
unfolding may_grow
grown [] c h = start_further c h
grown (d ∷ n) c h = (both (is_further c) _ h).0

if_true : (a b : Bool) → cond a b false ≡ true → (a ≡ true) × (b ≡ true)
if_true true b h = (refl, h)
if_true false b h = absurd cc

all_further : (f x : Text) → named f x ≡ true → AllFurther x
all_further f [] h = tt
all_further f (c ∷ cs) h = let p = if_true (may_grow f c) _ h in (grown f c p.0, all_further (f ++ c ∷ []) cs p.1)

count_name : (n y : Text) → AllFurther n → name_count y ≡ 0 → name_count (n ++ y) ≡ length n
count_name [] y f s = s
count_name (c ∷ n) y f s = let h : 1 + name_count (n ++ y) ≡ suc (length n) = omega (arith, count_name n y f.1 s) in rw f.0 h

take_name : (n y : Text) → take (length n) (n ++ y) ≡ n
take_name [] y = refl
take_name (c ∷ n) y = ap (λ z. c ∷ z) (take_name n y)

-- ---- what stands behind a name

at_space : (c : ℕ) (x : Text) → is_space c ≡ true → name_count (c ∷ x) ≡ 0
at_space c x h = one (c == 32) refl
  where
    four : (b : Bool) → (c == 13) ≡ b → b ≡ true → name_count (c ∷ x) ≡ 0
    four true e h = let P : ℕ → Type 0 = λ z. name_count (z ∷ x) ≡ 0 in subst P (sym (eqb-true c 13 e)) refl
    four false e h = absurd cc

    three : (b : Bool) → (c == 10) ≡ b → b || (c == 13) ≡ true → name_count (c ∷ x) ≡ 0
    three true e h = let P : ℕ → Type 0 = λ z. name_count (z ∷ x) ≡ 0 in subst P (sym (eqb-true c 10 e)) refl
    three false e h = four (c == 13) refl h

    two : (b : Bool) → (c == 9) ≡ b → b || (c == 10) || (c == 13) ≡ true → name_count (c ∷ x) ≡ 0
    two true e h = let P : ℕ → Type 0 = λ z. name_count (z ∷ x) ≡ 0 in subst P (sym (eqb-true c 9 e)) refl
    two false e h = three (c == 10) refl h

    first : (b : Bool) → (c == 32) ≡ b → b || (c == 9) || (c == 10) || (c == 13) ≡ true → name_count (c ∷ x) ≡ 0
    first true e h = let P : ℕ → Type 0 = λ z. name_count (z ∷ x) ≡ 0 in subst P (sym (eqb-true c 32 e)) refl
    first false e h = two (c == 9) refl h

    one : (b : Bool) → (c == 32) ≡ b → name_count (c ∷ x) ≡ 0
    one b e = first (c == 32) refl h

behind_name : (e : Bool) (x y : Text) → TagText false e x y → name_count x ≡ 0
behind_name e x y ends_start = refl
behind_name e x y ends_empty = refl
behind_name e x y (tag_space {c = c} {x = z} s t) = at_space c z s

front_is : (n x : Text) → is_name n ≡ true → name_count x ≡ 0 → take (name_count (n ++ x)) (n ++ x) ≡ n
front_is n x h z = ap (λ k. take k (n ++ x)) (count_name n x (all_further [] n h) z) ∙ take_name n x

-- ---- raw elements

-- the name in front, and the element of that name
pub record Front (c : ℕ) (x : Text) : Type 0 where
  pub named : is_name (take (name_count x) x) ≡ true
  pub element : IsRaw (take (name_count x) x) (c ∷ x)

front_at : (n x : Text) → is_name n ≡ true → name_count x ≡ 0 → IsRaw n (60 ∷ (n ++ x)) → Front 60 (n ++ x)
front_at n x h z r =
    let e : take (name_count (n ++ x)) (n ++ x) ≡ n = front_is n x h z in
    let N : Text → Type 0 = λ m. is_name m ≡ true in
    let R : Text → Type 0 = λ m. IsRaw m (60 ∷ (n ++ x)) in
    record { named = subst N (sym e) h; element = subst R (sym e) r }

front_of : (n : Text) (c : ℕ) (x : Text) → IsRaw n (c ∷ x) → Front c x
front_of n c x (raw_empty {x = y} h t) = front_at n y h (behind_name true y [] t) (raw_empty h t)
front_of n c x (raw_whole {x = y} {y = z} h t l) = front_at n y h (behind_name false y z t) (raw_whole h t l)

pub raw_front : (c : ℕ) (x : Text) → IsRawElement (c ∷ x) → Front c x
raw_front c x r = front_of r.0 c x r.1

-- it begins with `<`
pub raw_mark : (c : ℕ) (x : Text) → IsRawElement (c ∷ x) → c ≡ 60
raw_mark c x r = go r.0 (c ∷ x) r.1 refl
  where
    go : (n z : Text) → IsRaw n z → c ∷ x ≡ z → c ≡ 60
    go n z (raw_empty h t) e = cc
    go n z (raw_whole h t l) e = cc

pub raw_some : IsRawElement [] → ⊥
raw_some r = go r.0 [] r.1 refl
  where
    go : (n x : Text) → IsRaw n x → x ≡ [] → ⊥
    go n x (raw_empty h t) e = absurd cc
    go n x (raw_whole h t l) e = absurd cc

pub raw_behind : (c : ℕ) (x : Text) → IsRawElement (c ∷ x) → IsRawElement (60 ∷ x)
raw_behind c x r = let P : ℕ → Type 0 = λ k. IsRawElement (k ∷ x) in subst P (raw_mark c x r) r

-- ---- what a call answers

pub only_memory : {A : Type 0} (x : Text) (r : Result A FieldFault) (f : FieldFault) → are_allowed x ≡ true → AnswersFault (text_fault x) r → r ≡ Err f → f ≡ out_of_memory
only_memory {A = A} x r f a h e =
    let F : Fault → Type 0 = λ t. AnswersFault t r in
    let P : Result A FieldFault → Type 0 = λ z. IsOkUnless z out_of_memory in
    subst P e (subst F (allowed_fine x a) h)

pub named_front : (k : ℕ) (x : Text) → k ≡ name_count x → IsRawElement (60 ∷ x) → is_name (take k x) ≡ true
named_front k x e r = let P : ℕ → Type 0 = λ j. is_name (take j x) ≡ true in subst P (sym e) (raw_front 60 x r).named

pub element_front : {E : Type 0} (r : Result Text E) (k : ℕ) (x : Text) → k ≡ name_count x → IsRawElement (60 ∷ x)
    → IfOk r (λ n. n ≡ take k x) → IfOk r (λ n. IsRaw n (60 ∷ x))
element_front (Ok n) k x e r h =
    let P : Text → Type 0 = λ m. IsRaw m (60 ∷ x) in
    let same : n ≡ take (name_count x) x = h ∙ ap (λ j. take j x) e in
    subst P (sym same) (raw_front 60 x r).element
element_front (Err y) k x e r h = tt

-- the same of the whole text
pub element_whole : {E : Type 0} (r : Result Text E) (c : ℕ) (x : Text) → IsRawElement (c ∷ x) → IfOk r (λ n. IsRaw n (60 ∷ x)) → IfOk r (λ n. IsRaw n (c ∷ x))
element_whole {E = E} r c x h i = let P : ℕ → Type 0 = λ k. IfOk r (λ n. IsRaw n (k ∷ x)) in subst P (sym (raw_mark c x h)) i
