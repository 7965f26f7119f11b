-- A raw element has one name.
use Rattle.std.proofs.Common.{◌≡◌, ℕ, Bool, true, false, cond, [], ◌∷◌, ◌++◌, refl, sym, ap, ◌∙◌}
use Rattle.std.specs.Prelude.{◌||◌, ◌==◌}
use Rattle.std.proofs.lemmas.Bool.{and_parts, eqb-true}
use Rattle.mos_fields.specs.Characters.{Text}
use Rattle.mos_fields.specs.Names.{is_start, is_further, may_grow, named}
use Rattle.mos_fields.specs.Raw.{is_space, TagText, ends_start, ends_empty, tag_space, IsRaw, raw_empty, raw_whole}
use Rattle.value_laws.proofs.FlatEvents.{false_true}

-- ---- the characters of a name

abbrev AllFurther : Text → Type 0
AllFurther [] = Unit {0}
AllFurther (c ∷ cs) = (is_further c ≡ true) × AllFurther cs

start_further : (c : ℕ) → is_start c ≡ true → is_further c ≡ true
start_further c h = rw h refl

grown : (n : Text) (c : ℕ) → may_grow n c ≡ true → is_further c ≡ true
unfolding may_grow
grown [] c h = start_further c h
grown (d ∷ n) c h = (and_parts (is_further c) _ h).0

if_true : (a b : Bool) → cond a b false ≡ true → (a ≡ true) × (b ≡ true)
if_true true b h = (refl, h)
if_true false b h = absurd cc

all_further : (f x : Text) → named f x ≡ true → AllFurther x
all_further f [] h = tt
all_further f (c ∷ cs) h = let p = if_true (may_grow f c) _ h in (grown f c p.0, all_further (f ++ c ∷ []) cs p.1)

-- ---- what stands behind it

-- the text goes on with no character of a name
abbrev Leaves : Text → Type 0
Leaves [] = Unit {0}
Leaves (c ∷ cs) = is_further c ≡ false

space_further : (c : ℕ) → is_space c ≡ true → is_further c ≡ false
space_further c h = one (c == 32) (c == 9) (c == 10) (c == 13) refl refl refl refl h
  where
    at : (k : ℕ) → is_further k ≡ false → (c == k) ≡ true → is_further c ≡ false
    at k f e = ap is_further (eqb-true c k e) ∙ f

    one : (p q r s : Bool) → (c == 32) ≡ p → (c == 9) ≡ q → (c == 10) ≡ r → (c == 13) ≡ s → p || q || r || s ≡ true → is_further c ≡ false
    one true q r s e f g i h = at 32 refl e
    one false true r s e f g i h = at 9 refl f
    one false false true s e f g i h = at 10 refl g
    one false false false true e f g i h = at 13 refl i
    one false false false false e f g i h = absurd cc

behind_name : (e : Bool) (x y : Text) → TagText false e x y → Leaves x
behind_name e x y ends_start = refl
behind_name e x y ends_empty = refl
behind_name e x y (tag_space {c = c} {x = z} s t) = space_further c s

-- ---- names

leaves_at : (c : ℕ) (x z : Text) → is_further c ≡ true → Leaves x → x ≡ c ∷ z → ⊥
leaves_at c [] z f l e = absurd cc
leaves_at c (d ∷ x) z f l e = let g : d ≡ c = cc in false_true (sym l ∙ (ap is_further g ∙ f))

once : (n m x y : Text) → AllFurther n → AllFurther m → Leaves x → Leaves y → n ++ x ≡ m ++ y → n ≡ m
once [] [] x y f g i j e = refl
once [] (d ∷ m) x y f g i j e = absurd (leaves_at d x (m ++ y) g.0 i e)
once (c ∷ n) [] x y f g i j e = absurd (leaves_at c y (n ++ x) f.0 j (sym e))
once (c ∷ n) (d ∷ m) x y f g i j e =
    let h : c ≡ d = cc in
    let t : n ++ x ≡ m ++ y = cc in
    let r : n ≡ m = once n m x y f.1 g.1 i j t in
    cc

-- the element is `<`, its name, and what can't belong to a name
record Front (n x : Text) : Type 0 where
  rest : Text
  form : x ≡ 60 ∷ (n ++ rest)
  name : AllFurther n
  behind : Leaves rest

front : (n x : Text) → IsRaw n x → Front n x
front n x (raw_empty {x = z} h t) = record { rest = z; form = refl; name = all_further [] n h; behind = behind_name true z [] t }
front n x (raw_whole {x = z} {y = y} h t l) = record { rest = z; form = refl; name = all_further [] n h; behind = behind_name false z y t }

pub one_name : (n m x : Text) → IsRaw n x → IsRaw m x → n ≡ m
one_name n m x p q =
    let f = front n x p in
    let g = front m x q in
    let e : 60 ∷ (n ++ f.rest) ≡ 60 ∷ (m ++ g.rest) = sym f.form ∙ g.form in
    once n m f.rest g.rest f.name g.name f.behind g.behind (let t : n ++ f.rest ≡ m ++ g.rest = cc in t)
