-- Allowed texts have an allowed encoding.
use Rattle.std.proofs.Common.{◌≡◌, ℕ, ◌≤◌, Bool, true, false, cond, eqb, List, [], ◌∷◌, ◌++◌, length, refl, codes, arith, ◌⊎◌, inl, inr}
use Rattle.std.specs.Prelude.{◌&&◌, ◌||◌, ◌==◌, nat_le, nat_lt}
use Rattle.std.specs.List.{AllByRecursion, flat_map}
use Rattle.std.proofs.lemmas.Bool.{eqb-true}
use Rattle.std.proofs.lemmas.Bool.Decides.{nat_tests}
use Rattle.mos_fields.specs.Characters.{Text, is_allowed, are_allowed}
use Rattle.mos_fields.specs.Names.{is_start, is_further, may_grow, named}
use Rattle.mos_fields.specs.Raw.{end_text}
use Rattle.mos_fields.specs.Escapes.{escaped_char, escaped}
use Rattle.mos_tables.specs.Events.{Attribute, Event, leaf, raw, opens, closes}
use Rattle.mos_tables.specs.Canonical.{attribute_text, start_text, event_text, canonical}
use Rattle.encoding_laws.specs.Allowed.{HasAllowedText, HasAllowedTexts}
use Rattle.encoding_laws.proofs.Written.{IsNamedAttribute, HasNames}

either : (a b : Bool) → (a || b) ≡ true → (a ≡ true) ⊎ (b ≡ true)
either true b h = inl refl
either false b h = inr h

-- the characters from U+0020 to U+D7FF
common_allowed : (c : ℕ) → 32 ≤ c → c ≤ 55295 → is_allowed c ≡ true
common_allowed c l h = grind (arith, nat_tests)

range_allowed : (c low high : ℕ) → 32 ≤ low → high ≤ 55295 → (nat_le low c && nat_le c high) ≡ true → is_allowed c ≡ true
range_allowed c low high l h e = common_allowed c (grind (arith, nat_tests)) (grind (arith, nat_tests))

one_allowed : (c d : ℕ) → 32 ≤ d → d ≤ 55295 → (c == d) ≡ true → is_allowed c ≡ true
one_allowed c d l h e = let p : c ≡ d = eqb-true c d e in common_allowed c (omega (arith, p, l)) (omega (arith, p, h))

start_allowed_char : (c : ℕ) → is_start c ≡ true → is_allowed c ≡ true
start_allowed_char c h = elim (either ((nat_le 97 c && nat_le c 122) || (nat_le 65 c && nat_le c 90)) (c == 95) h) [
  | inl p ↦ elim (either (nat_le 97 c && nat_le c 122) (nat_le 65 c && nat_le c 90) p) [ inl q ↦ range_allowed c 97 122 (omega arith) (omega arith) q | inr q ↦ range_allowed c 65 90 (omega arith) (omega arith) q ]
  | inr p ↦ one_allowed c 95 (omega arith) (omega arith) p
]

further_allowed : (c : ℕ) → is_further c ≡ true → is_allowed c ≡ true
further_allowed c h = elim (either (is_start c || (nat_le 48 c && nat_le c 58) || (c == 45)) (c == 46) h) [
  | inl p ↦ elim (either (is_start c || (nat_le 48 c && nat_le c 58)) (c == 45) p) [
    | inl q ↦ elim (either (is_start c) (nat_le 48 c && nat_le c 58) q) [ inl r ↦ start_allowed_char c r | inr r ↦ range_allowed c 48 58 (omega arith) (omega arith) r ]
    | inr q ↦ one_allowed c 45 (omega arith) (omega arith) q
  ]
  | inr p ↦ one_allowed c 46 (omega arith) (omega arith) p
]

start_further : (c : ℕ) → is_start c ≡ true → is_further c ≡ true
start_further c h = rw h refl

both : (a b : Bool) → a ≡ true → b ≡ true → (a && b) ≡ true
both true true p q = refl
both true false p q = q
both false b p q = p

first : (a b : Bool) → (a && b) ≡ true → a ≡ true
first true b h = refl
first false b h = absurd cc

allowed_both : (x y : Text) → are_allowed x ≡ true → are_allowed y ≡ true → are_allowed (x ++ y) ≡ true
allowed_both [] y a b = b
allowed_both (c ∷ x) y a b = go (is_allowed c) a (λ e. allowed_both x y e b)
  where
    go : (k : Bool) → (k && are_allowed x) ≡ true → (are_allowed x ≡ true → are_allowed (x ++ y) ≡ true) → (k && are_allowed (x ++ y)) ≡ true
    go true a ih = ih a
    go false a ih = absurd cc

grown : (n : Text) (c : ℕ) → may_grow n c ≡ true → is_allowed c ≡ true
unfolding may_grow
grown [] c h = further_allowed c (start_further c h)
grown (d ∷ n) c h = further_allowed c (first (is_further c) (nat_lt (length (d ∷ n)) 128) h)

named_allowed : (n x : Text) → named n x ≡ true → are_allowed x ≡ true
named_allowed n [] h = refl
named_allowed n (c ∷ x) h = go (may_grow n c) refl h (λ e. named_allowed (n ++ c ∷ []) x e)
  where
    go : (b : Bool) → may_grow n c ≡ b → cond b (named (n ++ c ∷ []) x) false ≡ true → (named (n ++ c ∷ []) x ≡ true → are_allowed x ≡ true) → (is_allowed c && are_allowed x) ≡ true
    go true e h ih = both (is_allowed c) (are_allowed x) (grown n c e) (ih h)
    go false e h ih = absurd cc

char_allowed : (c : ℕ) → is_allowed c ≡ true → are_allowed (escaped_char c) ≡ true
char_allowed c h = one (eqb c 60) (eqb c 62) (eqb c 38) (eqb c 34) (eqb c 39)
  where
    one : (a b d e f : Bool) → are_allowed (cond a (codes "&lt;") (cond b (codes "&gt;") (cond d (codes "&amp;") (cond e (codes "&quot;") (cond f (codes "&apos;") (c ∷ [])))))) ≡ true
    one true b d e f = refl
    one false true d e f = refl
    one false false true e f = refl
    one false false false true f = refl
    one false false false false true = refl
    one false false false false false = both (is_allowed c) true h refl

escaped_allowed : (x : Text) → are_allowed x ≡ true → are_allowed (escaped x) ≡ true
escaped_allowed [] h = refl
escaped_allowed (c ∷ x) h = go (is_allowed c) refl h (λ e. escaped_allowed x e)
  where
    go : (b : Bool) → is_allowed c ≡ b → (b && are_allowed x) ≡ true → (are_allowed x ≡ true → are_allowed (escaped x) ≡ true) → are_allowed (escaped_char c ++ escaped x) ≡ true
    go true e h ih = allowed_both (escaped_char c) (escaped x) (char_allowed c e) (ih h)
    go false e h ih = absurd cc

attributes_allowed : (g : List Attribute) → AllByRecursion IsNamedAttribute g → are_allowed (flat_map attribute_text g) ≡ true
attributes_allowed [] a = refl
attributes_allowed (b ∷ g) a =
    let v : are_allowed (escaped b.value ++ 34 ∷ []) ≡ true = allowed_both (escaped b.value) (34 ∷ []) (escaped_allowed b.value a.0.1) refl in
    let n : are_allowed (b.name ++ 61 ∷ 34 ∷ (escaped b.value ++ 34 ∷ [])) ≡ true = allowed_both b.name (61 ∷ 34 ∷ (escaped b.value ++ 34 ∷ [])) (named_allowed [] b.name a.0.0) v in
    allowed_both (attribute_text b) (flat_map attribute_text g) n (attributes_allowed g a.1)

start_allowed : (n : Text) (g : List Attribute) → named [] n ≡ true → AllByRecursion IsNamedAttribute g → are_allowed (start_text n g) ≡ true
start_allowed n g m a = allowed_both (n ++ flat_map attribute_text g) (62 ∷ []) (allowed_both n (flat_map attribute_text g) (named_allowed [] n m) (attributes_allowed g a)) refl

end_allowed : (n : Text) → named [] n ≡ true → are_allowed (end_text n) ≡ true
end_allowed n m = allowed_both n (62 ∷ []) (named_allowed [] n m) refl

event_allowed : (e : Event) → HasNames e → HasAllowedText e → are_allowed (event_text e) ≡ true
event_allowed (leaf n g x) m h = allowed_both (start_text n g ++ escaped x) (end_text n) (allowed_both (start_text n g) (escaped x) (start_allowed n g m.0 m.1) (escaped_allowed x h)) (end_allowed n m.0)
event_allowed (raw f x) m h = h
event_allowed (opens n g) m h = start_allowed n g m.0 m.1
event_allowed (closes n) m h = end_allowed n m

pub canonical_allowed : (es : List Event) → AllByRecursion HasNames es → HasAllowedTexts es → are_allowed (canonical es) ≡ true
unfolding canonical
canonical_allowed [] m h = refl
canonical_allowed (e ∷ es) m h = allowed_both (event_text e) (flat_map event_text es) (event_allowed e m.0 h.0) (canonical_allowed es m.1 h.1)
