-- Parts of what is held, as one more character is read.
use Rattle.std.proofs.Common.{◌≡◌, ℕ, zero, suc, ◌+◌, ◌-◌, ◌<◌, ◌≤◌, Bool, true, false, cond, ◌&&◌, not, List, [], ◌∷◌, ◌++◌, length, take, drop, refl, sym, ap, ◌∙◌, subst, arith, length-drop, append_assoc}
use Rattle.std.proofs.lemmas.Bool.{and_parts, and_from, lt-ltb}
use Rattle.std.proofs.lemmas.Bool.Decides.{nat_tests}
use Rattle.std.proofs.lemmas.List.{append-nil, length-take-le, drop-drop, take-append-le, drop-append-le}
use Rattle.std.proofs.lemmas.List.Concat.{flat_map-append}
use Rattle.std.proofs.lemmas.List.Folds.{list_all-append}
use Rattle.std.specs.List.{list_all}
use Rattle.std.specs.Char.Escape.{encode_utf16}
use Rattle.mos_fields.specs.Characters.{Text, IsUtf16, is_allowed, are_allowed, units_of, chars_of}
use Rattle.mos_fields.specs.Names.{is_empty, is_name, named, is_start, is_further, may_grow}
use Rattle.mos_scanner.specs.Parts.{part, IsCharacter}
use Rattle.mos_scanner.specs.ScannerView.{IsNameIn, IsTextIn}
use Rattle.mos_scanner.specs.References.{is_ascii}
use Rattle.mos_fields.proofs.CharacterLemmas.{one_unit, chars_of-units_of, IsUtf16-units_of, IsUtf16-nil}

take_plus : (h n : ℕ) (xs : List ℕ) → take (h + n) xs ≡ take h xs ++ take n (drop h xs)
take_plus zero n xs = ap (λ (k : ℕ). take k xs) (let e : 0 + n ≡ n = omega arith in e)
take_plus (suc h) n [] = take_nil (suc h + n) ∙ sym (take_nil n)
  where
    take_nil : (k : ℕ) → ◌≡◌ {A = List ℕ} (take k []) []
    take_nil zero = refl
    take_nil (suc k) = refl
take_plus (suc h) n (x ∷ xs) = ap (λ (k : ℕ). take k (x ∷ xs)) (let e : suc h + n ≡ suc (h + n) = omega arith in e) ∙ ap (λ (z : List ℕ). x ∷ z) (take_plus h n xs)

-- two parts, one behind the other
pub part_split : (held : List ℕ) (a b c : ℕ) → a ≤ b → b ≤ c → part held a c ≡ part held a b ++ part held b c
part_split held a b c ab bc =
    let e : c - a ≡ (b - a) + (c - b) = omega arith in
    let d : drop (b - a) (drop a held) ≡ drop b held = drop-drop (b - a) a held ∙ ap (λ k. drop k held) (let s : a + (b - a) ≡ b = omega arith in s) in
    ap (λ k. take k (drop a held)) e ∙ (take_plus (b - a) (c - b) (drop a held) ∙ ap (λ z. part held a b ++ take (c - b) z) d)

pub part_none : (held : List ℕ) (a : ℕ) → part held a a ≡ []
part_none held a = ap (λ k. take k (drop a held)) (let e : a - a ≡ 0 = omega arith in e)

pub length-part : (held : List ℕ) (a b : ℕ) → b ≤ length held → length (part held a b) ≡ b - a
length-part held a b h = length-take-le (b - a) (drop a held) (let l = length-drop a held in omega (arith, l))

-- a part stays where more is held
pub part-append : (held more : List ℕ) (a b : ℕ) → a ≤ b → b ≤ length held → part (held ++ more) a b ≡ part held a b
part-append held more a b ab h =
    ap (take (b - a)) (drop-append-le a held more (omega arith))
    ∙ take-append-le (b - a) (drop a held) more (let l = length-drop a held in omega (arith, l))

-- ---- one more character

pub next_one : (held : List ℕ) (here next c : ℕ) → IsCharacter held here next c → c < 65536 → next ≡ here + 1
next_one held here next c i h =
    let l : next - here ≡ 1 = sym (length-part held here next i.within) ∙ ap length (i.is ∙ one_unit c h) in
    let o = i.onward in omega (arith, l, o)

-- behind a character of one unit
pub part_more : (held : List ℕ) (a here next c : ℕ) → a ≤ here → IsCharacter held here next c → c < 65536 → part held a next ≡ part held a here ++ c ∷ []
part_more held a here next c h i b = part_split held a here next h i.onward ∙ ap (λ z. part held a here ++ z) (i.is ∙ one_unit c b)

-- well-formed UTF-16 and one more character are well-formed, and the characters are those and that one
pub record Grows (us vs : List ℕ) (c : ℕ) : Type 0 where
  pub chars : chars_of vs ≡ chars_of us ++ c ∷ []
  pub text : IsUtf16 vs

pub grows : (us : List ℕ) (c : ℕ) → IsUtf16 us → is_allowed c ≡ true → Grows us (us ++ encode_utf16 c) c
grows us c w a =
    let e : units_of (chars_of us ++ c ∷ []) ≡ us ++ encode_utf16 c =
    flat_map-append encode_utf16 (chars_of us) (c ∷ []) ∙ (ap (λ z. z ++ (encode_utf16 c ++ [])) w.round_trip ∙ ap (λ z. us ++ z) (append-nil (encode_utf16 c))) in
    let f : are_allowed (chars_of us ++ c ∷ []) ≡ true = list_all-append is_allowed (chars_of us) (c ∷ []) ∙ and_from (are_allowed (chars_of us)) (is_allowed c && true) w.allowed (and_from (is_allowed c) true a refl) in
    record {
      chars = subst (λ z. chars_of z ≡ chars_of us ++ c ∷ []) e (chars_of-units_of (chars_of us ++ c ∷ []) f);
      text = subst IsUtf16 e (IsUtf16-units_of (chars_of us ++ c ∷ []) f);
    }

pub text_grows : (held : List ℕ) (a here next c : ℕ) → IsTextIn held a here → IsCharacter held here next c → Grows (part held a here) (part held a next) c
text_grows held a here next c t i =
    subst (λ z. Grows (part held a here) z c) (ap (λ z. part held a here ++ z) (sym i.is) ∙ sym (part_split held a here next t.onward i.onward)) (grows (part held a here) c t.text i.allowed)

pub chars_more : (held : List ℕ) (a here next c : ℕ) → IsTextIn held a here → IsCharacter held here next c → chars_of (part held a next) ≡ chars_of (part held a here) ++ c ∷ []
chars_more held a here next c t i = (text_grows held a here next c t i).chars

pub text_more : (held : List ℕ) (a here next c : ℕ) → IsTextIn held a here → IsCharacter held here next c → IsTextIn held a next
text_more held a here next c t i = let o = t.onward in let n = i.onward in
    record { text = (text_grows held a here next c t i).text; onward = omega arith; within = i.within }

pub text_none : (held : List ℕ) (a : ℕ) → a ≤ length held → IsTextIn held a a
text_none held a h = record { text = subst IsUtf16 (sym (part_none held a)) IsUtf16-nil; onward = omega arith; within = h }

-- ---- names

start_further : (c : ℕ) → is_start c ≡ true → is_further c ≡ true
start_further c e = grind (arith, nat_tests)

further_small : (c : ℕ) → is_further c ≡ true → c < 128
further_small c e = grind (arith, nat_tests)

further_allowed : (c : ℕ) → is_further c ≡ true → is_allowed c ≡ true
further_allowed c e = grind (arith, nat_tests)

pub grow_further : (n : Text) (c : ℕ) → may_grow n c ≡ true → is_further c ≡ true
unfolding may_grow
grow_further [] c e = start_further c e
grow_further (d ∷ n) c e = (and_parts _ _ e).0

pub grow_small : (n : Text) (c : ℕ) → may_grow n c ≡ true → c < 128
grow_small n c e = further_small c (grow_further n c e)

and_if : (a b : Bool) → a ≡ true → b ≡ true → cond a b false ≡ true
and_if true b h k = k
and_if false b h k = absurd cc

if_parts : (a b : Bool) → cond a b false ≡ true → (a ≡ true) × (b ≡ true)
if_parts true b h = (refl, h)
if_parts false b h = absurd cc

named-push : (p n : Text) (c : ℕ) → named p n ≡ true → may_grow (p ++ n) c ≡ true → named p (n ++ c ∷ []) ≡ true
named-push p [] c e g = and_if (may_grow p c) (not (is_empty (p ++ c ∷ []))) (subst (λ z. may_grow z c ≡ true) (append-nil p) g) (some p c)
  where
    some : (p : Text) (c : ℕ) → not (is_empty (p ++ c ∷ [])) ≡ true
    some [] c = refl
    some (d ∷ p) c = refl
named-push p (d ∷ n) c e g =
    let h = if_parts (may_grow p d) (named (p ++ d ∷ []) n) e in
    and_if (may_grow p d) (named (p ++ d ∷ []) (n ++ c ∷ [])) h.0 (named-push (p ++ d ∷ []) n c h.1 (subst (λ z. may_grow z c ≡ true) (sym (append_assoc p (d ∷ []) n)) g))

pub name_push : (n : Text) (c : ℕ) → is_name n ≡ true → may_grow n c ≡ true → is_name (n ++ c ∷ []) ≡ true
name_push n c e g = named-push [] n c e g

pub name_first : (c : ℕ) → may_grow [] c ≡ true → is_name (c ∷ []) ≡ true
name_first c g = and_if (may_grow [] c) true g refl

-- each character of a name is one of names
named_further : (p n : Text) → named p n ≡ true → list_all is_further n ≡ true
named_further p [] e = refl
named_further p (d ∷ n) e =
    let h = if_parts (may_grow p d) (named (p ++ d ∷ []) n) e in
    and_from (is_further d) (list_all is_further n) (grow_further p d h.0) (named_further (p ++ d ∷ []) n h.1)

further_units : (n : Text) → list_all is_further n ≡ true → units_of n ≡ n
further_units [] e = refl
further_units (c ∷ n) e =
    let h = and_parts (is_further c) (list_all is_further n) e in
    let s = further_small c h.0 in
    ap (λ z. z ++ units_of n) (one_unit c (omega arith)) ∙ ap (λ z. c ∷ z) (further_units n h.1)

further_are_allowed : (n : Text) → list_all is_further n ≡ true → are_allowed n ≡ true
further_are_allowed [] e = refl
further_are_allowed (c ∷ n) e =
    let h = and_parts (is_further c) (list_all is_further n) e in
    and_from (is_allowed c) (are_allowed n) (further_allowed c h.0) (further_are_allowed n h.1)

-- the units of a name are its characters
pub name_chars : (n : Text) → is_name n ≡ true → chars_of n ≡ n
name_chars n e =
    let f = named_further [] n e in
    subst (λ z. chars_of z ≡ n) (further_units n f) (chars_of-units_of n (further_are_allowed n f))

pub name_text : (n : Text) → is_name n ≡ true → IsUtf16 n
name_text n e =
    let f = named_further [] n e in
    subst IsUtf16 (further_units n f) (IsUtf16-units_of n (further_are_allowed n f))

-- the name that a character goes on
pub name_more : (held : List ℕ) (a here next c : ℕ) → IsNameIn held a here → IsCharacter held here next c → may_grow (part held a here) c ≡ true → IsNameIn held a next
name_more held a here next c n i g = let s = grow_small (part held a here) c g in let o = n.onward in let w = i.onward in
    record {
      name = subst (λ z. is_name z ≡ true) (sym (part_more held a here next c n.onward i (omega arith))) (name_push (part held a here) c n.name g);
      onward = omega arith;
      within = i.within;
    }

-- the name that a character begins
pub name_begun : (held : List ℕ) (here next c : ℕ) → IsCharacter held here next c → may_grow [] c ≡ true → IsNameIn held here next
name_begun held here next c i g = let s = grow_small [] c g in
    record {
      name = subst (λ z. is_name z ≡ true) (sym (i.is ∙ one_unit c (omega arith))) (name_first c g);
      onward = i.onward;
      within = i.within;
    }

further_ascii : (n : Text) → list_all is_further n ≡ true → list_all is_ascii n ≡ true
further_ascii [] e = refl
further_ascii (c ∷ n) e =
    let h = and_parts (is_further c) (list_all is_further n) e in
    and_from (is_ascii c) (list_all is_ascii n) (lt-ltb c 128 (further_small c h.0)) (further_ascii n h.1)

pub name_is_ascii : (n : Text) → is_name n ≡ true → list_all is_ascii n ≡ true
name_is_ascii n e = further_ascii n (named_further [] n e)
