-- What the canonical encoding writes are tokens: texts, tags, and fields with a text.
use Rattle.std.proofs.Common.{◌≡◌, ℕ, Bool, true, false, cond, eqb, List, [], ◌∷◌, ◌++◌, Some, refl, sym, ap, subst, ◌∙◌, append_assoc, codes}
use Rattle.std.specs.List.{AllByRecursion, flat_map}
use Rattle.std.proofs.lemmas.Bool.{eqb-true}
use Rattle.std.proofs.lemmas.List.{append-nil}
use Rattle.mos_fields.specs.Characters.{Text, are_allowed}
use Rattle.mos_fields.specs.Names.{is_empty, named}
use Rattle.mos_fields.specs.Raw.{end_text, is_plain}
use Rattle.mos_fields.specs.References.{reference_of}
use Rattle.mos_fields.specs.Escapes.{escaped_char, escaped}
use Rattle.mos_tables.specs.Events.{Attribute, Event, leaf, raw, opens, closes}
use Rattle.mos_tables.specs.Canonical.{attribute_text, start_text, canonical}
use Rattle.mos_grammar.specs.Tokens.{Token, open_tag, close_tag, text}
use Rattle.mos_lexer.specs.Lexing.{Writes, nothing, itself, reference, WritesValue, value_ends, value_itself, value_reference, equals, quote, WritesTag, ends_start, tag_space, attribute, WrittenTag, Written, WritesTokens}

-- ---- characters

-- A character is escaped as a reference of it, or is one that stands for itself, also in double quotes.
data Escaping (c : ℕ) : Text → Type 0 where
  by_reference : (m : Text) → reference_of m ≡ Some c → Escaping c (38 ∷ m)
  as_itself : is_plain c ≡ true → eqb c 34 ≡ false → Escaping c (c ∷ [])

escaping : (c : ℕ) → Escaping c (escaped_char c)
unfolding reference_of
escaping c = one (eqb c 60) refl
  where
    by : (d : ℕ) (m : Text) → eqb c d ≡ true → reference_of m ≡ Some d → Escaping c (38 ∷ m)
    by d m e r = by_reference m (r ∙ ap Some (sym (eqb-true c d e)))

    five : (d : Bool) → eqb c 60 ≡ false → eqb c 38 ≡ false → eqb c 34 ≡ false → eqb c 39 ≡ d → Escaping c (cond d (codes "&apos;") (c ∷ []))
    five true x y z e = by 39 (codes "apos;") e refl
    five false x y z e = as_itself (rw (x, y) refl) z

    four : (b : Bool) → eqb c 60 ≡ false → eqb c 38 ≡ false → eqb c 34 ≡ b → Escaping c (cond b (codes "&quot;") (cond (eqb c 39) (codes "&apos;") (c ∷ [])))
    four true x y e = by 34 (codes "quot;") e refl
    four false x y e = five (eqb c 39) x y e refl

    three : (b : Bool) → eqb c 60 ≡ false → eqb c 38 ≡ b → Escaping c (cond b (codes "&amp;") (cond (eqb c 34) (codes "&quot;") (cond (eqb c 39) (codes "&apos;") (c ∷ []))))
    three true x e = by 38 (codes "amp;") e refl
    three false x e = four (eqb c 34) x e refl

    two : (b : Bool) → eqb c 60 ≡ false → eqb c 62 ≡ b → Escaping c (cond b (codes "&gt;") (cond (eqb c 38) (codes "&amp;") (cond (eqb c 34) (codes "&quot;") (cond (eqb c 39) (codes "&apos;") (c ∷ [])))))
    two true x e = by 62 (codes "gt;") e refl
    two false x e = three (eqb c 38) x refl

    one : (b : Bool) → eqb c 60 ≡ b → Escaping c (cond b (codes "&lt;") (cond (eqb c 62) (codes "&gt;") (cond (eqb c 38) (codes "&amp;") (cond (eqb c 34) (codes "&quot;") (cond (eqb c 39) (codes "&apos;") (c ∷ []))))))
    one true e = by 60 (codes "lt;") e refl
    one false e = two (eqb c 62) e refl

-- ---- texts and values

text_written : (y : Text) → Writes y (escaped y)
text_written [] = nothing
text_written (c ∷ y) = go (escaped_char c) (escaping c) (text_written y)
  where
    go : (e : Text) → Escaping c e → Writes y (escaped y) → Writes (c ∷ y) (e ++ escaped y)
    go e (by_reference m r) w = reference m r w
    go e (as_itself p q) w = itself p w

value_written : (v : Text) (y : List ℕ) → WritesValue 34 v (escaped v ++ 34 ∷ y) y
value_written [] y = value_ends
value_written (c ∷ v) y = go (escaped_char c) (escaping c) (value_written v y)
  where
    go : (e : Text) → Escaping c e → WritesValue 34 v (escaped v ++ 34 ∷ y) y → WritesValue 34 (c ∷ v) ((e ++ escaped v) ++ 34 ∷ y) y
    go e (by_reference m r) w = subst (λ (z : List ℕ). WritesValue 34 (c ∷ v) (38 ∷ z) y) (sym (append_assoc m (escaped v) (34 ∷ y))) (value_reference m r w)
    go e (as_itself p q) w = value_itself q p w

escaped_some : (c : ℕ) (x : Text) → is_empty (escaped (c ∷ x)) ≡ false
escaped_some c x = go (escaped_char c) (escaping c)
  where
    go : (e : Text) → Escaping c e → is_empty (e ++ escaped x) ≡ false
    go e (by_reference m r) = refl
    go e (as_itself p q) = refl

-- ---- tags

-- the attribute's name is a name, and its value has allowed characters
abbrev pub IsNamedAttribute : Attribute → Type 0
IsNamedAttribute a = (named [] a.name ≡ true) × (are_allowed a.value ≡ true)

-- the names of the event are names, and its attributes' values have allowed characters
abbrev pub HasNames : Event → Type 0
HasNames (leaf n g x) = (named [] n ≡ true) × AllByRecursion IsNamedAttribute g
HasNames (raw f x) = Unit {0}
HasNames (opens n g) = (named [] n ≡ true) × AllByRecursion IsNamedAttribute g
HasNames (closes n) = named [] n ≡ true

pub names_both : (xs ys : List Event) → AllByRecursion HasNames xs → AllByRecursion HasNames ys → AllByRecursion HasNames (xs ++ ys)
names_both [] ys a b = b
names_both (x ∷ xs) ys a b = (a.0, names_both xs ys a.1 b)

attributes_written : (g : List Attribute) → AllByRecursion IsNamedAttribute g → WritesTag false g false (flat_map attribute_text g ++ 62 ∷ [])
attributes_written [] h = ends_start
attributes_written (a ∷ g) h =
    let f : List ℕ = flat_map attribute_text g in
    let v : List ℕ = escaped a.value in
    let y : List ℕ = f ++ 62 ∷ [] in
    let q : List ℕ = 61 ∷ 34 ∷ (v ++ 34 ∷ []) in
    let e : (a.name ++ q) ++ f ++ 62 ∷ [] ≡ a.name ++ (61 ∷ 34 ∷ (v ++ 34 ∷ y)) =
    append_assoc (a.name ++ q) f (62 ∷ []) ∙ append_assoc a.name q y ∙ ap (λ (z : List ℕ). a.name ++ (61 ∷ 34 ∷ z)) (append_assoc v (34 ∷ []) y) in
    let w : WritesTag true (a ∷ g) false (a.name ++ (61 ∷ 34 ∷ (v ++ 34 ∷ y))) = attribute a.name (61 ∷ 34 ∷ (v ++ 34 ∷ y)) y h.0.0 (equals (quote refl (value_written a.value y))) (attributes_written g h.1) in
    tag_space refl (subst (WritesTag true (a ∷ g) false) (sym e) w)

pub start_written : (n : Text) (g : List Attribute) → named [] n ≡ true → AllByRecursion IsNamedAttribute g → WrittenTag false n g (start_text n g) (start_text n g)
start_written n g e h = (flat_map attribute_text g ++ 62 ∷ [], e, attributes_written g h, ap (λ (z : List ℕ). 60 ∷ z) (append_assoc n (flat_map attribute_text g) (62 ∷ [])), refl)

end_written : (n : Text) → named [] n ≡ true → Written (close_tag n) (end_text n)
end_written n e = ([], e, refl, refl)

-- ---- tokens in front of others

-- The tokens are what the characters write, whatever follows.
pub record WritesFront (ts : List Token) (x : List ℕ) : Type 0 where
  pub before : (more : List Token) (c : List ℕ) → WritesTokens more c → WritesTokens (ts ++ more) (x ++ c)

pub no_front : WritesFront [] []
no_front = record { before = λ more c w. w }

pub both_fronts : (ts us : List Token) (x y : List ℕ) → WritesFront ts x → WritesFront us y → WritesFront (ts ++ us) (x ++ y)
both_fronts ts us x y a b = record {
  before = λ more c w.
      subst (λ (z : List Token). WritesTokens z ((x ++ y) ++ c)) (sym (append_assoc ts us more))
      (subst (WritesTokens (ts ++ (us ++ more))) (sym (append_assoc x y c)) (a.before (us ++ more) (y ++ c) (b.before more c w)));
}

pub start_front : (n : Text) (g : List Attribute) → named [] n ≡ true → AllByRecursion IsNamedAttribute g → WritesFront (open_tag n g (start_text n g) ∷ []) (start_text n g)
start_front n g e h = record { before = λ more c w. (start_text n g, c, start_written n g e h, tt, refl, w) }

pub end_front : (n : Text) → named [] n ≡ true → WritesFront (close_tag n ∷ []) (end_text n)
end_front n e = record { before = λ more c w. (end_text n, c, end_written n e, tt, refl, w) }

-- the rest of a field behind its start tag: its text, if it isn't empty, and its end tag
abbrev pub field_rest : Text → Text → List Token
field_rest n [] = close_tag n ∷ []
field_rest n (c ∷ x) = text (escaped (c ∷ x)) (c ∷ x) ∷ close_tag n ∷ []

rest_front : (n x : Text) → named [] n ≡ true → WritesFront (field_rest n x) (escaped x ++ end_text n)
rest_front n [] e = end_front n e
rest_front n (d ∷ x) e = record {
  before = λ more c w.
      (escaped (d ∷ x), end_text n ++ c, (escaped_some d x, text_written (d ∷ x), refl), refl, append_assoc (escaped (d ∷ x)) (end_text n) c, (end_text n, c, end_written n e, tt, refl, w));
}

-- a field with a text
abbrev pub field_tokens : Text → List Attribute → Text → List Token
field_tokens n g x = open_tag n g (start_text n g) ∷ field_rest n x

pub field_front : (n : Text) (g : List Attribute) (x : Text) → named [] n ≡ true → AllByRecursion IsNamedAttribute g → WritesFront (field_tokens n g x) (canonical (leaf n g x ∷ []))
unfolding canonical
field_front n g x e h =
    let s : List ℕ = start_text n g in
    let w : WritesFront (field_tokens n g x) (s ++ (escaped x ++ end_text n)) = both_fronts (open_tag n g s ∷ []) (field_rest n x) s (escaped x ++ end_text n) (start_front n g e h) (rest_front n x e) in
    subst (WritesFront (field_tokens n g x)) (sym (append_assoc s (escaped x) (end_text n)) ∙ sym (append-nil (s ++ escaped x ++ end_text n))) w
