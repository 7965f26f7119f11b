-- The raw elements of accepted records have the names of their tags.
use Rattle.std.proofs.Common.{◌≡◌, ℕ, Bool, true, false, List, [], ◌∷◌, ◌++◌, sym, subst, append_assoc, ap}
use Rattle.std.proofs.lemmas.List.{append-nil}
use Rattle.mos_fields.specs.Characters.{Text}
use Rattle.mos_fields.specs.Raw.{is_tail, ValueText, value_ends, value_itself, value_reference, QuotedText, quoted_space, quote, EqualsText, equals_space, equals, TagText, ends_start, ends_empty, tag_space, attribute, IsRaw, raw_empty, raw_whole}
use Rattle.mos_tables.specs.Events.{Attribute}
use Rattle.mos_lexer.specs.Lexing.{WritesValue, WritesQuoted, WritesEquals, WritesTag, WrittenTag}
use Rattle.mos_lexer.specs.Lexing as lexing

value_text : {q : ℕ} {v : Text} {x y : List ℕ} (r : List ℕ) → WritesValue q v x y → ValueText q (x ++ r) (y ++ r)
value_text r lexing.value_ends = value_ends
value_text r (lexing.value_itself a b w) = value_itself a b (value_text r w)
value_text {q = q} r (lexing.value_reference {x = x} {y = y} m a w) =
    let P : List ℕ → Type 0 = λ z. ValueText q (38 ∷ z) (y ++ r) in subst P (sym (append_assoc m x r)) (value_reference m a (value_text r w))

quoted_text : {v : Text} {x y : List ℕ} (r : List ℕ) → WritesQuoted v x y → QuotedText (x ++ r) (y ++ r)
quoted_text r (lexing.quoted_space a w) = quoted_space a (quoted_text r w)
quoted_text r (lexing.quote a w) = quote a (value_text r w)

equals_text : {v : Text} {x y : List ℕ} (r : List ℕ) → WritesEquals v x y → EqualsText (x ++ r) (y ++ r)
equals_text r (lexing.equals_space a w) = equals_space a (equals_text r w)
equals_text r (lexing.equals w) = equals (quoted_text r w)

tag_text : {s e : Bool} {g : List Attribute} {x : List ℕ} (r : List ℕ) → WritesTag s g e x → TagText s e (x ++ r) r
tag_text r lexing.ends_start = ends_start
tag_text r lexing.ends_empty = ends_empty
tag_text r (lexing.tag_space a w) = tag_space a (tag_text r w)
tag_text {e = e} r (lexing.attribute a x y h q w) =
    let P : List ℕ → Type 0 = λ z. TagText true e z r in subst P (sym (append_assoc a x r)) (attribute a (x ++ r) (y ++ r) h (equals_text r q) (tag_text r w))

-- a start tag and the rest of its element
pub raw_with_tail : (n x tag : Text) (g : List Attribute) → WrittenTag false n g tag tag → is_tail n x ≡ true → IsRaw n (tag ++ x)
raw_with_tail n x tag g w h =
    let y : List ℕ = w.0 in
    let whole : IsRaw n (60 ∷ (n ++ (y ++ x))) = raw_whole {y = x} w.1 (tag_text x w.2) h in
    let same : 60 ∷ (n ++ (y ++ x)) ≡ tag ++ x = rw w.3 (ap (λ z. 60 ∷ z) (sym (append_assoc n y x))) in
    subst (IsRaw n) same whole

-- an empty tag
pub raw_of_empty : (n tag : Text) (g : List Attribute) → WrittenTag true n g tag tag → IsRaw n tag
raw_of_empty n tag g w =
    let y : List ℕ = w.0 in
    let text : TagText false true (y ++ []) [] = tag_text [] w.2 in
    let P : List ℕ → Type 0 = λ z. TagText false true z [] in
    subst (IsRaw n) (sym w.3) (raw_empty w.1 (subst P (append-nil y) text))
