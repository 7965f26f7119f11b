-- How tokens are written, character by character.
use Rattle.std.specs.Prelude.{◌≡◌, ℕ, Bool, true, false, cond, List, [], ◌∷◌, ◌++◌, Some, codes, ◌==◌, ◌&&◌, ◌||◌}
use Rattle.mos_fields.specs.Characters.{Text}
use Rattle.mos_fields.specs.Names.{named, is_empty}
use Rattle.mos_fields.specs.References.{reference_of}
use Rattle.mos_fields.specs.Raw.{is_plain, is_quote, is_space}
use Rattle.mos_fields.specs.Forms.{is_white, behind_white}
use Rattle.mos_tables.specs.Events.{Attribute}
use Rattle.mos_grammar.specs.Tokens.{Token, open_tag, empty_tag, close_tag, text, tail, mark, declaration}

-- ---- characters

-- U+FEFF
abbrev pub byte_order_mark : ℕ
byte_order_mark = 65279

-- ---- texts

-- which text the characters write, where `<` and `&` do not stand for themselves
pub data Writes : Text → List ℕ → Type 0 where
  nothing : Writes [] []
  itself : {c : ℕ} {y : Text} {x : List ℕ} → is_plain c ≡ true → Writes y x → Writes (c ∷ y) (c ∷ x)
  reference : {c : ℕ} {y : Text} {x : List ℕ} (m : Text) → reference_of m ≡ Some c → Writes y x → Writes (c ∷ y) (38 ∷ (m ++ x))

-- ---- attributes and tags

-- a value in this quote, and what follows it
pub data WritesValue (q : ℕ) : Text → List ℕ → List ℕ → Type 0 where
  value_ends : {y : List ℕ} → WritesValue q [] (q ∷ y) y
  value_itself : {c : ℕ} {v : Text} {x y : List ℕ} → (c == q) ≡ false → is_plain c ≡ true → WritesValue q v x y → WritesValue q (c ∷ v) (c ∷ x) y
  value_reference : {c : ℕ} {v : Text} {x y : List ℕ} (m : Text) → reference_of m ≡ Some c → WritesValue q v x y → WritesValue q (c ∷ v) (38 ∷ (m ++ x)) y

-- white space or none, and a value in quotes
pub data WritesQuoted : Text → List ℕ → List ℕ → Type 0 where
  quoted_space : {c : ℕ} {v : Text} {x y : List ℕ} → is_space c ≡ true → WritesQuoted v x y → WritesQuoted v (c ∷ x) y
  quote : {q : ℕ} {v : Text} {x y : List ℕ} → is_quote q ≡ true → WritesValue q v x y → WritesQuoted v (q ∷ x) y

-- what stands behind an attribute's name: `=` and the value
pub data WritesEquals : Text → List ℕ → List ℕ → Type 0 where
  equals_space : {c : ℕ} {v : Text} {x y : List ℕ} → is_space c ≡ true → WritesEquals v x y → WritesEquals v (c ∷ x) y
  equals : {v : Text} {x y : List ℕ} → WritesQuoted v x y → WritesEquals v (61 ∷ x) y

-- What stands behind a tag's name: white space, attributes each behind white space, and the end of a start tag or of
-- an empty tag. The first argument says whether white space came, the third whether the tag is empty.
pub data WritesTag : Bool → List Attribute → Bool → List ℕ → Type 0 where
  ends_start : {s : Bool} → WritesTag s [] false (62 ∷ [])
  ends_empty : {s : Bool} → WritesTag s [] true (47 ∷ 62 ∷ [])
  tag_space : {s e : Bool} {c : ℕ} {g : List Attribute} {x : List ℕ} → is_space c ≡ true → WritesTag true g e x → WritesTag s g e (c ∷ x)
  attribute : {e : Bool} {v : Text} {g : List Attribute} (a : Text) (x y : List ℕ)
      → named [] a ≡ true → WritesEquals v x y → WritesTag false g e y → WritesTag true (record { name = a; value = v } ∷ g) e (a ++ x)

-- the first `?>`
abbrev pub declaration_from : Bool → Text → Bool
declaration_from question [] = false
declaration_from question (c ∷ cs) = cond (question && (c == 62)) (is_empty cs) (declaration_from (c == 63) cs)

abbrev pub begins_with : ℕ → List ℕ → Bool
begins_with d [] = false
begins_with d (c ∷ cs) = c == d

abbrev pub tag_token : Bool → Text → List Attribute → Text → Token
tag_token false n g raw = open_tag n g raw
tag_token true n g raw = empty_tag n g raw

-- A start tag or an empty tag is written so.
abbrev pub WrittenTag : Bool → Text → List Attribute → Text → List ℕ → Type 0
WrittenTag e n g raw x = (y : List ℕ) × (named [] n ≡ true) × WritesTag false g e y × (x ≡ 60 ∷ (n ++ y)) × (raw ≡ x)

-- a token is written so; where a tail ends, is said of the element that it ends
abbrev pub Written : Token → List ℕ → Type 0
Written (open_tag n g raw) x = WrittenTag false n g raw x
Written (empty_tag n g raw) x = WrittenTag true n g raw x
Written (close_tag n) x = (w : List ℕ) × (named [] n ≡ true) × (is_white w ≡ true) × (x ≡ 60 ∷ (47 ∷ (n ++ (w ++ 62 ∷ []))))
Written (text raw y) x = (is_empty x ≡ false) × Writes y x × (raw ≡ x)
Written (tail y) x = x ≡ y
Written mark x = x ≡ byte_order_mark ∷ []
Written declaration x = (c : ℕ) × (y : List ℕ) × (is_space c ≡ true) × (declaration_from false y ≡ true) × (x ≡ 60 ∷ (63 ∷ (codes "xml" ++ c ∷ y)))

abbrev pub begins_mark : List Token → Bool
begins_mark (mark ∷ ts) = true
begins_mark ts = false

-- U+FEFF comes first behind the white space at the front
abbrev pub meets_mark : Text → Bool
meets_mark x = begins_with byte_order_mark (behind_white x)

-- a text goes up to the next `<`, or to U+FEFF where that is a token
abbrev pub Ends : Token → List Token → List ℕ → Type 0
Ends (text raw y) ts r = (begins_with 60 r || begins_mark ts) ≡ true
Ends t ts r = Unit {0}

-- the characters write the tokens one after another
abbrev pub WritesTokens : List Token → List ℕ → Type 0
WritesTokens [] c = c ≡ []
WritesTokens (t ∷ ts) c = (x : List ℕ) × (r : List ℕ) × Written t x × Ends t ts r × (c ≡ x ++ r) × WritesTokens ts r
