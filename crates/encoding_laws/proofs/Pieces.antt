-- A child of a record as the canonical encoding writes it.
use Rattle.std.proofs.Common.{◌≡◌, ℕ, true, false, List, [], ◌∷◌, ◌++◌, Some, refl, sym, ap, subst, ◌∙◌, append_assoc}
use Rattle.std.specs.List.{AllByRecursion}
use Rattle.std.proofs.lemmas.List.{append-nil}
use Rattle.std.proofs.lemmas.Grind.{flat_map-append}
use Rattle.mos_fields.specs.Characters.{Text}
use Rattle.mos_fields.specs.Fields.{same_field}
use Rattle.mos_fields.specs.Names.{named}
use Rattle.mos_fields.specs.Raw.{end_text, is_tail}
use Rattle.mos_fields.specs.Forms.{reads}
use Rattle.mos_fields.specs.declared.field.Field.{Field}
use Rattle.mos_fields.specs.declared.field.Field.TheVariants as fields
use Rattle.mos_fields.specs.declared.form.Form.{Form}
use Rattle.mos_tables.specs.declared.column.Column.{Column}
use Rattle.mos_tables.specs.declared.column.Shape.TheVariants.{Leaf}
use Rattle.mos_tables.specs.declared.table.Table.{Table}
use Rattle.mos_tables.specs.Events.{Attribute, Event, leaf, raw, opens, closes}
use Rattle.mos_tables.specs.Canonical.{start_text, event_text, canonical}
use Rattle.mos_tables.specs.Tables.{columns, attribute_of_form}
use Rattle.mos_grammar.specs.Tokens.{Token, open_tag, empty_tag, close_tag, tail}
use Rattle.mos_grammar.specs.Records.{Child, column_of, raw_role, role, aim_of, keys, arranged, nested, raw_events, Content, field, empty_leaf, raw_element, raw_tag, record_element, admission, admitted_record, field_events, admitted_leaf}
use Rattle.mos_lexer.specs.Lexing.{WrittenTag}
use Rattle.mos_cursor.specs.Accepted.{IsGiven}
use Rattle.encoding_laws.proofs.Written.{IsNamedAttribute, HasNames, names_both, WritesFront, both_fronts, start_front, end_front, field_tokens, field_front}
use Rattle.encoding_laws.proofs.Admitted.{given_again, Opens, field_of, leaf_admitted, leaf_read, raw_admitted, raw_admitted_empty}

pub canonical_append : (x y : List Event) → canonical (x ++ y) ≡ canonical x ++ canonical y
unfolding canonical
canonical_append x y = flat_map-append event_text x y

-- Where an element of this name may stand, its tokens add the child; of the children before it counts only what those of
-- `p` aim at and which keys they have.
pub record Piece (t : Table) (taken : List Text) (p : List Child) (n : Text) (c : Child) : Type 0 where
  pub tokens : List Token
  pub written : WritesFront tokens (canonical c.1)
  pub names : AllByRecursion HasNames c.1
  pub enters : (b all : List Child) (rest : List Token) → Opens t b n → aim_of b ≡ aim_of p → keys t b ≡ keys t p → Content t taken (b ++ c ∷ []) all rest → Content t taken b all (tokens ++ rest)

-- ---- a field with a text

pub leaf_piece : (t : Table) (taken : List Text) (p : List Child) (n : Text) (c : Column) (form : Form) (g : List Attribute) (y : Text) → column_of (columns t) n ≡ Some c → c.shape ≡ Leaf form
    → IsGiven (attribute_of_form form) g → reads form taken y ≡ Some y → named [] n ≡ true → Piece t taken p n (c.field, leaf n g y ∷ [])
leaf_piece t taken p n c form g y e s i r m = record {
  tokens = field_tokens n g y;
  written = field_front n g y m (given_again (attribute_of_form form) g i).names;
  names = ((m, (given_again (attribute_of_form form) g i).names), tt);
  enters = λ b all rest o a k d. go b all rest y (leaf_admitted t b n g c form e s i o) (leaf_read n c form g taken y r) d;
}
  where
    go : (b all : List Child) (rest : List Token) (z : Text) → admission t b n g ≡ admitted_leaf (field_of c form g) → field_events n (field_of c form g) taken z ≡ Some (leaf n g y ∷ [])
        → Content t taken (b ++ (c.field, leaf n g y ∷ []) ∷ []) all rest → Content t taken b all (field_tokens n g z ++ rest)
    go b all rest [] h w d = empty_leaf h w d
    go b all rest (x ∷ z) h w d = field h w d

-- ---- a raw element

-- a start tag and the rest of the element, or one empty tag
pub data RawTokens (n : Text) : Text → List Token → Type 0 where
  whole_raw : (g : List Attribute) (tag y : Text) → WrittenTag false n g tag tag → is_tail n y ≡ true → RawTokens n (tag ++ y) (open_tag n g tag ∷ tail y ∷ [])
  empty_raw : (g : List Attribute) (tag : Text) → WrittenTag true n g tag tag → RawTokens n tag (empty_tag n g tag ∷ [])

raw_front : (n : Text) (f : Field) (x : Text) (ts : List Token) → RawTokens n x ts → WritesFront ts (canonical (raw f x ∷ []))
unfolding canonical
raw_front n f x ts (whole_raw g tag y w h) = record {
  before = λ more c k. (tag, y ++ c, w, tt, ap (λ (z : List ℕ). z ++ c) (append-nil (tag ++ y)) ∙ append_assoc tag y c, (y, c, refl, tt, refl, k));
}
raw_front n f x ts (empty_raw g tag w) = record {
  before = λ more c k. (tag, c, w, tt, ap (λ (z : List ℕ). z ++ c) (append-nil tag), k);
}

pub raw_piece : (t : Table) (taken : List Text) (p : List Child) (n : Text) (f : Field) (x : Text) (ts : List Token) → ((b : List Child) (g : List Attribute) → Opens t b n → role t b n g ≡ raw_role f)
    → same_field f fields.Dropped ≡ false → RawTokens n x ts → Piece t taken p n (f, raw f x ∷ [])
raw_piece t taken p n f x ts r k w = record {
  tokens = ts;
  written = raw_front n f x ts w;
  names = (tt, tt);
  enters = λ b all rest o a q d. go b all rest x ts w o d;
}
  where
    kept : (z : Text) → raw f z ∷ [] ≡ raw_events f z
    kept z = rw k refl

    go : (b all : List Child) (rest : List Token) (z : Text) (us : List Token) → RawTokens n z us → Opens t b n → Content t taken (b ++ (f, raw f z ∷ []) ∷ []) all rest → Content t taken b all (us ++ rest)
    go b all rest z us (whole_raw g tag y w h) o d =
        raw_element (raw_admitted t b n g f (r b g o) o) h (subst (λ (v : List Event). Content t taken (b ++ (f, v) ∷ []) all rest) (kept (tag ++ y)) d)
    go b all rest z us (empty_raw g tag w) o d =
        raw_tag (raw_admitted_empty t taken b n g f (r b g o) o) (subst (λ (v : List Event). Content t taken (b ++ (f, v) ∷ []) all rest) (kept tag) d)

-- ---- a record

-- The tokens of a record's canonical encoding, behind its start tag and before its end tag.
pub record Canonical (t : Table) (taken : List Text) (es : List Event) : Type 0 where
  pub children : List Child
  pub tokens : List Token
  pub content : Content t taken [] children tokens
  pub written : WritesFront tokens (canonical es)
  pub names : AllByRecursion HasNames es
  pub value : arranged t children ≡ es

opens_canonical : (n : Text) (g : List Attribute) (x : List Event) → canonical (opens n g ∷ x) ≡ start_text n g ++ canonical x
unfolding canonical
opens_canonical n g x = refl

closes_canonical : (n : Text) → canonical (closes n ∷ []) ≡ end_text n
unfolding canonical
closes_canonical n = append-nil (end_text n)

pub nested_front : (n : Text) (g : List Attribute) (es : List Event) (ts : List Token) → named [] n ≡ true → AllByRecursion IsNamedAttribute g → WritesFront ts (canonical es)
    → WritesFront (open_tag n g (start_text n g) ∷ (ts ++ close_tag n ∷ [])) (canonical (opens n g ∷ (es ++ closes n ∷ [])))
nested_front n g es ts m a w =
    let rest : WritesFront (ts ++ close_tag n ∷ []) (canonical es ++ end_text n) = both_fronts ts (close_tag n ∷ []) (canonical es) (end_text n) w (end_front n m) in
    let whole : WritesFront (open_tag n g (start_text n g) ∷ (ts ++ close_tag n ∷ [])) (start_text n g ++ (canonical es ++ end_text n)) =
    both_fronts (open_tag n g (start_text n g) ∷ []) (ts ++ close_tag n ∷ []) (start_text n g) (canonical es ++ end_text n) (start_front n g m a) rest in
    subst (WritesFront (open_tag n g (start_text n g) ∷ (ts ++ close_tag n ∷ []))) (sym (opens_canonical n g (es ++ closes n ∷ []) ∙ ap (λ (z : List ℕ). start_text n g ++ z) (canonical_append es (closes n ∷ []) ∙ ap (λ (z : List ℕ). canonical es ++ z) (closes_canonical n)))) whole

pub record_piece : (t : Table) (taken : List Text) (p : List Child) (n : Text) (f : Field) (u : Table) (g : List Attribute) (inner : List Child)
    → ((b : List Child) → aim_of b ≡ aim_of p → Opens t b n → admission t b n g ≡ admitted_record f u g) → Canonical u (keys t p) (arranged u inner) → named [] n ≡ true → AllByRecursion IsNamedAttribute g
    → Piece t taken p n (f, nested n g u inner)
unfolding nested
record_piece t taken p n f u g inner h c m a = record {
  tokens = open_tag n g (start_text n g) ∷ (c.tokens ++ close_tag n ∷ []);
  written = nested_front n g (arranged u inner) c.tokens m a c.written;
  names = ((m, a), names_both (arranged u inner) (closes n ∷ []) c.names (m, tt));
  enters = λ b all rest o q k d.
      let w : nested n g u inner ≡ nested n g u c.children = ap (λ (z : List Event). opens n g ∷ (z ++ closes n ∷ [])) (sym c.value) in
      let x : Content u (keys t b) [] c.children c.tokens = subst (λ (z : List Text). Content u z [] c.children c.tokens) (sym k) c.content in
      let y : Content t taken (b ++ (f, nested n g u c.children) ∷ []) all rest = subst (λ (z : List Event). Content t taken (b ++ (f, z) ∷ []) all rest) w d in
      let whole : Content t taken b all (open_tag n g (start_text n g) ∷ (c.tokens ++ close_tag n ∷ rest)) = record_element (h b q o) x y in
      subst (λ (z : List Token). Content t taken b all (open_tag n g (start_text n g) ∷ z)) (sym (append_assoc c.tokens (close_tag n ∷ []) rest)) whole;
}
