-- What of a token is still read, character by character, is what the grammar of tokens says.
use Rattle.std.proofs.Common.{◌≡◌, ℕ, Bool, true, false, cond, eqb, List, [], ◌∷◌, ◌++◌, Option, Some, None, refl, sym, ap, subst, ◌∙◌, append_assoc, ◌⊎◌, inl, inr, codes}
use Rattle.std.specs.Prelude.{not, ◌&&◌, ◌||◌}
use Rattle.std.proofs.lemmas.Bool.{eqb-true}
use Rattle.std.proofs.lemmas.List.{append-nil}
use Rattle.mos_fields.specs.Characters.{Text}
use Rattle.mos_fields.specs.Names.{is_empty, may_grow, named}
use Rattle.mos_fields.specs.Raw.{end_text, ends_with, tail_from, is_space, is_plain, is_quote}
use Rattle.mos_fields.specs.Forms.{is_white}
use Rattle.mos_lexer.specs.Lexing.{byte_order_mark, Writes, nothing, itself, reference, WritesValue, value_ends, value_itself, value_reference, WritesQuoted, quoted_space, quote, WritesEquals, equals_space, equals, WritesTag, ends_start, ends_empty, tag_space, attribute, declaration_from, begins_with, tag_token, begins_mark, WritesTokens}
use Rattle.mos_fields.specs.References.{reference_of, begins_reference}
use Rattle.mos_lexer.specs.LexMachine.{Tag, LexState, begin, in_text, text_reference, in_tag, start_name, in_start, attribute_name, before_equals, before_value, in_value, value_reference as value_reference_state, before_close, end_name, end_white, in_tail, in_question, in_declaration, LexStep, continues, whole_token, text_before, text_before_mark, no_token, no_reference, continues_if, more_attributes, referred, reference_step, start_step, equals_step, lex_step}
use Rattle.mos_tables.specs.Events.{Attribute}
use Rattle.mos_grammar.specs.Tokens.{Token, open_tag, empty_tag, close_tag, text, tail, mark, declaration}

-- ---- what is still read

-- the rest of a tag with this name and these attributes, of which `raw` was read and `x` comes
abbrev pub Finishes : Text → List Attribute → Text → Bool → List ℕ → List ℕ → List Token → Type 0
Finishes n g raw e x c ts = (r : List ℕ) × (us : List Token) × (c ≡ x ++ r) × (ts ≡ tag_token e n g (raw ++ x) ∷ us) × WritesTokens us r

abbrev pub StartRest : Text → List ℕ → List Token → Type 0
StartRest n c ts = (e : Bool) × (m : Text) × (g : List Attribute) × (x : List ℕ) × (named n m ≡ true) × WritesTag false g e x × Finishes (n ++ m) g (60 ∷ n) e (m ++ x) c ts

abbrev pub TagRest : Tag → Bool → Text → List ℕ → List Token → Type 0
TagRest t s raw c ts = (e : Bool) × (g : List Attribute) × (x : List ℕ) × WritesTag s g e x × Finishes t.name (t.given ++ g) raw e x c ts

-- behind the front of an attribute's name
abbrev pub NameRest : Tag → Text → Text → List ℕ → List Token → Type 0
NameRest t a raw c ts = (e : Bool) × (m v : Text) × (g : List Attribute) × (x y : List ℕ) × (named a m ≡ true) × WritesEquals v x y × WritesTag false g e y
    × Finishes t.name (t.given ++ record { name = a ++ m; value = v } ∷ g) raw e (m ++ x) c ts

abbrev pub EqualsRest : Tag → Text → Text → List ℕ → List Token → Type 0
EqualsRest t a raw c ts = (e : Bool) × (v : Text) × (g : List Attribute) × (x y : List ℕ) × WritesEquals v x y × WritesTag false g e y
    × Finishes t.name (t.given ++ record { name = a; value = v } ∷ g) raw e x c ts

abbrev pub QuotedRest : Tag → Text → Text → List ℕ → List Token → Type 0
QuotedRest t a raw c ts = (e : Bool) × (v : Text) × (g : List Attribute) × (x y : List ℕ) × WritesQuoted v x y × WritesTag false g e y
    × Finishes t.name (t.given ++ record { name = a; value = v } ∷ g) raw e x c ts

abbrev pub ValueRest : Tag → Text → ℕ → Text → Text → List ℕ → List Token → Type 0
ValueRest t a q w raw c ts = (e : Bool) × (v : Text) × (g : List Attribute) × (x y : List ℕ) × (is_quote q ≡ true) × WritesValue q v x y × WritesTag false g e y
    × Finishes t.name (t.given ++ record { name = a; value = w ++ v } ∷ g) raw e x c ts

-- in a reference of a value, of which `m` was read and `k` comes
abbrev pub ValueReferenceRest : Tag → Text → ℕ → Text → Text → Text → List ℕ → List Token → Type 0
ValueReferenceRest t a q w raw m c ts = (e : Bool) × (k : Text) × (d : ℕ) × (v : Text) × (g : List Attribute) × (x y : List ℕ) × (is_empty k ≡ false) × (reference_of (m ++ k) ≡ Some d)
    × (is_quote q ≡ true) × WritesValue q v x y × WritesTag false g e y × Finishes t.name (t.given ++ record { name = a; value = w ++ d ∷ v } ∷ g) raw e (k ++ x) c ts

abbrev pub TextRest : Text → Text → List ℕ → List Token → Type 0
TextRest raw y c ts = (z : Text) × (x r : List ℕ) × (us : List Token) × Writes z x × (c ≡ x ++ r) × ((begins_with 60 r || begins_mark us) ≡ true) × (ts ≡ text (raw ++ x) (y ++ z) ∷ us) × WritesTokens us r

abbrev pub TextReferenceRest : Text → Text → Text → List ℕ → List Token → Type 0
TextReferenceRest raw y m c ts = (k : Text) × (d : ℕ) × (z : Text) × (x r : List ℕ) × (us : List Token) × (is_empty k ≡ false) × (reference_of (m ++ k) ≡ Some d) × Writes z x
    × (c ≡ k ++ (x ++ r)) × ((begins_with 60 r || begins_mark us) ≡ true) × (ts ≡ text (raw ++ (k ++ x)) (y ++ d ∷ z) ∷ us) × WritesTokens us r

abbrev pub EndRest : Text → List ℕ → List Token → Type 0
EndRest n c ts = (m : Text) × (w r : List ℕ) × (us : List Token) × (named n m ≡ true) × (is_white w ≡ true) × (c ≡ m ++ (w ++ 62 ∷ r)) × (ts ≡ close_tag (n ++ m) ∷ us) × WritesTokens us r

abbrev pub EndWhiteRest : Text → List ℕ → List Token → Type 0
EndWhiteRest n c ts = (w r : List ℕ) × (us : List Token) × (is_white w ≡ true) × (c ≡ w ++ 62 ∷ r) × (ts ≡ close_tag n ∷ us) × WritesTokens us r

abbrev pub DeclarationRest : Bool → List ℕ → List Token → Type 0
DeclarationRest b c ts = (y r : List ℕ) × (us : List Token) × (declaration_from b y ≡ true) × (c ≡ y ++ r) × (ts ≡ declaration ∷ us) × WritesTokens us r

abbrev pub QuestionRest : Text → List ℕ → List Token → Type 0
QuestionRest k c ts = (s : ℕ) × (d : List ℕ) × (is_space s ≡ true) × (c ≡ k ++ s ∷ d) × DeclarationRest false d ts

abbrev pub TailRest : Text → Text → List ℕ → List Token → Type 0
TailRest n x c ts = (y r : List ℕ) × (us : List Token) × (tail_from n x y ≡ true) × (c ≡ y ++ r) × (ts ≡ tail (x ++ y) ∷ us) × WritesTokens us r

-- an empty tag behind its `/`
abbrev pub CloseRest : Tag → Text → List ℕ → List Token → Type 0
CloseRest t raw c ts = Finishes t.name t.given raw true (62 ∷ []) c ts

abbrev pub InTagRest : List ℕ → List Token → Type 0
InTagRest c ts = StartRest [] c ts ⊎ (((d : List ℕ) × (c ≡ 47 ∷ d) × EndRest [] d ts) ⊎ ((d : List ℕ) × (c ≡ 63 ∷ d) × QuestionRest (codes "xml") d ts))

-- the characters complete the token that was begun, and then write the other tokens
abbrev pub LexRest : LexState → List ℕ → List Token → Type 0
LexRest begin c ts = WritesTokens ts c
LexRest (in_text raw y) c ts = TextRest raw y c ts
LexRest (text_reference raw y m) c ts = TextReferenceRest raw y m c ts
LexRest in_tag c ts = InTagRest c ts
LexRest (start_name n) c ts = StartRest n c ts
LexRest (in_start t s raw) c ts = TagRest t s raw c ts
LexRest (attribute_name t a raw) c ts = NameRest t a raw c ts
LexRest (before_equals t a raw) c ts = EqualsRest t a raw c ts
LexRest (before_value t a raw) c ts = QuotedRest t a raw c ts
LexRest (in_value t a q w raw) c ts = ValueRest t a q w raw c ts
LexRest (value_reference_state t a q w raw m) c ts = ValueReferenceRest t a q w raw m c ts
LexRest (before_close t raw) c ts = CloseRest t raw c ts
LexRest (end_name n) c ts = EndRest n c ts
LexRest (end_white n) c ts = EndWhiteRest n c ts
LexRest (in_tail n x) c ts = TailRest n x c ts
LexRest (in_question k) c ts = QuestionRest k c ts
LexRest (in_declaration b) c ts = DeclarationRest b c ts

-- what a character leaves to read
abbrev pub LexTakes : LexStep → List ℕ → List Token → Type 0
LexTakes (continues l) r ts = LexRest l r ts
LexTakes (whole_token t) r ts = (us : List Token) × (ts ≡ t ∷ us) × WritesTokens us r
LexTakes (text_before raw y l) r ts = (us : List Token) × (ts ≡ text raw y ∷ us) × LexRest l r us
LexTakes (text_before_mark raw y) r ts = (us : List Token) × (ts ≡ text raw y ∷ (mark ∷ us)) × WritesTokens us r
LexTakes no_token r ts = ⊥
LexTakes (no_reference k) r ts = ⊥

-- ---- tests of characters

pub parts_of : (c d : ℕ) (r q : List ℕ) → (c ∷ r) ≡ (d ∷ q) → (c ≡ d) × (r ≡ q)
parts_of c d r q e = (cc, cc)

pub true_from : (a b : Bool) → cond a b false ≡ true → (a ≡ true) × (b ≡ true)
true_from true b h = (refl, h)
true_from false b h = absurd cc

pub both_true : (a b : Bool) → a ≡ true → b ≡ true → cond a b false ≡ true
both_true true b h k = k
both_true false b h k = absurd cc

pub goes_back : (b : Bool) (l : LexState) (r : List ℕ) (ts : List Token) → LexTakes (continues_if b l) r ts → (b ≡ true) × LexRest l r ts
goes_back true l r ts h = (refl, h)
goes_back false l r ts h = absurd h

pub finishes_next : (n : Text) (g : List Attribute) (raw : Text) (e : Bool) (d : ℕ) (x : List ℕ) (c : ℕ) (r : List ℕ) (ts : List Token) → Finishes n g raw e (d ∷ x) (c ∷ r) ts → (c ≡ d) × Finishes n g (raw ++ c ∷ []) e x r ts
finishes_next n g raw e d x c r ts h =
    let p = parts_of c d r (x ++ h.0) h.2 in
    (p.0, (h.0, h.1, p.1, h.3 ∙ ap (λ (z : Text). tag_token e n g z ∷ h.1) (ap (λ (z : ℕ). raw ++ z ∷ x) (sym p.0) ∙ sym (append_assoc raw (c ∷ []) x)), h.4))

pub finishes_back : (n : Text) (g : List Attribute) (raw : Text) (e : Bool) (x : List ℕ) (c : ℕ) (r : List ℕ) (ts : List Token) → Finishes n g (raw ++ c ∷ []) e x r ts → Finishes n g raw e (c ∷ x) (c ∷ r) ts
finishes_back n g raw e x c r ts h =
    (h.0, h.1, ap (λ (z : List ℕ). c ∷ z) h.2, h.3 ∙ ap (λ (z : Text). tag_token e n g z ∷ h.1) (append_assoc raw (c ∷ []) x), h.4)

-- ---- back: a character that is taken

reference_back : (m : Text) (found : ℕ → LexState) (more : LexState) (r : List ℕ) (ts : List Token) → LexTakes (reference_step m found more) r ts
    → ((d : ℕ) × (reference_of m ≡ Some d) × LexRest (found d) r ts) ⊎ LexRest more r ts
reference_back m found more r ts h = go (reference_of m) refl (begins_reference m) h
  where
    go : (o : Option ℕ) → reference_of m ≡ o → (b : Bool) → LexTakes (referred m found more o b) r ts → ((d : ℕ) × (reference_of m ≡ Some d) × LexRest (found d) r ts) ⊎ LexRest more r ts
    go (Some d) e b h = inl (d, e, h)
    go None e true h = inr h
    go None e false h = absurd h

-- behind a `<`
pub from_tag : (r : List ℕ) (ts : List Token) → InTagRest r ts → WritesTokens ts (60 ∷ r)
from_tag r ts (inl h) = go h.0 h.5 h.6
  where
    go : (e : Bool) → WritesTag false h.2 e h.3 → Finishes h.1 h.2 (60 ∷ []) e (h.1 ++ h.3) r ts → WritesTokens ts (60 ∷ r)
    go false w f = subst (λ (z : List Token). WritesTokens z (60 ∷ r)) (sym f.3) (60 ∷ (h.1 ++ h.3), f.0, (h.3, h.4, w, refl, refl), tt, ap (λ (z : List ℕ). 60 ∷ z) f.2, f.4)
    go true w f = subst (λ (z : List Token). WritesTokens z (60 ∷ r)) (sym f.3) (60 ∷ (h.1 ++ h.3), f.0, (h.3, h.4, w, refl, refl), tt, ap (λ (z : List ℕ). 60 ∷ z) f.2, f.4)
from_tag r ts (inr (inl h)) =
    let g = h.2 in
    let e : 60 ∷ r ≡ (60 ∷ (47 ∷ (g.0 ++ (g.1 ++ 62 ∷ [])))) ++ g.2 = rw (h.1, g.6, append_assoc g.0 (g.1 ++ 62 ∷ []) g.2, append_assoc g.1 (62 ∷ []) g.2) refl in
    subst (λ (z : List Token). WritesTokens z (60 ∷ r)) (sym g.7) (60 ∷ (47 ∷ (g.0 ++ (g.1 ++ 62 ∷ []))), g.2, (g.1, g.4, g.5, refl), tt, e, g.8)
from_tag r ts (inr (inr h)) =
    let g = h.2 in
    let k = g.4 in
    let e : 60 ∷ r ≡ (60 ∷ (63 ∷ (codes "xml" ++ g.0 ∷ k.0))) ++ k.1 = rw (h.1, g.3, k.4) refl in
    subst (λ (z : List Token). WritesTokens z (60 ∷ r)) (sym k.5) (60 ∷ (63 ∷ (codes "xml" ++ g.0 ∷ k.0)), k.1, (g.0, k.0, g.2, k.3, refl), tt, e, k.6)

conj : (a b : Bool) → (a && b) ≡ true → (a ≡ true) × (b ≡ true)
conj true b h = (refl, h)
conj false b h = absurd cc

or_true : (b : Bool) → (b || true) ≡ true
or_true true = refl
or_true false = refl

not_empty : (n : Text) → is_empty n ≡ false → not (is_empty n) ≡ true
not_empty n h = rw h refl

pub plain_from : (c : ℕ) → eqb c 60 ≡ false → eqb c 38 ≡ false → is_plain c ≡ true
plain_from c h k = rw (h, k) refl

-- two facts that stand for a test each
mark_writes : (c : ℕ) (r : List ℕ) (us : List Token) → eqb c byte_order_mark ≡ true → WritesTokens us r → WritesTokens (mark ∷ us) (c ∷ r)
mark_writes c r us e h = (byte_order_mark ∷ [], r, refl, tt, (let p : c ≡ byte_order_mark = eqb-true c byte_order_mark e in rw p refl), h)

text_reference_next : (raw y : Text) (r : List ℕ) (ts : List Token) → TextReferenceRest (raw ++ 38 ∷ []) y [] r ts → TextRest raw y (38 ∷ r) ts
text_reference_next raw y r ts (k, d, z, x, q, us, ne, is, w, e, b, t, sp) =
    (d ∷ z, 38 ∷ (k ++ x), q, us, reference k is w, ap (λ (s : List ℕ). 38 ∷ s) (e ∙ sym (append_assoc k x q)), b, t ∙ ap (λ (s : Text). text s (y ++ d ∷ z) ∷ us) (append_assoc raw (38 ∷ []) (k ++ x)), sp)

text_plain_next : (raw y : Text) (c : ℕ) (r : List ℕ) (ts : List Token) → is_plain c ≡ true → TextRest (raw ++ c ∷ []) (y ++ c ∷ []) r ts → TextRest raw y (c ∷ r) ts
text_plain_next raw y c r ts pl (z, x, q, us, w, e, b, t, sp) =
    (c ∷ z, c ∷ x, q, us, itself pl w, ap (λ (s : List ℕ). c ∷ s) e, b, t ∙ rw (append_assoc raw (c ∷ []) x, append_assoc y (c ∷ []) z) refl, sp)

begin_back : (o : Bool) (c : ℕ) (r : List ℕ) (ts : List Token) (b1 b2 b3 : Bool) → eqb c 60 ≡ b1 → (o && eqb c byte_order_mark) ≡ b2 → eqb c 38 ≡ b3
    → LexTakes (cond b1 (continues in_tag) (cond b2 (whole_token mark) (cond b3 (continues (text_reference (c ∷ []) [] [])) (continues (in_text (c ∷ []) (c ∷ [])))))) r ts → WritesTokens ts (c ∷ r)
begin_back o c r ts true b2 b3 e1 e2 e3 h = let p : c ≡ 60 = eqb-true c 60 e1 in rw p (from_tag r ts h)
begin_back o c r ts false true b3 e1 e2 e3 h = subst (λ (s : List Token). WritesTokens s (c ∷ r)) (sym h.1) (mark_writes c r h.0 (conj o (eqb c byte_order_mark) e2).1 h.2)
begin_back o c r ts false false true e1 e2 e3 h =
    let p : c ≡ 38 = eqb-true c 38 e3 in
    subst (λ (s : ℕ). TextReferenceRest (s ∷ []) [] [] r ts → WritesTokens ts (s ∷ r)) (sym p) (λ (f : TextReferenceRest (38 ∷ []) [] [] r ts). whole_text f) h
  where
    whole_text : TextReferenceRest (38 ∷ []) [] [] r ts → WritesTokens ts (38 ∷ r)
    whole_text (k, d, z, x, q, us, ne, is, w, e, b, t, sp) =
        subst (λ (s : List Token). WritesTokens s (38 ∷ r)) (sym t) (38 ∷ (k ++ x), q, (refl, reference k is w, refl), b, ap (λ (s : List ℕ). 38 ∷ s) (e ∙ sym (append_assoc k x q)), sp)
begin_back o c r ts false false false e1 e2 e3 (z, x, q, us, w, e, b, t, sp) =
    subst (λ (s : List Token). WritesTokens s (c ∷ r)) (sym t) (c ∷ x, q, (refl, itself (plain_from c e1 e3) w, refl), b, ap (λ (s : List ℕ). c ∷ s) e, sp)

text_back : (o : Bool) (raw y : Text) (c : ℕ) (r : List ℕ) (ts : List Token) (b1 b2 b3 : Bool) → eqb c 60 ≡ b1 → ((o && eqb c byte_order_mark) && is_white raw) ≡ b2 → eqb c 38 ≡ b3
    → LexTakes (cond b1 (text_before raw y in_tag) (cond b2 (text_before_mark raw y) (cond b3 (continues (text_reference (raw ++ c ∷ []) y [])) (continues (in_text (raw ++ c ∷ []) (y ++ c ∷ [])))))) r ts → TextRest raw y (c ∷ r) ts
text_back o raw y c r ts true b2 b3 e1 e2 e3 h =
    let p : c ≡ 60 = eqb-true c 60 e1 in
    ([], [], c ∷ r, h.0, nothing, refl, rw e1 refl, h.1 ∙ rw (append-nil raw, append-nil y) refl, rw p (from_tag r h.0 h.2))
text_back o raw y c r ts false true b3 e1 e2 e3 h =
    let p = conj o (eqb c byte_order_mark) (conj (o && eqb c byte_order_mark) (is_white raw) e2).0 in
    ([], [], c ∷ r, mark ∷ h.0, nothing, refl, or_true (eqb c 60), h.1 ∙ rw (append-nil raw, append-nil y) refl, mark_writes c r h.0 p.1 h.2)
text_back o raw y c r ts false false true e1 e2 e3 h =
    let p : c ≡ 38 = eqb-true c 38 e3 in
    subst (λ (s : ℕ). TextReferenceRest (raw ++ s ∷ []) y [] r ts → TextRest raw y (s ∷ r) ts) (sym p) (λ (f : TextReferenceRest (raw ++ 38 ∷ []) y [] r ts). text_reference_next raw y r ts f) h
text_back o raw y c r ts false false false e1 e2 e3 h = text_plain_next raw y c r ts (plain_from c e1 e3) h

text_reference_back : (raw y m : Text) (c : ℕ) (r : List ℕ) (ts : List Token) → ((d : ℕ) × (reference_of (m ++ c ∷ []) ≡ Some d) × TextRest (raw ++ c ∷ []) (y ++ d ∷ []) r ts) ⊎ TextReferenceRest (raw ++ c ∷ []) y (m ++ c ∷ []) r ts → TextReferenceRest raw y m (c ∷ r) ts
text_reference_back raw y m c r ts (inl (d, is, (z, x, q, us, w, e, b, t, sp))) =
    (c ∷ [], d, z, x, q, us, refl, is, w, ap (λ (s : List ℕ). c ∷ s) e, b, t ∙ rw (append_assoc raw (c ∷ []) x, append_assoc y (d ∷ []) z) refl, sp)
text_reference_back raw y m c r ts (inr (k, d, z, x, q, us, ne, is, w, e, b, t, sp)) =
    (c ∷ k, d, z, x, q, us, refl, ap reference_of (sym (append_assoc m (c ∷ []) k)) ∙ is, w, ap (λ (s : List ℕ). c ∷ s) e, b, t ∙ rw (append_assoc raw (c ∷ []) (k ++ x)) refl, sp)

-- ---- tags

start_back : (t : Tag) (s : Bool) (raw : Text) (c : ℕ) (r : List ℕ) (ts : List Token) (b1 b2 b3 : Bool) → is_space c ≡ b1 → eqb c 62 ≡ b2 → eqb c 47 ≡ b3
    → LexTakes (cond b1 (continues (in_start t true (raw ++ c ∷ []))) (cond b2 (whole_token (open_tag t.name t.given (raw ++ c ∷ []))) (cond b3 (continues (before_close t (raw ++ c ∷ []))) (continues_if (s && may_grow [] c) (attribute_name t (c ∷ []) (raw ++ c ∷ [])))))) r ts → TagRest t s raw (c ∷ r) ts
start_back t s raw c r ts true b2 b3 e1 e2 e3 (e, g, x, w, f) = (e, g, c ∷ x, tag_space e1 w, finishes_back t.name (t.given ++ g) raw e x c r ts f)
start_back t s raw c r ts false true b3 e1 e2 e3 h =
    let p : c ≡ 62 = eqb-true c 62 e2 in
    (false, [], 62 ∷ [], ends_start, (r, h.0, rw p refl, h.1 ∙ rw (append-nil t.given, p) refl, h.2))
start_back t s raw c r ts false false true e1 e2 e3 h =
    let p : c ≡ 47 = eqb-true c 47 e3 in
    (true, [], 47 ∷ 62 ∷ [], ends_empty, rw (append-nil t.given) (subst (λ (q : ℕ). Finishes t.name t.given raw true (q ∷ 62 ∷ []) (c ∷ r) ts) p (finishes_back t.name t.given raw true (62 ∷ []) c r ts h)))
start_back t true raw c r ts false false false e1 e2 e3 h =
    let k = goes_back (may_grow [] c) (attribute_name t (c ∷ []) (raw ++ c ∷ [])) r ts h in
    attribute_back k.0 k.1
  where
    attribute_back : may_grow [] c ≡ true → NameRest t (c ∷ []) (raw ++ c ∷ []) r ts → TagRest t true raw (c ∷ r) ts
    attribute_back gr (e, m, v, g, x, y, nm, we, wt, f) =
        (e, record { name = c ∷ m; value = v } ∷ g, c ∷ (m ++ x), attribute (c ∷ m) x y (both_true (may_grow [] c) (named (c ∷ []) m) gr nm) we wt, finishes_back t.name (t.given ++ record { name = c ∷ m; value = v } ∷ g) raw e (m ++ x) c r ts f)
start_back t false raw c r ts false false false e1 e2 e3 h = absurd h

tag_starts : (n : Text) (c : ℕ) (r : List ℕ) (ts : List Token) → is_empty n ≡ false → TagRest (record { name = n; given = [] }) false (60 ∷ n) (c ∷ r) ts → StartRest n (c ∷ r) ts
tag_starts n c r ts ne (e, g, x, w, f) = (e, [], g, x, not_empty n ne, w, rw (append-nil n) f)

start_name_back : (n : Text) (c : ℕ) (r : List ℕ) (ts : List Token) (b1 b2 : Bool) → may_grow n c ≡ b1 → is_empty n ≡ b2
    → LexTakes (cond b1 (continues (start_name (n ++ c ∷ []))) (cond b2 no_token (start_step (record { name = n; given = [] }) false (60 ∷ n) c))) r ts → StartRest n (c ∷ r) ts
start_name_back n c r ts true b2 e1 e2 (e, m, g, x, nm, w, f) =
    (e, c ∷ m, g, x, both_true (may_grow n c) (named (n ++ c ∷ []) m) e1 nm, w, subst (λ (q : Text). Finishes q g (60 ∷ n) e (c ∷ (m ++ x)) (c ∷ r) ts) (append_assoc n (c ∷ []) m) (finishes_back ((n ++ c ∷ []) ++ m) g (60 ∷ n) e (m ++ x) c r ts f))
start_name_back n c r ts false true e1 e2 h = absurd h
start_name_back n c r ts false false e1 e2 h = tag_starts n c r ts e2 (start_back (record { name = n; given = [] }) false (60 ∷ n) c r ts (is_space c) (eqb c 62) (eqb c 47) refl refl refl h)

equals_back : (t : Tag) (a raw : Text) (c : ℕ) (r : List ℕ) (ts : List Token) (b1 : Bool) → is_space c ≡ b1
    → LexTakes (cond b1 (continues (before_equals t a (raw ++ c ∷ []))) (continues_if (eqb c 61) (before_value t a (raw ++ c ∷ [])))) r ts → EqualsRest t a raw (c ∷ r) ts
equals_back t a raw c r ts true e1 (e, v, g, x, y, we, wt, f) = (e, v, g, c ∷ x, y, equals_space e1 we, wt, finishes_back t.name (t.given ++ record { name = a; value = v } ∷ g) raw e x c r ts f)
equals_back t a raw c r ts false e1 h =
    let k = goes_back (eqb c 61) (before_value t a (raw ++ c ∷ [])) r ts h in
    quoted_from (eqb-true c 61 k.0) k.1
  where
    quoted_from : c ≡ 61 → QuotedRest t a (raw ++ c ∷ []) r ts → EqualsRest t a raw (c ∷ r) ts
    quoted_from p (e, v, g, x, y, wq, wt, f) = (e, v, g, c ∷ x, y, rw p (equals wq), wt, finishes_back t.name (t.given ++ record { name = a; value = v } ∷ g) raw e x c r ts f)

equals_names : (t : Tag) (a raw : Text) (c : ℕ) (r : List ℕ) (ts : List Token) → is_empty a ≡ false → EqualsRest t a raw (c ∷ r) ts → NameRest t a raw (c ∷ r) ts
equals_names t a raw c r ts ne (e, v, g, x, y, we, wt, f) = (e, [], v, g, x, y, not_empty a ne, we, wt, rw (append-nil a) f)

attribute_name_back : (t : Tag) (a raw : Text) (c : ℕ) (r : List ℕ) (ts : List Token) (b1 b2 : Bool) → may_grow a c ≡ b1 → is_empty a ≡ b2
    → LexTakes (cond b1 (continues (attribute_name t (a ++ c ∷ []) (raw ++ c ∷ []))) (cond b2 no_token (equals_step t a raw c))) r ts → NameRest t a raw (c ∷ r) ts
attribute_name_back t a raw c r ts true b2 e1 e2 (e, m, v, g, x, y, nm, we, wt, f) = (
  e,
  c ∷ m,
  v,
  g,
  x,
  y,
  both_true (may_grow a c) (named (a ++ c ∷ []) m) e1 nm,
  we,
  wt,
  subst (λ (q : Text). Finishes t.name (t.given ++ record { name = q; value = v } ∷ g) raw e (c ∷ (m ++ x)) (c ∷ r) ts) (append_assoc a (c ∷ []) m) (finishes_back t.name (t.given ++ record { name = (a ++ c ∷ []) ++ m; value = v } ∷ g) raw e (m ++ x) c r ts f),
)
attribute_name_back t a raw c r ts false true e1 e2 h = absurd h
attribute_name_back t a raw c r ts false false e1 e2 h = equals_names t a raw c r ts e2 (equals_back t a raw c r ts (is_space c) refl h)

quoted_back : (t : Tag) (a raw : Text) (c : ℕ) (r : List ℕ) (ts : List Token) (b1 : Bool) → is_space c ≡ b1
    → LexTakes (cond b1 (continues (before_value t a (raw ++ c ∷ []))) (continues_if (is_quote c) (in_value t a c [] (raw ++ c ∷ [])))) r ts → QuotedRest t a raw (c ∷ r) ts
quoted_back t a raw c r ts true e1 (e, v, g, x, y, wq, wt, f) = (e, v, g, c ∷ x, y, quoted_space e1 wq, wt, finishes_back t.name (t.given ++ record { name = a; value = v } ∷ g) raw e x c r ts f)
quoted_back t a raw c r ts false e1 h =
    let k = goes_back (is_quote c) (in_value t a c [] (raw ++ c ∷ [])) r ts h in
    value_from k.0 k.1
  where
    value_from : is_quote c ≡ true → ValueRest t a c [] (raw ++ c ∷ []) r ts → QuotedRest t a raw (c ∷ r) ts
    value_from p (e, v, g, x, y, iq, wv, wt, f) = (e, v, g, c ∷ x, y, quote p wv, wt, finishes_back t.name (t.given ++ record { name = a; value = v } ∷ g) raw e x c r ts f)

value_ended : (t : Tag) (a : Text) (q : ℕ) (w raw : Text) (c : ℕ) (r : List ℕ) (ts : List Token) → c ≡ q → is_quote q ≡ true → TagRest (more_attributes t a w) false (raw ++ c ∷ []) r ts → ValueRest t a q w raw (c ∷ r) ts
value_ended t a q w raw c r ts p iq (e, g, x, wt, f) = (
  e,
  [],
  g,
  c ∷ x,
  x,
  iq,
  rw p value_ends,
  wt,
  subst (λ (z : List Attribute). Finishes t.name z raw e (c ∷ x) (c ∷ r) ts) (append_assoc t.given (record { name = a; value = w } ∷ []) g ∙ rw (append-nil w) refl)
      (finishes_back t.name ((t.given ++ record { name = a; value = w } ∷ []) ++ g) raw e x c r ts f),
)

value_back : (t : Tag) (a : Text) (q : ℕ) (w raw : Text) (c : ℕ) (r : List ℕ) (ts : List Token) (b1 b2 b3 : Bool) → eqb c q ≡ b1 → eqb c 38 ≡ b2 → eqb c 60 ≡ b3
    → LexTakes (cond b1 (continues_if (is_quote q) (in_start (more_attributes t a w) false (raw ++ c ∷ []))) (cond b2 (continues (value_reference_state t a q w (raw ++ c ∷ []) [])) (continues_if (not b3) (in_value t a q (w ++ c ∷ []) (raw ++ c ∷ []))))) r ts → ValueRest t a q w raw (c ∷ r) ts
value_back t a q w raw c r ts true b2 b3 e1 e2 e3 h =
    let k = goes_back (is_quote q) (in_start (more_attributes t a w) false (raw ++ c ∷ [])) r ts h in
    value_ended t a q w raw c r ts (eqb-true c q e1) k.0 k.1
value_back t a q w raw c r ts false true b3 e1 e2 e3 (e, k, d, v, g, x, y, ne, is, iq, wv, wt, f) =
    let p : c ≡ 38 = eqb-true c 38 e2 in
    (e, d ∷ v, g, c ∷ (k ++ x), y, iq, rw p (value_reference k is wv), wt, finishes_back t.name (t.given ++ record { name = a; value = w ++ d ∷ v } ∷ g) raw e (k ++ x) c r ts f)
value_back t a q w raw c r ts false false true e1 e2 e3 h = absurd h
value_back t a q w raw c r ts false false false e1 e2 e3 (e, v, g, x, y, iq, wv, wt, f) = (
  e,
  c ∷ v,
  g,
  c ∷ x,
  y,
  iq,
  value_itself e1 (plain_from c e3 e2) wv,
  wt,
  subst (λ (z : Text). Finishes t.name (t.given ++ record { name = a; value = z } ∷ g) raw e (c ∷ x) (c ∷ r) ts) (append_assoc w (c ∷ []) v) (finishes_back t.name (t.given ++ record { name = a; value = (w ++ c ∷ []) ++ v } ∷ g) raw e x c r ts f),
)

value_reference_back : (t : Tag) (a : Text) (q : ℕ) (w raw m : Text) (c : ℕ) (r : List ℕ) (ts : List Token)
    → ((d : ℕ) × (reference_of (m ++ c ∷ []) ≡ Some d) × ValueRest t a q (w ++ d ∷ []) (raw ++ c ∷ []) r ts) ⊎ ValueReferenceRest t a q w (raw ++ c ∷ []) (m ++ c ∷ []) r ts → ValueReferenceRest t a q w raw m (c ∷ r) ts
value_reference_back t a q w raw m c r ts (inl (d, is, (e, v, g, x, y, iq, wv, wt, f))) = (
  e,
  c ∷ [],
  d,
  v,
  g,
  x,
  y,
  refl,
  is,
  iq,
  wv,
  wt,
  subst (λ (z : Text). Finishes t.name (t.given ++ record { name = a; value = z } ∷ g) raw e (c ∷ x) (c ∷ r) ts) (append_assoc w (d ∷ []) v) (finishes_back t.name (t.given ++ record { name = a; value = (w ++ d ∷ []) ++ v } ∷ g) raw e x c r ts f),
)
value_reference_back t a q w raw m c r ts (inr (e, k, d, v, g, x, y, ne, is, iq, wv, wt, f)) =
    (e, c ∷ k, d, v, g, x, y, refl, ap reference_of (sym (append_assoc m (c ∷ []) k)) ∙ is, iq, wv, wt, finishes_back t.name (t.given ++ record { name = a; value = w ++ d ∷ v } ∷ g) raw e (k ++ x) c r ts f)

close_back : (t : Tag) (raw : Text) (c : ℕ) (r : List ℕ) (ts : List Token) (b : Bool) → eqb c 62 ≡ b → LexTakes (cond b (whole_token (empty_tag t.name t.given (raw ++ c ∷ []))) no_token) r ts → CloseRest t raw (c ∷ r) ts
close_back t raw c r ts true e h = let p : c ≡ 62 = eqb-true c 62 e in (r, h.0, rw p refl, h.1 ∙ rw p refl, h.2)
close_back t raw c r ts false e h = absurd h

end_white_back : (n : Text) (c : ℕ) (r : List ℕ) (ts : List Token) (b : Bool) → eqb c 62 ≡ b → LexTakes (cond b (whole_token (close_tag n)) (continues_if (is_space c) (end_white n))) r ts → EndWhiteRest n (c ∷ r) ts
end_white_back n c r ts true e h = let p : c ≡ 62 = eqb-true c 62 e in ([], r, h.0, refl, rw p refl, h.1, h.2)
end_white_back n c r ts false e h =
    let k = goes_back (is_space c) (end_white n) r ts h in
    more k.0 k.1
  where
    more : is_space c ≡ true → EndWhiteRest n r ts → EndWhiteRest n (c ∷ r) ts
    more s (w, q, us, wh, f, t, sp) = (c ∷ w, q, us, rw s wh, ap (λ (z : List ℕ). c ∷ z) f, t, sp)

end_name_back : (n : Text) (c : ℕ) (r : List ℕ) (ts : List Token) (b1 b2 : Bool) → may_grow n c ≡ b1 → is_empty n ≡ b2
    → LexTakes (cond b1 (continues (end_name (n ++ c ∷ []))) (cond b2 no_token (cond (eqb c 62) (whole_token (close_tag n)) (continues_if (is_space c) (end_white n))))) r ts → EndRest n (c ∷ r) ts
end_name_back n c r ts true b2 e1 e2 (m, w, q, us, nm, wh, f, t, sp) =
    (c ∷ m, w, q, us, both_true (may_grow n c) (named (n ++ c ∷ []) m) e1 nm, wh, ap (λ (z : List ℕ). c ∷ z) f, t ∙ ap (λ (z : Text). close_tag z ∷ us) (append_assoc n (c ∷ []) m), sp)
end_name_back n c r ts false true e1 e2 h = absurd h
end_name_back n c r ts false false e1 e2 h = more (end_white_back n c r ts (eqb c 62) refl h)
  where
    more : EndWhiteRest n (c ∷ r) ts → EndRest n (c ∷ r) ts
    more (w, q, us, wh, f, t, sp) = ([], w, q, us, not_empty n e2, wh, f, t ∙ ap (λ (z : Text). close_tag z ∷ us) (sym (append-nil n)), sp)

tail_back : (n x : Text) (c : ℕ) (r : List ℕ) (ts : List Token) (b : Bool) → ends_with (end_text n) (x ++ c ∷ []) ≡ b
    → LexTakes (cond b (whole_token (tail (x ++ c ∷ []))) (continues (in_tail n (x ++ c ∷ [])))) r ts → TailRest n x (c ∷ r) ts
tail_back n x c r ts true e h = (c ∷ [], r, h.0, rw e refl, refl, h.1, h.2)
tail_back n x c r ts false e (y, q, us, tl, f, t, sp) = (c ∷ y, q, us, rw e tl, ap (λ (z : List ℕ). c ∷ z) f, t ∙ ap (λ (z : Text). tail z ∷ us) (append_assoc x (c ∷ []) y), sp)

declaration_back : (b : Bool) (c : ℕ) (r : List ℕ) (ts : List Token) (k : Bool) → (b && eqb c 62) ≡ k → LexTakes (cond k (whole_token declaration) (continues (in_declaration (eqb c 63)))) r ts → DeclarationRest b (c ∷ r) ts
declaration_back b c r ts true e h = (c ∷ [], r, h.0, rw e refl, refl, h.1, h.2)
declaration_back b c r ts false e (y, q, us, d, f, t, sp) = (c ∷ y, q, us, rw e d, ap (λ (z : List ℕ). c ∷ z) f, t, sp)

in_tag_back : (c : ℕ) (r : List ℕ) (ts : List Token) (b1 b2 : Bool) → eqb c 47 ≡ b1 → eqb c 63 ≡ b2
    → LexTakes (cond b1 (continues (end_name [])) (cond b2 (continues (in_question (codes "xml"))) (continues_if (may_grow [] c) (start_name (c ∷ []))))) r ts → InTagRest (c ∷ r) ts
in_tag_back c r ts true b2 e1 e2 h = inr (inl (r, (let p : c ≡ 47 = eqb-true c 47 e1 in rw p refl), h))
in_tag_back c r ts false true e1 e2 h = inr (inr (r, (let p : c ≡ 63 = eqb-true c 63 e2 in rw p refl), h))
in_tag_back c r ts false false e1 e2 h =
    let k = goes_back (may_grow [] c) (start_name (c ∷ [])) r ts h in
    inl (start k.0 k.1)
  where
    start : may_grow [] c ≡ true → StartRest (c ∷ []) r ts → StartRest [] (c ∷ r) ts
    start gr (e, m, g, x, nm, w, f) = (e, c ∷ m, g, x, both_true (may_grow [] c) (named (c ∷ []) m) gr nm, w, finishes_back (c ∷ m) g (60 ∷ []) e (m ++ x) c r ts f)

-- What a character leaves to read, is read by the state before, one character longer.
pub lex_back : (o : Bool) (l : LexState) (c : ℕ) (r : List ℕ) (ts : List Token) → LexTakes (lex_step o l c) r ts → LexRest l (c ∷ r) ts
unfolding lex_step
lex_back o begin c r ts h = begin_back o c r ts (eqb c 60) (o && eqb c byte_order_mark) (eqb c 38) refl refl refl h
lex_back o (in_text raw y) c r ts h = text_back o raw y c r ts (eqb c 60) ((o && eqb c byte_order_mark) && is_white raw) (eqb c 38) refl refl refl h
lex_back o (text_reference raw y m) c r ts h = text_reference_back raw y m c r ts (reference_back (m ++ c ∷ []) (λ d. in_text (raw ++ c ∷ []) (y ++ d ∷ [])) (text_reference (raw ++ c ∷ []) y (m ++ c ∷ [])) r ts h)
lex_back o in_tag c r ts h = in_tag_back c r ts (eqb c 47) (eqb c 63) refl refl h
lex_back o (start_name n) c r ts h = start_name_back n c r ts (may_grow n c) (is_empty n) refl refl h
lex_back o (in_start t s raw) c r ts h = start_back t s raw c r ts (is_space c) (eqb c 62) (eqb c 47) refl refl refl h
lex_back o (attribute_name t a raw) c r ts h = attribute_name_back t a raw c r ts (may_grow a c) (is_empty a) refl refl h
lex_back o (before_equals t a raw) c r ts h = equals_back t a raw c r ts (is_space c) refl h
lex_back o (before_value t a raw) c r ts h = quoted_back t a raw c r ts (is_space c) refl h
lex_back o (in_value t a q w raw) c r ts h = value_back t a q w raw c r ts (eqb c q) (eqb c 38) (eqb c 60) refl refl refl h
lex_back o (value_reference_state t a q w raw m) c r ts h =
    value_reference_back t a q w raw m c r ts (reference_back (m ++ c ∷ []) (λ d. in_value t a q (w ++ d ∷ []) (raw ++ c ∷ [])) (value_reference_state t a q w (raw ++ c ∷ []) (m ++ c ∷ [])) r ts h)
lex_back o (before_close t raw) c r ts h = close_back t raw c r ts (eqb c 62) refl h
lex_back o (end_name n) c r ts h = end_name_back n c r ts (may_grow n c) (is_empty n) refl refl h
lex_back o (end_white n) c r ts h = end_white_back n c r ts (eqb c 62) refl h
lex_back o (in_tail n x) c r ts h = tail_back n x c r ts (ends_with (end_text n) (x ++ c ∷ [])) refl h
lex_back o (in_question []) c r ts h =
    let k = goes_back (is_space c) (in_declaration false) r ts h in
    (c, r, k.0, refl, k.1)
lex_back o (in_question (d ∷ k)) c r ts h =
    let g = goes_back (eqb c d) (in_question k) r ts h in
    more (eqb-true c d g.0) g.1
  where
    more : c ≡ d → QuestionRest k r ts → QuestionRest (d ∷ k) (c ∷ r) ts
    more p (s, z, sp, f, dc) = (s, z, sp, rw (p, f) refl, dc)
lex_back o (in_declaration b) c r ts h = declaration_back b c r ts (b && eqb c 62) refl h
