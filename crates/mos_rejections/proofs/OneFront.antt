-- The same tokens are written by one front alone, and a tag that was begun is not whole yet.
use Rattle.std.proofs.Common.{◌≡◌, ℕ, Bool, true, false, cond, eqb, List, [], ◌∷◌, ◌++◌, refl, sym, ap, subst, ◌∙◌, append_assoc, inl, inr, codes}
use Rattle.std.specs.Prelude.{◌&&◌}
use Rattle.std.proofs.lemmas.List.{append-nil, append_cancel_left}
use Rattle.mos_fields.specs.Characters.{Text}
use Rattle.mos_fields.specs.Names.{is_empty}
use Rattle.mos_fields.specs.Raw.{is_space, tail_from}
use Rattle.mos_fields.specs.Forms.{is_white}
use Rattle.mos_tables.specs.Events.{Attribute}
use Rattle.mos_grammar.specs.Tokens.{Token, open_tag, empty_tag, close_tag, text, tail, mark, declaration}
use Rattle.mos_lexer.specs.Lexing.{declaration_from, tag_token, Written, WritesTag, ends_start, ends_empty, tag_space, attribute, WritesEquals, equals_space, equals, WritesQuoted, quoted_space, quote, WritesValue, value_ends, value_itself, value_reference}
use Rattle.mos_lexer.specs.LexMachine.{LexState, begin, in_text, text_reference, in_tag, start_name, in_start, attribute_name, before_equals, before_value, in_value, value_reference as value_reference_state, before_close, end_name, end_white, in_tail, in_question, in_declaration}
use Rattle.mos_lexer.proofs.Lexer.{Finishes, StartRest, EndRest, QuestionRest, LexRest}
use Rattle.mos_rejections.specs.Alive.{Fronts}

-- ---- one front

heads : (c d : ℕ) (x y : List ℕ) → (c ∷ x) ≡ (d ∷ y) → (c ≡ d) × (x ≡ y)
heads c d x y e = (cc, cc)

and_parts : (a b : Bool) → (a && b) ≡ true → (a ≡ true) × (b ≡ true)
and_parts true b h = (refl, h)
and_parts false b h = absurd cc

no_both : {A : Type 0} (b : Bool) → b ≡ true → b ≡ false → A
no_both true h k = absurd cc
no_both false h k = absurd cc

-- white space up to a `>`
white_one : (v w r s : List ℕ) → is_white v ≡ true → is_white w ≡ true → v ++ 62 ∷ r ≡ w ++ 62 ∷ s → v ≡ w
white_one [] [] r s a b e = refl
white_one [] (d ∷ w) r s a b e = no_both (is_space d) (and_parts (is_space d) (is_white w) b).0 (subst (λ (z : ℕ). is_space z ≡ false) (heads 62 d r (w ++ 62 ∷ s) e).0 refl)
white_one (c ∷ v) [] r s a b e = no_both (is_space c) (and_parts (is_space c) (is_white v) a).0 (subst (λ (z : ℕ). is_space z ≡ false) (sym (heads c 62 (v ++ 62 ∷ r) s e).0) refl)
white_one (c ∷ v) (d ∷ w) r s a b e =
    let h = heads c d (v ++ 62 ∷ r) (w ++ 62 ∷ s) e in
    let i = white_one v w r s (and_parts (is_space c) (is_white v) a).1 (and_parts (is_space d) (is_white w) b).1 h.1 in
    ap (λ (z : ℕ). z ∷ v) h.0 ∙ ap (λ (z : List ℕ). d ∷ z) i

empty_one : (x y : List ℕ) → is_empty x ≡ true → is_empty y ≡ true → x ≡ y
empty_one [] [] h k = refl
empty_one (c ∷ x) y h k = absurd cc
empty_one [] (c ∷ y) h k = absurd cc

-- what stands up to the first `?>`
declaration_one : (b : Bool) (x y r s : List ℕ) → declaration_from b x ≡ true → declaration_from b y ≡ true → x ++ r ≡ y ++ s → x ≡ y
declaration_one b [] y r s h k e = no_both false h refl
declaration_one b (c ∷ x) [] r s h k e = no_both false k refl
declaration_one b (c ∷ x) (d ∷ y) r s h k e = go (λ i j l. declaration_one (eqb c 63) x y r s i j l) (b && eqb c 62) refl h (subst (λ (z : ℕ). cond (b && eqb z 62) (is_empty y) (declaration_from (eqb z 63) y) ≡ true) (sym p.0) k)
  where
    p : (c ≡ d) × (x ++ r ≡ y ++ s)
    p = heads c d (x ++ r) (y ++ s) e

    go : (declaration_from (eqb c 63) x ≡ true → declaration_from (eqb c 63) y ≡ true → x ++ r ≡ y ++ s → x ≡ y) → (a : Bool) → (b && eqb c 62) ≡ a → cond a (is_empty x) (declaration_from (eqb c 63) x) ≡ true
        → cond (b && eqb c 62) (is_empty y) (declaration_from (eqb c 63) y) ≡ true → (c ∷ x) ≡ (d ∷ y)
    go f true i h k = ap (λ (z : ℕ). z ∷ x) p.0 ∙ ap (λ (z : List ℕ). d ∷ z) (empty_one x y h (rw i at k))
    go f false i h k = ap (λ (z : ℕ). z ∷ x) p.0 ∙ ap (λ (z : List ℕ). d ∷ z) (f h (rw i at k) p.1)

-- A token is written by one front of the characters alone.
pub written_one : (t : Token) (x y r s : List ℕ) → Written t x → Written t y → x ++ r ≡ y ++ s → x ≡ y
written_one (open_tag n g raw) x y r s a b e = sym a.4 ∙ b.4
written_one (empty_tag n g raw) x y r s a b e = sym a.4 ∙ b.4
written_one (text raw z) x y r s a b e = sym a.2 ∙ b.2
written_one (tail z) x y r s a b e = a ∙ sym b
written_one mark x y r s a b e = a ∙ sym b
written_one (close_tag n) x y r s a b e =
    let i : 60 ∷ (47 ∷ ((n ++ (a.0 ++ 62 ∷ [])) ++ r)) ≡ 60 ∷ (47 ∷ ((n ++ (b.0 ++ 62 ∷ [])) ++ s)) = ap (λ (z : List ℕ). z ++ r) (sym a.3) ∙ e ∙ ap (λ (z : List ℕ). z ++ s) b.3 in
    let j : (n ++ (a.0 ++ 62 ∷ [])) ++ r ≡ (n ++ (b.0 ++ 62 ∷ [])) ++ s = append_cancel_left (60 ∷ (47 ∷ [])) ((n ++ (a.0 ++ 62 ∷ [])) ++ r) ((n ++ (b.0 ++ 62 ∷ [])) ++ s) i in
    let k : n ++ (a.0 ++ 62 ∷ r) ≡ n ++ (b.0 ++ 62 ∷ s) = sym (ap (λ (z : List ℕ). n ++ z) (append_assoc a.0 (62 ∷ []) r)) ∙ sym (append_assoc n (a.0 ++ 62 ∷ []) r) ∙ j ∙ append_assoc n (b.0 ++ 62 ∷ []) s ∙ ap (λ (z : List ℕ). n ++ z) (append_assoc b.0 (62 ∷ []) s) in
    let w : a.0 ≡ b.0 = white_one a.0 b.0 r s a.2 b.2 (append_cancel_left n (a.0 ++ 62 ∷ r) (b.0 ++ 62 ∷ s) k) in
    a.3 ∙ ap (λ (z : List ℕ). 60 ∷ (47 ∷ (n ++ (z ++ 62 ∷ [])))) w ∙ sym b.3
written_one declaration x y r s a b e =
    let i : (60 ∷ (63 ∷ codes "xml")) ++ (a.0 ∷ (a.1 ++ r)) ≡ (60 ∷ (63 ∷ codes "xml")) ++ (b.0 ∷ (b.1 ++ s)) = ap (λ (z : List ℕ). z ++ r) (sym a.4) ∙ e ∙ ap (λ (z : List ℕ). z ++ s) b.4 in
    let j = heads a.0 b.0 (a.1 ++ r) (b.1 ++ s) (append_cancel_left (60 ∷ (63 ∷ codes "xml")) (a.0 ∷ (a.1 ++ r)) (b.0 ∷ (b.1 ++ s)) i) in
    let k : a.1 ≡ b.1 = declaration_one false a.1 b.1 r s a.3 b.3 j.1 in
    a.4 ∙ ap (λ (z : ℕ). 60 ∷ (63 ∷ (codes "xml" ++ z ∷ a.1))) j.0 ∙ ap (λ (z : List ℕ). 60 ∷ (63 ∷ (codes "xml" ++ b.0 ∷ z))) k ∙ sym b.4

-- the characters of tokens one after another, wherever a text ends
abbrev pub Spelled : List Token → List ℕ → Type 0
Spelled [] x = x ≡ []
Spelled (t ∷ ts) x = (y : List ℕ) × (r : List ℕ) × Written t y × (x ≡ y ++ r) × Spelled ts r

pub spelled : (ts : List Token) (f x : List ℕ) → Fronts ts f x → Spelled ts f
spelled [] f x a = a
spelled (t ∷ ts) f x a = (a.0, a.1, a.2, a.4, spelled ts a.1 x a.5)

-- Tokens are written by one front of the characters alone.
pub spelled_one : (ts : List Token) (f g x y : List ℕ) → Spelled ts f → Spelled ts g → f ++ x ≡ g ++ y → (f ≡ g) × (x ≡ y)
spelled_one [] f g x y a b e = (a ∙ sym b, ap (λ (z : List ℕ). z ++ x) (sym a) ∙ e ∙ ap (λ (z : List ℕ). z ++ y) b)
spelled_one (t ∷ ts) f g x y a b e =
    let i : a.0 ++ (a.1 ++ x) ≡ b.0 ++ (b.1 ++ y) = sym (append_assoc a.0 a.1 x) ∙ ap (λ (z : List ℕ). z ++ x) (sym a.3) ∙ e ∙ ap (λ (z : List ℕ). z ++ y) b.3 ∙ append_assoc b.0 b.1 y in
    let w : a.0 ≡ b.0 = written_one t a.0 b.0 (a.1 ++ x) (b.1 ++ y) a.2 b.2 i in
    let r = spelled_one ts a.1 b.1 x y a.4 b.4 (append_cancel_left a.0 (a.1 ++ x) (b.1 ++ y) (i ∙ ap (λ (z : List ℕ). z ++ (b.1 ++ y)) (sym w))) in
    (a.3 ∙ ap (λ (z : List ℕ). z ++ a.1) w ∙ ap (λ (z : List ℕ). b.0 ++ z) r.0 ∙ sym b.3, r.1)

-- the front of more tokens, cut behind the first ones
pub fronts_split : (ts us : List Token) (f x : List ℕ) → Fronts (ts ++ us) f x → (g h : List ℕ) × (f ≡ g ++ h) × Spelled ts g × Fronts us h x
fronts_split [] us f x a = ([], f, refl, refl, a)
fronts_split (t ∷ ts) us f x a =
    let b = fronts_split ts us a.1 x a.5 in
    (a.0 ++ b.0, b.1, a.4 ∙ ap (λ (z : List ℕ). a.0 ++ z) b.2 ∙ sym (append_assoc a.0 b.0 b.1), (a.0, b.0, a.2, refl, b.3), b.4)

-- ---- a tag that was begun

-- a state in a tag, a declaration or the rest of a raw element
abbrev pub IsInTag : LexState → Type 0
IsInTag begin = ⊥
IsInTag (in_text raw y) = ⊥
IsInTag (text_reference raw y m) = ⊥
IsInTag l = Unit {0}

-- some characters complete the token, and it alone
abbrev pub Alone : LexState → Token → Type 0
Alone l a = (z : List ℕ) × (is_empty z ≡ false) × LexRest l z (a ∷ [])

some_front : (x y : List ℕ) → is_empty x ≡ false → is_empty (x ++ y) ≡ false
some_front [] y h = no_both true refl h
some_front (c ∷ x) y h = refl

some_behind : (x y : List ℕ) → is_empty y ≡ false → is_empty (x ++ y) ≡ false
some_behind [] y h = h
some_behind (c ∷ x) y h = refl

tag_some : {s e : Bool} {g : List Attribute} {x : List ℕ} → WritesTag s g e x → is_empty x ≡ false
tag_some ends_start = refl
tag_some ends_empty = refl
tag_some (tag_space s w) = refl
tag_some (attribute [] x y nm we wt) = no_both false nm refl
tag_some (attribute (d ∷ m) x y nm we wt) = refl

equals_some : {v : Text} {x y : List ℕ} → WritesEquals v x y → is_empty x ≡ false
equals_some (equals_space s w) = refl
equals_some (equals w) = refl

quoted_some : {v : Text} {x y : List ℕ} → WritesQuoted v x y → is_empty x ≡ false
quoted_some (quoted_space s w) = refl
quoted_some (quote k w) = refl

value_some : {i : ℕ} {v : Text} {x y : List ℕ} → WritesValue i v x y → is_empty x ≡ false
value_some value_ends = refl
value_some (value_itself n p w) = refl
value_some (value_reference m is w) = refl

token_is : (a b : Token) (x y : List Token) → (a ∷ x) ≡ (b ∷ y) → a ∷ [] ≡ b ∷ []
token_is a b x y e = cc

finishes_alone : (n : Text) (g : List Attribute) (raw : Text) (e : Bool) (x c : List ℕ) (a : Token) (vs : List Token) → Finishes n g raw e x c (a ∷ vs) → Finishes n g raw e x x (a ∷ [])
finishes_alone n g raw e x c a vs f = ([], [], sym (append-nil x), token_is a (tag_token e n g (raw ++ x)) vs f.1 f.3, refl)

start_alone : (n : Text) (c : List ℕ) (a : Token) (vs : List Token) → StartRest n c (a ∷ vs) → (z : List ℕ) × (is_empty z ≡ false) × StartRest n z (a ∷ [])
start_alone n c a vs h = (h.1 ++ h.3, some_behind h.1 h.3 (tag_some h.5), (h.0, h.1, h.2, h.3, h.4, h.5, finishes_alone (n ++ h.1) h.2 (60 ∷ n) h.0 (h.1 ++ h.3) c a vs h.6))

end_alone : (n : Text) (c : List ℕ) (a : Token) (vs : List Token) → EndRest n c (a ∷ vs) → (z : List ℕ) × (is_empty z ≡ false) × EndRest n z (a ∷ [])
end_alone n c a vs h = (h.0 ++ (h.1 ++ 62 ∷ []), some_behind h.0 (h.1 ++ 62 ∷ []) (some_behind h.1 (62 ∷ []) refl), (h.0, h.1, [], [], h.4, h.5, refl, token_is a (close_tag (n ++ h.0)) vs h.3 h.7, refl))

question_alone : (k : Text) (c : List ℕ) (a : Token) (vs : List Token) → QuestionRest k c (a ∷ vs) → (z : List ℕ) × (is_empty z ≡ false) × QuestionRest k z (a ∷ [])
question_alone k c a vs h =
    let d = h.4 in
    (k ++ h.0 ∷ d.0, some_behind k (h.0 ∷ d.0) refl, (h.0, d.0, h.2, refl, (d.0, [], [], d.3, sym (append-nil d.0), token_is a declaration vs d.2 d.5, refl)))

-- A tag that was begun is completed by some characters.
pub alone : (l : LexState) (c : List ℕ) (a : Token) (vs : List Token) → IsInTag l → LexRest l c (a ∷ vs) → Alone l a
alone begin c a vs i h = absurd i
alone (in_text raw y) c a vs i h = absurd i
alone (text_reference raw y m) c a vs i h = absurd i
alone in_tag c a vs i (inl h) = let r = start_alone [] c a vs h in (r.0, r.1, inl r.2)
alone in_tag c a vs i (inr (inl h)) = let r = end_alone [] h.0 a vs h.2 in (47 ∷ r.0, refl, inr (inl (r.0, refl, r.2)))
alone in_tag c a vs i (inr (inr h)) = let r = question_alone (codes "xml") h.0 a vs h.2 in (63 ∷ r.0, refl, inr (inr (r.0, refl, r.2)))
alone (start_name n) c a vs i h = start_alone n c a vs h
alone (in_start t s raw) c a vs i h = (h.2, tag_some h.3, (h.0, h.1, h.2, h.3, finishes_alone t.name (t.given ++ h.1) raw h.0 h.2 c a vs h.4))
alone (attribute_name t n raw) c a vs i h =
    (h.1 ++ h.4, some_behind h.1 h.4 (equals_some h.7), (h.0, h.1, h.2, h.3, h.4, h.5, h.6, h.7, h.8, finishes_alone t.name (t.given ++ record { name = n ++ h.1; value = h.2 } ∷ h.3) raw h.0 (h.1 ++ h.4) c a vs h.9))
alone (before_equals t n raw) c a vs i h = (h.3, equals_some h.5, (h.0, h.1, h.2, h.3, h.4, h.5, h.6, finishes_alone t.name (t.given ++ record { name = n; value = h.1 } ∷ h.2) raw h.0 h.3 c a vs h.7))
alone (before_value t n raw) c a vs i h = (h.3, quoted_some h.5, (h.0, h.1, h.2, h.3, h.4, h.5, h.6, finishes_alone t.name (t.given ++ record { name = n; value = h.1 } ∷ h.2) raw h.0 h.3 c a vs h.7))
alone (in_value t n q w raw) c a vs i h =
    (h.3, value_some h.6, (h.0, h.1, h.2, h.3, h.4, h.5, h.6, h.7, finishes_alone t.name (t.given ++ record { name = n; value = w ++ h.1 } ∷ h.2) raw h.0 h.3 c a vs h.8))
alone (value_reference_state t n q w raw m) c a vs i h =
    (h.1 ++ h.5, some_front h.1 h.5 h.7, (h.0, h.1, h.2, h.3, h.4, h.5, h.6, h.7, h.8, h.9, h.10, h.11, finishes_alone t.name (t.given ++ record { name = n; value = w ++ h.2 ∷ h.3 } ∷ h.4) raw h.0 (h.1 ++ h.5) c a vs h.12))
alone (before_close t raw) c a vs i h = (62 ∷ [], refl, finishes_alone t.name t.given raw true (62 ∷ []) c a vs h)
alone (end_name n) c a vs i h = end_alone n c a vs h
alone (end_white n) c a vs i h = (h.0 ++ 62 ∷ [], some_behind h.0 (62 ∷ []) refl, (h.0, [], [], h.3, refl, token_is a (close_tag n) vs h.2 h.5, refl))
alone (in_tail n x) c a vs i h = (h.0, tail_some n x h.0 h.3, (h.0, [], [], h.3, sym (append-nil h.0), token_is a (tail (x ++ h.0)) vs h.2 h.5, refl))
  where
    tail_some : (n x y : Text) → tail_from n x y ≡ true → is_empty y ≡ false
    tail_some n x [] t = no_both false t refl
    tail_some n x (d ∷ y) t = refl
alone (in_question k) c a vs i h = question_alone k c a vs h
alone (in_declaration b) c a vs i h = (h.0, declaration_some b h.0 h.3, (h.0, [], [], h.3, sym (append-nil h.0), token_is a declaration vs h.2 h.5, refl))
  where
    declaration_some : (b : Bool) (y : Text) → declaration_from b y ≡ true → is_empty y ≡ false
    declaration_some b [] t = no_both false t refl
    declaration_some b (d ∷ y) t = refl
