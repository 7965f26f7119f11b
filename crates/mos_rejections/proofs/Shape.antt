-- What a state of the lexer knows of the characters that it has read of a token.
use Rattle.std.proofs.Common.{◌≡◌, ℕ, Bool, true, false, cond, eqb, [], ◌∷◌, ◌++◌, length, Option, Some, None, refl, sym, ap, subst, ◌∙◌, append_assoc, codes}
use Rattle.std.specs.Prelude.{◌&&◌, not}
use Rattle.std.proofs.lemmas.Bool.{eqb-true}
use Rattle.mos_fields.specs.Characters.{Text}
use Rattle.mos_fields.specs.Names.{is_empty, may_grow}
use Rattle.mos_fields.specs.References.{reference_of, begins_reference}
use Rattle.mos_fields.specs.Raw.{end_text, ends_with, tail_from, is_tail, is_space, is_quote}
use Rattle.mos_fields.specs.Forms.{is_white, behind_white}
use Rattle.mos_grammar.specs.Tokens.{Token, open_tag, empty_tag, close_tag, text, tail, mark, declaration}
use Rattle.mos_lexer.specs.Lexing.{byte_order_mark, begins_with, meets_mark}
use Rattle.mos_rejections.specs.Alive.{is_text}
use Rattle.mos_lexer.specs.LexMachine.{Tag, LexState, begin, in_text, text_reference, in_tag, start_name, in_start, attribute_name, before_equals, before_value, in_value, value_reference, before_close, end_name, end_white, in_tail, in_question, in_declaration, LexStep, continues, whole_token, text_before, text_before_mark, no_token, no_reference, continues_if, more_attributes, referred, reference_step, start_step, equals_step, lex_step}

-- behind the last `&` stands the beginning of a reference
pub record InReference (p m : Text) : Type 0 where
  pub before : Text
  pub whole : p ≡ before ++ 38 ∷ m
  pub begun : begins_reference m ≡ true
  pub not_whole : reference_of m ≡ None

-- the end tag comes later, if at all
abbrev pub IsTailFront : Text → Text → Type 0
IsTailFront n x = (y : Text) → tail_from n [] (x ++ y) ≡ tail_from n x y

abbrev pub has_no_amp : Text → Bool
has_no_amp [] = true
has_no_amp (c ∷ k) = not (eqb c 38) && has_no_amp k

-- what a state knows of the part of a token that it has read
abbrev pub Sound : Bool → LexState → Text → Type 0
Sound o begin p = p ≡ []
Sound o (in_text raw y) p = (raw ≡ p) × (is_empty p ≡ false) × (o ≡ true → meets_mark p ≡ false)
Sound o (text_reference raw y m) p = (raw ≡ p) × InReference p m × (o ≡ true → meets_mark p ≡ false)
Sound o in_tag p = p ≡ 60 ∷ []
Sound o (start_name n) p = is_empty n ≡ false
Sound o (in_start g spaced raw) p = Unit {0}
Sound o (attribute_name g a raw) p = is_empty a ≡ false
Sound o (before_equals g a raw) p = Unit {0}
Sound o (before_value g a raw) p = Unit {0}
Sound o (in_value g a q v raw) p = is_quote q ≡ true
Sound o (value_reference g a q v raw m) p = (is_quote q ≡ true) × InReference p m
Sound o (before_close g raw) p = Unit {0}
Sound o (end_name n) p = Unit {0}
Sound o (end_white n) p = Unit {0}
Sound o (in_tail n x) p = (x ≡ p) × IsTailFront n x
Sound o (in_question k) p = has_no_amp k ≡ true
Sound o (in_declaration b) p = Unit {0}

-- the rest of a raw element is read on as that of the same element, and not begun by a character
abbrev pub IsTailOf : Text → LexState → Type 0
IsTailOf m (in_tail n x) = n ≡ m
IsTailOf m l = ⊥

abbrev pub IsNotTail : LexState → Type 0
IsNotTail (in_tail n x) = ⊥
IsNotTail l = Unit {0}

abbrev pub KeepsTail : LexState → LexState → Type 0
KeepsTail (in_tail m y) l = IsTailOf m l
KeepsTail k l = IsNotTail l

-- in a tag or at the beginning of a declaration, and in no reference
abbrev pub IsTagState : LexState → Type 0
IsTagState begin = ⊥
IsTagState (in_text raw y) = ⊥
IsTagState (text_reference raw y m) = ⊥
IsTagState (value_reference g a q v raw m) = ⊥
IsTagState (in_tail n x) = ⊥
IsTagState (in_declaration b) = ⊥
IsTagState l = Unit {0}

-- the character shows that no reference stands behind the last `&`
pub record BreaksReference (p : Text) (c k : ℕ) : Type 0 where
  pub before : Text
  pub m : Text
  pub whole : p ≡ before ++ 38 ∷ m
  pub count : k ≡ length (m ++ c ∷ [])
  pub begun : begins_reference m ≡ true
  pub not_whole : reference_of m ≡ None
  pub no_reference : reference_of (m ++ c ∷ []) ≡ None
  pub stuck : begins_reference (m ++ c ∷ []) ≡ false

-- a token that the character ends
abbrev pub WholeSound : Bool → LexState → Text → ℕ → Token → Type 0
WholeSound o l p c (open_tag n g raw) = IsNotTail l
WholeSound o l p c (empty_tag n g raw) = IsNotTail l
WholeSound o l p c (close_tag n) = IsNotTail l
WholeSound o l p c declaration = IsNotTail l
WholeSound o l p c mark = (o ≡ true) × IsNotTail l
WholeSound o l p c (text raw y) = ⊥
WholeSound o l p c (tail y) = (n : Text) × IsTailOf n l × (is_tail n (p ++ c ∷ []) ≡ true) × (y ≡ p ++ c ∷ [])

-- no text is whole with its last character
pub not_text : (o : Bool) (l : LexState) (p : Text) (c : ℕ) (t : Token) → WholeSound o l p c t → is_text t ≡ false
not_text o l p c (open_tag n g raw) h = refl
not_text o l p c (empty_tag n g raw) h = refl
not_text o l p c (close_tag n) h = refl
not_text o l p c (text raw y) h = absurd h
not_text o l p c (tail x) h = refl
not_text o l p c mark h = refl
not_text o l p c declaration h = refl

-- what one more character comes to
abbrev pub StepSound : Bool → LexState → Text → ℕ → LexStep → Type 0
StepSound o l p c (continues k) = Sound o k (p ++ c ∷ []) × KeepsTail k l
StepSound o l p c (whole_token t) = WholeSound o l p c t
StepSound o l p c (text_before raw y k) = (k ≡ in_tag) × (c ≡ 60) × (raw ≡ p) × (o ≡ true → meets_mark p ≡ false) × IsNotTail l
StepSound o l p c (text_before_mark raw y) = (c ≡ byte_order_mark) × (o ≡ true) × (is_white raw ≡ true) × (raw ≡ p) × (o ≡ true → meets_mark p ≡ false) × IsNotTail l
StepSound o l p c no_token = IsTagState l
StepSound o l p c (no_reference k) = BreaksReference p c k

cond_sound : {A : Type 0} (P : A → Type 0) (b : Bool) (x y : A) → (b ≡ true → P x) → (b ≡ false → P y) → P (cond b x y)
cond_sound P true x y f g = f refl
cond_sound P false x y f g = g refl

and_parts : (a b : Bool) → (a && b) ≡ true → (a ≡ true) × (b ≡ true)
and_parts true b h = (refl, h)
and_parts false b h = absurd cc

pub some_behind : (p : Text) (c : ℕ) → is_empty (p ++ c ∷ []) ≡ false
some_behind [] c = refl
some_behind (d ∷ p) c = refl

no_both : {A : Type 0} (b : Bool) → b ≡ true → b ≡ false → A
no_both true h k = absurd cc
no_both false h k = absurd cc

and_true : (b : Bool) → (b && true) ≡ false → b ≡ false
and_true true h = h
and_true false h = refl

-- a character behind a text that does not end before it as U+FEFF
pub still_no_mark : (p : Text) (c : ℕ) → meets_mark p ≡ false → (eqb c byte_order_mark && is_white p) ≡ false → meets_mark (p ++ c ∷ []) ≡ false
still_no_mark [] c h e = go (is_space c)
  where
    go : (b : Bool) → begins_with byte_order_mark (cond b [] (c ∷ [])) ≡ false
    go true = refl
    go false = and_true (eqb c byte_order_mark) e
still_no_mark (d ∷ p) c h e = go (λ i j. still_no_mark p c i j) (is_space d) h e
  where
    go : (meets_mark p ≡ false → (eqb c byte_order_mark && is_white p) ≡ false → meets_mark (p ++ c ∷ []) ≡ false) → (b : Bool) → begins_with byte_order_mark (cond b (behind_white p) (d ∷ p)) ≡ false
        → (eqb c byte_order_mark && (b && is_white p)) ≡ false → begins_with byte_order_mark (cond b (behind_white (p ++ c ∷ [])) (d ∷ (p ++ c ∷ []))) ≡ false
    go f true i j = f i j
    go f false i j = i

-- behind a character that is no white space nothing changes
pub meets_same : (p k : Text) → is_white p ≡ false → meets_mark (p ++ k) ≡ meets_mark p
meets_same [] k w = no_both true refl w
meets_same (d ∷ p) k w = go (λ i. meets_same p k i) (is_space d) w
  where
    go : (is_white p ≡ false → meets_mark (p ++ k) ≡ meets_mark p) → (b : Bool) → (b && is_white p) ≡ false → begins_with byte_order_mark (cond b (behind_white (p ++ k)) (d ∷ (p ++ k))) ≡ begins_with byte_order_mark (cond b (behind_white p) (d ∷ p))
    go f true i = f i
    go f false i = refl

-- a text with a `&` is not white
pub not_white : (b m : Text) → is_white (b ++ 38 ∷ m) ≡ false
not_white [] m = refl
not_white (d ∷ b) m = go (is_space d) (not_white b m)
  where
    go : (a : Bool) → is_white (b ++ 38 ∷ m) ≡ false → (a && is_white (b ++ 38 ∷ m)) ≡ false
    go true h = h
    go false h = refl

tail_grows : (n x : Text) (c : ℕ) → IsTailFront n x → ends_with (end_text n) (x ++ c ∷ []) ≡ false → IsTailFront n (x ++ c ∷ [])
tail_grows n x c f g y = ap (tail_from n []) (append_assoc x (c ∷ []) y) ∙ f (c ∷ y) ∙ rw g refl

-- one more character of a reference
pub more_reference : (p m : Text) (c : ℕ) (h : InReference p m) → begins_reference (m ++ c ∷ []) ≡ true → reference_of (m ++ c ∷ []) ≡ None → InReference (p ++ c ∷ []) (m ++ c ∷ [])
more_reference p m c h b r = record { before = h.before; whole = ap (λ (z : Text). z ++ c ∷ []) h.whole ∙ append_assoc h.before (38 ∷ m) (c ∷ []); begun = b; not_whole = r }

pub first_reference : (p : Text) → InReference (p ++ 38 ∷ []) []
unfolding begins_reference reference_of
first_reference p = record { before = p; whole = refl; begun = refl; not_whole = refl }

-- in a reference
reference_sound : (o : Bool) (l : LexState) (p m : Text) (c : ℕ) (found : ℕ → LexState) (more : LexState) → InReference p m
    → ((d : ℕ) → Sound o (found d) (p ++ c ∷ []) × KeepsTail (found d) l) → (InReference (p ++ c ∷ []) (m ++ c ∷ []) → Sound o more (p ++ c ∷ []) × KeepsTail more l)
    → StepSound o l p c (reference_step (m ++ c ∷ []) found more)
reference_sound o l p m c found more h f g = go (reference_of (m ++ c ∷ [])) refl (begins_reference (m ++ c ∷ [])) refl
  where
    go : (r : Option ℕ) → reference_of (m ++ c ∷ []) ≡ r → (b : Bool) → begins_reference (m ++ c ∷ []) ≡ b → StepSound o l p c (referred (m ++ c ∷ []) found more r b)
    go (Some d) e b i = f d
    go None e true i = g (more_reference p m c h i e)
    go None e false i = record { before = h.before; m = m; whole = h.whole; count = refl; begun = h.begun; not_whole = h.not_whole; no_reference = e; stuck = i }

-- behind the name of a start tag or an attribute
start_sound : (o : Bool) (l : LexState) (p : Text) (c : ℕ) (g : Tag) (spaced : Bool) (raw : Text) → IsTagState l → IsNotTail l → StepSound o l p c (start_step g spaced raw c)
start_sound o l p c g spaced raw n nt =
    cond_sound (StepSound o l p c) (is_space c) (continues (in_start g true (raw ++ c ∷ []))) (cond (eqb c 62) (whole_token (open_tag g.name g.given (raw ++ c ∷ []))) (cond (eqb c 47) (continues (before_close g (raw ++ c ∷ []))) (continues_if (spaced && may_grow [] c) (attribute_name g (c ∷ []) (raw ++ c ∷ [])))))
    (λ e. (tt, nt))
    (λ e. cond_sound (StepSound o l p c) (eqb c 62) (whole_token (open_tag g.name g.given (raw ++ c ∷ []))) (cond (eqb c 47) (continues (before_close g (raw ++ c ∷ []))) (continues_if (spaced && may_grow [] c) (attribute_name g (c ∷ []) (raw ++ c ∷ []))))
    (λ e. nt)
    (λ e. cond_sound (StepSound o l p c) (eqb c 47) (continues (before_close g (raw ++ c ∷ []))) (continues_if (spaced && may_grow [] c) (attribute_name g (c ∷ []) (raw ++ c ∷ [])))
    (λ e. (tt, nt))
    (λ e. cond_sound (StepSound o l p c) (spaced && may_grow [] c) (continues (attribute_name g (c ∷ []) (raw ++ c ∷ []))) no_token (λ e. (refl, nt)) (λ e. n))))

equals_sound : (o : Bool) (l : LexState) (p : Text) (c : ℕ) (g : Tag) (a raw : Text) → IsTagState l → IsNotTail l → StepSound o l p c (equals_step g a raw c)
equals_sound o l p c g a raw n nt =
    cond_sound (StepSound o l p c) (is_space c) (continues (before_equals g a (raw ++ c ∷ []))) (continues_if (eqb c 61) (before_value g a (raw ++ c ∷ [])))
    (λ e. (tt, nt))
    (λ e. cond_sound (StepSound o l p c) (eqb c 61) (continues (before_value g a (raw ++ c ∷ []))) no_token (λ e. (tt, nt)) (λ e. n))

-- before a message no U+FEFF comes behind white space
no_mark_behind : (o : Bool) (p : Text) (c : ℕ) → (o ≡ true → meets_mark p ≡ false) → ((o && eqb c byte_order_mark) && is_white p) ≡ false → (o ≡ true → meets_mark (p ++ c ∷ []) ≡ false)
no_mark_behind true p c f e i = still_no_mark p c (f refl) e
no_mark_behind false p c f e i = absurd (no_both false i refl)

-- a text
text_sound : (o : Bool) (raw y p : Text) (c : ℕ) → Sound o (in_text raw y) p → StepSound o (in_text raw y) p c (lex_step o (in_text raw y) c)
unfolding lex_step
text_sound o raw y p c h =
    cond_sound (StepSound o (in_text raw y) p c) (eqb c 60) (text_before raw y in_tag) (cond ((o && eqb c byte_order_mark) && is_white raw) (text_before_mark raw y) (cond (eqb c 38) (continues (text_reference (raw ++ c ∷ []) y [])) (continues (in_text (raw ++ c ∷ []) (y ++ c ∷ [])))))
    (λ e. (refl, eqb-true c 60 e, h.0, h.2, tt))
    (λ e. cond_sound (StepSound o (in_text raw y) p c) ((o && eqb c byte_order_mark) && is_white raw) (text_before_mark raw y) (cond (eqb c 38) (continues (text_reference (raw ++ c ∷ []) y [])) (continues (in_text (raw ++ c ∷ []) (y ++ c ∷ []))))
    (λ e. (let a = and_parts (o && eqb c byte_order_mark) (is_white raw) e in let b = and_parts o (eqb c byte_order_mark) a.0 in (eqb-true c byte_order_mark b.1, b.0, a.1, h.0, h.2, tt)))
    (λ e. (let n = no_mark_behind o p c h.2 (subst (λ (z : Text). ((o && eqb c byte_order_mark) && is_white z) ≡ false) h.0 e) in
    cond_sound (StepSound o (in_text raw y) p c) (eqb c 38) (continues (text_reference (raw ++ c ∷ []) y [])) (continues (in_text (raw ++ c ∷ []) (y ++ c ∷ [])))
    (λ i. ((ap (λ (z : Text). z ++ c ∷ []) h.0, subst (λ (z : ℕ). InReference (p ++ z ∷ []) []) (sym (eqb-true c 38 i)) (first_reference p), n), tt))
    (λ i. ((ap (λ (z : Text). z ++ c ∷ []) h.0, some_behind p c, n), tt)))))

begin_sound : (o : Bool) (p : Text) (c : ℕ) → p ≡ [] → StepSound o begin p c (lex_step o begin c)
unfolding lex_step
begin_sound o p c h =
    cond_sound (StepSound o begin p c) (eqb c 60) (continues in_tag) (cond (o && eqb c byte_order_mark) (whole_token mark) (cond (eqb c 38) (continues (text_reference (c ∷ []) [] [])) (continues (in_text (c ∷ []) (c ∷ [])))))
    (λ e. (ap (λ (z : Text). z ++ c ∷ []) h ∙ ap (λ (z : ℕ). z ∷ []) (eqb-true c 60 e), tt))
    (λ e. cond_sound (StepSound o begin p c) (o && eqb c byte_order_mark) (whole_token mark) (cond (eqb c 38) (continues (text_reference (c ∷ []) [] [])) (continues (in_text (c ∷ []) (c ∷ []))))
    (λ e. (let a = and_parts o (eqb c byte_order_mark) e in (a.0, tt)))
    (λ e. (let n : o ≡ true → meets_mark (p ++ c ∷ []) ≡ false = no_mark_behind o p c (λ i. subst (λ (z : Text). meets_mark z ≡ false) (sym h) refl) (subst (λ (z : Text). ((o && eqb c byte_order_mark) && is_white z) ≡ false) (sym h) (false_and (o && eqb c byte_order_mark) e)) in
    cond_sound (StepSound o begin p c) (eqb c 38) (continues (text_reference (c ∷ []) [] [])) (continues (in_text (c ∷ []) (c ∷ [])))
    (λ i. ((ap (λ (z : Text). z ++ c ∷ []) (sym h), subst (λ (z : ℕ). InReference (p ++ z ∷ []) []) (sym (eqb-true c 38 i)) (first_reference p), n), tt))
    (λ i. ((ap (λ (z : Text). z ++ c ∷ []) (sym h), some_behind p c, n), tt)))))
  where
    false_and : (a : Bool) → a ≡ false → (a && true) ≡ false
    false_and true e = e
    false_and false e = refl

-- What a state knows, the state behind one more character knows of one character more.
tail_ends : (n x p : Text) (c : ℕ) → (x ≡ p) × IsTailFront n x → ends_with (end_text n) (x ++ c ∷ []) ≡ true → is_tail n (p ++ c ∷ []) ≡ true
unfolding is_tail
tail_ends n x p c h e = ap (λ (z : Text). tail_from n [] (z ++ c ∷ [])) (sym h.0) ∙ h.1 (c ∷ []) ∙ rw e refl

pub step_sound : (o : Bool) (l : LexState) (p : Text) (c : ℕ) → Sound o l p → StepSound o l p c (lex_step o l c)
unfolding lex_step
step_sound o begin p c h = begin_sound o p c h
step_sound o (in_text raw y) p c h = text_sound o raw y p c h
step_sound o (text_reference raw y m) p c h =
    let n : o ≡ true → meets_mark (p ++ c ∷ []) ≡ false = λ i. (let w = h.1 in meets_same p (c ∷ []) (subst (λ (z : Text). is_white z ≡ false) (sym w.whole) (not_white w.before m)) ∙ h.2 i) in
    reference_sound o (text_reference raw y m) p m c (λ d. in_text (raw ++ c ∷ []) (y ++ d ∷ [])) (text_reference (raw ++ c ∷ []) y (m ++ c ∷ [])) h.1
    (λ d. ((ap (λ (z : Text). z ++ c ∷ []) h.0, some_behind p c, n), tt)) (λ i. ((ap (λ (z : Text). z ++ c ∷ []) h.0, i, n), tt))
step_sound o in_tag p c h =
    cond_sound (StepSound o in_tag p c) (eqb c 47) (continues (end_name [])) (cond (eqb c 63) (continues (in_question (codes "xml"))) (continues_if (may_grow [] c) (start_name (c ∷ []))))
    (λ e. (tt, tt))
    (λ e. cond_sound (StepSound o in_tag p c) (eqb c 63) (continues (in_question (codes "xml"))) (continues_if (may_grow [] c) (start_name (c ∷ [])))
    (λ e. (refl, tt)) (λ e. cond_sound (StepSound o in_tag p c) (may_grow [] c) (continues (start_name (c ∷ []))) no_token (λ e. (refl, tt)) (λ e. tt)))
step_sound o (start_name n) p c h =
    cond_sound (StepSound o (start_name n) p c) (may_grow n c) (continues (start_name (n ++ c ∷ []))) (cond (is_empty n) no_token (start_step (record { name = n; given = [] }) false (60 ∷ n) c))
    (λ e. (some_behind n c, tt))
    (λ e. cond_sound (StepSound o (start_name n) p c) (is_empty n) no_token (start_step (record { name = n; given = [] }) false (60 ∷ n) c) (λ e. tt) (λ e. start_sound o (start_name n) p c (record { name = n; given = [] }) false (60 ∷ n) tt tt))
step_sound o (in_start g spaced raw) p c h = start_sound o (in_start g spaced raw) p c g spaced raw tt tt
step_sound o (attribute_name g a raw) p c h =
    cond_sound (StepSound o (attribute_name g a raw) p c) (may_grow a c) (continues (attribute_name g (a ++ c ∷ []) (raw ++ c ∷ []))) (cond (is_empty a) no_token (equals_step g a raw c))
    (λ e. (some_behind a c, tt))
    (λ e. cond_sound (StepSound o (attribute_name g a raw) p c) (is_empty a) no_token (equals_step g a raw c) (λ e. tt) (λ e. equals_sound o (attribute_name g a raw) p c g a raw tt tt))
step_sound o (before_equals g a raw) p c h = equals_sound o (before_equals g a raw) p c g a raw tt tt
step_sound o (before_value g a raw) p c h =
    cond_sound (StepSound o (before_value g a raw) p c) (is_space c) (continues (before_value g a (raw ++ c ∷ []))) (continues_if (is_quote c) (in_value g a c [] (raw ++ c ∷ [])))
    (λ e. (tt, tt)) (λ e. cond_sound (StepSound o (before_value g a raw) p c) (is_quote c) (continues (in_value g a c [] (raw ++ c ∷ []))) no_token (λ e. (e, tt)) (λ e. tt))
step_sound o (in_value g a q v raw) p c h =
    cond_sound (StepSound o (in_value g a q v raw) p c) (eqb c q) (continues_if (is_quote q) (in_start (more_attributes g a v) false (raw ++ c ∷ []))) (cond (eqb c 38) (continues (value_reference g a q v (raw ++ c ∷ []) [])) (continues_if (not (eqb c 60)) (in_value g a q (v ++ c ∷ []) (raw ++ c ∷ []))))
    (λ e. cond_sound (StepSound o (in_value g a q v raw) p c) (is_quote q) (continues (in_start (more_attributes g a v) false (raw ++ c ∷ []))) no_token (λ e. (tt, tt)) (λ e. tt))
    (λ e. cond_sound (StepSound o (in_value g a q v raw) p c) (eqb c 38) (continues (value_reference g a q v (raw ++ c ∷ []) [])) (continues_if (not (eqb c 60)) (in_value g a q (v ++ c ∷ []) (raw ++ c ∷ [])))
    (λ i. ((h, subst (λ (z : ℕ). InReference (p ++ z ∷ []) []) (sym (eqb-true c 38 i)) (first_reference p)), tt))
    (λ i. cond_sound (StepSound o (in_value g a q v raw) p c) (not (eqb c 60)) (continues (in_value g a q (v ++ c ∷ []) (raw ++ c ∷ []))) no_token (λ e. (h, tt)) (λ e. tt)))
step_sound o (value_reference g a q v raw m) p c h =
    reference_sound o (value_reference g a q v raw m) p m c (λ d. in_value g a q (v ++ d ∷ []) (raw ++ c ∷ [])) (value_reference g a q v (raw ++ c ∷ []) (m ++ c ∷ [])) h.1 (λ d. (h.0, tt)) (λ i. ((h.0, i), tt))
step_sound o (before_close g raw) p c h =
    cond_sound (StepSound o (before_close g raw) p c) (eqb c 62) (whole_token (empty_tag g.name g.given (raw ++ c ∷ []))) no_token (λ e. tt) (λ e. tt)
step_sound o (end_name n) p c h =
    cond_sound (StepSound o (end_name n) p c) (may_grow n c) (continues (end_name (n ++ c ∷ []))) (cond (is_empty n) no_token (cond (eqb c 62) (whole_token (close_tag n)) (continues_if (is_space c) (end_white n))))
    (λ e. (tt, tt))
    (λ e. cond_sound (StepSound o (end_name n) p c) (is_empty n) no_token (cond (eqb c 62) (whole_token (close_tag n)) (continues_if (is_space c) (end_white n))) (λ e. tt)
    (λ e. cond_sound (StepSound o (end_name n) p c) (eqb c 62) (whole_token (close_tag n)) (continues_if (is_space c) (end_white n)) (λ e. tt) (λ e. cond_sound (StepSound o (end_name n) p c) (is_space c) (continues (end_white n)) no_token (λ e. (tt, tt)) (λ e. tt))))
step_sound o (end_white n) p c h =
    cond_sound (StepSound o (end_white n) p c) (eqb c 62) (whole_token (close_tag n)) (continues_if (is_space c) (end_white n)) (λ e. tt) (λ e. cond_sound (StepSound o (end_white n) p c) (is_space c) (continues (end_white n)) no_token (λ e. (tt, tt)) (λ e. tt))
step_sound o (in_tail n x) p c h =
    cond_sound (StepSound o (in_tail n x) p c) (ends_with (end_text n) (x ++ c ∷ [])) (whole_token (tail (x ++ c ∷ []))) (continues (in_tail n (x ++ c ∷ [])))
    (λ e. (n, refl, tail_ends n x p c h e, ap (λ (z : Text). z ++ c ∷ []) h.0)) (λ e. ((ap (λ (z : Text). z ++ c ∷ []) h.0, tail_grows n x c h.1 e), refl))
step_sound o (in_question []) p c h = cond_sound (StepSound o (in_question []) p c) (is_space c) (continues (in_declaration false)) no_token (λ e. (tt, tt)) (λ e. tt)
step_sound o (in_question (d ∷ k)) p c h = cond_sound (StepSound o (in_question (d ∷ k)) p c) (eqb c d) (continues (in_question k)) no_token (λ e. ((and_parts (not (eqb d 38)) (has_no_amp k) h).1, tt)) (λ e. tt)
step_sound o (in_declaration b) p c h =
    cond_sound (StepSound o (in_declaration b) p c) (b && eqb c 62) (whole_token declaration) (continues (in_declaration (eqb c 63))) (λ e. tt) (λ e. (tt, tt))
