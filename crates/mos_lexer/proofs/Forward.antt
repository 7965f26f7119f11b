-- What is still read of a token, one character shorter, is read by the state that the character leads to.
use Rattle.std.proofs.Common.{◌≡◌, ℕ, Bool, true, false, cond, eqb, eq-eqb, List, [], ◌∷◌, ◌++◌, Some, None, refl, sym, ap, subst, ◌∙◌, append_assoc, inl, inr, codes}
use Rattle.std.specs.Prelude.{not, ◌&&◌, ◌||◌}
use Rattle.std.proofs.lemmas.Bool.{eqb-true}
use Rattle.std.proofs.lemmas.List.{append-nil}
use Rattle.mos_fields.specs.Characters.{Text}
use Rattle.mos_fields.specs.Names.{is_empty, may_grow, named}
use Rattle.mos_fields.specs.Raw.{end_text, ends_with, tail_from, is_space, is_plain, is_quote}
use Rattle.mos_fields.specs.Forms.{is_white}
use Rattle.mos_lexer.specs.Lexing.{byte_order_mark, Writes, nothing, itself, reference, WritesValue, value_ends, value_itself, value_reference, WritesQuoted, quoted_space, quote, WritesEquals, equals_space, equals, WritesTag, ends_start, ends_empty, tag_space, attribute, declaration_from, begins_with, tag_token, WrittenTag, Written, begins_mark, meets_mark, WritesTokens}
use Rattle.mos_fields.specs.References.{reference_of, begins_reference}
use Rattle.mos_lexer.specs.LexMachine.{Tag, LexState, begin, in_text, text_reference, in_tag, start_name, in_start, attribute_name, before_equals, before_value, in_value, value_reference as value_reference_state, before_close, end_name, end_white, in_tail, in_question, in_declaration, continues, whole_token, text_before, text_before_mark, no_token, continues_if, more_attributes, reference_step, start_step, equals_step, lex_step}
use Rattle.mos_tables.specs.Events.{Attribute}
use Rattle.mos_grammar.specs.Tokens.{Token, open_tag, empty_tag, close_tag, text, tail, mark, declaration}
use Rattle.mos_lexer.proofs.Lexer.{Finishes, StartRest, NameRest, ValueReferenceRest, TextReferenceRest, EndRest, EndWhiteRest, DeclarationRest, QuestionRest, TailRest, CloseRest, InTagRest, LexRest, LexTakes, parts_of, true_from, finishes_next}

-- what is asked of references: none is the front of another, and a front of one may become one
pub record ReferenceLaws : Type 0 where
  pub no_front : (m k : Text) (d : ℕ) → reference_of (m ++ k) ≡ Some d → is_empty k ≡ false → reference_of m ≡ None
  pub goes_on : (m k : Text) (d : ℕ) → reference_of (m ++ k) ≡ Some d → is_empty k ≡ false → begins_reference m ≡ true

-- no tail comes first
abbrev pub NotTail : List Token → Type 0
NotTail (tail x ∷ ts) = ⊥
NotTail ts = Unit {0}

-- which tokens may come, where the flag says whether the message was not begun: before it U+FEFF is a token behind white
-- space, in it no U+FEFF is one
abbrev pub Fitting : Bool → List Token → Type 0
Fitting o (text raw y ∷ ts) = (o ≡ true → meets_mark raw ≡ false) × (o ≡ true → begins_mark ts ≡ true → is_white raw ≡ true) × (o ≡ false → begins_mark ts ≡ false) × NotTail ts
Fitting o (mark ∷ ts) = o ≡ true
Fitting o (tail x ∷ ts) = ⊥
Fitting o ts = Unit {0}

-- ---- tests of characters

pub not_true : (b : Bool) → (b ≡ true → ⊥) → b ≡ false
not_true false f = refl
not_true true f = absurd (f refl)

pub no_both : (b : Bool) → b ≡ true → b ≡ false → ⊥
no_both true h k = cc
no_both false h k = cc

apart : (c d : ℕ) (f : ℕ → Bool) → f c ≡ true → f d ≡ false → eqb c d ≡ false
apart c d f h k = not_true (eqb c d) (λ e. (let p : c ≡ d = eqb-true c d e in no_both (f d) (subst (λ (z : ℕ). f z ≡ true) p h) k))

plain_60 : (c : ℕ) → is_plain c ≡ true → eqb c 60 ≡ false
plain_60 c h = apart c 60 is_plain h refl

plain_38 : (c : ℕ) → is_plain c ≡ true → eqb c 38 ≡ false
plain_38 c h = apart c 38 is_plain h refl

-- what ends a name
stops_62 : (n : Text) → may_grow n 62 ≡ false
unfolding may_grow
stops_62 [] = refl
stops_62 (c ∷ n) = refl

stops_47 : (n : Text) → may_grow n 47 ≡ false
unfolding may_grow
stops_47 [] = refl
stops_47 (c ∷ n) = refl

stops_61 : (n : Text) → may_grow n 61 ≡ false
unfolding may_grow
stops_61 [] = refl
stops_61 (c ∷ n) = refl

blanks_stop : (n : Text) → (may_grow n 32 ≡ false) × (may_grow n 9 ≡ false) × (may_grow n 10 ≡ false) × (may_grow n 13 ≡ false)
unfolding may_grow
blanks_stop [] = (refl, refl, refl, refl)
blanks_stop (c ∷ n) = (refl, refl, refl, refl)

space_stops : (n : Text) (c : ℕ) → is_space c ≡ true → may_grow n c ≡ false
space_stops n c s = not_true (may_grow n c) (λ g. no_both (is_space c) s (not_space n c g))
  where
    not_space : (n : Text) (c : ℕ) → may_grow n c ≡ true → is_space c ≡ false
    not_space n c g =
        let z = blanks_stop n in
        rw (apart c 32 (may_grow n) g z.0, apart c 9 (may_grow n) g z.1, apart c 10 (may_grow n) g z.2, apart c 13 (may_grow n) g z.3) refl

grow_space : (n : Text) (c : ℕ) → may_grow n c ≡ true → is_space c ≡ false
grow_space n c g = not_true (is_space c) (λ s. no_both (may_grow n c) g (space_stops n c s))

quote_space : (c : ℕ) → is_quote c ≡ true → is_space c ≡ false
quote_space c q = not_true (is_space c) (λ s. (let a = apart c 34 is_space s refl in let b = apart c 39 is_space s refl in let k : is_quote c ≡ false = rw (a, b) refl in no_both (is_quote c) q k))

and_false : (b : Bool) → (b && false) ≡ false
and_false true = refl
and_false false = refl

-- behind white space U+FEFF would come
white_meets : (raw x : Text) → is_white raw ≡ true → meets_mark (raw ++ byte_order_mark ∷ x) ≡ true
white_meets [] x w = refl
white_meets (d ∷ raw) x w = go (λ h. white_meets raw x h) (is_space d) refl w
  where
    go : (is_white raw ≡ true → meets_mark (raw ++ byte_order_mark ∷ x) ≡ true) → (b : Bool) → is_space d ≡ b → (b && is_white raw) ≡ true → meets_mark ((d ∷ raw) ++ byte_order_mark ∷ x) ≡ true
    go f true e h = rw e (f h)
    go f false e h = absurd (no_both false h refl)

and_split : (a b : Bool) → (a && b) ≡ true → (a ≡ true) × (b ≡ true)
and_split true b h = (refl, h)
and_split false b h = absurd cc

-- a text that meets no U+FEFF has none behind white space
no_mark : (o : Bool) (raw : Text) (c : ℕ) (x : Text) → (o ≡ true → meets_mark (raw ++ c ∷ x) ≡ false) → ((o && eqb c byte_order_mark) && is_white raw) ≡ false
no_mark o raw c x f = not_true ((o && eqb c byte_order_mark) && is_white raw) (λ h. (
    let a = and_split (o && eqb c byte_order_mark) (is_white raw) h in
    let b = and_split o (eqb c byte_order_mark) a.0 in
    no_both (meets_mark (raw ++ c ∷ x)) (subst (λ (z : ℕ). meets_mark (raw ++ z ∷ x) ≡ true) (sym (eqb-true c byte_order_mark b.1)) (white_meets raw x a.1)) (f b.0)))

-- nothing was read yet
no_mark_first : (o : Bool) (c : ℕ) (x : Text) → (o ≡ true → meets_mark (c ∷ x) ≡ false) → (o && eqb c byte_order_mark) ≡ false
no_mark_first o c x f = and_whole (o && eqb c byte_order_mark) (no_mark o [] c x f)
  where
    and_whole : (a : Bool) → (a && true) ≡ false → a ≡ false
    and_whole true h = h
    and_whole false h = refl

white_at : (raw : Text) (c : ℕ) (x : Text) → is_white (raw ++ c ∷ x) ≡ true → is_space c ≡ true
white_at [] c x h = first (is_space c) (is_white x) h
  where
    first : (a b : Bool) → (a && b) ≡ true → a ≡ true
    first true b h = refl
    first false b h = absurd cc
white_at (d ∷ raw) c x h = white_at raw c x (second (is_space d) (is_white (raw ++ c ∷ x)) h)
  where
    second : (a b : Bool) → (a && b) ≡ true → b ≡ true
    second true b h = h
    second false b h = absurd cc

-- ---- behind a `<`

tag_in : (e : Bool) (n : Text) (g : List Attribute) (raw : Text) (us : List Token) (r x q : List ℕ) → WrittenTag e n g raw x → 60 ∷ r ≡ x ++ q → WritesTokens us q → InTagRest r (tag_token e n g raw ∷ us)
tag_in e n g raw us r x q w i sp =
    let p = parts_of 60 60 r ((n ++ w.0) ++ q) (i ∙ ap (λ (z : List ℕ). z ++ q) w.3) in
    inl (e, n, g, w.0, w.1, w.2, (q, us, p.1, ap (λ (z : Text). tag_token e n g z ∷ us) (w.4 ∙ w.3), sp))

close_in : (n : Text) (us : List Token) (r x q : List ℕ) → Written (close_tag n) x → 60 ∷ r ≡ x ++ q → WritesTokens us q → InTagRest r (close_tag n ∷ us)
close_in n us r x q w e sp =
    let p = parts_of 60 60 r (47 ∷ ((n ++ (w.0 ++ 62 ∷ [])) ++ q)) (e ∙ ap (λ (z : List ℕ). z ++ q) w.3) in
    inr (inl (n ++ (w.0 ++ 62 ∷ q), p.1 ∙ ap (λ (z : List ℕ). 47 ∷ z) (append_assoc n (w.0 ++ 62 ∷ []) q ∙ ap (λ (z : List ℕ). n ++ z) (append_assoc w.0 (62 ∷ []) q)), (n, w.0, q, us, w.1, w.2, refl, refl, sp)))

declaration_in : (us : List Token) (r x q : List ℕ) → Written declaration x → 60 ∷ r ≡ x ++ q → WritesTokens us q → InTagRest r (declaration ∷ us)
declaration_in us r x q w e sp =
    let p = parts_of 60 60 r (63 ∷ (codes "xml" ++ w.0 ∷ (w.1 ++ q))) (e ∙ ap (λ (z : List ℕ). z ++ q) w.4) in
    inr (inr (codes "xml" ++ w.0 ∷ (w.1 ++ q), p.1, (w.0, w.1 ++ q, w.2, refl, (w.1, q, us, w.3, refl, refl, sp))))

white_rest : (d : ℕ) (w : Text) → is_white (d ∷ w) ≡ true → is_white w ≡ true
white_rest d w h = second (is_space d) (is_white w) h
  where
    second : (a b : Bool) → (a && b) ≡ true → b ≡ true
    second true b h = h
    second false b h = absurd cc

stops_63 : may_grow [] 63 ≡ false
unfolding may_grow
stops_63 = refl

-- white space, or `>`, ends a name
white_stops : (n : Text) (c : ℕ) (r w q : List ℕ) → is_white w ≡ true → (c ∷ r) ≡ w ++ 62 ∷ q → may_grow n c ≡ false
white_stops n c r [] q wh e = subst (λ (z : ℕ). may_grow n z ≡ false) (sym (parts_of c 62 r q e).0) (stops_62 n)
white_stops n c r (d ∷ w) q wh e = subst (λ (z : ℕ). may_grow n z ≡ false) (sym (parts_of c d r (w ++ 62 ∷ q) e).0) (space_stops n d (white_at [] d w wh))

-- neither a text nor U+FEFF begins with `<`
mark_not : (r x q : List ℕ) → x ≡ byte_order_mark ∷ [] → 60 ∷ r ≡ x ++ q → ⊥
mark_not r x q w e =
    let p : 60 ≡ byte_order_mark = (parts_of 60 byte_order_mark r q (e ∙ ap (λ (z : List ℕ). z ++ q) w)).0 in
    no_both (eqb 60 byte_order_mark) (subst (λ (z : ℕ). eqb 60 z ≡ true) p refl) refl

text_not : {y : Text} {x : List ℕ} → Writes y x → is_empty x ≡ false → (r q : List ℕ) → 60 ∷ r ≡ x ++ q → ⊥
text_not nothing ne r q e = no_both true refl ne
text_not (itself {c = c} {x = x} pl w) ne r q e =
    let p : 60 ≡ c = (parts_of 60 c r (x ++ q) e).0 in
    no_both (eqb c 60) (subst (λ (z : ℕ). eqb z 60 ≡ true) p refl) (plain_60 c pl)
text_not (reference {x = x} m is w) ne r q e =
    let p : 60 ≡ 38 = (parts_of 60 38 r ((m ++ x) ++ q) e).0 in
    no_both (eqb 38 60) (subst (λ (z : ℕ). eqb z 60 ≡ true) p refl) refl

nothing_left : (c : ℕ) (r : List ℕ) → ◌≡◌ {A = List ℕ} (c ∷ r) [] → ⊥
nothing_left c r e = cc

to_tag : (ts : List Token) (r : List ℕ) → NotTail ts → WritesTokens ts (60 ∷ r) → InTagRest r ts
to_tag [] r nt h = absurd (nothing_left 60 r h)
to_tag (open_tag n g raw ∷ us) r nt h = tag_in false n g raw us r h.0 h.1 h.2 h.4 h.5
to_tag (empty_tag n g raw ∷ us) r nt h = tag_in true n g raw us r h.0 h.1 h.2 h.4 h.5
to_tag (close_tag n ∷ us) r nt h = close_in n us r h.0 h.1 h.2 h.4 h.5
to_tag (declaration ∷ us) r nt h = declaration_in us r h.0 h.1 h.2 h.4 h.5
to_tag (mark ∷ us) r nt h = absurd (mark_not r h.0 h.1 h.2 h.4)
to_tag (tail z ∷ us) r nt h = absurd nt
to_tag (text raw y ∷ us) r nt h = let w = h.2 in absurd (text_not w.1 w.0 r h.1 h.4)

-- ---- tags

-- the end tag of the rest of a tag, seen by its first character
start_forward : {s e : Bool} {g : List Attribute} {x : List ℕ} → WritesTag s g e x → (t : Tag) (raw : Text) (c : ℕ) (r : List ℕ) (ts : List Token) → Finishes t.name (t.given ++ g) raw e x (c ∷ r) ts → LexTakes (start_step t s raw c) r ts
start_forward (ends_start {s = s}) t raw c r ts f =
    let p = finishes_next t.name (t.given ++ []) raw false 62 [] c r ts f in
    let h = p.1 in
    let i : tag_token false t.name (t.given ++ []) ((raw ++ c ∷ []) ++ []) ≡ open_tag t.name t.given (raw ++ 62 ∷ []) =
    ap (λ (z : List Attribute). open_tag t.name z ((raw ++ c ∷ []) ++ [])) (append-nil t.given) ∙ ap (λ (z : Text). open_tag t.name t.given z) (append-nil (raw ++ c ∷ []) ∙ ap (λ (z : ℕ). raw ++ z ∷ []) p.0) in
    rw p.0 (h.1, h.3 ∙ ap (λ (z : Token). z ∷ h.1) i, subst (λ (z : List ℕ). WritesTokens h.1 z) (sym h.2) h.4)
start_forward (ends_empty {s = s}) t raw c r ts f =
    let p = finishes_next t.name (t.given ++ []) raw true 47 (62 ∷ []) c r ts f in
    rw p.0 (subst (λ (z : List Attribute). Finishes t.name z (raw ++ 47 ∷ []) true (62 ∷ []) r ts) (append-nil t.given) (subst (λ (z : ℕ). Finishes t.name (t.given ++ []) (raw ++ z ∷ []) true (62 ∷ []) r ts) p.0 p.1))
start_forward (tag_space {e = e} {c = d} {g = g} {x = x} sp w) t raw c r ts f =
    let p = finishes_next t.name (t.given ++ g) raw e d x c r ts f in
    let s : is_space c ≡ true = subst (λ (z : ℕ). is_space z ≡ true) (sym p.0) sp in
    rw s (e, g, x, w, p.1)
start_forward (attribute {e = e} {v = v} {g = g} [] x y nm we wt) t raw c r ts f = absurd (no_both false nm refl)
start_forward (attribute {e = e} {v = v} {g = g} (d ∷ m) x y nm we wt) t raw c r ts f =
    let p = finishes_next t.name (t.given ++ record { name = d ∷ m; value = v } ∷ g) raw e d (m ++ x) c r ts f in
    let n = true_from (may_grow [] d) (named (d ∷ []) m) nm in
    let gr : may_grow [] c ≡ true = subst (λ (z : ℕ). may_grow [] z ≡ true) (sym p.0) n.0 in
    let a = apart c 62 (may_grow []) gr (stops_62 []) in
    let b = apart c 47 (may_grow []) gr (stops_47 []) in
    rw (grow_space [] c gr, a, b, gr) (e, m, v, g, x, y, subst (λ (z : ℕ). named (z ∷ []) m ≡ true) (sym p.0) n.1, we, wt, subst (λ (z : ℕ). Finishes t.name (t.given ++ record { name = z ∷ m; value = v } ∷ g) (raw ++ c ∷ []) e (m ++ x) r ts) (sym p.0) p.1)

-- the first character behind a tag's name is none of a name
tag_stops : {s e : Bool} {g : List Attribute} {x : List ℕ} → WritesTag s g e x → s ≡ false → (n : Text) (c : ℕ) (r q : List ℕ) → (c ∷ r) ≡ x ++ q → may_grow n c ≡ false
tag_stops ends_start i n c r q e = subst (λ (z : ℕ). may_grow n z ≡ false) (sym (parts_of c 62 r q e).0) (stops_62 n)
tag_stops ends_empty i n c r q e = subst (λ (z : ℕ). may_grow n z ≡ false) (sym (parts_of c 47 r (62 ∷ q) e).0) (stops_47 n)
tag_stops (tag_space {c = d} {x = x} sp w) i n c r q e = subst (λ (z : ℕ). may_grow n z ≡ false) (sym (parts_of c d r (x ++ q) e).0) (space_stops n d sp)
tag_stops (attribute a x y nm we wt) i n c r q e = absurd (no_both true refl i)

equals_stops : {v : Text} {x y : List ℕ} → WritesEquals v x y → (n : Text) (c : ℕ) (r q : List ℕ) → (c ∷ r) ≡ x ++ q → may_grow n c ≡ false
equals_stops (equals_space {c = d} {x = x} sp w) n c r q e = subst (λ (z : ℕ). may_grow n z ≡ false) (sym (parts_of c d r (x ++ q) e).0) (space_stops n d sp)
equals_stops (equals {x = x} w) n c r q e = subst (λ (z : ℕ). may_grow n z ≡ false) (sym (parts_of c 61 r (x ++ q) e).0) (stops_61 n)

-- a name that may end isn't empty
named_now : (n : Text) → not (is_empty n) ≡ true → is_empty n ≡ false
named_now [] h = absurd (no_both false h refl)
named_now (c ∷ n) h = refl

start_name_forward : (n : Text) (c : ℕ) (r : List ℕ) (ts : List Token) → StartRest n (c ∷ r) ts
    → LexTakes (cond (may_grow n c) (continues (start_name (n ++ c ∷ []))) (cond (is_empty n) no_token (start_step (record { name = n; given = [] }) false (60 ∷ n) c))) r ts
start_name_forward n c r ts h = go h.1 h.4 h.6
  where
    go : (m : Text) → named n m ≡ true → Finishes (n ++ m) h.2 (60 ∷ n) h.0 (m ++ h.3) (c ∷ r) ts
        → LexTakes (cond (may_grow n c) (continues (start_name (n ++ c ∷ []))) (cond (is_empty n) no_token (start_step (record { name = n; given = [] }) false (60 ∷ n) c))) r ts
    go [] nm f =
        rw (tag_stops h.5 refl n c r f.0 f.2, named_now n nm) (start_forward h.5 (record { name = n; given = [] }) (60 ∷ n) c r ts (subst (λ (z : Text). Finishes z h.2 (60 ∷ n) h.0 h.3 (c ∷ r) ts) (append-nil n) f))
    go (d ∷ m) nm f =
        let p = finishes_next (n ++ d ∷ m) h.2 (60 ∷ n) h.0 d (m ++ h.3) c r ts f in
        let k = true_from (may_grow n d) (named (n ++ d ∷ []) m) nm in
        let gr : may_grow n c ≡ true = subst (λ (z : ℕ). may_grow n z ≡ true) (sym p.0) k.0 in
        rw gr (
          h.0,
          m,
          h.2,
          h.3,
          subst (λ (z : ℕ). named (n ++ z ∷ []) m ≡ true) (sym p.0) k.1,
          h.5,
          subst (λ (z : Text). Finishes z h.2 (60 ∷ (n ++ c ∷ [])) h.0 (m ++ h.3) r ts) (ap (λ (z : ℕ). n ++ z ∷ m) (sym p.0) ∙ sym (append_assoc n (c ∷ []) m)) p.1,
        )

equals_forward : {v : Text} {x y : List ℕ} → WritesEquals v x y → (t : Tag) (a raw : Text) (e : Bool) (g : List Attribute) (c : ℕ) (r : List ℕ) (ts : List Token) → WritesTag false g e y
    → Finishes t.name (t.given ++ record { name = a; value = v } ∷ g) raw e x (c ∷ r) ts → LexTakes (equals_step t a raw c) r ts
equals_forward (equals_space {c = d} {v = v} {x = x} {y = y} sp w) t a raw e g c r ts wt f =
    let p = finishes_next t.name (t.given ++ record { name = a; value = v } ∷ g) raw e d x c r ts f in
    let s : is_space c ≡ true = subst (λ (z : ℕ). is_space z ≡ true) (sym p.0) sp in
    rw s (e, v, g, x, y, w, wt, p.1)
equals_forward (equals {v = v} {x = x} {y = y} w) t a raw e g c r ts wt f =
    let p = finishes_next t.name (t.given ++ record { name = a; value = v } ∷ g) raw e 61 x c r ts f in
    rw p.0 (e, v, g, x, y, w, wt, subst (λ (z : ℕ). Finishes t.name (t.given ++ record { name = a; value = v } ∷ g) (raw ++ z ∷ []) e x r ts) p.0 p.1)

attribute_name_forward : (t : Tag) (a raw : Text) (c : ℕ) (r : List ℕ) (ts : List Token) → NameRest t a raw (c ∷ r) ts
    → LexTakes (cond (may_grow a c) (continues (attribute_name t (a ++ c ∷ []) (raw ++ c ∷ []))) (cond (is_empty a) no_token (equals_step t a raw c))) r ts
attribute_name_forward t a raw c r ts h = go h.1 h.6 h.9
  where
    go : (m : Text) → named a m ≡ true → Finishes t.name (t.given ++ record { name = a ++ m; value = h.2 } ∷ h.3) raw h.0 (m ++ h.4) (c ∷ r) ts
        → LexTakes (cond (may_grow a c) (continues (attribute_name t (a ++ c ∷ []) (raw ++ c ∷ []))) (cond (is_empty a) no_token (equals_step t a raw c))) r ts
    go [] nm f =
        rw (equals_stops h.7 a c r f.0 f.2, named_now a nm) (equals_forward h.7 t a raw h.0 h.3 c r ts h.8
        (subst (λ (z : Text). Finishes t.name (t.given ++ record { name = z; value = h.2 } ∷ h.3) raw h.0 h.4 (c ∷ r) ts) (append-nil a) f))
    go (d ∷ m) nm f =
        let p = finishes_next t.name (t.given ++ record { name = a ++ d ∷ m; value = h.2 } ∷ h.3) raw h.0 d (m ++ h.4) c r ts f in
        let k = true_from (may_grow a d) (named (a ++ d ∷ []) m) nm in
        let gr : may_grow a c ≡ true = subst (λ (z : ℕ). may_grow a z ≡ true) (sym p.0) k.0 in
        rw gr (
          h.0,
          m,
          h.2,
          h.3,
          h.4,
          h.5,
          subst (λ (z : ℕ). named (a ++ z ∷ []) m ≡ true) (sym p.0) k.1,
          h.7,
          h.8,
          subst (λ (z : Text). Finishes t.name (t.given ++ record { name = z; value = h.2 } ∷ h.3) (raw ++ c ∷ []) h.0 (m ++ h.4) r ts) (ap (λ (z : ℕ). a ++ z ∷ m) (sym p.0) ∙ sym (append_assoc a (c ∷ []) m)) p.1,
        )

quoted_forward : {v : Text} {x y : List ℕ} → WritesQuoted v x y → (t : Tag) (a raw : Text) (e : Bool) (g : List Attribute) (c : ℕ) (r : List ℕ) (ts : List Token) → WritesTag false g e y
    → Finishes t.name (t.given ++ record { name = a; value = v } ∷ g) raw e x (c ∷ r) ts
    → LexTakes (cond (is_space c) (continues (before_value t a (raw ++ c ∷ []))) (continues_if (is_quote c) (in_value t a c [] (raw ++ c ∷ [])))) r ts
quoted_forward (quoted_space {c = d} {v = v} {x = x} {y = y} sp w) t a raw e g c r ts wt f =
    let p = finishes_next t.name (t.given ++ record { name = a; value = v } ∷ g) raw e d x c r ts f in
    let s : is_space c ≡ true = subst (λ (z : ℕ). is_space z ≡ true) (sym p.0) sp in
    rw s (e, v, g, x, y, w, wt, p.1)
quoted_forward (quote {q = q} {v = v} {x = x} {y = y} k w) t a raw e g c r ts wt f =
    let p = finishes_next t.name (t.given ++ record { name = a; value = v } ∷ g) raw e q x c r ts f in
    let s : is_quote c ≡ true = subst (λ (z : ℕ). is_quote z ≡ true) (sym p.0) k in
    rw (quote_space c s, s) (e, v, g, x, y, s, subst (λ (z : ℕ). WritesValue z v x y) (sym p.0) w, wt, p.1)

whole_some : (m : Text) (d : ℕ) → reference_of m ≡ Some d → is_empty m ≡ false
unfolding reference_of
whole_some [] d e = absurd cc
whole_some (c ∷ m) d e = refl

-- no quote is `&`
quote_38 : (q : ℕ) → is_quote q ≡ true → eqb 38 q ≡ false
quote_38 q k = not_true (eqb 38 q) (λ e. (let p : 38 ≡ q = eqb-true 38 q e in no_both (is_quote 38) (subst (λ (z : ℕ). is_quote z ≡ true) (sym p) k) refl))

value_forward : {q : ℕ} {v : Text} {x y : List ℕ} → WritesValue q v x y → (t : Tag) (a w raw : Text) (e : Bool) (g : List Attribute) (c : ℕ) (r : List ℕ) (ts : List Token) → is_quote q ≡ true → WritesTag false g e y
    → Finishes t.name (t.given ++ record { name = a; value = w ++ v } ∷ g) raw e x (c ∷ r) ts
    → LexTakes (cond (eqb c q) (continues_if (is_quote q) (in_start (more_attributes t a w) false (raw ++ c ∷ []))) (cond (eqb c 38) (continues (value_reference_state t a q w (raw ++ c ∷ []) [])) (continues_if (not (eqb c 60)) (in_value t a q (w ++ c ∷ []) (raw ++ c ∷ []))))) r ts
value_forward {q = q} (value_ends {y = y}) t a w raw e g c r ts k wt f =
    let p = finishes_next t.name (t.given ++ record { name = a; value = w ++ [] } ∷ g) raw e q y c r ts f in
    let i : eqb c q ≡ true = eq-eqb c q p.0 in
    let j : t.given ++ record { name = a; value = w ++ [] } ∷ g ≡ (t.given ++ record { name = a; value = w } ∷ []) ++ g =
    ap (λ (z : Text). t.given ++ record { name = a; value = z } ∷ g) (append-nil w) ∙ sym (append_assoc t.given (record { name = a; value = w } ∷ []) g) in
    rw (i, k) (e, g, y, wt, subst (λ (z : List Attribute). Finishes t.name z (raw ++ c ∷ []) e y r ts) j p.1)
value_forward {q = q} (value_itself {c = d} {v = v} {x = x} {y = y} nq pl wv) t a w raw e g c r ts k wt f =
    let p = finishes_next t.name (t.given ++ record { name = a; value = w ++ d ∷ v } ∷ g) raw e d x c r ts f in
    let i : eqb c q ≡ false = subst (λ (z : ℕ). eqb z q ≡ false) (sym p.0) nq in
    let j : is_plain c ≡ true = subst (λ (z : ℕ). is_plain z ≡ true) (sym p.0) pl in
    rw (i, plain_38 c j, plain_60 c j) (
      e,
      v,
      g,
      x,
      y,
      k,
      wv,
      wt,
      subst (λ (z : Text). Finishes t.name (t.given ++ record { name = a; value = z } ∷ g) (raw ++ c ∷ []) e x r ts) (ap (λ (z : ℕ). w ++ z ∷ v) (sym p.0) ∙ sym (append_assoc w (c ∷ []) v)) p.1,
    )
value_forward {q = q} (value_reference {c = d} {v = v} {x = x} {y = y} m is wv) t a w raw e g c r ts k wt f =
    let p = finishes_next t.name (t.given ++ record { name = a; value = w ++ d ∷ v } ∷ g) raw e 38 (m ++ x) c r ts f in
    let i : eqb c q ≡ false = subst (λ (z : ℕ). eqb z q ≡ false) (sym p.0) (quote_38 q k) in
    let j : eqb c 38 ≡ true = eq-eqb c 38 p.0 in
    rw (i, j) (e, m, d, v, g, x, y, whole_some m d is, is, k, wv, wt, p.1)

-- ---- the other states

close_forward : (t : Tag) (raw : Text) (c : ℕ) (r : List ℕ) (ts : List Token) → CloseRest t raw (c ∷ r) ts → LexTakes (cond (eqb c 62) (whole_token (empty_tag t.name t.given (raw ++ c ∷ []))) no_token) r ts
close_forward t raw c r ts f =
    let p = finishes_next t.name t.given raw true 62 [] c r ts f in
    let h = p.1 in
    rw (eq-eqb c 62 p.0) (h.1, h.3 ∙ ap (λ (z : Text). empty_tag t.name t.given z ∷ h.1) (append-nil (raw ++ c ∷ [])), subst (λ (z : List ℕ). WritesTokens h.1 z) (sym h.2) h.4)

end_white_forward : (n : Text) (c : ℕ) (r : List ℕ) (ts : List Token) → EndWhiteRest n (c ∷ r) ts → LexTakes (cond (eqb c 62) (whole_token (close_tag n)) (continues_if (is_space c) (end_white n))) r ts
end_white_forward n c r ts h = go h.0 h.3 h.4
  where
    go : (w : List ℕ) → is_white w ≡ true → (c ∷ r) ≡ w ++ 62 ∷ h.1 → LexTakes (cond (eqb c 62) (whole_token (close_tag n)) (continues_if (is_space c) (end_white n))) r ts
    go [] wh e = let p = parts_of c 62 r h.1 e in rw (eq-eqb c 62 p.0) (h.2, h.5, subst (λ (z : List ℕ). WritesTokens h.2 z) (sym p.1) h.6)
    go (d ∷ w) wh e =
        let p = parts_of c d r (w ++ 62 ∷ h.1) e in
        let s : is_space c ≡ true = subst (λ (z : ℕ). is_space z ≡ true) (sym p.0) (white_at [] d w wh) in
        rw (apart c 62 is_space s refl, s) (w, h.1, h.2, white_rest d w wh, p.1, h.5, h.6)

end_name_forward : (n : Text) (c : ℕ) (r : List ℕ) (ts : List Token) → EndRest n (c ∷ r) ts
    → LexTakes (cond (may_grow n c) (continues (end_name (n ++ c ∷ []))) (cond (is_empty n) no_token (cond (eqb c 62) (whole_token (close_tag n)) (continues_if (is_space c) (end_white n))))) r ts
end_name_forward n c r ts h = go h.0 h.4 h.6 h.7
  where
    go : (m : Text) → named n m ≡ true → (c ∷ r) ≡ m ++ (h.1 ++ 62 ∷ h.2) → ts ≡ close_tag (n ++ m) ∷ h.3
        → LexTakes (cond (may_grow n c) (continues (end_name (n ++ c ∷ []))) (cond (is_empty n) no_token (cond (eqb c 62) (whole_token (close_tag n)) (continues_if (is_space c) (end_white n))))) r ts
    go [] nm e t =
        rw (white_stops n c r h.1 h.2 h.5 e, named_now n nm) (end_white_forward n c r ts (h.1, h.2, h.3, h.5, e, t ∙ ap (λ (z : Text). close_tag z ∷ h.3) (append-nil n), h.8))
    go (d ∷ m) nm e t =
        let p = parts_of c d r (m ++ (h.1 ++ 62 ∷ h.2)) e in
        let k = true_from (may_grow n d) (named (n ++ d ∷ []) m) nm in
        let gr : may_grow n c ≡ true = subst (λ (z : ℕ). may_grow n z ≡ true) (sym p.0) k.0 in
        rw gr (
          m,
          h.1,
          h.2,
          h.3,
          subst (λ (z : ℕ). named (n ++ z ∷ []) m ≡ true) (sym p.0) k.1,
          h.5,
          p.1,
          t ∙ ap (λ (z : Text). close_tag z ∷ h.3) (ap (λ (z : ℕ). n ++ z ∷ m) (sym p.0) ∙ sym (append_assoc n (c ∷ []) m)),
          h.8,
        )

in_tag_forward : (c : ℕ) (r : List ℕ) (ts : List Token) → InTagRest (c ∷ r) ts
    → LexTakes (cond (eqb c 47) (continues (end_name [])) (cond (eqb c 63) (continues (in_question (codes "xml"))) (continues_if (may_grow [] c) (start_name (c ∷ []))))) r ts
in_tag_forward c r ts (inr (inl h)) = let p = parts_of c 47 r h.0 h.1 in rw (eq-eqb c 47 p.0) (subst (λ (z : List ℕ). EndRest [] z ts) (sym p.1) h.2)
in_tag_forward c r ts (inr (inr h)) = let p = parts_of c 63 r h.0 h.1 in rw p.0 (subst (λ (z : List ℕ). QuestionRest (codes "xml") z ts) (sym p.1) h.2)
in_tag_forward c r ts (inl h) = go h.1 h.4 h.6
  where
    go : (m : Text) → named [] m ≡ true → Finishes m h.2 (60 ∷ []) h.0 (m ++ h.3) (c ∷ r) ts
        → LexTakes (cond (eqb c 47) (continues (end_name [])) (cond (eqb c 63) (continues (in_question (codes "xml"))) (continues_if (may_grow [] c) (start_name (c ∷ []))))) r ts
    go [] nm f = absurd (no_both false nm refl)
    go (d ∷ m) nm f =
        let p = finishes_next (d ∷ m) h.2 (60 ∷ []) h.0 d (m ++ h.3) c r ts f in
        let k = true_from (may_grow [] d) (named (d ∷ []) m) nm in
        let gr : may_grow [] c ≡ true = subst (λ (z : ℕ). may_grow [] z ≡ true) (sym p.0) k.0 in
        rw (apart c 47 (may_grow []) gr (stops_47 []), apart c 63 (may_grow []) gr stops_63, gr)
        (h.0, m, h.2, h.3, subst (λ (z : ℕ). named (z ∷ []) m ≡ true) (sym p.0) k.1, h.5, subst (λ (z : ℕ). Finishes (z ∷ m) h.2 (60 ∷ c ∷ []) h.0 (m ++ h.3) r ts) (sym p.0) p.1)

empty_is : (y : Text) → is_empty y ≡ true → y ≡ []
empty_is [] h = refl
empty_is (c ∷ cs) h = absurd cc

tail_forward : (n x : Text) (c : ℕ) (r : List ℕ) (ts : List Token) → TailRest n x (c ∷ r) ts → LexTakes (cond (ends_with (end_text n) (x ++ c ∷ [])) (whole_token (tail (x ++ c ∷ []))) (continues (in_tail n (x ++ c ∷ [])))) r ts
tail_forward n x c r ts h = go h.0 h.3 h.4 h.5
  where
    go : (y : Text) → tail_from n x y ≡ true → (c ∷ r) ≡ y ++ h.1 → ts ≡ tail (x ++ y) ∷ h.2 → LexTakes (cond (ends_with (end_text n) (x ++ c ∷ [])) (whole_token (tail (x ++ c ∷ []))) (continues (in_tail n (x ++ c ∷ [])))) r ts
    go [] tl e t = absurd (no_both false tl refl)
    go (d ∷ y) tl e t = two (ends_with (end_text n) (x ++ d ∷ [])) refl tl
      where
        p : (c ≡ d) × (r ≡ y ++ h.1)
        p = parts_of c d r (y ++ h.1) e

        two : (b : Bool) → ends_with (end_text n) (x ++ d ∷ []) ≡ b → cond b (is_empty y) (tail_from n (x ++ d ∷ []) y) ≡ true
            → LexTakes (cond (ends_with (end_text n) (x ++ c ∷ [])) (whole_token (tail (x ++ c ∷ []))) (continues (in_tail n (x ++ c ∷ [])))) r ts
        two true k em =
            let y-is : y ≡ [] = empty_is y em in
            let i : x ++ d ∷ y ≡ x ++ d ∷ [] = ap (λ (z : Text). x ++ d ∷ z) y-is in
            rw (p.0, k) (h.2, t ∙ ap (λ (z : Text). tail z ∷ h.2) i, subst (λ (z : List ℕ). WritesTokens h.2 z) (sym (p.1 ∙ ap (λ (z : List ℕ). z ++ h.1) y-is)) h.6)
        two false k tl' = rw (p.0, k) (y, h.1, h.2, tl', p.1, t ∙ ap (λ (z : Text). tail z ∷ h.2) (sym (append_assoc x (d ∷ []) y)), h.6)

declaration_forward : (b : Bool) (c : ℕ) (r : List ℕ) (ts : List Token) → DeclarationRest b (c ∷ r) ts → LexTakes (cond (b && eqb c 62) (whole_token declaration) (continues (in_declaration (eqb c 63)))) r ts
declaration_forward b c r ts h = go h.0 h.3 h.4
  where
    go : (y : Text) → declaration_from b y ≡ true → (c ∷ r) ≡ y ++ h.1 → LexTakes (cond (b && eqb c 62) (whole_token declaration) (continues (in_declaration (eqb c 63)))) r ts
    go [] d e = absurd (no_both false d refl)
    go (k ∷ y) d e = two (b && eqb k 62) refl d
      where
        p : (c ≡ k) × (r ≡ y ++ h.1)
        p = parts_of c k r (y ++ h.1) e

        two : (i : Bool) → (b && eqb k 62) ≡ i → cond i (is_empty y) (declaration_from (eqb k 63) y) ≡ true → LexTakes (cond (b && eqb c 62) (whole_token declaration) (continues (in_declaration (eqb c 63)))) r ts
        two true j em = rw (p.0, j) (h.2, h.5, subst (λ (z : List ℕ). WritesTokens h.2 z) (sym (p.1 ∙ ap (λ (z : List ℕ). z ++ h.1) (empty_is y em))) h.6)
        two false j d2 = rw (p.0, j) (y, h.1, h.2, d2, p.1, h.5, h.6)

question_forward : (k : Text) (c : ℕ) (r : List ℕ) (ts : List Token) → (o : Bool) → QuestionRest k (c ∷ r) ts → LexTakes (lex_step o (in_question k) c) r ts
unfolding lex_step
question_forward [] c r ts o h = let p = parts_of c h.0 r h.1 h.3 in rw (subst (λ (z : ℕ). is_space z ≡ true) (sym p.0) h.2) (subst (λ (z : List ℕ). DeclarationRest false z ts) (sym p.1) h.4)
question_forward (d ∷ k) c r ts o h = let p = parts_of c d r (k ++ h.0 ∷ h.1) h.3 in rw (eq-eqb c d p.0) (h.0, h.1, h.2, p.1, h.4)

-- ---- texts and references

abbrev pub FirstText : Bool → Text → List Token → Type 0
FirstText o raw us = (o ≡ true → meets_mark raw ≡ false) × (o ≡ true → begins_mark us ≡ true → is_white raw ≡ true) × (o ≡ false → begins_mark us ≡ false) × NotTail us

or_false : (a b : Bool) → (a || b) ≡ true → a ≡ false → b ≡ true
or_false true b h k = absurd (no_both true refl k)
or_false false b h k = h

-- a mark that stands first
mark_first : (us : List Token) → begins_mark us ≡ true → (vs : List Token) × (us ≡ mark ∷ vs)
mark_first [] h = absurd (no_both false h refl)
mark_first (mark ∷ vs) h = (vs, refl)
mark_first (open_tag n g raw ∷ vs) h = absurd (no_both false h refl)
mark_first (empty_tag n g raw ∷ vs) h = absurd (no_both false h refl)
mark_first (close_tag n ∷ vs) h = absurd (no_both false h refl)
mark_first (text raw y ∷ vs) h = absurd (no_both false h refl)
mark_first (tail x ∷ vs) h = absurd (no_both false h refl)
mark_first (declaration ∷ vs) h = absurd (no_both false h refl)

mark_char : (c : ℕ) (r : List ℕ) (vs : List Token) → WritesTokens (mark ∷ vs) (c ∷ r) → (eqb c byte_order_mark ≡ true) × WritesTokens vs r
mark_char c r vs h =
    let p = parts_of c byte_order_mark r h.1 (h.4 ∙ ap (λ (z : List ℕ). z ++ h.1) h.2) in
    (eq-eqb c byte_order_mark p.0, subst (λ (z : List ℕ). WritesTokens vs z) (sym p.1) h.5)

-- a text ends before this character
text_ends : (o : Bool) (raw y : Text) (c : ℕ) (r : List ℕ) (us : List Token) → FirstText o raw us → (eqb c 60 || begins_mark us) ≡ true → WritesTokens us (c ∷ r)
    → LexTakes (cond (eqb c 60) (text_before raw y in_tag) (cond ((o && eqb c byte_order_mark) && is_white raw) (text_before_mark raw y) (cond (eqb c 38) (continues (text_reference (raw ++ c ∷ []) y [])) (continues (in_text (raw ++ c ∷ []) (y ++ c ∷ [])))))) r (text raw y ∷ us)
text_ends o raw y c r us fit b sp = go (eqb c 60) refl
  where
    behind_mark : (o : Bool) → FirstText o raw us → begins_mark us ≡ true → LexTakes (cond ((o && eqb c byte_order_mark) && is_white raw) (text_before_mark raw y) (cond (eqb c 38) (continues (text_reference (raw ++ c ∷ []) y [])) (continues (in_text (raw ++ c ∷ []) (y ++ c ∷ []))))) r (text raw y ∷ us)
    behind_mark false f m = absurd (no_both (begins_mark us) m (f.2 refl))
    behind_mark true f m =
        let v = mark_first us m in
        let k = mark_char c r v.0 (subst (λ (z : List Token). WritesTokens z (c ∷ r)) v.1 sp) in
        rw (k.0, f.1 refl m) (v.0, ap (λ (z : List Token). text raw y ∷ z) v.1, k.1)

    go : (i : Bool) → eqb c 60 ≡ i → LexTakes (cond i (text_before raw y in_tag) (cond ((o && eqb c byte_order_mark) && is_white raw) (text_before_mark raw y) (cond (eqb c 38) (continues (text_reference (raw ++ c ∷ []) y [])) (continues (in_text (raw ++ c ∷ []) (y ++ c ∷ [])))))) r (text raw y ∷ us)
    go true e = (us, refl, to_tag us r fit.3 (subst (λ (z : ℕ). WritesTokens us (z ∷ r)) (eqb-true c 60 e) sp))
    go false e = behind_mark o fit (or_false (eqb c 60) (begins_mark us) b e)

and_more : (a b : Bool) → a ≡ false → (a && b) ≡ false
and_more true b h = absurd (no_both true refl h)
and_more false b h = refl

text_forward : {z : Text} {x : List ℕ} → Writes z x → (o : Bool) (raw y : Text) (c : ℕ) (r q : List ℕ) (us ts : List Token) → FirstText o (raw ++ x) us → (c ∷ r) ≡ x ++ q → (begins_with 60 q || begins_mark us) ≡ true
    → ts ≡ text (raw ++ x) (y ++ z) ∷ us → WritesTokens us q
    → LexTakes (cond (eqb c 60) (text_before raw y in_tag) (cond ((o && eqb c byte_order_mark) && is_white raw) (text_before_mark raw y) (cond (eqb c 38) (continues (text_reference (raw ++ c ∷ []) y [])) (continues (in_text (raw ++ c ∷ []) (y ++ c ∷ [])))))) r ts
text_forward nothing o raw y c r q us ts fit e b t sp =
    let i : text (raw ++ []) (y ++ []) ≡ text raw y = ap (λ (z : Text). text z (y ++ [])) (append-nil raw) ∙ ap (λ (z : Text). text raw z) (append-nil y) in
    subst (λ (z : List Token). LexTakes (cond (eqb c 60) (text_before raw y in_tag) (cond ((o && eqb c byte_order_mark) && is_white raw) (text_before_mark raw y) (cond (eqb c 38) (continues (text_reference (raw ++ c ∷ []) y [])) (continues (in_text (raw ++ c ∷ []) (y ++ c ∷ [])))))) r z)
    (sym (t ∙ ap (λ (z : Token). z ∷ us) i))
    (text_ends o raw y c r us (subst (λ (z : Text). FirstText o z us) (append-nil raw) fit) (subst (λ (z : List ℕ). (begins_with 60 z || begins_mark us) ≡ true) (sym e) b) (subst (λ (z : List ℕ). WritesTokens us z) (sym e) sp))
text_forward (itself {c = d} {y = z} {x = x} pl w) o raw y c r q us ts fit e b t sp =
    let p = parts_of c d r (x ++ q) e in
    let j : is_plain c ≡ true = subst (λ (k : ℕ). is_plain k ≡ true) (sym p.0) pl in
    let m : ((o && eqb c byte_order_mark) && is_white raw) ≡ false = no_mark o raw c x (λ i. subst (λ (k : ℕ). meets_mark (raw ++ k ∷ x) ≡ false) (sym p.0) (fit.0 i)) in
    let u : text (raw ++ d ∷ x) (y ++ d ∷ z) ≡ text ((raw ++ c ∷ []) ++ x) ((y ++ c ∷ []) ++ z) =
    ap (λ (k : ℕ). text (raw ++ k ∷ x) (y ++ k ∷ z)) (sym p.0) ∙ ap (λ (k : Text). text k (y ++ c ∷ z)) (sym (append_assoc raw (c ∷ []) x)) ∙ ap (λ (k : Text). text ((raw ++ c ∷ []) ++ x) k) (sym (append_assoc y (c ∷ []) z)) in
    rw (plain_60 c j, plain_38 c j, m) (z, x, q, us, w, p.1, b, t ∙ ap (λ (k : Token). k ∷ us) u, sp)
text_forward (reference {c = d} {y = z} {x = x} k is w) o raw y c r q us ts fit e b t sp =
    let p = parts_of c 38 r ((k ++ x) ++ q) e in
    let m : (o && eqb c byte_order_mark) ≡ false = subst (λ (i : ℕ). (o && eqb i byte_order_mark) ≡ false) (sym p.0) (and_false o) in
    let n60 : eqb c 60 ≡ false = subst (λ (i : ℕ). eqb i 60 ≡ false) (sym p.0) refl in
    let u : text (raw ++ 38 ∷ (k ++ x)) (y ++ d ∷ z) ≡ text ((raw ++ c ∷ []) ++ (k ++ x)) (y ++ d ∷ z) =
    ap (λ (i : ℕ). text (raw ++ i ∷ (k ++ x)) (y ++ d ∷ z)) (sym p.0) ∙ ap (λ (i : Text). text i (y ++ d ∷ z)) (sym (append_assoc raw (c ∷ []) (k ++ x))) in
    rw (n60, eq-eqb c 38 p.0, and_more (o && eqb c byte_order_mark) (is_white raw) m) (k, d, z, x, q, us, whole_some k d is, is, w, p.1 ∙ append_assoc k x q, b, t ∙ ap (λ (i : Token). i ∷ us) u, sp)

-- a text that begins is one of which nothing was read yet
begin_forward : (o : Bool) (c : ℕ) (r : List ℕ) (ts : List Token) → Fitting o ts → WritesTokens ts (c ∷ r) → LexTakes (lex_step o begin c) r ts
unfolding lex_step
begin_forward o c r ts fit h = go (eqb c 60) refl ts fit h
  where
    tag_char : (x q : List ℕ) (d : List ℕ) → x ≡ 60 ∷ d → (c ∷ r) ≡ x ++ q → eqb c 60 ≡ false → ⊥
    tag_char x q d w e n = no_both (eqb c 60) (eq-eqb c 60 (parts_of c 60 r (d ++ q) (e ∙ ap (λ (z : List ℕ). z ++ q) w)).0) n

    in_first : {z : Text} {x : List ℕ} → Writes z x → (raw : Text) (q : List ℕ) (us : List Token) → FirstText o raw us → is_empty x ≡ false → raw ≡ x → (c ∷ r) ≡ x ++ q → (begins_with 60 q || begins_mark us) ≡ true → WritesTokens us q → eqb c 60 ≡ false
        → LexTakes (cond (o && eqb c byte_order_mark) (whole_token mark) (cond (eqb c 38) (continues (text_reference (c ∷ []) [] [])) (continues (in_text (c ∷ []) (c ∷ []))))) r (text raw z ∷ us)
    in_first nothing raw q us f ne re e b sp n = absurd (no_both true refl ne)
    in_first (itself {c = d} {y = z} {x = x} pl w) raw q us f ne re e b sp n =
        let p = parts_of c d r (x ++ q) e in
        let j : is_plain c ≡ true = subst (λ (k : ℕ). is_plain k ≡ true) (sym p.0) pl in
        let m : (o && eqb c byte_order_mark) ≡ false = no_mark_first o c x (λ i. subst (λ (k : ℕ). meets_mark (k ∷ x) ≡ false) (sym p.0) (subst (λ (k : Text). meets_mark k ≡ false) re (f.0 i))) in
        rw (m, plain_38 c j) (z, x, q, us, w, p.1, b, ap (λ (k : Text). text k (d ∷ z) ∷ us) re ∙ ap (λ (k : ℕ). text (k ∷ x) (k ∷ z) ∷ us) (sym p.0), sp)
    in_first (reference {c = d} {y = z} {x = x} k is w) raw q us f ne re e b sp n =
        let p = parts_of c 38 r ((k ++ x) ++ q) e in
        let m : (o && eqb c byte_order_mark) ≡ false = subst (λ (i : ℕ). (o && eqb i byte_order_mark) ≡ false) (sym p.0) (and_false o) in
        rw (m, eq-eqb c 38 p.0) (k, d, z, x, q, us, whole_some k d is, is, w, p.1 ∙ append_assoc k x q, b, ap (λ (i : Text). text i (d ∷ z) ∷ us) re ∙ ap (λ (i : ℕ). text (i ∷ (k ++ x)) (d ∷ z) ∷ us) (sym p.0), sp)

    go : (i : Bool) → eqb c 60 ≡ i → (ts : List Token) → Fitting o ts → WritesTokens ts (c ∷ r)
        → LexTakes (cond i (continues in_tag) (cond (o && eqb c byte_order_mark) (whole_token mark) (cond (eqb c 38) (continues (text_reference (c ∷ []) [] [])) (continues (in_text (c ∷ []) (c ∷ [])))))) r ts
    go true e ts fit h = to_tag ts r (not_tail ts fit) (subst (λ (z : ℕ). WritesTokens ts (z ∷ r)) (eqb-true c 60 e) h)
      where
        not_tail : (ts : List Token) → Fitting o ts → NotTail ts
        not_tail [] f = tt
        not_tail (open_tag n g raw ∷ us) f = tt
        not_tail (empty_tag n g raw ∷ us) f = tt
        not_tail (close_tag n ∷ us) f = tt
        not_tail (text raw y ∷ us) f = tt
        not_tail (tail x ∷ us) f = f
        not_tail (mark ∷ us) f = tt
        not_tail (declaration ∷ us) f = tt
    go false e [] fit h = absurd (nothing_left c r h)
    go false e (open_tag n g raw ∷ us) fit h = let w = h.2 in absurd (tag_char h.0 h.1 (n ++ w.0) w.3 h.4 e)
    go false e (empty_tag n g raw ∷ us) fit h = let w = h.2 in absurd (tag_char h.0 h.1 (n ++ w.0) w.3 h.4 e)
    go false e (close_tag n ∷ us) fit h = let w = h.2 in absurd (tag_char h.0 h.1 (47 ∷ (n ++ (w.0 ++ 62 ∷ []))) w.3 h.4 e)
    go false e (declaration ∷ us) fit h = let w = h.2 in absurd (tag_char h.0 h.1 (63 ∷ (codes "xml" ++ w.0 ∷ w.1)) w.4 h.4 e)
    go false e (mark ∷ us) fit h = let k = mark_char c r us h in rw (fit, k.0) (us, refl, k.1)
    go false e (tail x ∷ us) fit h = absurd fit
    go false e (text raw y ∷ us) fit h = let w = h.2 in in_first w.1 raw h.1 us fit w.0 w.2 h.4 h.3 h.5 e

-- which tokens fit behind a state: only where one begins or is a text, it matters
abbrev pub FittingAt : LexState → Bool → List Token → Type 0
FittingAt begin o ts = Fitting o ts
FittingAt (in_text raw y) o ts = Fitting o ts
FittingAt l o ts = Unit {0}

module _ (laws : ReferenceLaws) where
  -- a reference is whole, or goes on
  reference_forward : (m k : Text) (d : ℕ) (found : ℕ → LexState) (more : LexState) (r : List ℕ) (ts : List Token) → reference_of (m ++ k) ≡ Some d
      → (k ≡ [] → LexRest (found d) r ts) → (is_empty k ≡ false → LexRest more r ts) → LexTakes (reference_step m found more) r ts
  reference_forward m [] d found more r ts is f g = let i : reference_of m ≡ Some d = subst (λ (z : Text). reference_of z ≡ Some d) (append-nil m) is in rw i (f refl)
  reference_forward m (c ∷ k) d found more r ts is f g = rw (laws.no_front m (c ∷ k) d is refl, laws.goes_on m (c ∷ k) d is refl) (g refl)

  text_reference_forward : (raw y m : Text) (c : ℕ) (r : List ℕ) (ts : List Token) → TextReferenceRest raw y m (c ∷ r) ts
      → LexTakes (reference_step (m ++ c ∷ []) (λ d. in_text (raw ++ c ∷ []) (y ++ d ∷ [])) (text_reference (raw ++ c ∷ []) y (m ++ c ∷ []))) r ts
  text_reference_forward raw y m c r ts h = go h.0 h.6 h.7 h.9 h.11
    where
      go : (k : Text) → is_empty k ≡ false → reference_of (m ++ k) ≡ Some h.1 → (c ∷ r) ≡ k ++ (h.3 ++ h.4) → ts ≡ text (raw ++ (k ++ h.3)) (y ++ h.1 ∷ h.2) ∷ h.5
          → LexTakes (reference_step (m ++ c ∷ []) (λ d. in_text (raw ++ c ∷ []) (y ++ d ∷ [])) (text_reference (raw ++ c ∷ []) y (m ++ c ∷ []))) r ts
      go [] ne is e t = absurd (no_both true refl ne)
      go (a ∷ k) ne is e t =
          let p = parts_of c a r (k ++ (h.3 ++ h.4)) e in
          let j : reference_of ((m ++ c ∷ []) ++ k) ≡ Some h.1 = ap reference_of (append_assoc m (c ∷ []) k ∙ ap (λ (z : ℕ). m ++ z ∷ k) p.0) ∙ is in
          let u : text (raw ++ a ∷ (k ++ h.3)) (y ++ h.1 ∷ h.2) ≡ text ((raw ++ c ∷ []) ++ (k ++ h.3)) (y ++ h.1 ∷ h.2) =
          ap (λ (z : Text). text z (y ++ h.1 ∷ h.2)) (ap (λ (z : ℕ). raw ++ z ∷ (k ++ h.3)) (sym p.0) ∙ sym (append_assoc raw (c ∷ []) (k ++ h.3))) in
          reference_forward (m ++ c ∷ []) k h.1 (λ d. in_text (raw ++ c ∷ []) (y ++ d ∷ [])) (text_reference (raw ++ c ∷ []) y (m ++ c ∷ [])) r ts j
          (λ n. (
            h.2,
            h.3,
            h.4,
            h.5,
            h.8,
            p.1 ∙ ap (λ (z : Text). z ++ (h.3 ++ h.4)) n,
            h.10,
            t ∙ ap (λ (z : Token). z ∷ h.5) (u ∙ ap (λ (z : Text). text ((raw ++ c ∷ []) ++ (z ++ h.3)) (y ++ h.1 ∷ h.2)) n ∙ ap (λ (z : Text). text ((raw ++ c ∷ []) ++ h.3) z) (sym (append_assoc y (h.1 ∷ []) h.2))),
            h.12,
          ))
          (λ n. (k, h.1, h.2, h.3, h.4, h.5, n, j, h.8, p.1, h.10, t ∙ ap (λ (z : Token). z ∷ h.5) u, h.12))

  value_reference_forward : (t : Tag) (a : Text) (q : ℕ) (w raw m : Text) (c : ℕ) (r : List ℕ) (ts : List Token) → ValueReferenceRest t a q w raw m (c ∷ r) ts
      → LexTakes (reference_step (m ++ c ∷ []) (λ d. in_value t a q (w ++ d ∷ []) (raw ++ c ∷ [])) (value_reference_state t a q w (raw ++ c ∷ []) (m ++ c ∷ []))) r ts
  value_reference_forward t a q w raw m c r ts h = go h.1 h.7 h.8 h.12
    where
      go : (k : Text) → is_empty k ≡ false → reference_of (m ++ k) ≡ Some h.2 → Finishes t.name (t.given ++ record { name = a; value = w ++ h.2 ∷ h.3 } ∷ h.4) raw h.0 (k ++ h.5) (c ∷ r) ts
          → LexTakes (reference_step (m ++ c ∷ []) (λ d. in_value t a q (w ++ d ∷ []) (raw ++ c ∷ [])) (value_reference_state t a q w (raw ++ c ∷ []) (m ++ c ∷ []))) r ts
      go [] ne is f = absurd (no_both true refl ne)
      go (b ∷ k) ne is f =
          let p = finishes_next t.name (t.given ++ record { name = a; value = w ++ h.2 ∷ h.3 } ∷ h.4) raw h.0 b (k ++ h.5) c r ts f in
          let j : reference_of ((m ++ c ∷ []) ++ k) ≡ Some h.2 = ap reference_of (append_assoc m (c ∷ []) k ∙ ap (λ (z : ℕ). m ++ z ∷ k) p.0) ∙ is in
          reference_forward (m ++ c ∷ []) k h.2 (λ d. in_value t a q (w ++ d ∷ []) (raw ++ c ∷ [])) (value_reference_state t a q w (raw ++ c ∷ []) (m ++ c ∷ [])) r ts j
          (λ n. (
            h.0,
            h.3,
            h.4,
            h.5,
            h.6,
            h.9,
            h.10,
            h.11,
            subst (λ (z : Text). Finishes t.name (t.given ++ record { name = a; value = z } ∷ h.4) (raw ++ c ∷ []) h.0 h.5 r ts) (sym (append_assoc w (h.2 ∷ []) h.3))
                (subst (λ (z : Text). Finishes t.name (t.given ++ record { name = a; value = w ++ h.2 ∷ h.3 } ∷ h.4) (raw ++ c ∷ []) h.0 (z ++ h.5) r ts) n p.1),
          ))
          (λ n. (h.0, k, h.2, h.3, h.4, h.5, h.6, n, j, h.9, h.10, h.11, p.1))

  -- What a state still reads, one character shorter, is read by the state that the character leads to.
  pub lex_forward : (o : Bool) (l : LexState) (c : ℕ) (r : List ℕ) (ts : List Token) → FittingAt l o ts → LexRest l (c ∷ r) ts → LexTakes (lex_step o l c) r ts
  unfolding lex_step
  lex_forward o begin c r ts fit h = begin_forward o c r ts fit h
  lex_forward o (in_text raw y) c r ts fit h = text_forward h.4 o raw y c r h.2 h.3 ts (subst (λ (z : List Token). Fitting o z) h.7 fit) h.5 h.6 h.7 h.8
  lex_forward o (text_reference raw y m) c r ts fit h = text_reference_forward raw y m c r ts h
  lex_forward o in_tag c r ts fit h = in_tag_forward c r ts h
  lex_forward o (start_name n) c r ts fit h = start_name_forward n c r ts h
  lex_forward o (in_start t s raw) c r ts fit h = start_forward h.3 t raw c r ts h.4
  lex_forward o (attribute_name t a raw) c r ts fit h = attribute_name_forward t a raw c r ts h
  lex_forward o (before_equals t a raw) c r ts fit h = equals_forward h.5 t a raw h.0 h.2 c r ts h.6 h.7
  lex_forward o (before_value t a raw) c r ts fit h = quoted_forward h.5 t a raw h.0 h.2 c r ts h.6 h.7
  lex_forward o (in_value t a q w raw) c r ts fit h = value_forward h.6 t a w raw h.0 h.2 c r ts h.5 h.7 h.8
  lex_forward o (value_reference_state t a q w raw m) c r ts fit h = value_reference_forward t a q w raw m c r ts h
  lex_forward o (before_close t raw) c r ts fit h = close_forward t raw c r ts h
  lex_forward o (end_name n) c r ts fit h = end_name_forward n c r ts h
  lex_forward o (end_white n) c r ts fit h = end_white_forward n c r ts h
  lex_forward o (in_tail n x) c r ts fit h = tail_forward n x c r ts h
  lex_forward o (in_question k) c r ts fit h = question_forward k c r ts o h
  lex_forward o (in_declaration b) c r ts fit h = declaration_forward b c r ts h
