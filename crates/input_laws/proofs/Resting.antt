-- The reading rests exactly behind white space and U+FEFF.
use Rattle.std.proofs.Common.{◌≡◌, ℕ, ◌+◌, ◌-◌, ◌≤◌, Bool, true, false, cond, List, [], ◌∷◌, ◌++◌, Option, Some, None, Result, Ok, Err, refl, sym, ap, subst, ◌∙◌, arith, ◌⊎◌, inl, inr}
use Rattle.std.specs.Prelude.{nat_le, ◌&&◌, ◌||◌, ◌==◌, not}
use Rattle.std.proofs.lemmas.Bool.{and_parts}
use Rattle.std.proofs.lemmas.Bool.Decides.{nat_tests}
use Rattle.std.proofs.lemmas.List.Folds.{list_all-append}
use Rattle.mos_fields.specs.Characters.{Text, is_allowed, is_high, is_low, pair_char}
use Rattle.mos_fields.specs.Forms.{is_white}
use Rattle.mos_fields.specs.Names.{is_empty, may_grow}
use Rattle.mos_fields.specs.Raw.{end_text, ends_with, is_space, is_quote}
use Rattle.mos_fields.specs.References.{reference_of, begins_reference}
use Rattle.mos_fields.specs.Fields.{same}
use Rattle.mos_grammar.specs.Tokens.{Token, open_tag, empty_tag, close_tag, text, tail, mark, declaration}
use Rattle.mos_grammar.specs.declared.fault.Fault.{Fault}
use Rattle.mos_grammar.specs.declared.fault.Fault.TheVariants.{Tag as misplaced}
use Rattle.mos_grammar.specs.RecordMachine.{State, at, complete, in_raw, in_field, behind_text, between, step}
use Rattle.mos_grammar.specs.Streams.{Position, before_message, inside, inside_of, before_prolog, behind_mark, behind_declaration, mos_name, message_step}
use Rattle.mos_lexer.specs.declared.kind.Kind.TheVariants as kinds
use Rattle.mos_lexer.specs.Lexing.{byte_order_mark}
use Rattle.mos_lexer.specs.LexMachine.{Tag, LexState, begin, in_text, text_reference, in_tag, start_name, in_start, attribute_name, before_equals, before_value, in_value, value_reference, before_close, end_name, end_white, in_tail, in_question, in_declaration, LexStep, continues, continues_if, whole_token, text_before, text_before_mark, no_token, no_reference, referred, start_step, equals_step, lex_step}
use Rattle.mos_lexer.specs.Units.{Reader, start_reader, UnitStep, reads_on, completes, rejects, is_outside, lex_at, behind, opened_by, at_token, rests, lexed, read_char, unit_read, too_long, unit_step, still_reads, then_units, unit_run, message_limit, may_rest, is_blank, no_high, is_resting}
use Rattle.input_laws.specs.Words.{is_blank_unit, are_blank}

-- a tag or a declaration, or the rest of a raw element
abbrev pub is_solid : Token → Bool
is_solid (text raw y) = false
is_solid mark = false
is_solid t = true

-- what was read of a reference is no white space: it has an `&`
abbrev pub is_fine : LexState → Bool
is_fine (text_reference raw y m) = not (is_white raw)
is_fine l = true

-- no white space, and no text
abbrev pub is_firm : LexState → Bool
is_firm begin = false
is_firm (in_text raw y) = false
is_firm (text_reference raw y m) = false
is_firm l = true

-- a step within a tag comes to no white space
abbrev pub Firm : LexStep → Type 0
Firm (continues l) = is_firm l ≡ true
Firm (whole_token t) = is_solid t ≡ true
Firm (text_before raw y l) = ⊥
Firm (text_before_mark raw y) = ⊥
Firm no_token = Unit {0}
Firm (no_reference k) = Unit {0}

firm_cond : (b : Bool) (x y : LexStep) → Firm x → Firm y → Firm (cond b x y)
firm_cond true x y f g = f
firm_cond false x y f g = g

firm_if : (b : Bool) (l : LexState) → is_firm l ≡ true → Firm (continues_if b l)
firm_if true l f = f
firm_if false l f = tt

firm_start : (g : Tag) (spaced : Bool) (raw : Text) (c : ℕ) → Firm (start_step g spaced raw c)
firm_start g spaced raw c =
    firm_cond (is_space c) _ _ refl (firm_cond (c == 62) _ _ refl (firm_cond (c == 47) _ _ refl (firm_if (spaced && may_grow [] c) _ refl)))

firm_equals : (g : Tag) (a raw : Text) (c : ℕ) → Firm (equals_step g a raw c)
firm_equals g a raw c = firm_cond (is_space c) _ _ refl (firm_if (c == 61) _ refl)

firm_referred : (m : Text) (found : ℕ → LexState) (more : LexState) (o : Option ℕ) (b : Bool) → ((d : ℕ) → is_firm (found d) ≡ true) → is_firm more ≡ true → Firm (referred m found more o b)
firm_referred m found more (Some d) b f g = f d
firm_referred m found more None true f g = g
firm_referred m found more None false f g = tt

firm_step : (outside : Bool) (l : LexState) (c : ℕ) → is_firm l ≡ true → Firm (lex_step outside l c)
unfolding lex_step
firm_step outside begin c h = absurd cc
firm_step outside (in_text raw y) c h = absurd cc
firm_step outside (text_reference raw y m) c h = absurd cc
firm_step outside in_tag c h = firm_cond (c == 47) _ _ refl (firm_cond (c == 63) _ _ refl (firm_if (may_grow [] c) _ refl))
firm_step outside (start_name n) c h = firm_cond (may_grow n c) _ _ refl (firm_cond (is_empty n) _ _ tt (firm_start _ false (60 ∷ n) c))
firm_step outside (in_start g spaced raw) c h = firm_start g spaced raw c
firm_step outside (attribute_name g a raw) c h = firm_cond (may_grow a c) _ _ refl (firm_cond (is_empty a) _ _ tt (firm_equals g a raw c))
firm_step outside (before_equals g a raw) c h = firm_equals g a raw c
firm_step outside (before_value g a raw) c h = firm_cond (is_space c) _ _ refl (firm_if (is_quote c) _ refl)
firm_step outside (in_value g a q v raw) c h = firm_cond (c == q) _ _ (firm_if (is_quote q) _ refl) (firm_cond (c == 38) _ _ refl (firm_if (not (c == 60)) _ refl))
firm_step outside (value_reference g a q v raw m) c h = firm_referred (m ++ c ∷ []) _ _ (reference_of (m ++ c ∷ [])) (begins_reference (m ++ c ∷ [])) (λ d. refl) refl
firm_step outside (before_close g raw) c h = firm_cond (c == 62) _ _ refl tt
firm_step outside (end_name n) c h = firm_cond (may_grow n c) _ _ refl (firm_cond (is_empty n) _ _ tt (firm_cond (c == 62) _ _ refl (firm_if (is_space c) _ refl)))
firm_step outside (end_white n) c h = firm_cond (c == 62) _ _ refl (firm_if (is_space c) _ refl)
firm_step outside (in_tail n x) c h = firm_cond (ends_with (end_text n) (x ++ c ∷ [])) _ _ refl refl
firm_step outside (in_question []) c h = firm_if (is_space c) _ refl
firm_step outside (in_question (d ∷ k)) c h = firm_if (c == d) _ refl
firm_step outside (in_declaration question) c h = firm_cond (question && (c == 62)) _ _ refl refl

-- ---- positions

abbrev placed : Position → Result Position Fault
placed p = Ok p

same_place : (a b : Position) → placed a ≡ placed b → b ≡ a
same_place a b e = cc

same_reader : (a b : Reader) → reads_on a ≡ reads_on b → b ≡ a
same_reader a b e = cc

not_resting : (f : Result State Fault) (q : Position) → inside_of f ≡ Ok q → may_rest q ≡ false
not_resting (Ok t) q e = ap may_rest (same_place (inside t) q e)
not_resting (Err k) q e = absurd cc

-- behind a tag or a declaration nothing rests
solid_goes : (p : Position) (t : Token) → is_solid t ≡ true → (q : Position) → message_step p t ≡ Ok q → may_rest q ≡ false
unfolding message_step
solid_goes (inside s) t h q e = not_resting (step s t) q e
solid_goes (before_message g) (open_tag n a tag) h q e = go (same mos_name n) (Ok (inside _)) (Err _) (λ k. ap may_rest (same_place _ q k)) (λ k. absurd cc) e
  where
    go : (b : Bool) (x y : Result Position Fault) → (x ≡ Ok q → may_rest q ≡ false) → (y ≡ Ok q → may_rest q ≡ false) → cond b x y ≡ Ok q → may_rest q ≡ false
    go true x y f g k = f k
    go false x y f g k = g k
solid_goes (before_message g) (empty_tag n a tag) h q e = absurd cc
solid_goes (before_message g) (close_tag n) h q e = absurd cc
solid_goes (before_message g) (text x y) h q e = absurd cc
solid_goes (before_message g) (tail x) h q e = absurd cc
solid_goes (before_message g) mark h q e = absurd cc
solid_goes (before_message before_prolog) declaration h q e = ap may_rest (same_place (before_message behind_declaration) q e)
solid_goes (before_message behind_mark) declaration h q e = ap may_rest (same_place (before_message behind_declaration) q e)
solid_goes (before_message behind_declaration) declaration h q e = absurd cc

-- ---- where the reader stands behind a token

record Behind (l : LexState) (q : Position) (r : Reader) : Type 0 where
  pub lex : r.lex ≡ l
  pub position : r.position ≡ q
  pub high : no_high r.high ≡ true

behind_facts : (opened start count : ℕ) (l : LexState) (q : Position) (r : Reader) → behind opened start count l q ≡ reads_on r → Behind l q r
behind_facts opened start count l (before_message g) r e = let h = same_reader _ r e in record { lex = ap (λ (z : Reader). z.lex) h; position = ap (λ (z : Reader). z.position) h; high = ap (λ (z : Reader). no_high z.high) h }
behind_facts opened start count l (inside (complete v)) r e = absurd cc
behind_facts opened start count l (inside (at m f fs)) r e = let h = same_reader _ r e in record { lex = ap (λ (z : Reader). z.lex) h; position = ap (λ (z : Reader). z.position) h; high = ap (λ (z : Reader). no_high z.high) h }

begun_fine : (q : Position) → is_fine (lex_at q) ≡ true
begun_fine (before_message g) = refl
begun_fine (inside (complete v)) = refl
begun_fine (inside (at between f fs)) = refl
begun_fine (inside (at (in_field m o) f fs)) = refl
begun_fine (inside (at (behind_text m o es) f fs)) = refl
begun_fine (inside (at (in_raw m p tag) f fs)) = refl

record Rested (r : Reader) : Type 0 where
  pub position : may_rest r.position ≡ true
  pub lex : is_blank r.lex ≡ true
  pub high : no_high r.high ≡ true

rested : (r : Reader) → is_resting r ≡ true → Rested r
rested r e =
    let h = and_parts (may_rest r.position && is_blank r.lex) (no_high r.high) e in
    let k = and_parts (may_rest r.position) (is_blank r.lex) h.0 in
    record { position = k.0; lex = k.1; high = h.1 }

resting : (r : Reader) → Rested r → is_resting r ≡ true
resting r h = rw (h.position, h.lex, h.high) refl

-- ---- one character

-- what a character came to: nothing odd is begun, and where all rests behind it, it rested before, and the character is blank
record Back (p : Position) (l : LexState) (c : ℕ) (r : Reader) : Type 0 where
  pub fine : is_fine r.lex ≡ true
  pub back : is_resting r ≡ true → (may_rest p ≡ true) × (is_blank l ≡ true) × (is_blank_unit c ≡ true)

firm_fine : (l : LexState) → is_firm l ≡ true → is_fine l ≡ true
firm_fine begin h = refl
firm_fine (in_text raw y) h = refl
firm_fine (text_reference raw y m) h = absurd cc
firm_fine in_tag h = refl
firm_fine (start_name n) h = refl
firm_fine (in_start g spaced raw) h = refl
firm_fine (attribute_name g a raw) h = refl
firm_fine (before_equals g a raw) h = refl
firm_fine (before_value g a raw) h = refl
firm_fine (in_value g a q v raw) h = refl
firm_fine (value_reference g a q v raw m) h = refl
firm_fine (before_close g raw) h = refl
firm_fine (end_name n) h = refl
firm_fine (end_white n) h = refl
firm_fine (in_tail n x) h = refl
firm_fine (in_question k) h = refl
firm_fine (in_declaration q) h = refl

firm_dark : (l : LexState) → is_firm l ≡ true → is_blank l ≡ true → ⊥
firm_dark begin h b = cc
firm_dark (in_text raw y) h b = cc
firm_dark (text_reference raw y m) h b = cc
firm_dark in_tag h b = cc
firm_dark (start_name n) h b = cc
firm_dark (in_start g spaced raw) h b = cc
firm_dark (attribute_name g a raw) h b = cc
firm_dark (before_equals g a raw) h b = cc
firm_dark (before_value g a raw) h b = cc
firm_dark (in_value g a q v raw) h b = cc
firm_dark (value_reference g a q v raw m) h b = cc
firm_dark (before_close g raw) h b = cc
firm_dark (end_name n) h b = cc
firm_dark (end_white n) h b = cc
firm_dark (in_tail n x) h b = cc
firm_dark (in_question k) h b = cc
firm_dark (in_declaration q) h b = cc

-- the token goes on, and is no white space
dark_on : (s : Reader) (place count : ℕ) (l m : LexState) (c : ℕ) (r : Reader) → is_fine m ≡ true → (is_blank m ≡ true → ⊥) → lexed s place count (continues m) ≡ reads_on r → Back s.position l c r
dark_on s place count l m c r f d e =
    let h = same_reader _ r e in
    let at : r.lex ≡ m = ap (λ (z : Reader). z.lex) h in
    record { fine = ap is_fine at ∙ f; back = λ k. absurd (d (sym (ap is_blank at) ∙ (rested r k).lex)) }

firm_back : (s : Reader) (place count : ℕ) (l : LexState) (c : ℕ) (x : LexStep) (r : Reader) → Firm x → lexed s place count x ≡ reads_on r → Back s.position l c r
firm_back s place count l c (continues m) r f e = dark_on s place count l m c r (firm_fine m f) (firm_dark m f) e
firm_back s place count l c (whole_token t) r f e = go (message_step s.position t) refl e
  where
    go : (o : Result Position Fault) → message_step s.position t ≡ o → at_token s.start o (rests (opened_by s) count) ≡ reads_on r → Back s.position l c r
    go (Ok q) h k =
        let b = behind_facts (opened_by s) count count (lex_at q) q r k in
        record { fine = ap is_fine b.lex ∙ begun_fine q; back = λ z. absurd (no (sym (rested r z).position ∙ ap may_rest b.position ∙ solid_goes s.position t f q h)) }
      where
        no : true ≡ false → ⊥
        no e = cc
    go (Err j) h k = absurd cc
firm_back s place count l c (text_before raw y m) r f e = absurd f
firm_back s place count l c (text_before_mark raw y) r f e = absurd f
firm_back s place count l c no_token r f e = absurd cc
firm_back s place count l c (no_reference k) r f e = absurd cc

-- U+FEFF as a token, before a message
mark_back : (p : Position) (place opened count : ℕ) (r : Reader) → at_token place (message_step p mark) (rests opened count) ≡ reads_on r → is_outside p ≡ true → (may_rest p ≡ true) × (is_fine r.lex ≡ true)
unfolding message_step
mark_back (inside s) place opened count r e h = absurd cc
mark_back (before_message before_prolog) place opened count r e h = let b = behind_facts opened count count begin (before_message behind_mark) r e in (refl, ap is_fine b.lex)
mark_back (before_message behind_mark) place opened count r e h = absurd cc
mark_back (before_message behind_declaration) place opened count r e h = absurd cc

is_char : (c d : ℕ) → (c == d) ≡ true → c ≡ d
is_char c d e = grind (arith, nat_tests)

space_blank : (c : ℕ) → is_space c ≡ true → is_blank_unit c ≡ true
space_blank c e = rw e refl

begin_back : (s : Reader) (place count c : ℕ) (r : Reader) → lexed s place count (lex_step (is_outside s.position) begin c) ≡ reads_on r → Back s.position begin c r
unfolding lex_step
begin_back s place count c r e = go (c == 60) (is_outside s.position && (c == byte_order_mark)) (c == 38) refl refl refl e
  where
    go : (a b d : Bool) → (c == 60) ≡ a → (is_outside s.position && (c == byte_order_mark)) ≡ b → (c == 38) ≡ d
        → lexed s place count (cond a (continues in_tag) (cond b (whole_token mark) (cond d (continues (text_reference (c ∷ []) [] [])) (continues (in_text (c ∷ []) (c ∷ [])))))) ≡ reads_on r → Back s.position begin c r
    go true b d ea eb ed k = dark_on s place count begin in_tag c r refl (λ z. cc) k
    go false true d ea eb ed k =
        let h = and_parts (is_outside s.position) (c == byte_order_mark) eb in
        let m = mark_back s.position s.start (opened_by s) count r k h.0 in
        record { fine = m.1; back = λ z. (m.0, refl, ap is_blank_unit (is_char c byte_order_mark h.1)) }
    go false false true ea eb ed k =
        dark_on s place count begin (text_reference (c ∷ []) [] []) c r (ap (λ (z : ℕ). not (is_white (z ∷ []))) (is_char c 38 ed)) (λ z. cc) k
    go false false false ea eb ed k =
        let h = same_reader _ r k in
        let at : r.lex ≡ in_text (c ∷ []) (c ∷ []) = ap (λ (z : Reader). z.lex) h in
        record {
          fine = ap is_fine at;
          back = λ z. (sym (ap (λ (w : Reader). may_rest w.position) h) ∙ (rested r z).position, refl, space_blank c (and_parts (is_space c) true (sym (ap is_blank at) ∙ (rested r z).lex)).0);
        }

white_more : (raw : Text) (c : ℕ) → is_white (raw ++ c ∷ []) ≡ (is_white raw && is_white (c ∷ []))
white_more raw c = list_all-append is_space raw (c ∷ [])

-- white space and a character more
white_parts : (raw : Text) (c : ℕ) → is_white (raw ++ c ∷ []) ≡ true → (is_white raw ≡ true) × (is_space c ≡ true)
white_parts raw c e =
    let h = and_parts (is_white raw) (is_white (c ∷ [])) (sym (white_more raw c) ∙ e) in
    (h.0, (and_parts (is_space c) true h.1).0)

still_dark : (raw : Text) (c : ℕ) → is_white raw ≡ false → is_white (raw ++ c ∷ []) ≡ false
still_dark raw c h = white_more raw c ∙ ap (λ (b : Bool). b && is_white (c ∷ [])) h

not_true : (b : Bool) → not b ≡ true → b ≡ false
not_true true e = absurd cc
not_true false e = refl

both : true ≡ false → ⊥
both e = cc

-- U+FEFF behind white space, before a message
white_mark_back : (p : Position) (start place opened count : ℕ) (raw y : Text) (r : Reader)
    → at_token start (message_step p (text raw y)) (λ q. at_token place (message_step q mark) (rests opened count)) ≡ reads_on r → is_outside p ≡ true → (may_rest p ≡ true) × (is_fine r.lex ≡ true)
unfolding message_step
white_mark_back (inside s) start place opened count raw y r e h = absurd cc
white_mark_back (before_message g) start place opened count raw y r e h = go (is_white raw) e
  where
    go : (b : Bool) → at_token start (cond b (Ok (before_message g)) (Err misplaced)) (λ q. at_token place (message_step q mark) (rests opened count)) ≡ reads_on r → (may_rest (before_message g) ≡ true) × (is_fine r.lex ≡ true)
    go true k = mark_back (before_message g) place opened count r k refl
    go false k = absurd cc

-- a text that ends before a tag
text_ends : (s : Reader) (place count c : ℕ) (l : LexState) (raw y : Text) (r : Reader) → lexed s place count (text_before raw y in_tag) ≡ reads_on r → Back s.position l c r
text_ends s place count c l raw y r e = go (message_step s.position (text raw y)) e
  where
    go : (o : Result Position Fault) → at_token s.start o (behind (opened_by s) place count in_tag) ≡ reads_on r → Back s.position l c r
    go (Ok q) k =
        let b = behind_facts (opened_by s) place count in_tag q r k in
        record { fine = ap is_fine b.lex; back = λ z. absurd (both (sym (rested r z).lex ∙ ap is_blank b.lex)) }
    go (Err j) k = absurd cc

never : (b : Bool) → (b && false) ≡ false
never true = refl
never false = refl

amp_dark : (raw : Text) (c : ℕ) → (c == 38) ≡ true → is_white (raw ++ c ∷ []) ≡ false
amp_dark raw c e = white_more raw c ∙ ap (λ (z : ℕ). is_white raw && is_white (z ∷ [])) (is_char c 38 e) ∙ never (is_white raw)

text_back : (s : Reader) (place count c : ℕ) (raw y : Text) (r : Reader) → lexed s place count (lex_step (is_outside s.position) (in_text raw y) c) ≡ reads_on r → Back s.position (in_text raw y) c r
unfolding lex_step
text_back s place count c raw y r e = go (c == 60) (is_outside s.position && (c == byte_order_mark) && is_white raw) (c == 38) refl refl refl e
  where
    go : (a b d : Bool) → (c == 60) ≡ a → (is_outside s.position && (c == byte_order_mark) && is_white raw) ≡ b → (c == 38) ≡ d
        → lexed s place count (cond a (text_before raw y in_tag) (cond b (text_before_mark raw y) (cond d (continues (text_reference (raw ++ c ∷ []) y [])) (continues (in_text (raw ++ c ∷ []) (y ++ c ∷ [])))))) ≡ reads_on r
        → Back s.position (in_text raw y) c r
    go true b d ea eb ed k = text_ends s place count c (in_text raw y) raw y r k
    go false true d ea eb ed k =
        let h = and_parts (is_outside s.position && (c == byte_order_mark)) (is_white raw) eb in
        let j = and_parts (is_outside s.position) (c == byte_order_mark) h.0 in
        let m = white_mark_back s.position s.start place place count raw y r k j.0 in
        record { fine = m.1; back = λ z. (m.0, h.1, ap is_blank_unit (is_char c byte_order_mark j.1)) }
    go false false true ea eb ed k =
        dark_on s place count (in_text raw y) (text_reference (raw ++ c ∷ []) y []) c r (ap not (amp_dark raw c ed)) (λ z. cc) k
    go false false false ea eb ed k =
        let h = same_reader _ r k in
        let at : r.lex ≡ in_text (raw ++ c ∷ []) (y ++ c ∷ []) = ap (λ (z : Reader). z.lex) h in
        record {
          fine = ap is_fine at;
          back = λ z. (let w = white_parts raw c (sym (ap is_blank at) ∙ (rested r z).lex) in (sym (ap (λ (w : Reader). may_rest w.position) h) ∙ (rested r z).position, w.0, space_blank c w.1));
        }

reference_back : (s : Reader) (place count c : ℕ) (raw y m : Text) (r : Reader) → is_white raw ≡ false → lexed s place count (lex_step (is_outside s.position) (text_reference raw y m) c) ≡ reads_on r → Back s.position (text_reference raw y m) c r
unfolding lex_step
reference_back s place count c raw y m r f e = go (reference_of (m ++ c ∷ [])) (begins_reference (m ++ c ∷ [])) e
  where
    dark : is_white (raw ++ c ∷ []) ≡ false
    dark = still_dark raw c f

    go : (o : Option ℕ) (b : Bool) → lexed s place count (referred (m ++ c ∷ []) (λ d. in_text (raw ++ c ∷ []) (y ++ d ∷ [])) (text_reference (raw ++ c ∷ []) y (m ++ c ∷ [])) o b) ≡ reads_on r → Back s.position (text_reference raw y m) c r
    go (Some d) b k = dark_on s place count (text_reference raw y m) (in_text (raw ++ c ∷ []) (y ++ d ∷ [])) c r refl (λ z. both (sym z ∙ dark)) k
    go None true k = dark_on s place count (text_reference raw y m) (text_reference (raw ++ c ∷ []) y (m ++ c ∷ [])) c r (ap not dark) (λ z. cc) k
    go None false k = absurd cc

char_back : (s : Reader) (place count c : ℕ) (l : LexState) (r : Reader) → is_fine l ≡ true → lexed s place count (lex_step (is_outside s.position) l c) ≡ reads_on r → Back s.position l c r
char_back s place count c begin r f e = begin_back s place count c r e
char_back s place count c (in_text raw y) r f e = text_back s place count c raw y r e
char_back s place count c (text_reference raw y m) r f e = reference_back s place count c raw y m r (not_true (is_white raw) f) e
char_back s place count c in_tag r f e = firm_back s place count in_tag c _ r (firm_step (is_outside s.position) in_tag c refl) e
char_back s place count c (start_name n) r f e = firm_back s place count (start_name n) c _ r (firm_step (is_outside s.position) (start_name n) c refl) e
char_back s place count c (in_start g b raw) r f e = firm_back s place count (in_start g b raw) c _ r (firm_step (is_outside s.position) (in_start g b raw) c refl) e
char_back s place count c (attribute_name g a raw) r f e = firm_back s place count (attribute_name g a raw) c _ r (firm_step (is_outside s.position) (attribute_name g a raw) c refl) e
char_back s place count c (before_equals g a raw) r f e = firm_back s place count (before_equals g a raw) c _ r (firm_step (is_outside s.position) (before_equals g a raw) c refl) e
char_back s place count c (before_value g a raw) r f e = firm_back s place count (before_value g a raw) c _ r (firm_step (is_outside s.position) (before_value g a raw) c refl) e
char_back s place count c (in_value g a q v raw) r f e = firm_back s place count (in_value g a q v raw) c _ r (firm_step (is_outside s.position) (in_value g a q v raw) c refl) e
char_back s place count c (value_reference g a q v raw m) r f e = firm_back s place count (value_reference g a q v raw m) c _ r (firm_step (is_outside s.position) (value_reference g a q v raw m) c refl) e
char_back s place count c (before_close g raw) r f e = firm_back s place count (before_close g raw) c _ r (firm_step (is_outside s.position) (before_close g raw) c refl) e
char_back s place count c (end_name n) r f e = firm_back s place count (end_name n) c _ r (firm_step (is_outside s.position) (end_name n) c refl) e
char_back s place count c (end_white n) r f e = firm_back s place count (end_white n) c _ r (firm_step (is_outside s.position) (end_white n) c refl) e
char_back s place count c (in_tail n x) r f e = firm_back s place count (in_tail n x) c _ r (firm_step (is_outside s.position) (in_tail n x) c refl) e
char_back s place count c (in_question k) r f e = firm_back s place count (in_question k) c _ r (firm_step (is_outside s.position) (in_question k) c refl) e
char_back s place count c (in_declaration q) r f e = firm_back s place count (in_declaration q) c _ r (firm_step (is_outside s.position) (in_declaration q) c refl) e

-- ---- one code unit

record UnitBack (s : Reader) (u : ℕ) (r : Reader) : Type 0 where
  pub fine : is_fine r.lex ≡ true
  pub back : is_resting r ≡ true → (is_resting s ≡ true) × (is_blank_unit u ≡ true)

-- a character of two code units is none of these
pair_dark : (h u : ℕ) → is_blank_unit (pair_char h u) ≡ true → ⊥
pair_dark h u e =
    let big : 65536 ≤ pair_char h u = omega arith in
    grind (arith, nat_tests)

unlimited : (s : Reader) (x : UnitStep) (r : Reader) → too_long s x ≡ reads_on r → x ≡ reads_on r
unlimited s (reads_on t) r e = go (nat_le message_limit s.count) e
  where
    go : (b : Bool) → cond b (rejects message_limit kinds.TooLong) (reads_on t) ≡ reads_on r → reads_on t ≡ reads_on r
    go true k = absurd cc
    go false k = k
unlimited s (completes began v) r e = go (nat_le message_limit s.count) e
  where
    go : (b : Bool) → cond b (rejects message_limit kinds.TooLong) (completes began v) ≡ reads_on r → completes began v ≡ reads_on r
    go true k = absurd cc
    go false k = absurd cc
unlimited s (rejects place k) r e = absurd cc

allowed_read : (s : Reader) (place count c : ℕ) (r : Reader) → read_char s place count c ≡ reads_on r → lexed s place count (lex_step (is_outside s.position) s.lex c) ≡ reads_on r
allowed_read s place count c r e = go (is_allowed c) e
  where
    go : (b : Bool) → cond b (lexed s place count (lex_step (is_outside s.position) s.lex c)) (rejects place kinds.BadChar) ≡ reads_on r → lexed s place count (lex_step (is_outside s.position) s.lex c) ≡ reads_on r
    go true k = k
    go false k = absurd cc

read_back : (s : Reader) (u : ℕ) (o : Option ℕ) (r : Reader) → s.high ≡ o → is_fine s.lex ≡ true → unit_read s u o ≡ reads_on r → UnitBack s u r
read_back s u None r h f e = go (is_high u) (is_low u) e
  where
    go : (a b : Bool) → cond a (reads_on (record { position = s.position; lex = s.lex; start = s.start; opened = s.opened; count = s.count + 1; high = Some u })) (cond b (rejects s.count kinds.BadUnit) (read_char s s.count (s.count + 1) u)) ≡ reads_on r → UnitBack s u r
    go true b k =
        let g = same_reader _ r k in
        record { fine = ap (λ (z : Reader). is_fine z.lex) g ∙ f; back = λ z. absurd (both (sym (rested r z).high ∙ ap (λ (z : Reader). no_high z.high) g)) }
    go false true k = absurd cc
    go false false k =
        let c = char_back s s.count (s.count + 1) u s.lex r f (allowed_read s s.count (s.count + 1) u r k) in
        record { fine = c.fine; back = λ z. (let p = c.back z in (resting s (record { position = p.0; lex = p.1; high = ap no_high h }), p.2)) }
read_back s u (Some d) r h f e = go (is_low u) e
  where
    go : (b : Bool) → cond b (read_char s (s.count - 1) (s.count + 1) (pair_char d u)) (rejects (s.count - 1) kinds.BadUnit) ≡ reads_on r → UnitBack s u r
    go true k =
        let c = char_back s (s.count - 1) (s.count + 1) (pair_char d u) s.lex r f (allowed_read s (s.count - 1) (s.count + 1) (pair_char d u) r k) in
        record { fine = c.fine; back = λ z. absurd (pair_dark d u (c.back z).2) }
    go false k = absurd cc

unit_back : (s : Reader) (u : ℕ) (r : Reader) → is_fine s.lex ≡ true → unit_step s u ≡ reads_on r → UnitBack s u r
unfolding unit_step
unit_back s u r f e = read_back s u s.high r refl f (unlimited s (unit_read s u s.high) r e)

-- ---- all of them

run_back : (us : List ℕ) (s t : Reader) → is_fine s.lex ≡ true → unit_run s us ≡ still_reads t → is_resting t ≡ true → (is_resting s ≡ true) × (are_blank us ≡ true)
unfolding unit_run
run_back [] s t f e z = (ap is_resting (same s t e) ∙ z, refl)
  where
    same : (s t : Reader) → still_reads s ≡ still_reads t → s ≡ t
    same s t e = cc
run_back (u ∷ us) s t f e z = go (unit_step s u) refl e (λ r g k. run_back us r t g k z)
  where
    go : (x : UnitStep) → unit_step s u ≡ x → then_units x us (λ r. unit_run r us) ≡ still_reads t
        → ((r : Reader) → is_fine r.lex ≡ true → unit_run r us ≡ still_reads t → (is_resting r ≡ true) × (are_blank us ≡ true)) → (is_resting s ≡ true) × (are_blank (u ∷ us) ≡ true)
    go (reads_on r) h k on =
        let b = unit_back s u r f h in
        let more = on r b.fine k in
        let p = b.back more.0 in
        (p.0, rw (p.1, more.1) refl)
    go (completes began v) h k on = absurd cc
    go (rejects place j) h k on = absurd cc

-- ---- and the other way

-- a blank code unit begins no tag, no reference and no pair
record Blank (c : ℕ) : Type 0 where
  pub no_tag : (c == 60) ≡ false
  pub no_amp : (c == 38) ≡ false
  pub no_high : is_high c ≡ false
  pub kind : (is_space c ≡ true) ⊎ ((c == byte_order_mark) ≡ true)

or_parts : (a b : Bool) → (a || b) ≡ true → (a ≡ true) ⊎ (b ≡ true)
or_parts true b e = inl refl
or_parts false b e = inr e

blank_facts : (c : ℕ) → is_blank_unit c ≡ true → Blank c
blank_facts c e = record { no_tag = grind (arith, nat_tests); no_amp = grind (arith, nat_tests); no_high = grind (arith, nat_tests); kind = or_parts (is_space c) (c == byte_order_mark) e }

-- where the position is before a message, and may rest
data MayRest : Position → Type 0 where
  at_prolog : MayRest (before_message before_prolog)
  at_mark : MayRest (before_message behind_mark)

may_rest_at : (p : Position) → may_rest p ≡ true → MayRest p
may_rest_at (before_message before_prolog) e = at_prolog
may_rest_at (before_message behind_mark) e = at_mark
may_rest_at (before_message behind_declaration) e = absurd cc
may_rest_at (inside s) e = absurd cc

outside_rests : (p : Position) → may_rest p ≡ true → is_outside p ≡ true
outside_rests (before_message g) e = refl
outside_rests (inside s) e = absurd cc

-- U+FEFF is taken once
mark_rests : (p : Position) (place opened count : ℕ) (r : Reader) → MayRest p → at_token place (message_step p mark) (rests opened count) ≡ reads_on r → Rested r
unfolding message_step
mark_rests (before_message before_prolog) place opened count r at_prolog e =
    let b = behind_facts opened count count begin (before_message behind_mark) r e in
    record { position = ap may_rest b.position; lex = ap is_blank b.lex; high = b.high }
mark_rests (before_message behind_mark) place opened count r at_mark e = absurd cc
mark_rests (before_message behind_declaration) place opened count r m e = elim m [ ]
mark_rests (inside s) place opened count r m e = elim m [ ]

white_mark_rests : (p : Position) (start place opened count : ℕ) (raw y : Text) (r : Reader) → MayRest p
    → at_token start (message_step p (text raw y)) (λ q. at_token place (message_step q mark) (rests opened count)) ≡ reads_on r → Rested r
unfolding message_step
white_mark_rests (inside s) start place opened count raw y r m e = absurd (no m)
  where
    no : MayRest (inside s) → ⊥
    no m = elim m [ ]
white_mark_rests (before_message g) start place opened count raw y r m e = go (is_white raw) e
  where
    go : (b : Bool) → at_token start (cond b (Ok (before_message g)) (Err misplaced)) (λ q. at_token place (message_step q mark) (rests opened count)) ≡ reads_on r → Rested r
    go true k = mark_rests (before_message g) place opened count r m k
    go false k = absurd cc

text_on : (s : Reader) (raw y : Text) (place count : ℕ) (r : Reader) → may_rest s.position ≡ true → is_white raw ≡ true → lexed s place count (continues (in_text raw y)) ≡ reads_on r → Rested r
text_on s raw y place count r m w e =
    let h = same_reader _ r e in
    record { position = ap (λ (z : Reader). may_rest z.position) h ∙ m; lex = ap (λ (z : Reader). is_blank z.lex) h ∙ w; high = ap (λ (z : Reader). no_high z.high) h }

met : (x z : Bool) → x ≡ true → z ≡ true → (x && z) ≡ true
met x z e f = rw (e, f) refl

all_met : (x y z : Bool) → x ≡ true → y ≡ true → z ≡ true → (x && y && z) ≡ true
all_met x y z e f g = rw (e, f, g) refl

begin_on : (s : Reader) (place count c : ℕ) (r : Reader) → may_rest s.position ≡ true → Blank c → lexed s place count (lex_step (is_outside s.position) begin c) ≡ reads_on r → Rested r
unfolding lex_step
begin_on s place count c r m b e = go (c == 60) (is_outside s.position && (c == byte_order_mark)) (c == 38) refl refl refl e b.kind
  where
    go : (x z d : Bool) → (c == 60) ≡ x → (is_outside s.position && (c == byte_order_mark)) ≡ z → (c == 38) ≡ d
        → lexed s place count (cond x (continues in_tag) (cond z (whole_token mark) (cond d (continues (text_reference (c ∷ []) [] [])) (continues (in_text (c ∷ []) (c ∷ [])))))) ≡ reads_on r
        → (is_space c ≡ true) ⊎ ((c == byte_order_mark) ≡ true) → Rested r
    go true z d ex ez ed k w = absurd (both (sym ex ∙ b.no_tag))
    go false true d ex ez ed k w = mark_rests s.position s.start (opened_by s) count r (may_rest_at s.position m) k
    go false false true ex ez ed k w = absurd (both (sym ed ∙ b.no_amp))
    go false false false ex ez ed k (inl w) = text_on s (c ∷ []) (c ∷ []) place count r m (rw w refl) k
    go false false false ex ez ed k (inr w) = absurd (both (sym (met (is_outside s.position) (c == byte_order_mark) (outside_rests s.position m) w) ∙ ez))

text_more_on : (s : Reader) (place count c : ℕ) (raw y : Text) (r : Reader) → may_rest s.position ≡ true → is_white raw ≡ true → Blank c → lexed s place count (lex_step (is_outside s.position) (in_text raw y) c) ≡ reads_on r → Rested r
unfolding lex_step
text_more_on s place count c raw y r m v b e = go (c == 60) (is_outside s.position && (c == byte_order_mark) && is_white raw) (c == 38) refl refl refl e b.kind
  where
    go : (x z d : Bool) → (c == 60) ≡ x → (is_outside s.position && (c == byte_order_mark) && is_white raw) ≡ z → (c == 38) ≡ d
        → lexed s place count (cond x (text_before raw y in_tag) (cond z (text_before_mark raw y) (cond d (continues (text_reference (raw ++ c ∷ []) y [])) (continues (in_text (raw ++ c ∷ []) (y ++ c ∷ [])))))) ≡ reads_on r
        → (is_space c ≡ true) ⊎ ((c == byte_order_mark) ≡ true) → Rested r
    go true z d ex ez ed k w = absurd (both (sym ex ∙ b.no_tag))
    go false true d ex ez ed k w = white_mark_rests s.position s.start place place count raw y r (may_rest_at s.position m) k
    go false false true ex ez ed k w = absurd (both (sym ed ∙ b.no_amp))
    go false false false ex ez ed k (inl w) = text_on s (raw ++ c ∷ []) (y ++ c ∷ []) place count r m (white_more raw c ∙ rw (v, w) refl) k
    go false false false ex ez ed k (inr w) = absurd (both (sym (all_met (is_outside s.position) (c == byte_order_mark) (is_white raw) (outside_rests s.position m) w v) ∙ ez))

char_on : (s : Reader) (place count c : ℕ) (l : LexState) (r : Reader) → may_rest s.position ≡ true → is_blank l ≡ true → Blank c → lexed s place count (lex_step (is_outside s.position) l c) ≡ reads_on r → Rested r
char_on s place count c begin r m f b e = begin_on s place count c r m b e
char_on s place count c (in_text raw y) r m f b e = text_more_on s place count c raw y r m f b e
char_on s place count c (text_reference raw y z) r m f b e = absurd cc
char_on s place count c in_tag r m f b e = absurd cc
char_on s place count c (start_name n) r m f b e = absurd cc
char_on s place count c (in_start g z raw) r m f b e = absurd cc
char_on s place count c (attribute_name g a raw) r m f b e = absurd cc
char_on s place count c (before_equals g a raw) r m f b e = absurd cc
char_on s place count c (before_value g a raw) r m f b e = absurd cc
char_on s place count c (in_value g a q v raw) r m f b e = absurd cc
char_on s place count c (value_reference g a q v raw z) r m f b e = absurd cc
char_on s place count c (before_close g raw) r m f b e = absurd cc
char_on s place count c (end_name n) r m f b e = absurd cc
char_on s place count c (end_white n) r m f b e = absurd cc
char_on s place count c (in_tail n x) r m f b e = absurd cc
char_on s place count c (in_question k) r m f b e = absurd cc
char_on s place count c (in_declaration q) r m f b e = absurd cc

read_on : (s : Reader) (u : ℕ) (o : Option ℕ) (r : Reader) → no_high o ≡ true → Rested s → Blank u → unit_read s u o ≡ reads_on r → Rested r
read_on s u None r n h b e = go (is_high u) (is_low u) refl e
  where
    go : (x y : Bool) → is_high u ≡ x → cond x (reads_on (record { position = s.position; lex = s.lex; start = s.start; opened = s.opened; count = s.count + 1; high = Some u })) (cond y (rejects s.count kinds.BadUnit) (read_char s s.count (s.count + 1) u)) ≡ reads_on r → Rested r
    go true y ex k = absurd (both (sym ex ∙ b.no_high))
    go false true ex k = absurd cc
    go false false ex k = char_on s s.count (s.count + 1) u s.lex r h.position h.lex b (allowed_read s s.count (s.count + 1) u r k)
read_on s u (Some d) r n h b e = absurd cc

unit_on : (s : Reader) (u : ℕ) (r : Reader) → Rested s → is_blank_unit u ≡ true → unit_step s u ≡ reads_on r → Rested r
unfolding unit_step
unit_on s u r h b e = read_on s u s.high r h.high h (blank_facts u b) (unlimited s (unit_read s u s.high) r e)

run_on : (us : List ℕ) (s t : Reader) → Rested s → are_blank us ≡ true → unit_run s us ≡ still_reads t → Rested t
unfolding unit_run
run_on [] s t h b e = subst Rested (same s t e) h
  where
    same : (s t : Reader) → still_reads s ≡ still_reads t → s ≡ t
    same s t e = cc
run_on (u ∷ us) s t h b e = go (unit_step s u) refl e (and_parts (is_blank_unit u) (are_blank us) b) (λ r g k. run_on us r t g k.0 k.1)
  where
    go : (x : UnitStep) → unit_step s u ≡ x → then_units x us (λ r. unit_run r us) ≡ still_reads t → (is_blank_unit u ≡ true) × (are_blank us ≡ true)
        → ((r : Reader) → Rested r → (are_blank us ≡ true) × (unit_run r us ≡ still_reads t) → Rested t) → Rested t
    go (reads_on r) g k p on = on r (unit_on s u r h p.0 g) (p.1, k)
    go (completes began v) g k p on = absurd cc
    go (rejects place j) g k p on = absurd cc

same_bool : (a b : Bool) → (a ≡ true → b ≡ true) → (b ≡ true → a ≡ true) → a ≡ b
same_bool true b f g = sym (f refl)
same_bool false true f g = g refl
same_bool false false f g = refl

start_rested : Rested start_reader
start_rested = record { position = refl; lex = refl; high = refl }

pub rests_blank : (us : List ℕ) (s : Reader) → unit_run start_reader us ≡ still_reads s → is_resting s ≡ are_blank us
rests_blank us s e = same_bool (is_resting s) (are_blank us) (λ z. (run_back us start_reader s refl e z).1) (λ z. resting s (run_on us start_reader s start_rested z e))
