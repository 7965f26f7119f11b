-- Whatever shows a fault, the machine rejects it there and as that.
use Rattle.std.proofs.Common.{◌≡◌, ℕ, ◌-◌, ◌<◌, Bool, true, false, cond, List, [], ◌∷◌, ◌++◌, length, Some, Ok, Err, refl, sym, ap, subst, ◌∙◌, append_assoc, arith, ◌⊎◌, inl, inr}
use Rattle.std.specs.Prelude.{◌==◌}
use Rattle.std.proofs.lemmas.List.{append-nil, append_cancel_left}
use Rattle.mos_fields.specs.Characters.{Text, is_allowed}
use Rattle.mos_fields.specs.Forms.{is_white}
use Rattle.mos_fields.specs.Raw.{end_text, ends_with}
use Rattle.mos_tables.specs.Events.{Event}
use Rattle.mos_grammar.specs.Tokens.{Token, text, tail, mark}
use Rattle.mos_grammar.specs.declared.fault.Fault.{Fault}
use Rattle.mos_grammar.specs.RecordMachine.{complete}
use Rattle.mos_grammar.specs.Streams.{before_prolog, Position, before_message, inside, message_step, message_run}
use Rattle.mos_lexer.specs.declared.kind.Kind.{Kind}
use Rattle.mos_lexer.specs.declared.kind.Kind.TheVariants as kinds
use Rattle.mos_lexer.specs.Lexing.{byte_order_mark, WritesTokens, Written}
use Rattle.mos_lexer.specs.LexMachine.{LexState, begin, in_text, text_reference, in_tag, start_name, in_start, attribute_name, before_equals, before_value, in_value, value_reference, before_close, end_name, end_white, in_tail, in_question, in_declaration, LexStep, continues, whole_token, text_before, text_before_mark, no_token, no_reference, lex_step}
use Rattle.mos_lexer.specs.Units.{kind_of, is_outside, lex_at}
use Rattle.mos_lexer.proofs.Lexer.{LexTakes, from_tag}
use Rattle.mos_lexer.proofs.Forward.{lex_forward}
use Rattle.mos_lexer.proofs.References.{reference_laws}
use Rattle.mos_lexer.proofs.Chars.{Spot, taken, char_of, char_run, opening_spot, white_meets_none}
use Rattle.mos_lexer.proofs.Places.{IsOpenAt}
use Rattle.mos_rejections.specs.Alive.{is_before_mos, MayFollow, is_text, BeginsToken}
use Rattle.mos_rejections.specs.Rejections.{BreaksReference, StandsAt, EndsText, BeginsNoToken, Shows, entity, misfit, misfit_text, misfit_mark, no_token as shows_no_token, RejectsChar}
use Rattle.mos_rejections.proofs.Shape.{WholeSound, StepSound, step_sound, not_text}
use Rattle.mos_rejections.proofs.Running.{Last, Unfinished, fitting_at, first_read, head_is}
use Rattle.mos_rejections.proofs.AliveRuns.{outside_from, fronts_write, ending, begin_rest, Ending}
use Rattle.mos_rejections.proofs.Reaching.{Reached}
use Rattle.mos_rejections.proofs.Stepping.{token_written, text_written, mark_written}
use Rattle.mos_rejections.proofs.Amp.{BehindAmp, amp_behind}
use Rattle.mos_rejections.proofs.Rejecting.{whole_follows, tail_whole, reference_breaks}
use Rattle.mos_rejections.proofs.Reading.{width_of, open_or_complete, run_reached, start_next, front_run, complete_run, amp_place}
use Rattle.mos_rejections.proofs.Standing.{IsAhead, Led, lead, led_whole}
use Rattle.mos_rejections.proofs.Showing.{Refused, Stops, stops, Answer, answer, open_at, no_both, no_char, token_taken, mark_taken, led_front, misfit_answer, misfit_text_answer}

-- ---- U+FEFF that does not fit

ahead_mark : (raw y : Text) → IsAhead (text raw y) (mark ∷ []) (byte_order_mark ∷ [])
ahead_mark raw y = record { whole = λ n r w. no_both true refl n; tag = λ r w. (let f = from_tag r (mark ∷ []) w in absurd (no_mark r f.1 (f.4 ∙ ap (λ (z : List ℕ). z ++ f.1) f.2))); marked = λ vs r k w. short vs r k w }
  where
    no_mark : (r s : List ℕ) → 60 ∷ r ≡ byte_order_mark ∷ s → ⊥
    no_mark r s e = cc

    nothing_behind : (vs : List Token) → mark ∷ [] ≡ mark ∷ vs → [] ≡ vs
    nothing_behind vs e = cc

    short : (vs : List Token) (r : List ℕ) → mark ∷ [] ≡ mark ∷ vs → WritesTokens vs r → length r < length (byte_order_mark ∷ [])
    short vs r k w = empty_short r (subst (λ (z : List Token). WritesTokens z r) (sym (nothing_behind vs k)) w)
      where
        empty_short : (r : List ℕ) → r ≡ [] → length r < length (byte_order_mark ∷ [])
        empty_short r e = rw e (omega arith)

outside_begins : (p : Position) → is_outside p ≡ true → lex_at p ≡ begin
outside_begins (before_message g) h = refl
outside_begins (inside s) h = no_both false h refl

mark_last : (p : Position) (raw y : Text) → is_outside p ≡ true → is_white raw ≡ true → Last p (text raw y) (mark ∷ [])
mark_last p raw y o w = record { fits = λ b. ((λ i. white_meets_none raw w), (λ i j. w), (λ i. no_both (is_outside p) o i), tt); raw = λ r k. begin_rest p (text raw y ∷ (mark ∷ [])) r (outside_begins p o) k; no_tail = λ b. tt }

misfit_mark_answer : (c : List ℕ) → Stops c byte_order_mark → (ts : List Token) (front x raw y : List ℕ) (p q : Position) (j : Fault) → StandsAt ts front x c p → Written (text raw y) x → is_before_mos ts ≡ true → is_white raw ≡ true
    → message_step p (text raw y) ≡ Ok q → message_step q mark ≡ Err j → Answer c byte_order_mark c (kind_of j)
misfit_mark_answer c st ts front x raw y p q j s w before white e e2 = answer c byte_order_mark c (kind_of j) led.position led.lex led.front led.reached
    (go (lex_step (is_outside led.position) led.lex byte_order_mark) refl (step_sound (is_outside led.position) led.lex h.part byte_order_mark h.sound) takes)
  where
    last : Last p (text raw y) (mark ∷ [])
    last = mark_last p raw y (outside_from ts before_prolog p s.ran ∙ before) white

    written : WritesTokens (ts ++ text raw y ∷ (mark ∷ [])) (c ++ byte_order_mark ∷ [])
    written = subst (λ (z : List ℕ). WritesTokens (ts ++ text raw y ∷ (mark ∷ [])) z) (sym (append_assoc front x (byte_order_mark ∷ [])) ∙ ap (λ (z : List ℕ). z ++ byte_order_mark ∷ []) (sym s.whole))
        (fronts_write ts (text raw y ∷ (mark ∷ [])) front x (byte_order_mark ∷ []) s.fronts (x, byte_order_mark ∷ [], w, refl, refl, (byte_order_mark ∷ [], [], refl, tt, refl, refl)))

    led : Led c (byte_order_mark ∷ []) (text raw y) (mark ∷ []) p ts
    led = lead c (byte_order_mark ∷ []) (text raw y) (mark ∷ []) p ts last (ahead_mark raw y) (open_at ts p s.message s.ran) s.ran written

    h : Reached c led.position led.lex led.front
    h = led.reached

    takes : LexTakes (lex_step (is_outside led.position) led.lex byte_order_mark) [] (led.left ++ text raw y ∷ (mark ∷ []))
    takes = lex_forward reference_laws (is_outside led.position) led.lex byte_order_mark [] (led.left ++ text raw y ∷ (mark ∷ [])) (fitting_at led.position p led.lex led.left (text raw y) (mark ∷ []) led.fits led.run last) led.rest

    stopped : {A : Type 0} → (w : Spot) × (char_of led.position led.lex byte_order_mark ≡ Some w) → A
    stopped k = absurd (st led.position led.lex led.front h k.0 k.1)

    run_of : (left : List Token) → led.left ≡ left → message_run led.position left ≡ Ok p
    run_of left i = subst (λ (z : List Token). message_run led.position z ≡ Ok p) i led.run

    whole : (k : Token) (us : List Token) → lex_step (is_outside led.position) led.lex byte_order_mark ≡ whole_token k → is_text k ≡ false → (left : List Token) → led.left ≡ left → left ++ text raw y ∷ (mark ∷ []) ≡ k ∷ us → Refused led.position led.front c (whole_token k) c (kind_of j)
    whole k us i nt [] l n = no_both (is_text k) (ap is_text (sym (head_is (text raw y) k (mark ∷ []) us n).0)) nt
    whole k us i nt (a ∷ rs) l n =
        let r = first_read a rs led.position p (run_of (a ∷ rs) l) in
        stopped (token_taken led.position r.0 led.lex byte_order_mark k i (ap (message_step led.position) (sym (head_is a k (rs ++ text raw y ∷ (mark ∷ [])) us n).0) ∙ r.1))

    behind_mark : (raw2 y2 : Text) (us : List Token) → lex_step (is_outside led.position) led.lex byte_order_mark ≡ text_before_mark raw2 y2 → (left : List Token) → led.left ≡ left → left ++ text raw y ∷ (mark ∷ []) ≡ text raw2 y2 ∷ (mark ∷ us)
        → Refused led.position led.front c (text_before_mark raw2 y2) c (kind_of j)
    behind_mark raw2 y2 us i [] l n =
        let f = led_front c (byte_order_mark ∷ []) (text raw y) (mark ∷ []) p ts led l front x [] s.fronts (append-nil c ∙ s.whole) in
        (q, j, ap (message_step led.position) (sym (head_is (text raw y) (text raw2 y2) (mark ∷ []) (mark ∷ us) n).0) ∙ ap (λ (z : Position). message_step z (text raw y)) f.1 ∙ e, e2, refl, refl)
    behind_mark raw2 y2 us i (a ∷ []) l n =
        let k = head_is (text raw y) mark (mark ∷ []) us (head_is a (text raw2 y2) (text raw y ∷ (mark ∷ [])) (mark ∷ us) n).1 in
        no_both true refl (ap is_text k.0)
    behind_mark raw2 y2 us i (a ∷ a2 ∷ rs) l n =
        let k = head_is a (text raw2 y2) (a2 ∷ (rs ++ text raw y ∷ (mark ∷ []))) (mark ∷ us) n in
        let o = head_is a2 mark (rs ++ text raw y ∷ (mark ∷ [])) us k.1 in
        let r = first_read a (a2 ∷ rs) led.position p (run_of (a ∷ a2 ∷ rs) l) in
        let r2 = first_read a2 rs r.0 p r.2 in
        stopped (mark_taken led.position r.0 r2.0 led.lex byte_order_mark raw2 y2 i (ap (message_step led.position) (sym k.0) ∙ r.1) (ap (message_step r.0) (sym o.0) ∙ r2.1))

    go : (o : LexStep) → lex_step (is_outside led.position) led.lex byte_order_mark ≡ o → StepSound (is_outside led.position) led.lex h.part byte_order_mark o → LexTakes o [] (led.left ++ text raw y ∷ (mark ∷ [])) → Refused led.position led.front c o c (kind_of j)
    go (continues k) i a n = stopped (record { position = led.position; lex = k }, ap (taken led.position) i)
    go (whole_token k) i a n = whole k n.0 i (not_text (is_outside led.position) led.lex h.part byte_order_mark k a) led.left refl n.1
    go (text_before raw2 y2 k) i a n = no_char byte_order_mark a.1 refl
    go (text_before_mark raw2 y2) i a n = behind_mark raw2 y2 n.0 i led.left refl n.1
    go no_token i a n = absurd n
    go (no_reference k) i a n = absurd n

-- before a message white space fits
white_fits : {A : Type 0} (p : Position) (raw y : Text) (j : Fault) → is_outside p ≡ true → is_white raw ≡ true → message_step p (text raw y) ≡ Err j → A
unfolding message_step
white_fits (before_message g) raw y j o w e = go (is_white raw) w e
  where
    go : {A : Type 0} (b : Bool) → b ≡ true → cond b (Ok (before_message g)) (Err Rattle.mos_grammar.specs.declared.fault.Fault.TheVariants.Tag) ≡ Err j → A
    go true w e = absurd cc
    go false w e = absurd cc
white_fits (inside s) raw y j o w e = no_both false o refl

-- ---- no token

ahead_last : (t : Token) (us : List Token) (more : List ℕ) → Unfinished t us more → IsAhead t us more
ahead_last t us more u = record { whole = λ n r w. u.left r w; tag = u.text_left; marked = λ vs r k w. no_both (Rattle.mos_lexer.specs.Lexing.begins_mark us) (ap Rattle.mos_lexer.specs.Lexing.begins_mark k) u.no_mark }

no_token_answer : (c : List ℕ) (d : ℕ) → Stops c d → (ts : List Token) (front x : List ℕ) (p : Position) → StandsAt ts front x c p → BeginsToken ts x → BeginsNoToken ts (x ++ d ∷ []) → ((raw y : Text) → Written (text raw y) x → ⊥) → ((b : List ℕ) → BreaksReference c d b → ⊥)
    → Answer c d front kinds.Tag
no_token_answer c d st ts front x p s b none no_text no_break = answer c d front kinds.Tag led.position led.lex led.front led.reached
    (go (lex_step (is_outside led.position) led.lex d) refl (step_sound (is_outside led.position) led.lex h.part d h.sound))
  where
    end : Ending ts p x b.more
    end = ending ts p x s.ran b

    written : WritesTokens (ts ++ end.token ∷ end.behind) (c ++ end.more)
    written = subst (λ (z : List ℕ). WritesTokens (ts ++ end.token ∷ end.behind) z) (sym (append_assoc front x end.more) ∙ ap (λ (z : List ℕ). z ++ end.more) (sym s.whole)) (fronts_write ts (end.token ∷ end.behind) front x end.more s.fronts end.written)

    led : Led c end.more end.token end.behind p ts
    led = lead c end.more end.token end.behind p ts end.last (ahead_last end.token end.behind end.more end.unfinished) (open_at ts p s.message s.ran) s.ran written

    h : Reached c led.position led.lex led.front
    h = led.reached

    left : led.left ≡ []
    left = led_whole c end.more end.token end.behind p ts front x led s.fronts s.whole

    at : (front ≡ led.front) × (led.position ≡ p)
    at = led_front c end.more end.token end.behind p ts led left front x [] s.fronts (append-nil c ∙ s.whole)

    tokens : h.tokens ≡ ts
    tokens = sym (append-nil h.tokens) ∙ ap (λ (z : List Token). h.tokens ++ z) (sym left) ∙ led.all

    part : h.part ≡ x
    part = append_cancel_left led.front h.part x (sym h.whole ∙ s.whole ∙ ap (λ (z : List ℕ). z ++ x) at.0)

    stopped : {A : Type 0} → (w : Spot) × (char_of led.position led.lex d ≡ Some w) → A
    stopped k = absurd (st led.position led.lex led.front h k.0 k.1)

    whole : (t : Token) → lex_step (is_outside led.position) led.lex d ≡ whole_token t → WholeSound (is_outside led.position) led.lex h.part d t → ⊥
    whole t i a =
        let w : Written t ((x ++ d ∷ []) ++ []) = subst (λ (z : List ℕ). Written t z) (ap (λ (z : List ℕ). z ++ d ∷ []) part ∙ sym (append-nil (x ++ d ∷ []))) (token_written c led.position led.lex led.front h d t i).0 in
        none t [] (subst (λ (z : List Token). MayFollow z t) tokens (whole_follows c led.position led.lex led.front h d t a)) w

    go : (o : LexStep) → lex_step (is_outside led.position) led.lex d ≡ o → StepSound (is_outside led.position) led.lex h.part d o → Refused led.position led.front c o front kinds.Tag
    go (continues k) i a = stopped (record { position = led.position; lex = k }, ap (taken led.position) i)
    go (whole_token t) i a = absurd (whole t i a)
    go (text_before raw y k) i a = absurd (no_text raw y (subst (λ (z : List ℕ). Written (text raw y) z) part (text_written c led.position led.lex led.front h d raw y (i ∙ ap (text_before raw y) a.0) a.1)))
    go (text_before_mark raw y) i a = absurd (no_text raw y (subst (λ (z : List ℕ). Written (text raw y) z) part (mark_written c led.position led.lex led.front h d raw y i a.0)))
    go no_token i a = (refl, at.0)
    go (no_reference k) i a = absurd (no_break (led.front ++ a.before) (reference_breaks c led.position led.lex led.front h d k a))

-- ---- a reference that breaks off

entity_answer : (c : List ℕ) (d : ℕ) → Stops c d → (x : List ℕ) → BreaksReference c d x → Answer c d x kinds.Entity
unfolding lex_step
entity_answer c d st x b p l front h = go l h behind
  where
    run : (u : Spot) × (char_run opening_spot x ≡ Some u) × (char_run u (38 ∷ b.m) ≡ Some (record { position = p; lex = l }))
    run = front_run x (38 ∷ b.m) (record { position = p; lex = l }) (ap (char_run opening_spot) (sym b.whole) ∙ h.stood)

    opened : IsOpenAt p ⊎ ((v : List Event) × (p ≡ inside (complete v))) → IsOpenAt run.0.position ⊎ ((v : List Event) × (run.0.position ≡ inside (complete v))) → IsOpenAt run.0.position
    opened o (inl k) = k
    opened o (inr k) = absurd (subst IsOpenAt (complete_run (38 ∷ b.m) run.0 (record { position = p; lex = l }) k.0 k.1 run.2) h.open_at)

    behind : BehindAmp b.m l
    behind =
        let n = run_reached x [] opening_spot run.0 start_next run.1 (opened (open_or_complete p) (open_or_complete run.0.position)) in
        let a = n.reached in
        amp_behind b.m run.0 (record { position = p; lex = l }) a.part a.sound b.begun b.not_whole run.2

    place : width_of c - length (b.m ++ d ∷ []) ≡ width_of x
    place = amp_place c x b.m d (length (b.m ++ d ∷ [])) b.whole b.begun b.not_whole refl

    go : (l : LexState) → Reached c p l front → BehindAmp b.m l → Refused p front c (lex_step (is_outside p) l d) x kinds.Entity
    go (text_reference raw y k) h i = rw (i, b.no_reference, b.stuck) (refl, place)
    go (value_reference g a q v raw k) h i = rw (i, b.no_reference, b.stuck) (refl, place)
    go (in_declaration false) h i = absurd (st p (in_declaration false) front h (record { position = p; lex = in_declaration (d == 63) }) refl)
    go (in_declaration true) h i = no_both true refl i
    go (in_tail n y) h i = in_rest n y h (ends_with (end_text n) (y ++ d ∷ [])) refl
      where
        in_rest : (n y : Text) (h : Reached c p (in_tail n y) front) (e : Bool) → ends_with (end_text n) (y ++ d ∷ []) ≡ e → Refused p front c (lex_step (is_outside p) (in_tail n y) d) x kinds.Entity
        in_rest n y h true e =
            let j : lex_step (is_outside p) (in_tail n y) d ≡ whole_token (tail (y ++ d ∷ [])) = rw e refl in
            let u = tail_whole c p (in_tail n y) front h d (y ++ d ∷ []) (subst (StepSound (is_outside p) (in_tail n y) h.part d) j (step_sound (is_outside p) (in_tail n y) h.part d h.sound)) in
            let k = token_taken p u.0 (in_tail n y) d (tail (y ++ d ∷ [])) j u.1 in
            absurd (st p (in_tail n y) front h k.0 k.1)
        in_rest n y h false e =
            let j : lex_step (is_outside p) (in_tail n y) d ≡ continues (in_tail n (y ++ d ∷ [])) = rw e refl in
            absurd (st p (in_tail n y) front h (record { position = p; lex = in_tail n (y ++ d ∷ []) }) (ap (taken p) j))
    go begin h i = absurd i
    go (in_text raw y) h i = absurd i
    go in_tag h i = absurd i
    go (start_name k) h i = absurd i
    go (in_start g s raw) h i = absurd i
    go (attribute_name g a raw) h i = absurd i
    go (before_equals g a raw) h i = absurd i
    go (before_value g a raw) h i = absurd i
    go (in_value g a q v raw) h i = absurd i
    go (before_close g raw) h i = absurd i
    go (end_name k) h i = absurd i
    go (end_white k) h i = absurd i
    go (in_question k) h i = absurd i

-- ---- all of them

-- The machine rejects what is shown.
pub shown : (c : List ℕ) (d : ℕ) (f : List ℕ) (k : Kind) → is_allowed d ≡ true → RejectsChar c d f k → Answer c d f k
shown c d f k a r = go f k r.shows
  where
    st : Stops c d
    st = stops c d a r.dead r.no_message

    text_answer : (ts : List Token) (front x raw y : List ℕ) (p : Position) (j : Fault) → StandsAt ts front x c p → Written (text raw y) x → MayFollow ts (text raw y) → message_step p (text raw y) ≡ Err j → EndsText ts raw d → Answer c d front (kind_of j)
    text_answer ts front x raw y p j s w m e (inl i) =
        subst (λ (z : ℕ). Answer c z front (kind_of j)) (sym i) (misfit_text_answer c (subst (Stops c) i st) ts front x raw y p j s w m e)
    text_answer ts front x raw y p j s w m e (inr i) = white_fits p raw y j (outside_from ts before_prolog p s.ran ∙ i.1) i.2 e

    go : (f : List ℕ) (k : Kind) → Shows c d f k → Answer c d f k
    go f k (entity x b) = entity_answer c d st x b
    go f k (misfit ts front x t p j s w nt m e) = misfit_answer c d st ts front x t p j s w nt m e
    go f k (misfit_text ts front x raw y p j s w m i e) = text_answer ts front x raw y p j s w m e i
    go f k (misfit_mark ts front x raw y p q j s w i before white e e2) =
        subst (λ (z : ℕ). Answer c z c (kind_of j)) (sym i) (misfit_mark_answer c (subst (Stops c) i st) ts front x raw y p q j s w before white e e2)
    go f k (shows_no_token ts front x p s b none no_text no_break) = no_token_answer c d st ts front x p s b none no_text no_break
