-- One more character, from where the machine stands.
use Rattle.std.proofs.Common.{◌≡◌, ℕ, Bool, true, false, eqb, List, [], ◌∷◌, ◌++◌, Some, Result, Ok, refl, sym, ap, subst, ◌∙◌, append_assoc, codes, inl}
use Rattle.std.specs.Prelude.{◌||◌}
use Rattle.std.proofs.lemmas.List.{append-nil, append_cancel_right}
use Rattle.mos_fields.specs.Characters.{Text}
use Rattle.mos_fields.specs.Names.{may_grow}
use Rattle.mos_grammar.specs.Tokens.{Token, text, mark}
use Rattle.mos_grammar.specs.declared.fault.Fault.{Fault}
use Rattle.mos_grammar.specs.RecordMachine.{at, complete, between, in_field, behind_text, in_raw}
use Rattle.mos_grammar.specs.Streams.{before_prolog, Position, before_message, inside, message_step, message_run}
use Rattle.mos_lexer.specs.Lexing.{byte_order_mark, begins_with, WritesTokens, Written, Ends, ends_start}
use Rattle.mos_lexer.specs.LexMachine.{LexState, begin, in_text, text_reference, in_tag, start_name, in_start, attribute_name, before_equals, before_value, in_value, value_reference, before_close, end_name, end_white, in_tail, in_question, in_declaration, LexStep, continues, whole_token, text_before, text_before_mark, lex_step}
use Rattle.mos_lexer.specs.Units.{is_outside, lex_at}
use Rattle.mos_lexer.proofs.Lexer.{LexTakes, lex_back, from_tag}
use Rattle.mos_lexer.proofs.Chars.{text_begins, next_back, behind_token, rests, taken}
use Rattle.mos_lexer.proofs.UnitReads.{run_push}
use Rattle.mos_lexer.proofs.Places.{IsOpenAt, text_open}
use Rattle.mos_rejections.specs.Alive.{Fronts}
use Rattle.mos_rejections.proofs.Shape.{Sound, IsTailOf, KeepsTail}
use Rattle.mos_rejections.proofs.Running.{sound_at}
use Rattle.mos_rejections.proofs.AliveRuns.{a_tag, a_is, ends_more, push_run}
use Rattle.mos_rejections.proofs.Tracing.{fronted, trace_push}
use Rattle.mos_rejections.proofs.Reaching.{TailAt, lex_begins, Reached}

-- ---- fronts

pub fronts_append : (ts us : List Token) (x p q : List ℕ) → Fronts ts x (p ++ q) → Fronts us p q → Fronts (ts ++ us) (x ++ p) q
fronts_append [] us x p q f g = subst (λ (z : List ℕ). Fronts us (z ++ p) q) (sym f) g
fronts_append (k ∷ ts) us x p q f g = (
  f.0,
  f.1 ++ p,
  f.2,
  subst (λ (z : List ℕ). Ends k (ts ++ us) z) (append-nil (f.1 ++ (p ++ q)) ∙ sym (append_assoc f.1 p q)) (ends_more k ts us (f.1 ++ (p ++ q)) [] f.3),
  ap (λ (z : List ℕ). z ++ p) f.4 ∙ append_assoc f.0 f.1 p,
  fronts_append ts us f.1 p q f.5 g,
)

pub fronts_more : (ts : List Token) (x p q : List ℕ) → Fronts ts x p → Fronts ts x (p ++ q)
fronts_more [] x p q f = f
fronts_more (k ∷ ts) x p q f = (
  f.0,
  f.1,
  f.2,
  subst (λ (z : List ℕ). Ends k ts z) (append_assoc f.1 p q) (subst (λ (z : List Token). Ends k z ((f.1 ++ p) ++ q)) (append-nil ts) (ends_more k ts [] (f.1 ++ p) q f.3)),
  f.4,
  fronts_more ts f.1 p q f.5,
)

pub one_front : (t : Token) (y q : List ℕ) → Written t y → Ends t [] q → Fronts (t ∷ []) y q
one_front t y q w e = (y, [], w, e, sym (append-nil y), refl)

-- ---- what a whole token is written as

pub token_written : (c : List ℕ) (p : Position) (l : LexState) (front : List ℕ) (h : Reached c p l front) (d : ℕ) (t : Token) → lex_step (is_outside p) l d ≡ whole_token t → Written t (h.part ++ d ∷ []) × Ends t [] []
token_written c p l front h d t e =
    let w = h.begun (d ∷ []) (t ∷ []) (lex_back (is_outside p) l d [] (t ∷ []) (subst (λ (z : LexStep). LexTakes z [] (t ∷ [])) (sym e) ([], refl, refl))) in
    let i : h.part ++ d ∷ [] ≡ w.0 = w.4 ∙ ap (λ (z : List ℕ). w.0 ++ z) w.5 ∙ append-nil w.0 in
    (subst (λ (z : List ℕ). Written t z) (sym i) w.2, subst (λ (z : List ℕ). Ends t [] z) w.5 w.3)

pub text_written : (c : List ℕ) (p : Position) (l : LexState) (front : List ℕ) (h : Reached c p l front) (d : ℕ) (raw y : Text) → lex_step (is_outside p) l d ≡ text_before raw y in_tag → d ≡ 60 → Written (text raw y) h.part
unfolding may_grow
text_written c p l front h d raw y e sixty =
    let w = h.begun (d ∷ codes "a>") (text raw y ∷ a_tag ∷ []) (lex_back (is_outside p) l d (codes "a>") (text raw y ∷ a_tag ∷ [])
    (subst (λ (z : LexStep). LexTakes z (codes "a>") (text raw y ∷ a_tag ∷ [])) (sym e) (a_tag ∷ [], refl, inl (false, codes "a", [], 62 ∷ [], refl, ends_start, ([], [], refl, refl, refl))))) in
    let a : w.1 ≡ codes "<a>" = a_is w.1 w.5 in
    let i : h.part ≡ w.0 = append_cancel_right h.part w.0 (codes "<a>") (ap (λ (z : ℕ). h.part ++ z ∷ codes "a>") (sym sixty) ∙ w.4 ∙ ap (λ (z : List ℕ). w.0 ++ z) a) in
    subst (λ (z : List ℕ). Written (text raw y) z) (sym i) w.2

pub mark_written : (c : List ℕ) (p : Position) (l : LexState) (front : List ℕ) (h : Reached c p l front) (d : ℕ) (raw y : Text) → lex_step (is_outside p) l d ≡ text_before_mark raw y → d ≡ byte_order_mark → Written (text raw y) h.part
mark_written c p l front h d raw y e is =
    let w = h.begun (d ∷ []) (text raw y ∷ (mark ∷ [])) (lex_back (is_outside p) l d [] (text raw y ∷ (mark ∷ [])) (subst (λ (z : LexStep). LexTakes z [] (text raw y ∷ (mark ∷ []))) (sym e) ([], refl, refl))) in
    let m = w.5 in
    let a : w.1 ≡ d ∷ [] = m.4 ∙ ap (λ (z : List ℕ). m.0 ++ z) m.5 ∙ append-nil m.0 ∙ m.2 ∙ ap (λ (z : ℕ). z ∷ []) (sym is) in
    let i : h.part ≡ w.0 = append_cancel_right h.part w.0 (d ∷ []) (w.4 ∙ ap (λ (z : List ℕ). w.0 ++ z) a) in
    subst (λ (z : List ℕ). Written (text raw y) z) (sym i) w.2

-- ---- the state behind the character

tail_at_same : (p : Position) (l : LexState) (m y : Text) → TailAt p l → IsTailOf m l → lex_at p ≡ in_tail m []
tail_at_same p (in_tail n x) m y t e = subst (λ (z : Text). lex_at p ≡ in_tail z []) e t
tail_at_same p begin m2 y2 t e = absurd e
tail_at_same p (in_text raw y) m2 y2 t e = absurd e
tail_at_same p (text_reference raw y m) m2 y2 t e = absurd e
tail_at_same p in_tag m2 y2 t e = absurd e
tail_at_same p (start_name n) m2 y2 t e = absurd e
tail_at_same p (in_start g b raw) m2 y2 t e = absurd e
tail_at_same p (attribute_name g a raw) m2 y2 t e = absurd e
tail_at_same p (before_equals g a raw) m2 y2 t e = absurd e
tail_at_same p (before_value g a raw) m2 y2 t e = absurd e
tail_at_same p (in_value g a q w raw) m2 y2 t e = absurd e
tail_at_same p (value_reference g a q w raw m) m2 y2 t e = absurd e
tail_at_same p (before_close g raw) m2 y2 t e = absurd e
tail_at_same p (end_name n) m2 y2 t e = absurd e
tail_at_same p (end_white n) m2 y2 t e = absurd e
tail_at_same p (in_question k) m2 y2 t e = absurd e
tail_at_same p (in_declaration b) m2 y2 t e = absurd e

pub tail_kept : (p : Position) (l k : LexState) → TailAt p l → KeepsTail k l → TailAt p k
tail_kept p l (in_tail m y) t e = tail_at_same p l m y t e
tail_kept p l begin t e = lex_begins p l t e
tail_kept p l (in_text raw y) t e = lex_begins p l t e
tail_kept p l (text_reference raw y m) t e = lex_begins p l t e
tail_kept p l in_tag t e = lex_begins p l t e
tail_kept p l (start_name n) t e = lex_begins p l t e
tail_kept p l (in_start g b raw) t e = lex_begins p l t e
tail_kept p l (attribute_name g a raw) t e = lex_begins p l t e
tail_kept p l (before_equals g a raw) t e = lex_begins p l t e
tail_kept p l (before_value g a raw) t e = lex_begins p l t e
tail_kept p l (in_value g a q w raw) t e = lex_begins p l t e
tail_kept p l (value_reference g a q w raw m) t e = lex_begins p l t e
tail_kept p l (before_close g raw) t e = lex_begins p l t e
tail_kept p l (end_name n) t e = lex_begins p l t e
tail_kept p l (end_white n) t e = lex_begins p l t e
tail_kept p l (in_question j) t e = lex_begins p l t e
tail_kept p l (in_declaration b) t e = lex_begins p l t e

unfoldable pub goes_on : (c : List ℕ) (p : Position) (l : LexState) (front : List ℕ) (h : Reached c p l front) (d : ℕ) (k : LexState) → lex_step (is_outside p) l d ≡ continues k → Sound (is_outside p) k (h.part ++ d ∷ []) → KeepsTail k l → Reached (c ++ d ∷ []) p k front
goes_on c p l front h d k e s kt = record {
  tokens = h.tokens;
  part = h.part ++ d ∷ [];
  whole = ap (λ (z : List ℕ). z ++ d ∷ []) h.whole ∙ append_assoc front h.part (d ∷ []);
  fronts = fronts_more h.tokens front h.part (d ∷ []) h.fronts;
  ran = h.ran;
  open_at = h.open_at;
  begun = λ r ts w. subst (λ (z : List ℕ). WritesTokens ts z) (sym (append_assoc h.part (d ∷ []) r)) (h.begun (d ∷ r) ts (lex_back (is_outside p) l d r ts (subst (λ (z : LexStep). LexTakes z r ts) (sym e) w)));
  tail_at = tail_kept p l k h.tail_at kt;
  sound = s;
  stood = run_push c d (record { position = p; lex = l }) h.stood ∙ ap (taken p) e;
  begins_at = trace_push c d (record { position = p; lex = l }) (record { position = p; lex = k }) front h.stood (ap (taken p) e) h.begins_at ∙ ap (fronted c d front) e;
}

-- a position's first state
pub tail_rests : (q : Position) → TailAt q (lex_at q)
tail_rests (before_message g) = refl
tail_rests (inside (complete v)) = refl
tail_rests (inside (at between f fs)) = refl
tail_rests (inside (at (in_field n o) f fs)) = refl
tail_rests (inside (at (behind_text n o es) f fs)) = refl
tail_rests (inside (at (in_raw n p tag) f fs)) = refl

unfoldable pub goes_over : (c : List ℕ) (p : Position) (l : LexState) (front : List ℕ) (h : Reached c p l front) (d : ℕ) (t : Token) (q : Position) → lex_step (is_outside p) l d ≡ whole_token t → message_step p t ≡ Ok q → IsOpenAt q → Reached (c ++ d ∷ []) q (lex_at q) (c ++ d ∷ [])
goes_over c p l front h d t q e s o =
    let w = token_written c p l front h d t e in
    let i : c ++ d ∷ [] ≡ front ++ (h.part ++ d ∷ []) = ap (λ (z : List ℕ). z ++ d ∷ []) h.whole ∙ append_assoc front h.part (d ∷ []) in
    record {
      tokens = h.tokens ++ t ∷ [];
      part = [];
      whole = sym (append-nil (c ++ d ∷ []));
      fronts = subst (λ (z : List ℕ). Fronts (h.tokens ++ t ∷ []) z []) (sym i)
          (fronts_append h.tokens (t ∷ []) front (h.part ++ d ∷ []) [] (subst (λ (z : List ℕ). Fronts h.tokens front z) (sym (append-nil (h.part ++ d ∷ []))) (fronts_more h.tokens front h.part (d ∷ []) h.fronts)) (one_front t (h.part ++ d ∷ []) [] w.0 w.1));
      ran = push_run h.tokens (before_message before_prolog) p t q h.ran s;
      open_at = o;
      begun = λ r ts k. next_back q ts r k;
      tail_at = tail_rests q;
      sound = sound_at q;
      stood = run_push c d (record { position = p; lex = l }) h.stood ∙ ap (taken p) e ∙ ap (λ (o : Result Position Fault). behind_token o rests) s;
      begins_at = trace_push c d (record { position = p; lex = l }) (record { position = q; lex = lex_at q }) front h.stood (ap (taken p) e ∙ ap (λ (o : Result Position Fault). behind_token o rests) s) h.begins_at ∙ ap (fronted c d front) e;
    }

unfoldable pub goes_to_tag : (c : List ℕ) (p : Position) (l : LexState) (front : List ℕ) (h : Reached c p l front) (d : ℕ) (raw y : Text) (q : Position) → lex_step (is_outside p) l d ≡ text_before raw y in_tag → d ≡ 60 → message_step p (text raw y) ≡ Ok q → Reached (c ++ d ∷ []) q in_tag c
goes_to_tag c p l front h d raw y q e is s =
    let w = text_written c p l front h d raw y e is in
    record {
      tokens = h.tokens ++ text raw y ∷ [];
      part = d ∷ [];
      whole = refl;
      fronts = subst (λ (z : List ℕ). Fronts (h.tokens ++ text raw y ∷ []) z (d ∷ [])) (sym h.whole)
          (fronts_append h.tokens (text raw y ∷ []) front h.part (d ∷ []) (fronts_more h.tokens front h.part (d ∷ []) h.fronts) (one_front (text raw y) h.part (d ∷ []) w (subst (λ (z : ℕ). (eqb z 60 || false) ≡ true) (sym is) refl)));
      ran = push_run h.tokens (before_message before_prolog) p (text raw y) q h.ran s;
      open_at = text_open p raw y q s;
      begun = λ r ts k. subst (λ (z : ℕ). WritesTokens ts (z ∷ r)) (sym is) (from_tag r ts k);
      tail_at = text_begins p raw y q s;
      sound = ap (λ (z : ℕ). z ∷ []) is;
      stood = run_push c d (record { position = p; lex = l }) h.stood ∙ ap (taken p) e ∙ ap (λ (o : Result Position Fault). behind_token o (λ u. Some (record { position = u; lex = in_tag }))) s;
      begins_at = trace_push c d (record { position = p; lex = l }) (record { position = q; lex = in_tag }) front h.stood (ap (taken p) e ∙ ap (λ (o : Result Position Fault). behind_token o (λ u. Some (record { position = u; lex = in_tag }))) s) h.begins_at ∙ ap (fronted c d front) e;
    }

unfoldable pub goes_over_mark : (c : List ℕ) (p : Position) (l : LexState) (front : List ℕ) (h : Reached c p l front) (d : ℕ) (raw y : Text) (u q : Position) → lex_step (is_outside p) l d ≡ text_before_mark raw y → d ≡ byte_order_mark
    → message_step p (text raw y) ≡ Ok u → message_step u mark ≡ Ok q → IsOpenAt q → Reached (c ++ d ∷ []) q (lex_at q) (c ++ d ∷ [])
goes_over_mark c p l front h d raw y u q e is s s2 o =
    let w = mark_written c p l front h d raw y e is in
    let i : c ++ d ∷ [] ≡ front ++ (h.part ++ d ∷ []) = ap (λ (z : List ℕ). z ++ d ∷ []) h.whole ∙ append_assoc front h.part (d ∷ []) in
    let m : d ∷ [] ≡ byte_order_mark ∷ [] = ap (λ (z : ℕ). z ∷ []) is in
    let two : Fronts (text raw y ∷ (mark ∷ [])) (h.part ++ d ∷ []) [] = (h.part, d ∷ [], w, or_true (begins_with 60 ((d ∷ []) ++ [])), refl, (d ∷ [], [], m, tt, refl, refl)) in
    record {
      tokens = h.tokens ++ text raw y ∷ (mark ∷ []);
      part = [];
      whole = sym (append-nil (c ++ d ∷ []));
      fronts = subst (λ (z : List ℕ). Fronts (h.tokens ++ text raw y ∷ (mark ∷ [])) z []) (sym i)
          (fronts_append h.tokens (text raw y ∷ (mark ∷ [])) front (h.part ++ d ∷ []) [] (subst (λ (z : List ℕ). Fronts h.tokens front z) (sym (append-nil (h.part ++ d ∷ []))) (fronts_more h.tokens front h.part (d ∷ []) h.fronts)) two);
      ran = ap (message_run (before_message before_prolog)) (sym (append_assoc h.tokens (text raw y ∷ []) (mark ∷ []))) ∙ push_run (h.tokens ++ text raw y ∷ []) (before_message before_prolog) u mark q (push_run h.tokens (before_message before_prolog) p (text raw y) u h.ran s) s2;
      open_at = o;
      begun = λ r ts k. next_back q ts r k;
      tail_at = tail_rests q;
      sound = sound_at q;
      stood = run_push c d (record { position = p; lex = l }) h.stood ∙ ap (taken p) e ∙ ap (λ (o : Result Position Fault). behind_token o (λ w. behind_token (message_step w mark) rests)) s ∙ ap (λ (o : Result Position Fault). behind_token o rests) s2;
      begins_at = trace_push c d (record { position = p; lex = l }) (record { position = q; lex = lex_at q }) front h.stood (ap (taken p) e ∙ ap (λ (o : Result Position Fault). behind_token o (λ w. behind_token (message_step w mark) rests)) s ∙ ap (λ (o : Result Position Fault). behind_token o rests) s2) h.begins_at ∙ ap (fronted c d front) e;
    }
  where
    or_true : (b : Bool) → (b || true) ≡ true
    or_true true = refl
    or_true false = refl
