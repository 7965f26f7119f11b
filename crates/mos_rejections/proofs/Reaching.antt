-- Where the machine stands, the characters are alive.
use Rattle.std.proofs.Common.{◌≡◌, ℕ, Bool, true, false, cond, List, [], ◌∷◌, ◌++◌, Some, Ok, refl, sym, ap, subst, ◌∙◌, append_assoc, codes, inl}
use Rattle.std.specs.Prelude.{◌||◌, not}
use Rattle.std.proofs.lemmas.List.{append-nil, append_cancel_right}
use Rattle.mos_fields.specs.Characters.{Text}
use Rattle.mos_fields.specs.Fields.{same}
use Rattle.mos_grammar.proofs.Complete.{ends_itself}
use Rattle.mos_fields.specs.Names.{is_empty, may_grow}
use Rattle.mos_fields.specs.Raw.{is_tail, end_text, ends_with, tail_from}
use Rattle.mos_fields.specs.Forms.{is_white}
use Rattle.mos_tables.specs.Events.{Event}
use Rattle.mos_grammar.specs.Tokens.{Token, open_tag, empty_tag, close_tag, text, tail, mark, declaration}
use Rattle.mos_grammar.specs.RecordMachine.{with_child, at, complete, between, in_field, behind_text, in_raw, step}
use Rattle.mos_grammar.specs.Records.{raw_events}
use Rattle.mos_grammar.specs.Streams.{before_prolog, Position, before_message, inside, message_step, message_run}
use Rattle.mos_grammar.proofs.StreamProofs.{SaneAtOk, StillReads, StillTakes, message_run_back, message_sane_run, position_reads, message_runs_begin}
use Rattle.mos_lexer.specs.Lexing.{meets_mark, WritesTokens, Written, ends_start, equals, quote, value_ends, nothing}
use Rattle.mos_lexer.specs.LexMachine.{Tag, LexState, begin, in_text, text_reference, in_tag, start_name, in_start, attribute_name, before_equals, before_value, in_value, value_reference as value_reference_state, before_close, end_name, end_white, in_tail, in_question, in_declaration}
use Rattle.mos_lexer.specs.Units.{is_outside, lex_at}
use Rattle.mos_lexer.proofs.Lexer.{LexRest}
use Rattle.mos_lexer.proofs.Chars.{char_run, opening_spot}
use Rattle.mos_lexer.proofs.Places.{IsOpenAt}
use Rattle.mos_lexer.proofs.Whole.{position_done}
use Rattle.mos_rejections.specs.Alive.{IsOpenMessage, Fronts, IsNoRaw, MayFollow, is_text, BeginsToken, IsAlive}
use Rattle.mos_rejections.proofs.Shape.{Sound, IsNotTail, IsTagState, meets_same, not_white}
use Rattle.mos_rejections.proofs.Running.{tail_inside}
use Rattle.mos_rejections.proofs.Tracing.{traced}
use Rattle.mos_rejections.proofs.AliveRuns.{a_tag, a_is, a_written, tail_read, outside_from, push_run}
use Rattle.mos_rejections.proofs.Witness.{completion}

-- ---- how a state goes on to a whole token

abbrev pub IsTag : Token → Type 0
IsTag (open_tag n g raw) = Unit {0}
IsTag (empty_tag n g raw) = Unit {0}
IsTag (close_tag n) = Unit {0}
IsTag declaration = Unit {0}
IsTag (text x y) = ⊥
IsTag (tail x) = ⊥
IsTag mark = ⊥

pub data Finish (o : Bool) (l : LexState) (p : Text) : Type 0 where
  by_tag : (t : Token) (more : List ℕ) → IsNotTail l → IsTag t → is_empty more ≡ false → LexRest l more (t ∷ []) → Finish o l p
  by_text : (raw y : Text) (k : List ℕ) → IsNotTail l → (IsTagState l → ⊥) → (o ≡ true → meets_mark (p ++ k) ≡ false) → LexRest l (k ++ codes "<a>") (text raw y ∷ a_tag ∷ []) → Finish o l p
  by_tail : (n x : Text) (more : List ℕ) → l ≡ in_tail n x → is_empty more ≡ false → is_tail n (p ++ more) ≡ true → LexRest l more (tail (p ++ more) ∷ []) → Finish o l p

some_end : (k : List ℕ) (c : ℕ) (r : List ℕ) → is_empty (k ++ c ∷ r) ≡ false
some_end [] c r = refl
some_end (d ∷ k) c r = refl

not_is : (b : Bool) → b ≡ false → not b ≡ true
not_is true h = absurd cc
not_is false h = refl

-- an end tag ends the rest of a raw element, if nothing does before
abbrev pub TailSome : Text → Text → Type 0
TailSome n x = (y : Text) × (is_empty y ≡ false) × (tail_from n x y ≡ true)

tail_now : (n x : Text) (c : ℕ) → ends_with (end_text n) (x ++ c ∷ []) ≡ true → TailSome n x
tail_now n x c e = (c ∷ [], refl, rw e refl)

tail_later : (n x : Text) (c : ℕ) → TailSome n (x ++ c ∷ []) → TailSome n x
tail_later n x c r = go (ends_with (end_text n) (x ++ c ∷ [])) refl
  where
    go : (b : Bool) → ends_with (end_text n) (x ++ c ∷ []) ≡ b → TailSome n x
    go true i = tail_now n x c i
    go false i = (c ∷ r.0, refl, rw i r.2)

tail_some : (n : Text) (z x : Text) (c : ℕ) → ends_with (end_text n) (x ++ c ∷ z) ≡ true → TailSome n x
tail_some n [] x c e = tail_now n x c e
tail_some n (d ∷ w) x c e = tail_later n x c (tail_some n w (x ++ c ∷ []) d (ap (ends_with (end_text n)) (append_assoc x (c ∷ []) (d ∷ w)) ∙ e))

ends_behind : (e x : Text) → ends_with e e ≡ true → ends_with e (x ++ e) ≡ true
ends_behind e [] h = h
ends_behind e (c ∷ x) h = later (same e (c ∷ (x ++ e))) (ends_behind e x h)
  where
    later : (b : Bool) → ends_with e (x ++ e) ≡ true → cond b true (ends_with e (x ++ e)) ≡ true
    later true i = refl
    later false i = i

finish_tail : (o : Bool) (n x p : Text) → Sound o (in_tail n x) p → Finish o (in_tail n x) p
unfolding is_tail
finish_tail o n x p h =
    let y = tail_some n (47 ∷ (n ++ 62 ∷ [])) x 60 (ends_behind (end_text n) x (ends_itself (end_text n))) in
    let i : tail_from n [] (p ++ y.0) ≡ true = ap (λ (z : Text). tail_from n [] (z ++ y.0)) (sym h.0) ∙ h.1 y.0 ∙ y.2 in
    by_tail n x y.0 refl y.1 i (y.0, [], [], y.2, sym (append-nil y.0), ap (λ (z : Text). tail (z ++ y.0) ∷ []) (sym h.0), refl)

finish_reference : (o : Bool) (raw y m p : Text) → Sound o (text_reference raw y m) p → Finish o (text_reference raw y m) p
finish_reference o raw y m p h =
    let w = h.1 in
    let c = completion m w.begun w.not_whole in
    by_text (raw ++ (c.rest ++ [])) (y ++ c.char ∷ []) c.rest tt (λ i. i) (λ i. meets_same p c.rest (subst (λ (z : Text). is_white z ≡ false) (sym w.whole) (not_white w.before m)) ∙ h.2 i)
    (c.rest, c.char, [], [], codes "<a>", a_tag ∷ [], c.some, c.is, nothing, refl, refl, refl, a_written)

finish_value : (o : Bool) (g : Tag) (a : Text) (q : ℕ) (v raw m p : Text) → Sound o (value_reference_state g a q v raw m) p → Finish o (value_reference_state g a q v raw m) p
finish_value o g a q v raw m p h =
    let w = h.1 in
    let c = completion m w.begun w.not_whole in
    by_tag (open_tag g.name (g.given ++ record { name = a; value = v ++ c.char ∷ [] } ∷ []) (raw ++ (c.rest ++ q ∷ 62 ∷ []))) (c.rest ++ q ∷ 62 ∷ []) tt tt (some_end c.rest q (62 ∷ []))
    (false, c.rest, c.char, [], [], q ∷ 62 ∷ [], 62 ∷ [], c.some, c.is, h.0, value_ends, ends_start, ([], [], sym (append-nil (c.rest ++ q ∷ 62 ∷ [])), refl, refl))

-- every state goes on to a whole token
pub finish : (o : Bool) (l : LexState) (p : Text) → Sound o l p → Finish o l p
unfolding may_grow
finish o begin p h = by_tag a_tag (codes "<a>") tt tt refl a_written
finish o (in_text raw y) p h = by_text (raw ++ []) (y ++ []) [] tt (λ i. i) (λ i. ap meets_mark (append-nil p) ∙ h.2 i) ([], [], codes "<a>", a_tag ∷ [], nothing, refl, refl, refl, a_written)
finish o (text_reference raw y m) p h = finish_reference o raw y m p h
finish o in_tag p h = by_tag a_tag (codes "a>") tt tt refl (inl (false, codes "a", [], 62 ∷ [], refl, ends_start, ([], [], refl, refl, refl)))
finish o (start_name n) p h = by_tag (open_tag (n ++ []) [] ((60 ∷ n) ++ ([] ++ 62 ∷ []))) (62 ∷ []) tt tt refl (false, [], [], 62 ∷ [], not_is (is_empty n) h, ends_start, ([], [], refl, refl, refl))
finish o (in_start g s raw) p h = by_tag (open_tag g.name (g.given ++ []) (raw ++ 62 ∷ [])) (62 ∷ []) tt tt refl (false, [], 62 ∷ [], ends_start, ([], [], refl, refl, refl))
finish o (attribute_name g a raw) p h =
    by_tag (open_tag g.name (g.given ++ record { name = a ++ []; value = [] } ∷ []) (raw ++ ([] ++ 61 ∷ 34 ∷ 34 ∷ 62 ∷ []))) (61 ∷ 34 ∷ 34 ∷ 62 ∷ []) tt tt refl
    (false, [], [], [], 61 ∷ 34 ∷ 34 ∷ 62 ∷ [], 62 ∷ [], not_is (is_empty a) h, equals (quote refl value_ends), ends_start, ([], [], refl, refl, refl))
finish o (before_equals g a raw) p h =
    by_tag (open_tag g.name (g.given ++ record { name = a; value = [] } ∷ []) (raw ++ 61 ∷ 34 ∷ 34 ∷ 62 ∷ [])) (61 ∷ 34 ∷ 34 ∷ 62 ∷ []) tt tt refl
    (false, [], [], 61 ∷ 34 ∷ 34 ∷ 62 ∷ [], 62 ∷ [], equals (quote refl value_ends), ends_start, ([], [], refl, refl, refl))
finish o (before_value g a raw) p h =
    by_tag (open_tag g.name (g.given ++ record { name = a; value = [] } ∷ []) (raw ++ 34 ∷ 34 ∷ 62 ∷ [])) (34 ∷ 34 ∷ 62 ∷ []) tt tt refl
    (false, [], [], 34 ∷ 34 ∷ 62 ∷ [], 62 ∷ [], quote refl value_ends, ends_start, ([], [], refl, refl, refl))
finish o (in_value g a q v raw) p h =
    by_tag (open_tag g.name (g.given ++ record { name = a; value = v ++ [] } ∷ []) (raw ++ q ∷ 62 ∷ [])) (q ∷ 62 ∷ []) tt tt refl
    (false, [], [], q ∷ 62 ∷ [], 62 ∷ [], h, value_ends, ends_start, ([], [], refl, refl, refl))
finish o (value_reference_state g a q v raw m) p h = finish_value o g a q v raw m p h
finish o (before_close g raw) p h = by_tag (empty_tag g.name g.given (raw ++ 62 ∷ [])) (62 ∷ []) tt tt refl ([], [], refl, refl, refl)
finish o (end_name []) p h = by_tag (close_tag (codes "a")) (codes "a>") tt tt refl (codes "a", [], [], [], refl, refl, refl, refl, refl)
finish o (end_name (c ∷ n)) p h = by_tag (close_tag ((c ∷ n) ++ [])) (62 ∷ []) tt tt refl ([], [], [], [], refl, refl, refl, refl, refl)
finish o (end_white n) p h = by_tag (close_tag n) (62 ∷ []) tt tt refl ([], [], [], refl, refl, refl, refl)
finish o (in_tail n x) p h = finish_tail o n x p h
finish o (in_question k) p h = by_tag declaration (k ++ 32 ∷ 63 ∷ 62 ∷ []) tt tt (some_end k 32 (63 ∷ 62 ∷ [])) (32, 63 ∷ 62 ∷ [], refl, refl, (63 ∷ 62 ∷ [], [], [], refl, refl, refl, refl))
finish o (in_declaration true) p h = by_tag declaration (63 ∷ 62 ∷ []) tt tt refl (63 ∷ 62 ∷ [], [], [], refl, refl, refl, refl)
finish o (in_declaration false) p h = by_tag declaration (63 ∷ 62 ∷ []) tt tt refl (63 ∷ 62 ∷ [], [], [], refl, refl, refl, refl)

-- ---- where the machine stands

-- a rest is read where a raw element is open, and nothing else there
abbrev pub TailAt : Position → LexState → Type 0
TailAt p l = elim l [
  | in_tail n x ↦ lex_at p ≡ in_tail n []
  | begin ↦ lex_at p ≡ begin
  | in_text raw y ↦ lex_at p ≡ begin
  | text_reference raw y m ↦ lex_at p ≡ begin
  | in_tag ↦ lex_at p ≡ begin
  | start_name n ↦ lex_at p ≡ begin
  | in_start t b raw ↦ lex_at p ≡ begin
  | attribute_name t a raw ↦ lex_at p ≡ begin
  | before_equals t a raw ↦ lex_at p ≡ begin
  | before_value t a raw ↦ lex_at p ≡ begin
  | in_value t a q w raw ↦ lex_at p ≡ begin
  | value_reference_state t a q w raw m ↦ lex_at p ≡ begin
  | before_close t raw ↦ lex_at p ≡ begin
  | end_name n ↦ lex_at p ≡ begin
  | end_white n ↦ lex_at p ≡ begin
  | in_question k ↦ lex_at p ≡ begin
  | in_declaration b ↦ lex_at p ≡ begin
]

-- What is known where the machine stands: the tokens read, the characters that they are, those of the token that is
-- read, and how it goes on.
pub record Reached (c : List ℕ) (p : Position) (l : LexState) (front : List ℕ) : Type 0 where
  pub tokens : List Token
  pub part : List ℕ
  pub whole : c ≡ front ++ part
  pub fronts : Fronts tokens front part
  pub ran : message_run (before_message before_prolog) tokens ≡ Ok p
  pub open_at : IsOpenAt p
  pub begun : (r : List ℕ) (ts : List Token) → LexRest l r ts → WritesTokens ts (part ++ r)
  pub tail_at : TailAt p l
  pub sound : Sound (is_outside p) l part
  pub stood : char_run opening_spot c ≡ Some (record { position = p; lex = l })
  pub begins_at : traced c ≡ front

pub begins_no_raw : (ts : List Token) (p : Position) → message_run (before_message before_prolog) ts ≡ Ok p → lex_at p ≡ begin → IsNoRaw ts
begins_no_raw ts p e b x m = let t = tail_read ts p x e m in tail_inside p t.0 x b t.1

-- the tokens that were read begin a message and are not all of it
pub open_message : (ts : List Token) (p : Position) → message_run (before_message before_prolog) ts ≡ Ok p → IsOpenAt p → IsOpenMessage ts
open_message ts p e o =
    let sane : SaneAtOk (message_run (before_message before_prolog) ts) = message_sane_run ts (before_message before_prolog) tt in
    let m = position_reads p (rw e at sane) in
    go m.0 m.1 m.2
  where
    not_done : (v : List Event) → IsOpenAt p → p ≡ inside (complete v) → ⊥
    not_done v o e = subst IsOpenAt e o

    go : (r : List Token) (v : List Event) → StillReads p r v → IsOpenMessage ts
    go [] v h = absurd (not_done v o (position_done p v h))
    go (t ∷ r) v h = (let takes : StillTakes (message_run (before_message before_prolog) ts) (t ∷ r) v = rw e h in (t, r, v, message_run_back ts (t ∷ r) (before_message before_prolog) v takes))

tag_follows : (ts : List Token) (t : Token) → IsTag t → IsNoRaw ts → MayFollow ts t
tag_follows ts (open_tag n g raw) i n2 = n2
tag_follows ts (empty_tag n g raw) i n2 = n2
tag_follows ts (close_tag n) i n2 = n2
tag_follows ts declaration i n2 = n2
tag_follows ts (text x y) i n2 = absurd i
tag_follows ts (tail x) i n2 = absurd i
tag_follows ts mark i n2 = absurd i

unfinished_tag : (t : Token) (more : List ℕ) → is_empty more ≡ false → (is_text t || not (is_empty more)) ≡ true
unfinished_tag t more h = rw h (or_true (is_text t))
  where
    or_true : (b : Bool) → (b || true) ≡ true
    or_true true = refl
    or_true false = refl

pub one_written : (t : Token) (x : List ℕ) → WritesTokens (t ∷ []) x → Written t x
one_written t x w = subst (λ (z : List ℕ). Written t z) (sym (w.4 ∙ ap (λ (z : List ℕ). w.0 ++ z) w.5 ∙ append-nil w.0)) w.2

-- the place of a state that reads no rest
pub lex_begins : (p : Position) (l : LexState) → TailAt p l → IsNotTail l → lex_at p ≡ begin
lex_begins p begin t f = t
lex_begins p (in_text raw y) t f = t
lex_begins p (text_reference raw y m) t f = t
lex_begins p in_tag t f = t
lex_begins p (start_name n) t f = t
lex_begins p (in_start g b raw) t f = t
lex_begins p (attribute_name g a raw) t f = t
lex_begins p (before_equals g a raw) t f = t
lex_begins p (before_value g a raw) t f = t
lex_begins p (in_value g a q w raw) t f = t
lex_begins p (value_reference_state g a q w raw m) t f = t
lex_begins p (before_close g raw) t f = t
lex_begins p (end_name n) t f = t
lex_begins p (end_white n) t f = t
lex_begins p (in_tail n x) t f = absurd f
lex_begins p (in_question k) t f = t
lex_begins p (in_declaration b) t f = t

-- behind the start tag of a raw element its rest is read
pub tail_comes : (p : Position) (n x : Text) → lex_at p ≡ in_tail n [] → is_tail n x ≡ true → (u : Position) × (message_step p (tail x) ≡ Ok u)
unfolding message_step step
tail_comes (inside (at (in_raw m q tag) f fs)) n x e h =
    let i : is_tail m x ≡ true = subst (λ (z : Text). is_tail z x ≡ true) (sym (name_is m n e)) h in
    (inside (with_child f fs (q, raw_events q (tag ++ x))), rw i refl)
  where
    name_is : (m n : Text) → in_tail m [] ≡ in_tail n [] → m ≡ n
    name_is m n e = cc
tail_comes (before_message g) n x e h = absurd cc
tail_comes (inside (complete v)) n x e h = absurd cc
tail_comes (inside (at between f fs)) n x e h = absurd cc
tail_comes (inside (at (in_field m o) f fs)) n x e h = absurd cc
tail_comes (inside (at (behind_text m o es) f fs)) n x e h = absurd cc

-- the part begins a token
pub begins_token : (c : List ℕ) (p : Position) (l : LexState) (front : List ℕ) (h : Reached c p l front) → BeginsToken h.tokens h.part
begins_token c p l front h = go (finish (is_outside p) l h.part h.sound)
  where
    go : Finish (is_outside p) l h.part → BeginsToken h.tokens h.part
    go (by_tag t more nt tag some rest) = record {
      token = t;
      more = more;
      unfinished = unfinished_tag t more some;
      written = one_written t (h.part ++ more) (h.begun more (t ∷ []) rest);
      may_follow = tag_follows h.tokens t tag (begins_no_raw h.tokens p h.ran (lex_begins p l h.tail_at nt));
    }
    go (by_text raw y k nt no_tag meets rest) =
        let w = h.begun (k ++ codes "<a>") (text raw y ∷ a_tag ∷ []) rest in
        let a : w.1 ≡ codes "<a>" = a_is w.1 w.5 in
        let e : h.part ++ k ≡ w.0 = append_cancel_right (h.part ++ k) w.0 (codes "<a>") (append_assoc h.part k (codes "<a>") ∙ w.4 ∙ ap (λ (z : List ℕ). w.0 ++ z) a) in
        let v : Written (text raw y) (h.part ++ k) = subst (λ (z : List ℕ). Written (text raw y) z) (sym e) w.2 in
        record {
          token = text raw y;
          more = k;
          unfinished = refl;
          written = v;
          may_follow = (begins_no_raw h.tokens p h.ran (lex_begins p l h.tail_at nt), λ b. subst (λ (z : Text). meets_mark z ≡ false) (sym v.2) (meets (outside_from h.tokens before_prolog p h.ran ∙ b)));
        }
    go (by_tail n x more is some tail_is rest) =
        let u = tail_comes p n (h.part ++ more) (subst (λ (z : LexState). TailAt p z) is h.tail_at) tail_is in
        record {
          token = tail (h.part ++ more);
          more = more;
          unfinished = unfinished_tag (tail (h.part ++ more)) more some;
          written = refl;
          may_follow = message_runs_begin before_prolog (h.tokens ++ tail (h.part ++ more) ∷ []) u.0 (push_run h.tokens (before_message before_prolog) p (tail (h.part ++ more)) u.0 h.ran u.1);
        }

-- Where the machine stands, the characters are alive, with the same token.
unfoldable pub alive_at : (c : List ℕ) (p : Position) (l : LexState) (front : List ℕ) → Reached c p l front → IsAlive c
alive_at c p l front h = record {
  tokens = h.tokens;
  front = front;
  part = h.part;
  whole = h.whole;
  fronts = h.fronts;
  message = open_message h.tokens p h.ran h.open_at;
  begins = begins_token c p l front h;
}
