-- What a character shows that the machine rejects.
use Rattle.std.proofs.Common.{◌≡◌, ℕ, Bool, true, false, List, [], ◌∷◌, ◌++◌, Option, Some, Ok, Err, refl, sym, ap, subst, ◌∙◌, append_assoc, codes, inl, inr}
use Rattle.std.specs.Prelude.{◌||◌}
use Rattle.mos_fields.specs.Characters.{Text}
use Rattle.mos_fields.specs.Names.{is_empty}
use Rattle.mos_fields.specs.Raw.{is_plain, is_tail}
use Rattle.mos_fields.specs.Forms.{is_white}
use Rattle.mos_grammar.specs.Tokens.{Token, open_tag, empty_tag, close_tag, text, tail, mark, declaration}
use Rattle.mos_grammar.specs.declared.fault.Fault.{Fault}
use Rattle.mos_grammar.specs.Streams.{before_prolog, Position, before_message, message_step, message_run}
use Rattle.mos_grammar.proofs.StreamProofs.{message_runs_begin}
use Rattle.mos_lexer.specs.declared.kind.Kind.TheVariants as kinds
use Rattle.mos_lexer.specs.Lexing.{byte_order_mark, meets_mark, WritesTokens, Written, Writes, nothing, itself, reference}
use Rattle.mos_lexer.specs.LexMachine.{LexState, begin, in_text, text_reference, in_tag, start_name, in_start, attribute_name, before_equals, before_value, in_value, value_reference, before_close, end_name, end_white, in_tail, in_question, in_declaration, LexStep, whole_token, text_before, text_before_mark, no_token, lex_step}
use Rattle.mos_lexer.specs.Units.{is_outside, lex_at, kind_of}
use Rattle.mos_lexer.proofs.Lexer.{LexRest, LexTakes}
use Rattle.mos_lexer.proofs.Forward.{lex_forward}
use Rattle.mos_lexer.proofs.References.{reference_laws}
use Rattle.mos_lexer.proofs.Chars.{Fits, Spot}
use Rattle.mos_rejections.specs.Alive.{IsNoRaw, MayFollow, is_text, BeginsToken}
use Rattle.mos_rejections.specs.Rejections.{BreaksReference, StandsAt, BeginsNoToken, Shows, entity, misfit, misfit_text, misfit_mark}
use Rattle.mos_rejections.proofs.Shape.{IsTailOf, IsNotTail, IsTagState, WholeSound, not_text, BreaksReference as PartBreaks}
use Rattle.mos_rejections.proofs.Running.{going, fitting_at}
use Rattle.mos_rejections.proofs.AliveRuns.{outside_from, push_run, fronts_write, ending}
use Rattle.mos_rejections.proofs.Reaching.{TailAt, lex_begins, Reached, begins_no_raw, open_message, tail_comes, Finish, by_tag, by_text, by_tail, IsTag, finish, one_written}
use Rattle.mos_rejections.proofs.Stepping.{fronts_more, token_written, text_written, mark_written}

pub stands : (c : List ℕ) (p : Position) (l : LexState) (front : List ℕ) (h : Reached c p l front) → StandsAt h.tokens front h.part c p
stands c p l front h = record { whole = h.whole; fronts = h.fronts; message = open_message h.tokens p h.ran h.open_at; ran = h.ran }

stands_more : (c : List ℕ) (p : Position) (l : LexState) (front : List ℕ) (h : Reached c p l front) (d : ℕ) → StandsAt h.tokens front (h.part ++ d ∷ []) (c ++ d ∷ []) p
stands_more c p l front h d = record {
  whole = ap (λ (z : List ℕ). z ++ d ∷ []) h.whole ∙ append_assoc front h.part (d ∷ []);
  fronts = fronts_more h.tokens front h.part (d ∷ []) h.fronts;
  message = open_message h.tokens p h.ran h.open_at;
  ran = h.ran;
}

no_raw : (c : List ℕ) (p : Position) (l : LexState) (front : List ℕ) (h : Reached c p l front) → IsNotTail l → IsNoRaw h.tokens
no_raw c p l front h n = begins_no_raw h.tokens p h.ran (lex_begins p l h.tail_at n)

tail_place : (p : Position) (l : LexState) (n : Text) → TailAt p l → IsTailOf n l → lex_at p ≡ in_tail n []
tail_place p (in_tail m x) n t e = subst (λ (z : Text). lex_at p ≡ in_tail z []) e t
tail_place p begin n t e = absurd e
tail_place p (in_text raw y) n t e = absurd e
tail_place p (text_reference raw y m) n t e = absurd e
tail_place p in_tag n t e = absurd e
tail_place p (start_name m) n t e = absurd e
tail_place p (in_start g b raw) n t e = absurd e
tail_place p (attribute_name g a raw) n t e = absurd e
tail_place p (before_equals g a raw) n t e = absurd e
tail_place p (before_value g a raw) n t e = absurd e
tail_place p (in_value g a q w raw) n t e = absurd e
tail_place p (value_reference g a q w raw m) n t e = absurd e
tail_place p (before_close g raw) n t e = absurd e
tail_place p (end_name m) n t e = absurd e
tail_place p (end_white m) n t e = absurd e
tail_place p (in_question k) n t e = absurd e
tail_place p (in_declaration b) n t e = absurd e

-- the rest of a raw element fits
pub tail_whole : (c : List ℕ) (p : Position) (l : LexState) (front : List ℕ) (h : Reached c p l front) (d : ℕ) (y : Text) → WholeSound (is_outside p) l h.part d (tail y) → (u : Position) × (message_step p (tail y) ≡ Ok u)
tail_whole c p l front h d y s = tail_comes p s.0 y (tail_place p l s.0 h.tail_at s.1) (subst (λ (z : Text). is_tail s.0 z ≡ true) (sym s.3) s.2)

-- a token that the character ends may follow
pub whole_follows : (c : List ℕ) (p : Position) (l : LexState) (front : List ℕ) (h : Reached c p l front) (d : ℕ) (t : Token) → WholeSound (is_outside p) l h.part d t → MayFollow h.tokens t
whole_follows c p l front h d (open_tag n g raw) s = no_raw c p l front h s
whole_follows c p l front h d (empty_tag n g raw) s = no_raw c p l front h s
whole_follows c p l front h d (close_tag n) s = no_raw c p l front h s
whole_follows c p l front h d declaration s = no_raw c p l front h s
whole_follows c p l front h d mark s = (no_raw c p l front h s.1, sym (outside_from h.tokens before_prolog p h.ran) ∙ s.0)
whole_follows c p l front h d (text x y) s = absurd s
whole_follows c p l front h d (tail y) s =
    let u = tail_whole c p l front h d y s in
    message_runs_begin before_prolog (h.tokens ++ tail y ∷ []) u.0 (push_run h.tokens (before_message before_prolog) p (tail y) u.0 h.ran u.1)

-- a whole token that does not fit
pub whole_shows : (c : List ℕ) (p : Position) (l : LexState) (front : List ℕ) (h : Reached c p l front) (d : ℕ) (t : Token) (k : Fault) → lex_step (is_outside p) l d ≡ whole_token t → WholeSound (is_outside p) l h.part d t → message_step p t ≡ Err k → Shows c d front (kind_of k)
whole_shows c p l front h d t k e s r =
    misfit h.tokens front (h.part ++ d ∷ []) t p k (stands_more c p l front h d) (token_written c p l front h d t e).0 (not_text (is_outside p) l h.part d t s) (whole_follows c p l front h d t s) r

text_follows : (c : List ℕ) (p : Position) (l : LexState) (front : List ℕ) (h : Reached c p l front) (raw y : Text) → raw ≡ h.part → (is_outside p ≡ true → meets_mark h.part ≡ false) → IsNotTail l → MayFollow h.tokens (text raw y)
text_follows c p l front h raw y e m n = (no_raw c p l front h n, λ b. subst (λ (z : Text). meets_mark z ≡ false) (sym e) (m (outside_from h.tokens before_prolog p h.ran ∙ b)))

pub text_shows : (c : List ℕ) (p : Position) (l : LexState) (front : List ℕ) (h : Reached c p l front) (d : ℕ) (raw y : Text) (k : Fault) → lex_step (is_outside p) l d ≡ text_before raw y in_tag → d ≡ 60
    → raw ≡ h.part → (is_outside p ≡ true → meets_mark h.part ≡ false) → IsNotTail l → message_step p (text raw y) ≡ Err k → Shows c d front (kind_of k)
text_shows c p l front h d raw y k e is re m n r =
    misfit_text h.tokens front h.part raw y p k (stands c p l front h) (text_written c p l front h d raw y e is) (text_follows c p l front h raw y re m n) (inl is) r

pub mark_text_shows : (c : List ℕ) (p : Position) (l : LexState) (front : List ℕ) (h : Reached c p l front) (d : ℕ) (raw y : Text) (k : Fault) → lex_step (is_outside p) l d ≡ text_before_mark raw y → d ≡ byte_order_mark
    → is_outside p ≡ true → is_white raw ≡ true → raw ≡ h.part → (is_outside p ≡ true → meets_mark h.part ≡ false) → IsNotTail l → message_step p (text raw y) ≡ Err k → Shows c d front (kind_of k)
mark_text_shows c p l front h d raw y k e is o w re m n r =
    misfit_text h.tokens front h.part raw y p k (stands c p l front h) (mark_written c p l front h d raw y e is) (text_follows c p l front h raw y re m n) (inr (is, sym (outside_from h.tokens before_prolog p h.ran) ∙ o, w)) r

pub mark_shows : (c : List ℕ) (p : Position) (l : LexState) (front : List ℕ) (h : Reached c p l front) (d : ℕ) (raw y : Text) (q : Position) (k : Fault) → lex_step (is_outside p) l d ≡ text_before_mark raw y → d ≡ byte_order_mark
    → is_outside p ≡ true → is_white raw ≡ true → message_step p (text raw y) ≡ Ok q → message_step q mark ≡ Err k → Shows c d c (kind_of k)
mark_shows c p l front h d raw y q k e is o w s r =
    misfit_mark h.tokens front h.part raw y p q k (stands c p l front h) (mark_written c p l front h d raw y e is) is (sym (outside_from h.tokens before_prolog p h.ran) ∙ o) w s r

pub reference_breaks : (c : List ℕ) (p : Position) (l : LexState) (front : List ℕ) (h : Reached c p l front) (d k : ℕ) (b : PartBreaks h.part d k) → BreaksReference c d (front ++ b.before)
reference_breaks c p l front h d k b = record {
  m = b.m;
  whole = h.whole ∙ ap (λ (z : List ℕ). front ++ z) b.whole ∙ sym (append_assoc front b.before (38 ∷ b.m));
  begun = b.begun;
  not_whole = b.not_whole;
  no_reference = b.no_reference;
  stuck = b.stuck;
}

pub reference_shows : (c : List ℕ) (p : Position) (l : LexState) (front : List ℕ) (h : Reached c p l front) (d k : ℕ) (b : PartBreaks h.part d k) → Shows c d (front ++ b.before) kinds.Entity
reference_shows c p l front h d k b = entity (front ++ b.before) (reference_breaks c p l front h d k b)

-- ---- no token

-- no token that may follow begins with the part and this character
pub begins_no_token : (c : List ℕ) (p : Position) (l : LexState) (front : List ℕ) (h : Reached c p l front) (d : ℕ) → lex_step (is_outside p) l d ≡ no_token → BeginsNoToken h.tokens (h.part ++ d ∷ [])
begins_no_token c p l front h d e t more m w =
    let b : BeginsToken h.tokens h.part = record { token = t; more = d ∷ more; unfinished = or_true (is_text t); written = subst (λ (z : List ℕ). Written t z) (append_assoc h.part (d ∷ []) more) w; may_follow = m } in
    let n = ending h.tokens p h.part h.ran b in
    let z = n.extends in
    let all : WritesTokens (h.tokens ++ n.token ∷ n.behind) (c ++ n.more) =
    subst (λ (i : List ℕ). WritesTokens (h.tokens ++ n.token ∷ n.behind) i) (sym (append_assoc front h.part n.more) ∙ ap (λ (i : List ℕ). i ++ n.more) (sym h.whole)) (fronts_write h.tokens (n.token ∷ n.behind) front h.part n.more h.fronts n.written) in
    let g = going c n.more n.token n.behind p n.last n.unfinished (before_message before_prolog) begin [] h.tokens refl refl h.ran all in
    let s : g.spot ≡ record { position = p; lex = l } = same_spot g.spot (record { position = p; lex = l }) (sym g.is ∙ h.stood) in
    let lx : LexRest l (d ∷ (more ++ z.0)) (g.tokens ++ n.token ∷ n.behind) =
    subst (λ (i : List ℕ). LexRest l i (g.tokens ++ n.token ∷ n.behind)) z.1 (subst (λ (i : Spot). LexRest i.lex n.more (g.tokens ++ n.token ∷ n.behind)) s g.rest) in
    let fit = fitting_at p p l g.tokens n.token n.behind (subst Fits s g.fits) (subst (λ (i : Spot). message_run i.position g.tokens ≡ Ok p) s g.run) n.last in
    subst (λ (i : LexStep). LexTakes i (more ++ z.0) (g.tokens ++ n.token ∷ n.behind)) e (lex_forward reference_laws (is_outside p) l d (more ++ z.0) (g.tokens ++ n.token ∷ n.behind) fit lx)
  where
    or_true : (b : Bool) → (b || true) ≡ true
    or_true true = refl
    or_true false = refl

    same_spot : (a b : Spot) → ◌≡◌ {A = Option Spot} (Some a) (Some b) → a ≡ b
    same_spot a b e = cc

-- a tag or the beginning of one is no text
tag_first : (t : Token) (x : List ℕ) → IsTag t → Written t x → (r : List ℕ) × (x ≡ 60 ∷ r)
tag_first (open_tag n g raw) x i w = (n ++ w.0, w.3)
tag_first (empty_tag n g raw) x i w = (n ++ w.0, w.3)
tag_first (close_tag n) x i w = (47 ∷ (n ++ (w.0 ++ 62 ∷ [])), w.3)
tag_first declaration x i w = (63 ∷ (codes "xml" ++ w.0 ∷ w.1), w.4)
tag_first (text raw y) x i w = absurd i
tag_first (tail y) x i w = absurd i
tag_first mark x i w = absurd i

text_first : {y : Text} {x : List ℕ} → Writes y x → is_empty x ≡ false → (r m : List ℕ) → x ++ m ≡ 60 ∷ r → ⊥
text_first nothing n r m e = absurd cc
text_first (itself {c = c} {x = x} p w) n r m e = not_plain (subst (λ (z : ℕ). is_plain z ≡ true) (head_is c 60 (x ++ m) r e) p)
  where
    head_is : (c d : ℕ) (x y : List ℕ) → (c ∷ x) ≡ (d ∷ y) → c ≡ d
    head_is c d x y e = cc

    not_plain : is_plain 60 ≡ true → ⊥
    not_plain h = cc
text_first (reference {x = x} k is w) n r m e = not_and (head_is 38 60 ((k ++ x) ++ m) r e)
  where
    head_is : (c d : ℕ) (x y : List ℕ) → (c ∷ x) ≡ (d ∷ y) → c ≡ d
    head_is c d x y e = cc

    not_and : ◌≡◌ {A = ℕ} 38 60 → ⊥
    not_and h = cc

pub tag_no_text : (c : List ℕ) (p : Position) (l : LexState) (front : List ℕ) (h : Reached c p l front) → IsTagState l → (raw y : Text) → Written (text raw y) h.part → ⊥
tag_no_text c p l front h i raw y w = go (finish (is_outside p) l h.part h.sound)
  where
    not_tail : (n x : Text) → l ≡ in_tail n x → IsTagState l → ⊥
    not_tail n x e i = subst IsTagState e i

    go : Finish (is_outside p) l h.part → ⊥
    go (by_tag t more nt tag some rest) =
        let v = one_written t (h.part ++ more) (h.begun more (t ∷ []) rest) in
        let f = tag_first t (h.part ++ more) tag v in
        text_first w.1 w.0 f.0 more f.1
    go (by_text raw y k nt no_tag meets rest) = no_tag i
    go (by_tail n x more is some tail_is rest) = not_tail n x is i
