-- Characters that are alive are read by the machine.
use Rattle.std.proofs.Common.{◌≡◌, ℕ, ◌<◌, Bool, true, false, cond, List, [], ◌∷◌, ◌++◌, length, Some, Result, Ok, Err, refl, sym, ap, subst, ◌∙◌, append_assoc, arith, codes, ◌⊎◌, inl, inr}
use Rattle.std.specs.Prelude.{◌||◌, not}
use Rattle.std.proofs.lemmas.List.{append-nil, length-append}
use Rattle.mos_fields.specs.Characters.{Text}
use Rattle.mos_fields.specs.Names.{is_empty, may_grow}
use Rattle.mos_fields.specs.Raw.{is_tail, end_text}
use Rattle.mos_grammar.specs.Tokens.{Token, open_tag, empty_tag, close_tag, text, tail, mark, declaration}
use Rattle.mos_grammar.specs.declared.fault.Fault.{Fault}
use Rattle.mos_grammar.specs.RecordMachine.{State, with_child, opening, at, complete, between, in_field, behind_text, in_raw, step}
use Rattle.mos_grammar.specs.Streams.{Stage, before_prolog, Position, before_message, inside, may_mark, may_declare, behind_mark, behind_declaration, bare_fault, mos_name, inside_of, message_step, then_position, message_run, BeginsMessage}
use Rattle.mos_grammar.proofs.Complete.{end_is_tail}
use Rattle.mos_grammar.proofs.StreamProofs.{message_runs_begin, message_begins_run, message_run_append}
use Rattle.mos_lexer.specs.Lexing.{begins_mark, begins_with, meets_mark, WritesTokens, Written, Ends, Writes, nothing, itself, reference, ends_start}
use Rattle.mos_lexer.specs.LexMachine.{begin}
use Rattle.mos_lexer.specs.Units.{is_outside, lex_at}
use Rattle.mos_lexer.proofs.Lexer.{LexRest, from_tag}
use Rattle.mos_lexer.proofs.Forward.{Fitting, NotTail}
use Rattle.mos_lexer.proofs.Chars.{Spot, char_run, opening_spot}
use Rattle.mos_fields.specs.Fields.{same}
use Rattle.mos_fields.specs.Forms.{is_white}
use Rattle.mos_tables.specs.declared.table.Table.TheVariants.{Envelope}
use Rattle.mos_grammar.specs.declared.fault.Fault.TheVariants.{Tag as misplaced}
use Rattle.mos_grammar.specs.Records.{raw_events, end_fault}
use Rattle.mos_rejections.proofs.Shape.{some_behind, still_no_mark}
use Rattle.mos_rejections.specs.Alive.{Fronts, is_before_mos, IsNoRaw, MayFollow, is_text, BeginsToken, IsAlive}
use Rattle.mos_rejections.proofs.Running.{Last, Unfinished, going, tail_inside, raw_tail, tail_rest, first_read, run_nothing}

-- ---- what stands behind tokens that are read

pub push_run : (ts : List Token) (p q : Position) (t : Token) (u : Position) → message_run p ts ≡ Ok q → message_step q t ≡ Ok u → message_run p (ts ++ t ∷ []) ≡ Ok u
unfolding message_run
push_run ts p q t u e k = message_run_append ts (t ∷ []) p q e ∙ one (message_step q t) k
  where
    one : (o : Result Position Fault) → o ≡ Ok u → then_position o (λ w. message_run w []) ≡ Ok u
    one (Ok w) h = h
    one (Err x) h = absurd cc

-- where the rest of a raw element may come, it comes to its end
raw_comes : (q : Position) → (lex_at q ≡ begin → ⊥) → (x : Text) × (u : Position) × (message_step q (tail x) ≡ Ok u)
unfolding message_step step
raw_comes (before_message g) n = absurd (n refl)
raw_comes (inside (complete v)) n = absurd (n refl)
raw_comes (inside (at between f fs)) n = absurd (n refl)
raw_comes (inside (at (in_field m o) f fs)) n = absurd (n refl)
raw_comes (inside (at (behind_text m o es) f fs)) n = absurd (n refl)
raw_comes (inside (at (in_raw m p tag) f fs)) n = (end_text m, inside (with_child f fs (p, raw_events p (tag ++ end_text m))), rw (end_is_tail m) refl)

begins_or_not : (q : Position) → (lex_at q ≡ begin) ⊎ (lex_at q ≡ begin → ⊥)
begins_or_not (before_message g) = inl refl
begins_or_not (inside (complete v)) = inl refl
begins_or_not (inside (at between f fs)) = inl refl
begins_or_not (inside (at (in_field m o) f fs)) = inl refl
begins_or_not (inside (at (behind_text m o es) f fs)) = inl refl
begins_or_not (inside (at (in_raw m p tag) f fs)) = inr (λ e. cc)

pub no_raw_begins : (ts : List Token) (q : Position) → message_run (before_message before_prolog) ts ≡ Ok q → IsNoRaw ts → lex_at q ≡ begin
no_raw_begins ts q e n = go (begins_or_not q)
  where
    go : (lex_at q ≡ begin) ⊎ (lex_at q ≡ begin → ⊥) → lex_at q ≡ begin
    go (inl h) = h
    go (inr h) = (let r = raw_comes q h in absurd (n r.0 (message_runs_begin before_prolog (ts ++ tail r.0 ∷ []) r.1 (push_run ts (before_message before_prolog) q (tail r.0) r.1 e r.2))))

-- a tail that may follow is read
pub tail_read : (ts : List Token) (q : Position) (x : Text) → message_run (before_message before_prolog) ts ≡ Ok q → BeginsMessage before_prolog (ts ++ tail x ∷ []) → (u : Position) × (message_step q (tail x) ≡ Ok u)
unfolding message_run
tail_read ts q x e b =
    let r = message_begins_run before_prolog (ts ++ tail x ∷ []) b in
    go (message_step q (tail x)) refl (sym (message_run_append ts (tail x ∷ []) (before_message before_prolog) q e) ∙ r.1)
  where
    go : (o : Result Position Fault) → message_step q (tail x) ≡ o → {u : Position} → then_position o (λ w. message_run w []) ≡ Ok u → (u : Position) × (message_step q (tail x) ≡ Ok u)
    go (Ok w) i h = (w, i)
    go (Err k) i h = absurd cc

position_is : (p q : Position) → ◌≡◌ {A = Result Position Fault} (Ok p) (Ok q) → p ≡ q
position_is p q e = cc

no_ok : {A : Type 0} (u : Position) (k : Fault) → ◌≡◌ {A = Result Position Fault} (Err k) (Ok u) → A
no_ok u k e = absurd cc

inside_next : (s : State) (t : Token) (u : Position) → message_step (inside s) t ≡ Ok u → (w : State) × (u ≡ inside w)
unfolding message_step
inside_next s t u e = go (step s t) e
  where
    go : (o : Result State Fault) → inside_of o ≡ Ok u → (w : State) × (u ≡ inside w)
    go (Ok w) h = (w, sym (position_is (inside w) u h))
    go (Err k) h = no_ok u k h

inside_stays : (ts : List Token) (s : State) (q : Position) → message_run (inside s) ts ≡ Ok q → is_outside q ≡ false
inside_stays [] s q e = ap is_outside (sym (run_nothing (inside s) q e))
inside_stays (t ∷ ts) s q e =
    let h = first_read t ts (inside s) q e in
    let w = inside_next s t h.0 h.1 in
    inside_stays ts w.0 q (subst (λ (z : Position). message_run z ts ≡ Ok q) w.1 h.2)

stays_before : (b : Bool) (p u : Position) → cond b (Ok p) (Err misplaced) ≡ Ok u → u ≡ p
stays_before true p u e = sym (position_is p u e)
stays_before false p u e = no_ok u misplaced e

-- before `<mos>`, or not
pub outside_from : (ts : List Token) (g : Stage) (q : Position) → message_run (before_message g) ts ≡ Ok q → is_outside q ≡ is_before_mos ts
unfolding message_step
outside_from [] g q e = ap is_outside (sym (run_nothing (before_message g) q e))
outside_from (open_tag n a raw ∷ ts) g q e =
    let h = first_read (open_tag n a raw) ts (before_message g) q e in
    let i = stays_before (same mos_name n) (inside (opening Envelope mos_name)) h.0 h.1 in
    inside_stays ts (opening Envelope mos_name) q (subst (λ (z : Position). message_run z ts ≡ Ok q) i h.2)
outside_from (text x y ∷ ts) g q e =
    let h = first_read (text x y) ts (before_message g) q e in
    let i = stays_before (is_white x) (before_message g) h.0 h.1 in
    outside_from ts g q (subst (λ (z : Position). message_run z ts ≡ Ok q) i h.2)
outside_from (mark ∷ ts) g q e =
    let h = first_read mark ts (before_message g) q e in
    let i = stays_before (may_mark g) (before_message behind_mark) h.0 h.1 in
    outside_from ts behind_mark q (subst (λ (z : Position). message_run z ts ≡ Ok q) i h.2)
outside_from (declaration ∷ ts) g q e =
    let h = first_read declaration ts (before_message g) q e in
    let i = stays_before (may_declare g) (before_message behind_declaration) h.0 h.1 in
    outside_from ts behind_declaration q (subst (λ (z : Position). message_run z ts ≡ Ok q) i h.2)
outside_from (empty_tag n a raw ∷ ts) g q e = let h = first_read (empty_tag n a raw) ts (before_message g) q e in no_ok h.0 (cond (same mos_name n) (bare_fault (end_fault Envelope [])) misplaced) h.1
outside_from (close_tag n ∷ ts) g q e = let h = first_read (close_tag n) ts (before_message g) q e in no_ok h.0 misplaced h.1
outside_from (tail x ∷ ts) g q e = let h = first_read (tail x) ts (before_message g) q e in no_ok h.0 misplaced h.1

-- ---- what is written

begins_more : (z m : List ℕ) → begins_with 60 z ≡ true → begins_with 60 (z ++ m) ≡ true
begins_more [] m h = absurd cc
begins_more (c ∷ z) m h = h

mark_more : (ts us : List Token) → begins_mark ts ≡ true → begins_mark (ts ++ us) ≡ true
mark_more [] us h = absurd cc
mark_more (mark ∷ ts) us h = refl
mark_more (open_tag n g raw ∷ ts) us h = absurd cc
mark_more (empty_tag n g raw ∷ ts) us h = absurd cc
mark_more (close_tag n ∷ ts) us h = absurd cc
mark_more (text x y ∷ ts) us h = absurd cc
mark_more (tail x ∷ ts) us h = absurd cc
mark_more (declaration ∷ ts) us h = absurd cc

or_more : (a b c d : Bool) → (a ≡ true → c ≡ true) → (b ≡ true → d ≡ true) → (a || b) ≡ true → (c || d) ≡ true
or_more true b c d f g h = rw (f refl) refl
or_more false b c d f g h = rw (g h) (or_true c)
  where
    or_true : (c : Bool) → (c || true) ≡ true
    or_true true = refl
    or_true false = refl

pub ends_more : (k : Token) (ts us : List Token) (z m : List ℕ) → Ends k ts z → Ends k (ts ++ us) (z ++ m)
ends_more (text x y) ts us z m h = or_more (begins_with 60 z) (begins_mark ts) (begins_with 60 (z ++ m)) (begins_mark (ts ++ us)) (begins_more z m) (mark_more ts us) h
ends_more (open_tag n g raw) ts us z m h = tt
ends_more (empty_tag n g raw) ts us z m h = tt
ends_more (close_tag n) ts us z m h = tt
ends_more (tail x) ts us z m h = tt
ends_more mark ts us z m h = tt
ends_more declaration ts us z m h = tt

-- the tokens of a front, and those that are written behind it
pub fronts_write : (ts us : List Token) (front p m : List ℕ) → Fronts ts front p → WritesTokens us (p ++ m) → WritesTokens (ts ++ us) (front ++ (p ++ m))
fronts_write [] us front p m f w = rw f w
fronts_write (k ∷ ts) us front p m f w = (
  f.0,
  f.1 ++ (p ++ m),
  f.2,
  subst (λ (z : List ℕ). Ends k (ts ++ us) z) (append_assoc f.1 p m) (ends_more k ts us (f.1 ++ p) m f.3),
  ap (λ (z : List ℕ). z ++ (p ++ m)) f.4 ∙ append_assoc f.0 f.1 (p ++ m),
  fronts_write ts us f.1 p m f.5 w,
)

-- a text may go on
pub writes_more : {y : Text} {x : List ℕ} → Writes y x → Writes (y ++ 120 ∷ []) (x ++ 120 ∷ [])
writes_more nothing = itself refl nothing
writes_more (itself p w) = itself p (writes_more w)
writes_more (reference {c = c} {y = y} {x = x} m r w) = subst (λ (z : List ℕ). Writes (c ∷ (y ++ 120 ∷ [])) (38 ∷ z)) (sym (append_assoc m x (120 ∷ []))) (reference m r (writes_more w))

-- ---- the last token

-- a tag that is written `<a>`
abbrev pub a_tag : Token
a_tag = open_tag (codes "a") [] (codes "<a>")

pub begin_rest : (q : Position) (ts : List Token) (r : List ℕ) → lex_at q ≡ begin → WritesTokens ts r → LexRest (lex_at q) r ts
begin_rest q ts r e w = rw e w

tail_rest_at : (q u : Position) (x : Text) (us : List Token) (r : List ℕ) → message_step q (tail x) ≡ Ok u → WritesTokens (tail x ∷ us) r → LexRest (lex_at q) r (tail x ∷ us)
tail_rest_at (before_message g) u x us r e w = absurd (tail_inside (before_message g) u x refl e)
tail_rest_at (inside (complete v)) u x us r e w = absurd (tail_inside (inside (complete v)) u x refl e)
tail_rest_at (inside (at between f fs)) u x us r e w = absurd (tail_inside (inside (at between f fs)) u x refl e)
tail_rest_at (inside (at (in_field n o) f fs)) u x us r e w = absurd (tail_inside (inside (at (in_field n o) f fs)) u x refl e)
tail_rest_at (inside (at (behind_text n o es) f fs)) u x us r e w = absurd (tail_inside (inside (at (behind_text n o es) f fs)) u x refl e)
tail_rest_at (inside (at (in_raw n p tag) f fs)) u x us r e w =
    let k = raw_tail n p tag f fs (tail x) u e in
    tail_rest n x us r (subst (λ (z : Text). is_tail n z ≡ true) (sym (text_is x k.0 k.1)) k.2) w
  where
    text_is : (a b : Text) → tail a ≡ tail b → a ≡ b
    text_is a b e = cc

tail_last : (ts : List Token) (q : Position) (x : Text) → message_run (before_message before_prolog) ts ≡ Ok q → MayFollow ts (tail x) → Last q (tail x) []
tail_last ts q x e m =
    let t = tail_read ts q x e m in
    record { fits = λ b. absurd (tail_inside q t.0 x b t.1); raw = λ r w. tail_rest_at q t.0 x [] r t.1 w; no_tail = λ b. absurd (tail_inside q t.0 x b t.1) }

pub text_last : (ts : List Token) (q : Position) (x y : Text) → message_run (before_message before_prolog) ts ≡ Ok q → MayFollow ts (text x y) → Last q (text x y) (a_tag ∷ [])
text_last ts q x y e m =
    let b = no_raw_begins ts q e m.0 in
    record { fits = λ i. ((λ o. m.1 (sym (outside_from ts before_prolog q e) ∙ o)), (λ o k. absurd cc), (λ o. refl), tt); raw = λ r w. begin_rest q (text x y ∷ a_tag ∷ []) r b w; no_tail = λ i. tt }

pub other_last : (ts : List Token) (q : Position) (t : Token) → message_run (before_message before_prolog) ts ≡ Ok q → IsNoRaw ts → Fitting (is_outside q) (t ∷ []) → NotTail (t ∷ []) → Last q t []
other_last ts q t e n f k = let b = no_raw_begins ts q e n in record { fits = λ i. f; raw = λ r w. begin_rest q (t ∷ []) r b w; no_tail = λ i. k }

-- which token comes to an end behind the part, and what is written then
pub record Ending (ts : List Token) (q : Position) (p first : List ℕ) : Type 0 where
  pub token : Token
  pub behind : List Token
  pub more : List ℕ
  pub last : Last q token behind
  pub unfinished : Unfinished token behind more
  pub written : WritesTokens (token ∷ behind) (p ++ more)
  pub extends : (z : List ℕ) × (more ≡ first ++ z)

nothing_written : (t : Token) (more : List ℕ) → is_empty more ≡ false → Unfinished t [] more
nothing_written t [] h = absurd cc
nothing_written t (c ∷ more) h = record { left = λ r w. none r w; text_left = λ r w. absurd (no_tag r (from_tag r [] w)); no_mark = refl }
  where
    none : (r : List ℕ) → r ≡ [] → length r < length (c ∷ more)
    none r e = rw e (omega arith)

    no_tag : (r : List ℕ) → ◌≡◌ {A = List ℕ} (60 ∷ r) [] → ⊥
    no_tag r e = cc

pub a_is : (r : List ℕ) → WritesTokens (a_tag ∷ []) r → r ≡ codes "<a>"
a_is r w = w.4 ∙ ap (λ (z : List ℕ). w.0 ++ z) w.5 ∙ append-nil w.0 ∙ sym (let k = w.2 in k.4)

pub a_length : (r : List ℕ) → WritesTokens (a_tag ∷ []) r → length r ≡ 3
a_length r w = ap length (a_is r w)

text_unfinished : (t : Token) (more : List ℕ) → Unfinished t (a_tag ∷ []) (more ++ 120 ∷ codes "<a>")
text_unfinished t more = record {
  left = λ r w. (let i = a_length r w in let j = length-append more (120 ∷ codes "<a>") in omega (arith, i, j));
  text_left = λ r w. (let i : length (60 ∷ r) ≡ 3 = a_length (60 ∷ r) (from_tag r (a_tag ∷ []) w) in let j = length-append more (120 ∷ codes "<a>") in omega (arith, i, j));
  no_mark = refl;
}

not_empty : (b : Bool) → (false || not b) ≡ true → b ≡ false
not_empty true h = absurd cc
not_empty false h = refl

one_written : (t : Token) (p more : List ℕ) → Ends t [] [] → Written t (p ++ more) → WritesTokens (t ∷ []) (p ++ more)
one_written t p more e w = (p ++ more, [], w, e, sym (append-nil (p ++ more)), refl)

pub a_written : WritesTokens (a_tag ∷ []) (codes "<a>")
unfolding may_grow
a_written = (codes "<a>", [], (62 ∷ [], refl, ends_start, refl, refl), tt, refl, refl)

text_ending : (ts : List Token) (q : Position) (p more raw y : Text) → message_run (before_message before_prolog) ts ≡ Ok q → Written (text raw y) (p ++ more) → MayFollow ts (text raw y) → Ending ts q p more
text_ending ts q p more raw y e w m =
    let x : Text = (p ++ more) ++ 120 ∷ [] in
    let i : p ++ (more ++ 120 ∷ codes "<a>") ≡ x ++ codes "<a>" = sym (append_assoc p more (120 ∷ codes "<a>")) ∙ sym (append_assoc (p ++ more) (120 ∷ []) (codes "<a>")) in
    record {
      token = text x (y ++ 120 ∷ []);
      behind = a_tag ∷ [];
      more = more ++ 120 ∷ codes "<a>";
      last = text_last ts q x (y ++ 120 ∷ []) e (m.0, λ o. still_no_mark (p ++ more) 120 (subst (λ (z : Text). meets_mark z ≡ false) w.2 (m.1 o)) refl);
      unfinished = text_unfinished (text x (y ++ 120 ∷ [])) more;
      written = (x, codes "<a>", (some_behind (p ++ more) 120, writes_more w.1, refl), refl, i, a_written);
      extends = (120 ∷ codes "<a>", refl);
    }

other_ending : (ts : List Token) (q : Position) (p more : List ℕ) (t : Token) → Last q t [] → is_empty more ≡ false → Ends t [] [] → Written t (p ++ more) → Ending ts q p more
other_ending ts q p more t last s e w = record { token = t; behind = []; more = more; last = last; unfinished = nothing_written t more s; written = one_written t p more e w; extends = ([], sym (append-nil more)) }

pub ending : (ts : List Token) (q : Position) (p : List ℕ) → message_run (before_message before_prolog) ts ≡ Ok q → (b : BeginsToken ts p) → Ending ts q p b.more
ending ts q p e b = go b.token b.unfinished b.written b.may_follow
  where
    go : (t : Token) → (is_text t || not (is_empty b.more)) ≡ true → Written t (p ++ b.more) → MayFollow ts t → Ending ts q p b.more
    go (text raw y) u w m = text_ending ts q p b.more raw y e w m
    go (tail x) u w m = other_ending ts q p b.more (tail x) (tail_last ts q x e m) (not_empty (is_empty b.more) u) tt w
    go (open_tag n g raw) u w m = other_ending ts q p b.more (open_tag n g raw) (other_last ts q (open_tag n g raw) e m tt tt) (not_empty (is_empty b.more) u) tt w
    go (empty_tag n g raw) u w m = other_ending ts q p b.more (empty_tag n g raw) (other_last ts q (empty_tag n g raw) e m tt tt) (not_empty (is_empty b.more) u) tt w
    go (close_tag n) u w m = other_ending ts q p b.more (close_tag n) (other_last ts q (close_tag n) e m tt tt) (not_empty (is_empty b.more) u) tt w
    go mark u w m = other_ending ts q p b.more mark (other_last ts q mark e m.0 (outside_from ts before_prolog q e ∙ m.1) tt) (not_empty (is_empty b.more) u) tt w
    go declaration u w m = other_ending ts q p b.more declaration (other_last ts q declaration e m tt tt) (not_empty (is_empty b.more) u) tt w

-- Characters that are alive are read.
pub alive_runs : (c : List ℕ) → IsAlive c → (w : Spot) × (char_run opening_spot c ≡ Some w)
alive_runs c a =
    let m = a.message in
    let r = message_begins_run before_prolog a.tokens (m.0 ∷ m.1, m.2, m.3) in
    let d = ending a.tokens r.0 a.part r.1 a.begins in
    let w : WritesTokens (a.tokens ++ d.token ∷ d.behind) (c ++ d.more) =
    subst (λ (z : List ℕ). WritesTokens (a.tokens ++ d.token ∷ d.behind) z) (sym (append_assoc a.front a.part d.more) ∙ ap (λ (z : List ℕ). z ++ d.more) (sym a.whole)) (fronts_write a.tokens (d.token ∷ d.behind) a.front a.part d.more a.fronts d.written) in
    let g = going c d.more d.token d.behind r.0 d.last d.unfinished (before_message before_prolog) begin [] a.tokens refl refl r.1 w in
    (g.spot, g.is)
