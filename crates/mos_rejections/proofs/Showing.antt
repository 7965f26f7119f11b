-- What shows a fault is what the machine rejects.
use Rattle.std.proofs.Common.{◌≡◌, ℕ, ◌-◌, ◌<◌, Bool, true, false, codes, List, [], ◌∷◌, ◌++◌, length, Option, Some, None, Result, Ok, Err, refl, sym, ap, subst, ◌∙◌, append_assoc, arith, ◌⊎◌, inl, inr}
use Rattle.std.proofs.lemmas.List.{append-nil, append_cancel_right}
use Rattle.mos_fields.specs.Characters.{Text, is_allowed}
use Rattle.mos_tables.specs.Events.{Event}
use Rattle.mos_grammar.specs.Tokens.{Token, open_tag, empty_tag, close_tag, text, tail, mark, declaration}
use Rattle.mos_grammar.specs.declared.fault.Fault.{Fault}
use Rattle.mos_grammar.specs.RecordMachine.{complete}
use Rattle.mos_grammar.specs.Streams.{before_prolog, Position, before_message, inside, message_step, message_run}
use Rattle.mos_lexer.specs.declared.kind.Kind.{Kind}
use Rattle.mos_lexer.specs.declared.kind.Kind.TheVariants as kinds
use Rattle.mos_lexer.specs.Encodings.{EncodesChars}
use Rattle.mos_lexer.specs.Lexing.{byte_order_mark, WritesTokens, Written, Ends}
use Rattle.mos_lexer.specs.LexMachine.{LexState, LexStep, continues, whole_token, text_before, text_before_mark, no_token, no_reference, lex_step}
use Rattle.mos_lexer.specs.Units.{kind_of, is_outside, lex_at, Reader, UnitStep, reads_on, completes, rejects, lexed, read_char}
use Rattle.mos_lexer.proofs.Lexer.{LexTakes, from_tag}
use Rattle.mos_lexer.proofs.Forward.{lex_forward}
use Rattle.mos_lexer.proofs.References.{reference_laws}
use Rattle.mos_lexer.proofs.Chars.{Spot, behind_token, rests, taken, char_of, run_message}
use Rattle.mos_lexer.proofs.Places.{IsOpenAt, Agrees, read_agrees, OpenStep, read_open}
use Rattle.mos_lexer.proofs.UnitReads.{run_push}
use Rattle.mos_rejections.specs.Alive.{IsOpenMessage, Fronts, MayFollow, is_text, IsAlive}
use Rattle.mos_rejections.specs.Rejections.{StandsAt}
use Rattle.mos_rejections.proofs.Shape.{StepSound, step_sound, not_text}
use Rattle.mos_rejections.proofs.Running.{Last, fitting_at, first_read, run_nothing, head_is}
use Rattle.mos_rejections.proofs.AliveRuns.{tail_read, outside_from, fronts_write, a_tag, a_length, a_written, text_last, other_last}
use Rattle.mos_rejections.proofs.Reaching.{Reached, alive_at}
use Rattle.mos_rejections.proofs.Reading.{width_of, next_reached, open_or_complete}
use Rattle.mos_rejections.proofs.OpenReads.{not_complete}
use Rattle.mos_rejections.proofs.OneFront.{spelled, spelled_one}
use Rattle.mos_rejections.proofs.Standing.{IsAhead, Led, lead}

-- The machine's step rejects, behind these characters and as this kind.
abbrev pub Refused : Position → List ℕ → List ℕ → LexStep → List ℕ → Kind → Type 0
Refused p front c (continues l) f k = ⊥
Refused p front c (whole_token t) f k = (j : Fault) × (message_step p t ≡ Err j) × (k ≡ kind_of j) × (f ≡ front)
Refused p front c (text_before raw y l) f k = (j : Fault) × (message_step p (text raw y) ≡ Err j) × (k ≡ kind_of j) × (f ≡ front)
Refused p front c (text_before_mark raw y) f k = (u : Position) × (j : Fault) × (message_step p (text raw y) ≡ Ok u) × (message_step u mark ≡ Err j) × (k ≡ kind_of j) × (f ≡ c)
Refused p front c no_token f k = (k ≡ kinds.Tag) × (f ≡ front)
Refused p front c (no_reference n) f k = (k ≡ kinds.Entity) × (width_of c - n ≡ width_of f)

-- so the reader rejects at that place
pub refused_lexed : (s : Reader) (count : ℕ) (front c f : List ℕ) (k : Kind) (o : LexStep) → s.start ≡ width_of front → s.count ≡ width_of c → Refused s.position front c o f k → lexed s s.count count o ≡ rejects (width_of f) k
refused_lexed s count front c f k (continues l) a n r = absurd r
refused_lexed s count front c f k (whole_token t) a n r = rw r.1 (ap (λ (z : ℕ). rejects z (kind_of r.0)) (a ∙ ap width_of (sym r.3)) ∙ ap (rejects (width_of f)) (sym r.2))
refused_lexed s count front c f k (text_before raw y l) a n r = rw r.1 (ap (λ (z : ℕ). rejects z (kind_of r.0)) (a ∙ ap width_of (sym r.3)) ∙ ap (rejects (width_of f)) (sym r.2))
refused_lexed s count front c f k (text_before_mark raw y) a n r = rw (r.2, r.3) (ap (λ (z : ℕ). rejects z (kind_of r.1)) (n ∙ ap width_of (sym r.5)) ∙ ap (rejects (width_of f)) (sym r.4))
refused_lexed s count front c f k no_token a n r = ap (λ (z : ℕ). rejects z kinds.Tag) (a ∙ ap width_of (sym r.1)) ∙ ap (rejects (width_of f)) (sym r.0)
refused_lexed s count front c f k (no_reference i) a n r = ap (λ (z : ℕ). rejects (z - i) kinds.Entity) n ∙ ap (λ (z : ℕ). rejects z kinds.Entity) r.1 ∙ ap (rejects (width_of f)) (sym r.0)

-- ---- where the machine stops

-- the machine reads no further
abbrev pub Stops : List ℕ → ℕ → Type 0
Stops c d = (p : Position) (l : LexState) (front : List ℕ) → Reached c p l front → (w : Spot) → char_of p l d ≡ Some w → ⊥

pub stops : (c : List ℕ) (d : ℕ) → is_allowed d ≡ true → (IsAlive (c ++ d ∷ []) → ⊥) → ((v : List Event) → EncodesChars v (c ++ d ∷ []) → ⊥) → Stops c d
stops c d a dead none p l front h w e = go (read_char s 0 0 d) (subst (λ (z : Option Spot). Agrees z 0 (read_char s 0 0 d)) e (read_agrees s 0 0 d a)) (read_open s 0 0 d h.open_at)
  where
    s : Reader
    s = record { position = p; lex = l; start = 0; opened = 0; count = 0; high = None }

    go : (x : UnitStep) → Agrees (Some w) 0 x → OpenStep x → ⊥
    go (reads_on t) g o =
        let n = next_reached c p l front h d w e (subst (λ (z : Spot). IsOpenAt z.position) (sym g.0) o) in
        dead (alive_at (c ++ d ∷ []) w.position w.lex n.front n.reached)
    go (completes began v) g o = none v (run_message v (c ++ d ∷ []) (run_push c d (record { position = p; lex = l }) h.stood ∙ e ∙ ap (λ (z : Spot). Some z) g))
    go (rejects place k) g o = g

-- where the machine stands is one place
pub same_reached : (c : List ℕ) (p q : Position) (l m : LexState) (f g : List ℕ) → Reached c p l f → Reached c q m g → (p ≡ q) × (l ≡ m) × (f ≡ g)
same_reached c p q l m f g a b =
    let e : record { position = p; lex = l } ≡ record { position = q; lex = m } = spot_is (record { position = p; lex = l }) (record { position = q; lex = m }) (sym a.stood ∙ b.stood) in
    (ap (λ (z : Spot). z.position) e, ap (λ (z : Spot). z.lex) e, sym a.begins_at ∙ b.begins_at)
  where
    spot_is : (a b : Spot) → ◌≡◌ {A = Option Spot} (Some a) (Some b) → a ≡ b
    spot_is a b e = cc

-- what the machine's step comes to, wherever it stands behind these characters
abbrev pub Answer : List ℕ → ℕ → List ℕ → Kind → Type 0
Answer c d f k = (p : Position) (l : LexState) (front : List ℕ) → Reached c p l front → Refused p front c (lex_step (is_outside p) l d) f k

pub answer : (c : List ℕ) (d : ℕ) (f : List ℕ) (k : Kind) (p : Position) (l : LexState) (front : List ℕ) → Reached c p l front → Refused p front c (lex_step (is_outside p) l d) f k → Answer c d f k
answer c d f k p l front h r q m g j =
    let e = same_reached c p q l m front g h j in
    subst (λ (z : List ℕ). Refused q z c (lex_step (is_outside q) m d) f k) e.2 (subst (λ (z : LexState). Refused q front c (lex_step (is_outside q) z d) f k) e.1 (subst (λ (z : Position). Refused z front c (lex_step (is_outside z) l d) f k) e.0 r))

pub open_at : (ts : List Token) (p : Position) → IsOpenMessage ts → message_run (before_message before_prolog) ts ≡ Ok p → IsOpenAt p
open_at ts p m e = go (open_or_complete p)
  where
    go : IsOpenAt p ⊎ ((v : List Event) × (p ≡ inside (complete v))) → IsOpenAt p
    go (inl o) = o
    go (inr k) = absurd (not_complete ts k.0 m (e ∙ ap (λ (z : Position). Ok z) k.1))

pub ok_err : {A : Type 0} (u : Position) (k : Fault) (o : Result Position Fault) → o ≡ Ok u → o ≡ Err k → A
ok_err u k o a b = absurd (no (sym a ∙ b))
  where
    no : ◌≡◌ {A = Result Position Fault} (Ok u) (Err k) → ⊥
    no e = cc

pub no_both : {A : Type 0} (b : Bool) → b ≡ true → b ≡ false → A
no_both true h k = absurd cc
no_both false h k = absurd cc

-- a token that fits is read
pub token_taken : (p u : Position) (l : LexState) (d : ℕ) (t : Token) → lex_step (is_outside p) l d ≡ whole_token t → message_step p t ≡ Ok u → (w : Spot) × (char_of p l d ≡ Some w)
token_taken p u l d t i e = (record { position = u; lex = lex_at u }, ap (taken p) i ∙ ap (λ (o : Result Position Fault). behind_token o rests) e)

pub text_taken : (p u : Position) (l k : LexState) (d : ℕ) (raw y : Text) → lex_step (is_outside p) l d ≡ text_before raw y k → message_step p (text raw y) ≡ Ok u → (w : Spot) × (char_of p l d ≡ Some w)
text_taken p u l k d raw y i e = (record { position = u; lex = k }, ap (taken p) i ∙ ap (λ (o : Result Position Fault). behind_token o (λ q. Some (record { position = q; lex = k }))) e)

pub mark_taken : (p u q : Position) (l : LexState) (d : ℕ) (raw y : Text) → lex_step (is_outside p) l d ≡ text_before_mark raw y → message_step p (text raw y) ≡ Ok u → message_step u mark ≡ Ok q → (w : Spot) × (char_of p l d ≡ Some w)
mark_taken p u q l d raw y i e j = (record { position = q; lex = lex_at q }, ap (taken p) i ∙ ap (λ (o : Result Position Fault). behind_token o (λ w. behind_token (message_step w mark) rests)) e ∙ ap (λ (o : Result Position Fault). behind_token o rests) j)

-- ---- what is led through the same tokens has the same front

pub led_front : (c more : List ℕ) (t : Token) (us : List Token) (q : Position) (ts : List Token) (d : Led c more t us q ts) → d.left ≡ [] → (front x more2 : List ℕ) → Fronts ts front x → c ++ more2 ≡ front ++ x → (front ≡ d.front) × (d.position ≡ q)
led_front c more t us q ts d none front x more2 f e =
    let h = d.reached in
    let i : h.tokens ≡ ts = sym (append-nil h.tokens) ∙ ap (λ (z : List Token). h.tokens ++ z) (sym none) ∙ d.all in
    let s = spelled_one ts front d.front x (h.part ++ more2) (spelled ts front x f) (spelled ts d.front h.part (subst (λ (z : List Token). Fronts z d.front h.part) i h.fronts))
    (sym e ∙ ap (λ (z : List ℕ). z ++ more2) h.whole ∙ append_assoc d.front h.part more2) in
    (s.0, run_nothing d.position q (subst (λ (z : List Token). message_run d.position z ≡ Ok q) none d.run))

-- ---- a token that does not fit

ends_alone : (t : Token) → is_text t ≡ false → Ends t [] []
ends_alone (open_tag n g raw) h = tt
ends_alone (empty_tag n g raw) h = tt
ends_alone (close_tag n) h = tt
ends_alone (text raw y) h = no_both true refl h
ends_alone (tail x) h = tt
ends_alone mark h = tt
ends_alone declaration h = tt

misfit_last : (ts : List Token) (p : Position) (t : Token) (j : Fault) → message_run (before_message before_prolog) ts ≡ Ok p → is_text t ≡ false → MayFollow ts t → message_step p t ≡ Err j → Last p t []
misfit_last ts p (open_tag n g raw) j e h m r = other_last ts p (open_tag n g raw) e m tt tt
misfit_last ts p (empty_tag n g raw) j e h m r = other_last ts p (empty_tag n g raw) e m tt tt
misfit_last ts p (close_tag n) j e h m r = other_last ts p (close_tag n) e m tt tt
misfit_last ts p (text raw y) j e h m r = no_both true refl h
misfit_last ts p (tail x) j e h m r = let k = tail_read ts p x e m in ok_err k.0 j (message_step p (tail x)) k.1 r
misfit_last ts p mark j e h m r = other_last ts p mark e m.0 (outside_from ts before_prolog p e ∙ m.1) tt
misfit_last ts p declaration j e h m r = other_last ts p declaration e m tt tt

ahead_one : (t : Token) (d : ℕ) → IsAhead t [] (d ∷ [])
ahead_one t d = record { whole = λ n r w. empty_short r w; tag = λ r w. absurd (no_nil 60 r (from_tag r [] w)); marked = λ vs r k w. absurd (no_token_nil vs k) }
  where
    empty_short : (r : List ℕ) → r ≡ [] → length r < length (d ∷ [])
    empty_short r e = rw e (omega arith)

    no_nil : (a : ℕ) (r : List ℕ) → ◌≡◌ {A = List ℕ} (a ∷ r) [] → ⊥
    no_nil a r e = cc

    no_token_nil : (vs : List Token) → ◌≡◌ {A = List Token} [] (mark ∷ vs) → ⊥
    no_token_nil vs e = cc

pub misfit_answer : (c : List ℕ) (d : ℕ) → Stops c d → (ts : List Token) (front x : List ℕ) (t : Token) (p : Position) (j : Fault) → StandsAt ts front x (c ++ d ∷ []) p → Written t x → is_text t ≡ false → MayFollow ts t → message_step p t ≡ Err j
    → Answer c d front (kind_of j)
misfit_answer c d st ts front x t p j s w nt m e = answer c d front (kind_of j) led.position led.lex led.front led.reached
    (go (lex_step (is_outside led.position) led.lex d) refl (step_sound (is_outside led.position) led.lex h.part d h.sound) takes)
  where
    last : Last p t []
    last = misfit_last ts p t j s.ran nt m e

    written : WritesTokens (ts ++ t ∷ []) (c ++ d ∷ [])
    written = subst (λ (z : List ℕ). WritesTokens (ts ++ t ∷ []) z) (ap (λ (z : List ℕ). front ++ z) (append-nil x) ∙ sym s.whole) (fronts_write ts (t ∷ []) front x [] s.fronts (x, [], w, ends_alone t nt, refl, refl))

    led : Led c (d ∷ []) t [] p ts
    led = lead c (d ∷ []) t [] p ts last (ahead_one t d) (open_at ts p s.message s.ran) s.ran written

    h : Reached c led.position led.lex led.front
    h = led.reached

    takes : LexTakes (lex_step (is_outside led.position) led.lex d) [] (led.left ++ t ∷ [])
    takes = lex_forward reference_laws (is_outside led.position) led.lex d [] (led.left ++ t ∷ []) (fitting_at led.position p led.lex led.left t [] led.fits led.run last) led.rest

    stopped : {A : Type 0} → (w : Spot) × (char_of led.position led.lex d ≡ Some w) → A
    stopped k = absurd (st led.position led.lex led.front h k.0 k.1)

    run_of : (left : List Token) → led.left ≡ left → message_run led.position left ≡ Ok p
    run_of left i = subst (λ (z : List Token). message_run led.position z ≡ Ok p) i led.run

    whole : (k : Token) (us : List Token) → lex_step (is_outside led.position) led.lex d ≡ whole_token k → (left : List Token) → led.left ≡ left → left ++ t ∷ [] ≡ k ∷ us → Refused led.position led.front c (whole_token k) front (kind_of j)
    whole k us i [] l n =
        let f = led_front c (d ∷ []) t [] p ts led l front x (d ∷ []) s.fronts s.whole in
        (j, ap (message_step led.position) (sym (head_is t k [] us n).0) ∙ ap (λ (z : Position). message_step z t) f.1 ∙ e, refl, f.0)
    whole k us i (a ∷ rs) l n =
        let r = first_read a rs led.position p (run_of (a ∷ rs) l) in
        stopped (token_taken led.position r.0 led.lex d k i (ap (message_step led.position) (sym (head_is a k (rs ++ t ∷ []) us n).0) ∙ r.1))

    behind_text : (raw y : Text) (k : LexState) (us : List Token) → lex_step (is_outside led.position) led.lex d ≡ text_before raw y k → (left : List Token) → led.left ≡ left → left ++ t ∷ [] ≡ text raw y ∷ us → Refused led.position led.front c (text_before raw y k) front (kind_of j)
    behind_text raw y k us i [] l n = no_both (is_text t) (ap is_text (head_is t (text raw y) [] us n).0) nt
    behind_text raw y k us i (a ∷ rs) l n =
        let r = first_read a rs led.position p (run_of (a ∷ rs) l) in
        stopped (text_taken led.position r.0 led.lex k d raw y i (ap (message_step led.position) (sym (head_is a (text raw y) (rs ++ t ∷ []) us n).0) ∙ r.1))

    mark_front : t ≡ mark → d ≡ byte_order_mark → front ≡ c
    mark_front i b =
        let v : x ≡ byte_order_mark ∷ [] = subst (λ (z : Token). Written z x) i w in
        append_cancel_right front c (byte_order_mark ∷ []) (ap (λ (z : List ℕ). front ++ z) (sym v) ∙ sym s.whole ∙ ap (λ (z : ℕ). c ++ z ∷ []) b)

    behind_mark : (raw y : Text) (us : List Token) → lex_step (is_outside led.position) led.lex d ≡ text_before_mark raw y → d ≡ byte_order_mark → (left : List Token) → led.left ≡ left → left ++ t ∷ [] ≡ text raw y ∷ (mark ∷ us)
        → Refused led.position led.front c (text_before_mark raw y) front (kind_of j)
    behind_mark raw y us i b [] l n = no_both (is_text t) (ap is_text (head_is t (text raw y) [] (mark ∷ us) n).0) nt
    behind_mark raw y us i b (a ∷ []) l n =
        let k = head_is a (text raw y) (t ∷ []) (mark ∷ us) n in
        let o = head_is t mark [] us k.1 in
        let r = first_read a [] led.position p (run_of (a ∷ []) l) in
        (r.0, j, ap (message_step led.position) (sym k.0) ∙ r.1, ap (λ (z : Position). message_step z mark) (run_nothing r.0 p r.2) ∙ ap (message_step p) (sym o.0) ∙ e, refl, mark_front o.0 b)
    behind_mark raw y us i b (a ∷ a2 ∷ rs) l n =
        let k = head_is a (text raw y) (a2 ∷ (rs ++ t ∷ [])) (mark ∷ us) n in
        let o = head_is a2 mark (rs ++ t ∷ []) us k.1 in
        let r = first_read a (a2 ∷ rs) led.position p (run_of (a ∷ a2 ∷ rs) l) in
        let r2 = first_read a2 rs r.0 p r.2 in
        stopped (mark_taken led.position r.0 r2.0 led.lex d raw y i (ap (message_step led.position) (sym k.0) ∙ r.1) (ap (message_step r.0) (sym o.0) ∙ r2.1))

    go : (o : LexStep) → lex_step (is_outside led.position) led.lex d ≡ o → StepSound (is_outside led.position) led.lex h.part d o → LexTakes o [] (led.left ++ t ∷ []) → Refused led.position led.front c o front (kind_of j)
    go (continues k) i a n = stopped (record { position = led.position; lex = k }, ap (taken led.position) i)
    go (whole_token k) i a n = whole k n.0 i led.left refl n.1
    go (text_before raw y k) i a n = behind_text raw y k n.0 i led.left refl n.1
    go (text_before_mark raw y) i a n = behind_mark raw y n.0 i a.0 led.left refl n.1
    go no_token i a n = absurd n
    go (no_reference k) i a n = absurd n

-- ---- a text that does not fit

ahead_text : (raw y : Text) → IsAhead (text raw y) (a_tag ∷ []) (codes "<a>")
ahead_text raw y = record { whole = λ n r w. no_both true refl n; tag = λ r w. (let i : length (60 ∷ r) ≡ 3 = a_length (60 ∷ r) (from_tag r (a_tag ∷ []) w) in omega (arith, i)); marked = λ vs r k w. absurd (no_mark vs k) }
  where
    no_mark : (vs : List Token) → a_tag ∷ [] ≡ mark ∷ vs → ⊥
    no_mark vs e = cc

pub no_char : {A : Type 0} (d : ℕ) → d ≡ 60 → d ≡ byte_order_mark → A
no_char d i j = absurd (no (sym i ∙ j))
  where
    no : ◌≡◌ {A = ℕ} 60 byte_order_mark → ⊥
    no e = cc

pub misfit_text_answer : (c : List ℕ) → Stops c 60 → (ts : List Token) (front x raw y : List ℕ) (p : Position) (j : Fault) → StandsAt ts front x c p → Written (text raw y) x → MayFollow ts (text raw y) → message_step p (text raw y) ≡ Err j
    → Answer c 60 front (kind_of j)
misfit_text_answer c st ts front x raw y p j s w m e = answer c 60 front (kind_of j) led.position led.lex led.front led.reached
    (go (lex_step (is_outside led.position) led.lex 60) refl (step_sound (is_outside led.position) led.lex h.part 60 h.sound) takes)
  where
    last : Last p (text raw y) (a_tag ∷ [])
    last = text_last ts p raw y s.ran m

    written : WritesTokens (ts ++ text raw y ∷ a_tag ∷ []) (c ++ codes "<a>")
    written = subst (λ (z : List ℕ). WritesTokens (ts ++ text raw y ∷ a_tag ∷ []) z) (sym (append_assoc front x (codes "<a>")) ∙ ap (λ (z : List ℕ). z ++ codes "<a>") (sym s.whole))
        (fronts_write ts (text raw y ∷ a_tag ∷ []) front x (codes "<a>") s.fronts (x, codes "<a>", w, refl, refl, a_written))

    led : Led c (codes "<a>") (text raw y) (a_tag ∷ []) p ts
    led = lead c (codes "<a>") (text raw y) (a_tag ∷ []) p ts last (ahead_text raw y) (open_at ts p s.message s.ran) s.ran written

    h : Reached c led.position led.lex led.front
    h = led.reached

    takes : LexTakes (lex_step (is_outside led.position) led.lex 60) (codes "a>") (led.left ++ text raw y ∷ a_tag ∷ [])
    takes = lex_forward reference_laws (is_outside led.position) led.lex 60 (codes "a>") (led.left ++ text raw y ∷ a_tag ∷ []) (fitting_at led.position p led.lex led.left (text raw y) (a_tag ∷ []) led.fits led.run last) led.rest

    stopped : {A : Type 0} → (w : Spot) × (char_of led.position led.lex 60 ≡ Some w) → A
    stopped k = absurd (st led.position led.lex led.front h k.0 k.1)

    run_of : (left : List Token) → led.left ≡ left → message_run led.position left ≡ Ok p
    run_of left i = subst (λ (z : List Token). message_run led.position z ≡ Ok p) i led.run

    whole : (k : Token) (us : List Token) → lex_step (is_outside led.position) led.lex 60 ≡ whole_token k → is_text k ≡ false → (left : List Token) → led.left ≡ left → left ++ text raw y ∷ a_tag ∷ [] ≡ k ∷ us → Refused led.position led.front c (whole_token k) front (kind_of j)
    whole k us i nt [] l n = no_both (is_text k) (ap is_text (sym (head_is (text raw y) k (a_tag ∷ []) us n).0)) nt
    whole k us i nt (a ∷ rs) l n =
        let r = first_read a rs led.position p (run_of (a ∷ rs) l) in
        stopped (token_taken led.position r.0 led.lex 60 k i (ap (message_step led.position) (sym (head_is a k (rs ++ text raw y ∷ a_tag ∷ []) us n).0) ∙ r.1))

    behind_text : (raw2 y2 : Text) (k : LexState) (us : List Token) → lex_step (is_outside led.position) led.lex 60 ≡ text_before raw2 y2 k → (left : List Token) → led.left ≡ left → left ++ text raw y ∷ a_tag ∷ [] ≡ text raw2 y2 ∷ us
        → Refused led.position led.front c (text_before raw2 y2 k) front (kind_of j)
    behind_text raw2 y2 k us i [] l n =
        let f = led_front c (codes "<a>") (text raw y) (a_tag ∷ []) p ts led l front x [] s.fronts (append-nil c ∙ s.whole) in
        (j, ap (message_step led.position) (sym (head_is (text raw y) (text raw2 y2) (a_tag ∷ []) us n).0) ∙ ap (λ (z : Position). message_step z (text raw y)) f.1 ∙ e, refl, f.0)
    behind_text raw2 y2 k us i (a ∷ rs) l n =
        let r = first_read a rs led.position p (run_of (a ∷ rs) l) in
        stopped (text_taken led.position r.0 led.lex k 60 raw2 y2 i (ap (message_step led.position) (sym (head_is a (text raw2 y2) (rs ++ text raw y ∷ a_tag ∷ []) us n).0) ∙ r.1))

    go : (o : LexStep) → lex_step (is_outside led.position) led.lex 60 ≡ o → StepSound (is_outside led.position) led.lex h.part 60 o → LexTakes o (codes "a>") (led.left ++ text raw y ∷ a_tag ∷ []) → Refused led.position led.front c o front (kind_of j)
    go (continues k) i a n = stopped (record { position = led.position; lex = k }, ap (taken led.position) i)
    go (whole_token k) i a n = whole k n.0 i (not_text (is_outside led.position) led.lex h.part 60 k a) led.left refl n.1
    go (text_before raw2 y2 k) i a n = behind_text raw2 y2 k n.0 i led.left refl n.1
    go (text_before_mark raw2 y2) i a n = no_char 60 refl a.0
    go no_token i a n = absurd n
    go (no_reference k) i a n = absurd n
