-- A stream is read message after message.
use Rattle.std.proofs.Common.{◌≡◌, ℕ, suc, ◌+◌, ◌-◌, ◌<◌, ◌≤◌, Bool, true, false, cond, List, [], ◌∷◌, ◌++◌, length, Result, Ok, Err, refl, sym, ap, ◌∙◌, subst, arith}
use Rattle.std.specs.Prelude.{Option, Some, None, nat_le, ⊤}
use Rattle.mos_fields.specs.Characters.{is_allowed, is_high, is_low, pair_char}
use Rattle.mos_tables.specs.Events.{Event}
use Rattle.mos_grammar.specs.Tokens.{text, mark}
use Rattle.mos_grammar.specs.declared.fault.Fault.{Fault}
use Rattle.mos_grammar.specs.RecordMachine.{at, complete}
use Rattle.mos_grammar.specs.Streams.{Position, before_message, inside, message_step}
use Rattle.mos_lexer.specs.declared.kind.Kind.{Kind}
use Rattle.mos_lexer.specs.declared.kind.Kind.TheVariants as kinds
use Rattle.mos_lexer.specs.LexMachine.{LexState, LexStep, continues, whole_token, text_before, text_before_mark, no_token, no_reference, lex_step}
use Rattle.mos_lexer.specs.Units.{Reader, start_reader, UnitStep, reads_on, completes, rejects, UnitRun, still_reads, completed, rejected_at, message_limit, is_outside, lex_at, behind, opened_by, at_token, rests, lexed, read_char, unit_read, too_long, unit_step, then_units, unit_run, Found, StreamReader, StreamRun, reads_stream, rejects_stream, then_stream, stream_units}
use Rattle.mos_decoder.specs.Bytes.{front}

-- ---- each code unit is counted

abbrev Counted : UnitStep → ℕ → Type 0
Counted (reads_on t) n = t.count ≡ n
Counted (completes began v) n = ⊤
Counted (rejects place k) n = ⊤

behind_counts : (opened start count : ℕ) (l : LexState) (p : Position) → Counted (behind opened start count l p) count
behind_counts opened start count l (before_message g) = refl
behind_counts opened start count l (inside (at m f fs)) = refl
behind_counts opened start count l (inside (complete v)) = tt

token_counts : (place count : ℕ) (w : Result Position Fault) (f : Position → UnitStep) → ((p : Position) → Counted (f p) count) → Counted (at_token place w f) count
token_counts place count (Ok p) f h = h p
token_counts place count (Err k) f h = tt

lexed_counts : (s : Reader) (place count : ℕ) (x : LexStep) → Counted (lexed s place count x) count
lexed_counts s place count (continues l) = refl
lexed_counts s place count (whole_token t) = token_counts s.start count (message_step s.position t) (rests (opened_by s) count) (λ p. behind_counts (opened_by s) count count (lex_at p) p)
lexed_counts s place count (text_before raw y l) = token_counts s.start count (message_step s.position (text raw y)) (behind (opened_by s) place count l) (λ p. behind_counts (opened_by s) place count l p)
lexed_counts s place count (text_before_mark raw y) =
    token_counts s.start count (message_step s.position (text raw y)) (λ p. at_token place (message_step p mark) (rests place count))
    (λ p. token_counts place count (message_step p mark) (rests place count) (λ q. behind_counts place count count (lex_at q) q))
lexed_counts s place count no_token = tt
lexed_counts s place count (no_reference k) = tt

if_counts : (b : Bool) (x y : UnitStep) (n : ℕ) → Counted x n → Counted y n → Counted (cond b x y) n
if_counts true x y n h k = h
if_counts false x y n h k = k

char_counts : (s : Reader) (place count c : ℕ) → Counted (read_char s place count c) count
char_counts s place count c = if_counts (is_allowed c) (lexed s place count (lex_step (is_outside s.position) s.lex c)) (rejects place kinds.BadChar) count (lexed_counts s place count (lex_step (is_outside s.position) s.lex c)) tt

read_counts : (s : Reader) (u : ℕ) (h : Option ℕ) → Counted (unit_read s u h) (s.count + 1)
read_counts s u None =
    if_counts (is_high u) (reads_on (record { position = s.position; lex = s.lex; start = s.start; opened = s.opened; count = s.count + 1; high = Some u }))
    (cond (is_low u) (rejects s.count kinds.BadUnit) (read_char s s.count (s.count + 1) u)) (s.count + 1) refl
    (if_counts (is_low u) (rejects s.count kinds.BadUnit) (read_char s s.count (s.count + 1) u) (s.count + 1) tt (char_counts s s.count (s.count + 1) u))
read_counts s u (Some h) =
    if_counts (is_low u) (read_char s (s.count - 1) (s.count + 1) (pair_char h u)) (rejects (s.count - 1) kinds.BadUnit) (s.count + 1) (char_counts s (s.count - 1) (s.count + 1) (pair_char h u)) tt

long_counts : (s : Reader) (r : UnitStep) (n : ℕ) → Counted r n → Counted (too_long s r) n
long_counts s (reads_on t) n h = if_counts (nat_le message_limit s.count) (rejects message_limit kinds.TooLong) (reads_on t) n tt h
long_counts s (completes began v) n h = if_counts (nat_le message_limit s.count) (rejects message_limit kinds.TooLong) (completes began v) n tt tt
long_counts s (rejects place k) n h = tt

step_counts : (s : Reader) (u : ℕ) → Counted (unit_step s u) (s.count + 1)
unfolding unit_step
step_counts s u = long_counts s (unit_read s u s.high) (s.count + 1) (read_counts s u s.high)

-- ---- a message, and the stream behind it

abbrev pub at_reader : List Found → ℕ → Reader → StreamReader
at_reader ready base r = record { ready = ready; base = base; reader = r }

pub record HandsOut (ready : List Found) (base began count : ℕ) (v : List Event) (run : StreamRun) (us rest : List ℕ) : Type 0 where
  pub same : run ≡ stream_units (front (ready ++ record { began = base + began; value = v } ∷ []) (base + (count + (length us - length rest)))) rest
  pub left : length rest < length us

completed_same : (a b : ℕ) (v w : List Event) (x y : List ℕ) → completed a v x ≡ completed b w y → (a ≡ b) × (v ≡ w) × (x ≡ y)
completed_same a b v w x y e = (cc, cc, cc)

hands_out : (us : List ℕ) (s : Reader) (ready : List Found) (base began : ℕ) (v : List Event) (rest : List ℕ) → unit_run s us ≡ completed began v rest
    → HandsOut ready base began s.count v (stream_units (at_reader ready base s) us) us rest
unfolding unit_run stream_units
hands_out [] s ready base began v rest e = absurd (cc)
hands_out (u ∷ us) s ready base began v rest e = go (λ t. hands_out us t ready base began v rest) (unit_step s u) (step_counts s u) e
  where
    go : ((t : Reader) → unit_run t us ≡ completed began v rest → HandsOut ready base began t.count v (stream_units (at_reader ready base t) us) us rest)
        → (o : UnitStep) → Counted o (s.count + 1) → then_units o us (λ t. unit_run t us) ≡ completed began v rest
        → HandsOut ready base began s.count v (then_stream (at_reader ready base s) o (λ t. stream_units t us)) (u ∷ us) rest
    go f (reads_on t) n e =
        let h = f t e in
        let l = h.left in
        let k : t.count + (length us - length rest) ≡ s.count + (suc (length us) - length rest) = omega (arith, n, l) in
        record {
          same = h.same ∙ ap (λ z. stream_units (front (ready ++ record { began = base + began; value = v } ∷ []) (base + z)) rest) k;
          left = omega (arith, l);
        }
    go f (completes a w) n e =
        let p = completed_same a began w v us rest e in
        let k : s.count + 1 ≡ s.count + (suc (length us) - length us) = omega arith in
        subst (λ z. HandsOut ready base began s.count v (stream_units (front (ready ++ record { began = base + a; value = w } ∷ []) (base + (s.count + 1))) us) (u ∷ us) z) p.2
        (record {
          same =
              ap (λ z. stream_units (front (ready ++ record { began = base + z; value = w } ∷ []) (base + (s.count + 1))) us) p.0
              ∙ (ap (λ z. stream_units (front (ready ++ record { began = base + began; value = z } ∷ []) (base + (s.count + 1))) us) p.1
              ∙ ap (λ z. stream_units (front (ready ++ record { began = base + began; value = v } ∷ []) (base + z)) us) k);
          left = omega arith;
        })
    go f (rejects place k) n e = absurd (cc)

-- A message that is handed out is the next one of the stream, which is read on behind it.
pub message_first : (ready : List Found) (base began : ℕ) (v : List Event) (us rest : List ℕ) → unit_run start_reader us ≡ completed began v rest
    → (stream_units (front ready base) us ≡ stream_units (front (ready ++ record { began = base + began; value = v } ∷ []) (base + (length us - length rest))) rest) × (length rest < length us)
message_first ready base began v us rest e =
    let h = hands_out us start_reader ready base began v rest e in
    (h.same ∙ ap (λ z. stream_units (front (ready ++ record { began = base + began; value = v } ∷ []) (base + z)) rest) (let k : 0 + (length us - length rest) ≡ length us - length rest = omega arith in k), h.left)

rejected_same : (a b : ℕ) (k l : Kind) → rejected_at a k ≡ rejected_at b l → (a ≡ b) × (k ≡ l)
rejected_same a b k l e = (cc, cc)

rejects_at : (us : List ℕ) (s : Reader) (ready : List Found) (base place : ℕ) (k : Kind) → unit_run s us ≡ rejected_at place k → (r : Reader) × (stream_units (at_reader ready base s) us ≡ rejects_stream (at_reader ready base r) (base + place) k)
unfolding unit_run stream_units
rejects_at [] s ready base place k e = absurd (cc)
rejects_at (u ∷ us) s ready base place k e = go (λ t. rejects_at us t ready base place k) (unit_step s u) e
  where
    go : ((t : Reader) → unit_run t us ≡ rejected_at place k → (r : Reader) × (stream_units (at_reader ready base t) us ≡ rejects_stream (at_reader ready base r) (base + place) k))
        → (o : UnitStep) → then_units o us (λ t. unit_run t us) ≡ rejected_at place k
        → (r : Reader) × (then_stream (at_reader ready base s) o (λ t. stream_units t us) ≡ rejects_stream (at_reader ready base r) (base + place) k)
    go f (reads_on t) e = f t e
    go f (completes a w) e = absurd (cc)
    go f (rejects a l) e = let p = rejected_same a place l k e in (s, ap (λ z. rejects_stream (at_reader ready base s) (base + z) l) p.0 ∙ ap (λ z. rejects_stream (at_reader ready base s) (base + place) z) p.1)

-- The stream is rejected where its next message is.
pub rejection_first : (ready : List Found) (base place : ℕ) (k : Kind) (us : List ℕ) → unit_run start_reader us ≡ rejected_at place k
    → (r : Reader) × (stream_units (front ready base) us ≡ rejects_stream (at_reader ready base r) (base + place) k)
rejection_first ready base place k us e = rejects_at us start_reader ready base place k e

still_same : (t r : Reader) → still_reads t ≡ still_reads r → t ≡ r
still_same t r e = cc

waits_at : (us : List ℕ) (s : Reader) (ready : List Found) (base : ℕ) (t : Reader) → unit_run s us ≡ still_reads t → stream_units (at_reader ready base s) us ≡ reads_stream (at_reader ready base t)
unfolding unit_run stream_units
waits_at [] s ready base t e = ap (λ z. reads_stream (at_reader ready base z)) (still_same s t e)
waits_at (u ∷ us) s ready base t e = go (λ r. waits_at us r ready base t) (unit_step s u) e
  where
    go : ((r : Reader) → unit_run r us ≡ still_reads t → stream_units (at_reader ready base r) us ≡ reads_stream (at_reader ready base t))
        → (o : UnitStep) → then_units o us (λ t. unit_run t us) ≡ still_reads t → then_stream (at_reader ready base s) o (λ t. stream_units t us) ≡ reads_stream (at_reader ready base t)
    go f (reads_on r) e = f r e
    go f (completes a w) e = absurd (cc)
    go f (rejects a l) e = absurd (cc)

-- Where more is to come of a message, more is to come of the stream.
pub more_first : (ready : List Found) (base : ℕ) (t : Reader) (us : List ℕ) → unit_run start_reader us ≡ still_reads t → stream_units (front ready base) us ≡ reads_stream (at_reader ready base t)
more_first ready base t us e = waits_at us start_reader ready base t e
