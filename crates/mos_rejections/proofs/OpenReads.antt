-- Code units that begin a message are read on.
use Rattle.std.proofs.Common.{◌≡◌, ℕ, ◌+◌, ◌≤◌, ◌⊎◌, inl, inr, true, false, List, [], ◌∷◌, ◌++◌, length, Option, Some, None, Ok, refl, sym, ap, subst, ◌∙◌, append_assoc, arith}
use Rattle.std.specs.Prelude.{nat_le}
use Rattle.std.specs.Char.Escape.{encode_utf16}
use Rattle.std.proofs.lemmas.List.{length-append}
use Rattle.std.proofs.lemmas.Bool.{and_parts}
use Rattle.mos_fields.specs.Characters.{is_allowed, are_allowed, units_of}
use Rattle.mos_tables.specs.Events.{Event}
use Rattle.mos_grammar.specs.Tokens.{Token}
use Rattle.mos_grammar.specs.RecordMachine.{complete}
use Rattle.mos_grammar.specs.Streams.{before_prolog, Position, before_message, inside, message_run}
use Rattle.mos_grammar.proofs.StreamProofs.{message_begins_run, runs_message, one_form, whole_takes_none}
use Rattle.mos_lexer.specs.LexMachine.{begin}
use Rattle.mos_lexer.specs.Units.{message_limit, Reader, start_reader, UnitStep, reads_on, completes, rejects, read_char, unit_step, still_reads, then_units, unit_run}
use Rattle.mos_lexer.specs.Lexing.{WritesTokens}
use Rattle.mos_lexer.proofs.Chars.{Spot, char_of, then_spot, char_run, opening_spot, whole_spot}
use Rattle.mos_lexer.proofs.Places.{IsOpenAt, Agrees, read_agrees, OpenStep, read_open}
use Rattle.mos_lexer.proofs.UnitAccepts.{width, char_units, below}
use Rattle.mos_rejections.specs.Alive.{IsOpenMessage, IsAlive}
use Rattle.mos_rejections.specs.Rejections.{waiting, IsWaiting, AreAlive}
use Rattle.mos_rejections.specs.Laws.{OpenIsRead}
use Rattle.mos_rejections.proofs.Running.{going, run_nothing}
use Rattle.mos_rejections.proofs.AliveRuns.{ending, fronts_write}
use Rattle.mos_rejections.proofs.Reading.{complete_run, open_or_complete}

-- tokens that are not all of a message do not complete one
pub not_complete : (ts : List Token) (v : List Event) → IsOpenMessage ts → message_run (before_message before_prolog) ts ≡ Ok (inside (complete v)) → ⊥
not_complete ts v m e = none m.0 m.1 (one_form before_prolog v m.2 ts (m.0 ∷ m.1) (runs_message before_prolog v ts e) m.3).0
  where
    none : (t : Token) (r : List Token) → ◌≡◌ {A = List Token} (t ∷ r) [] → ⊥
    none t r e = cc

-- where the machine stands behind characters that are alive, no message is complete
pub alive_open : (c : List ℕ) → IsAlive c → (w : Spot) × (char_run opening_spot c ≡ Some w) × IsOpenAt w.position
alive_open c a =
    let m = a.message in
    let r = message_begins_run before_prolog a.tokens (m.0 ∷ m.1, m.2, m.3) in
    let d = ending a.tokens r.0 a.part r.1 a.begins in
    let w : WritesTokens (a.tokens ++ d.token ∷ d.behind) (c ++ d.more) =
    subst (λ (z : List ℕ). WritesTokens (a.tokens ++ d.token ∷ d.behind) z) (sym (append_assoc a.front a.part d.more) ∙ ap (λ (z : List ℕ). z ++ d.more) (sym a.whole)) (fronts_write a.tokens (d.token ∷ d.behind) a.front a.part d.more a.fronts d.written) in
    let g = going c d.more d.token d.behind r.0 d.last d.unfinished (before_message before_prolog) begin [] a.tokens refl refl r.1 w in
    (g.spot, g.is, go r.0 r.1 g.spot.position g.tokens g.run (open_or_complete g.spot.position))
  where
    stops : (q : Position) → message_run (before_message before_prolog) a.tokens ≡ Ok q → (v : List Event) (ts : List Token) → message_run (inside (complete v)) ts ≡ Ok q → ⊥
    stops q e v [] i = not_complete a.tokens v a.message (e ∙ ap (λ (z : Position). Ok z) (sym (run_nothing (inside (complete v)) q i)))
    stops q e v (t ∷ ts) i = whole_takes_none v t ts q i

    go : (q : Position) → message_run (before_message before_prolog) a.tokens ≡ Ok q → (p : Position) (ts : List Token) → message_run p ts ≡ Ok q → IsOpenAt p ⊎ ((v : List Event) × (p ≡ inside (complete v))) → IsOpenAt p
    go q e p ts i (inl o) = o
    go q e p ts i (inr k) = absurd (stops q e k.0 ts (subst (λ (z : Position). message_run z ts ≡ Ok q) k.1 i))

-- the reader behind characters
pub record LeadsOn (t : Reader) (cs rest : List ℕ) (w : Spot) : Type 0 where
  pub reader : Reader
  pub same : unit_run t (units_of cs ++ rest) ≡ unit_run reader rest
  pub no_high : reader.high ≡ None
  pub count : reader.count ≡ t.count + length (units_of cs)

spot_is : (a b : Spot) → ◌≡◌ {A = Option Spot} (Some a) (Some b) → a ≡ b
spot_is a b e = cc

leads_on : (cs rest : List ℕ) (t : Reader) (w : Spot) → t.high ≡ None → IsOpenAt t.position → are_allowed cs ≡ true → t.count + length (units_of cs) ≤ message_limit → char_run (record { position = t.position; lex = t.lex }) cs ≡ Some w → IsOpenAt w.position → LeadsOn t cs rest w
unfolding char_run
leads_on [] rest t w h i a s e o = record { reader = t; same = refl; no_high = h; count = omega arith }
leads_on (c ∷ cs) rest t w h i a s e o =
    go (λ u x y z k. leads_on cs rest u w x y ok.1 z k o) (char_of t.position t.lex c) e (read_char t t.count (t.count + width c) c) refl (read_agrees t t.count (t.count + width c) c ok.0) (read_open t t.count (t.count + width c) c i)
  where
    ok : (is_allowed c ≡ true) × (are_allowed cs ≡ true)
    ok = and_parts (is_allowed c) (are_allowed cs) a

    l : length (units_of (c ∷ cs)) ≡ width c + length (units_of cs)
    l = length-append (encode_utf16 c) (units_of cs)

    room : t.count + width c ≤ message_limit
    room = omega (arith, s, l)

    left : (t.count + width c) + length (units_of cs) ≤ message_limit
    left = omega (arith, s, l)

    first : (x : UnitStep) → read_char t t.count (t.count + width c) c ≡ x → unit_run t (units_of (c ∷ cs) ++ rest) ≡ then_units x (units_of cs ++ rest) (λ u. unit_run u (units_of cs ++ rest))
    first x k = ap (unit_run t) (append_assoc (encode_utf16 c) (units_of cs) rest) ∙ char_units t c (units_of cs ++ rest) h ok.0 room ∙ ap (λ (z : UnitStep). then_units z (units_of cs ++ rest) (λ u. unit_run u (units_of cs ++ rest))) k

    go : ((u : Reader) → u.high ≡ None → IsOpenAt u.position → u.count + length (units_of cs) ≤ message_limit → char_run (record { position = u.position; lex = u.lex }) cs ≡ Some w → LeadsOn u cs rest w)
        → (r : Option Spot) → then_spot r (λ u. char_run u cs) ≡ Some w → (x : UnitStep) → read_char t t.count (t.count + width c) c ≡ x → Agrees r (t.count + width c) x → OpenStep x → LeadsOn t (c ∷ cs) rest w
    go f None j x k g p = absurd cc
    go f (Some z) j (rejects place d) k g p = absurd g
    go f (Some z) j (completes began v) k g p = absurd (subst IsOpenAt (complete_run cs (whole_spot v) w v refl (ap (λ (y : Spot). char_run y cs) (sym g) ∙ j)) o)
    go f (Some z) j (reads_on u) k g p =
        let m = f u g.2 p (subst (λ (y : ℕ). y + length (units_of cs) ≤ message_limit) (sym g.1) left) (ap (λ (y : Spot). char_run y cs) (sym g.0) ∙ j) in
        record { reader = m.reader; same = first (reads_on u) k ∙ m.same; no_high = m.no_high; count = (let n = m.count in let q = g.1 in omega (arith, n, q, l)) }

-- Code units that begin a message are read on.
pub open_read : OpenIsRead
unfolding unit_run unit_step
open_read us h = go (alive_open a.chars a.alive)
  where
    a : AreAlive us
    a = h.alive

    fits : length (units_of a.chars) + length (waiting a.high) ≤ message_limit
    fits = (let s : length us ≤ message_limit = h.short in let e : length us ≡ length (units_of a.chars) + length (waiting a.high) = ap length a.units ∙ length-append (units_of a.chars) (waiting a.high) in omega (arith, s, e))

    rest_read : (u : Reader) → u.high ≡ None → (o : Option ℕ) → IsWaiting o → u.count + length (waiting o) ≤ message_limit → (s : Reader) × (unit_run u (waiting o) ≡ still_reads s)
    rest_read u n None w f = (u, refl)
    rest_read u n (Some d) w f =
        let t : Reader = record { position = u.position; lex = u.lex; start = u.start; opened = u.opened; count = u.count + 1; high = Some d } in
        let b : nat_le message_limit u.count ≡ false = below u.count (omega (arith, f)) in
        (t, rw (n, w, b) refl)

    go : ((w : Spot) × (char_run opening_spot a.chars ≡ Some w) × IsOpenAt w.position) → (s : Reader) × (unit_run start_reader us ≡ still_reads s)
    go w =
        let l = leads_on a.chars (waiting a.high) start_reader w.0 refl tt a.allowed (let f = fits in omega (arith, f)) w.1 w.2 in
        let r = rest_read l.reader l.no_high a.high a.waits (let n = l.count in let f = fits in omega (arith, n, f)) in
        (r.0, ap (unit_run start_reader) a.units ∙ l.same ∙ r.1)
