-- Runs of characters of one unit, behind each of which the same token goes on.
use Rattle.std.proofs.Common.{◌≡◌, ℕ, suc, ◌+◌, ◌<◌, ◌≤◌, Bool, true, false, List, [], ◌∷◌, length, drop, refl, ap, ◌∙◌, arith}
use Rattle.std.specs.Prelude.{Some, None, nat_le}
use Rattle.std.specs.List.{list_all}
use Rattle.std.proofs.lemmas.Bool.{and_parts, leb-true, leb-false}
use Rattle.std.proofs.lemmas.Bool.Decides.{nat_tests}
use Rattle.mos_fields.specs.Characters.{is_allowed, is_high, is_low}
use Rattle.mos_lexer.specs.declared.kind.Kind.TheVariants as kinds
use Rattle.mos_lexer.specs.LexMachine.{LexState, LexStep, continues, whole_token, text_before, text_before_mark, no_token, no_reference, lex_step}
use Rattle.mos_lexer.specs.Units.{reads_on, still_reads, rejected_at, message_limit, is_outside, lexed, unit_read, unit_step, unit_run, then_units}
use Rattle.mos_lexer.specs.Units.{Reader as ReaderOf}
use Rattle.mos_lexer.specs.Laws.{run_on}
use Rattle.mos_scanner.specs.Parts.{part}
use Rattle.mos_scanner.specs.Runs.{is_lone, goes_on, lex_run, IsRun}
use Rattle.mos_scanner.specs.ScannerView.{lex_of}
use Rattle.mos_scanner.specs.declared.scanner.Scanner.{Scanner}
use Rattle.mos_scanner.proofs.PartLemmas.{length-part}
use Rattle.mos_reader.specs.declared.reading.Reading.{Reading}
use Rattle.mos_reader.specs.Places.{position_of, reader_of, HasRead, HasRejected}
use Rattle.mos_reader.proofs.UnitForms.{capped, over_limit, below_limit, one_read}
use Rattle.mos_reader.proofs.HeldRuns.{take_next, parts_run}

-- behind so many units the same token goes on
abbrev behind_run : ReaderOf → LexState → ℕ → ReaderOf
behind_run s l n = record { position = s.position; lex = l; start = s.start; opened = s.opened; count = s.count + n; high = None }

lone_tests : (u : ℕ) → is_lone u ≡ true → (is_high u ≡ false) × (is_low u ≡ false) × (is_allowed u ≡ true)
lone_tests u h = (grind (arith, nat_tests), grind (arith, nat_tests), grind (arith, nat_tests))

lone_read : (s : ReaderOf) (u : ℕ) (m : LexState) → s.high ≡ None → is_lone u ≡ true → lex_step (is_outside s.position) s.lex u ≡ continues m → unit_read s u s.high ≡ reads_on (behind_run s m 1)
lone_read s u m n l e =
    let t = lone_tests u l in
    one_read s u n t.0 t.1 t.2 ∙ ap (lexed s s.count (s.count + 1)) e

-- within the limit
run_within : (us : List ℕ) (s : ReaderOf) (l : LexState) → s.high ≡ None → list_all is_lone us ≡ true → lex_run (is_outside s.position) s.lex us ≡ Some l → s.count + length us ≤ message_limit
    → unit_run s us ≡ still_reads (behind_run s l (length us))
unfolding unit_run unit_step
run_within [] s l n a e k =
    let i : s.lex ≡ l = cc in
    let z : s.count ≡ s.count + 0 = omega arith in
    ap (λ h. still_reads (record { position = s.position; lex = s.lex; start = s.start; opened = s.opened; count = s.count; high = h })) n
    ∙ (ap (λ x. still_reads (record { position = s.position; lex = x; start = s.start; opened = s.opened; count = s.count; high = None })) i
    ∙ ap (λ x. still_reads (record { position = s.position; lex = l; start = s.start; opened = s.opened; count = x; high = None })) z)
run_within (u ∷ us) s l n a e k = go (λ m h. run_within us (behind_run s m 1) l refl all.1 h (omega (arith, k))) (lex_step (is_outside s.position) s.lex u) refl e
  where
    all : (is_lone u ≡ true) × (list_all is_lone us ≡ true)
    all = and_parts (is_lone u) (list_all is_lone us) a

    go : ((m : LexState) → lex_run (is_outside s.position) m us ≡ Some l → unit_run (behind_run s m 1) us ≡ still_reads (behind_run (behind_run s m 1) l (length us))) → (x : LexStep) → lex_step (is_outside s.position) s.lex u ≡ x → goes_on x (λ m. lex_run (is_outside s.position) m us) ≡ Some l → unit_run s (u ∷ us) ≡ still_reads (behind_run s l (length (u ∷ us)))
    go again (continues m) f h =
        let z : s.count + 1 + length us ≡ s.count + suc (length us) = omega arith in
        ap (λ r. then_units r us (λ t. unit_run t us)) (below_limit s (unit_read s u s.high) (omega (arith, k)) ∙ lone_read s u m n all.0 f)
        ∙ (again m h
        ∙ ap (λ x. still_reads (record { position = s.position; lex = l; start = s.start; opened = s.opened; count = x; high = None })) z)
    go again (whole_token t) f h = absurd (cc)
    go again (text_before raw y m) f h = absurd (cc)
    go again (text_before_mark raw y) f h = absurd (cc)
    go again no_token f h = absurd (cc)
    go again (no_reference j) f h = absurd (cc)

-- over it
run_over : (us : List ℕ) (s : ReaderOf) (l : LexState) → s.high ≡ None → list_all is_lone us ≡ true → lex_run (is_outside s.position) s.lex us ≡ Some l → s.count ≤ message_limit → message_limit < s.count + length us
    → unit_run s us ≡ rejected_at message_limit kinds.TooLong
unfolding unit_run unit_step
run_over [] s l n a e c k = absurd (omega (arith, c, k))
run_over (u ∷ us) s l n a e c k = go (λ m h w. run_over us (behind_run s m 1) l refl all.1 h (omega (arith, w)) (omega (arith, k))) (lex_step (is_outside s.position) s.lex u) refl e (nat_le message_limit s.count) refl
  where
    all : (is_lone u ≡ true) × (list_all is_lone us ≡ true)
    all = and_parts (is_lone u) (list_all is_lone us) a

    below : nat_le message_limit s.count ≡ false → s.count < message_limit
    below f = leb-false message_limit s.count f

    go : ((m : LexState) → lex_run (is_outside s.position) m us ≡ Some l → s.count < message_limit → unit_run (behind_run s m 1) us ≡ rejected_at message_limit kinds.TooLong) → (x : LexStep) → lex_step (is_outside s.position) s.lex u ≡ x → goes_on x (λ m. lex_run (is_outside s.position) m us) ≡ Some l → (b : Bool) → nat_le message_limit s.count ≡ b → unit_run s (u ∷ us) ≡ rejected_at message_limit kinds.TooLong
    go again (continues m) f h true g =
        ap (λ r. then_units r us (λ t. unit_run t us)) (over_limit s (unit_read s u s.high) (leb-true message_limit s.count g) ∙ ap capped (lone_read s u m n all.0 f))
    go again (continues m) f h false g =
        let w = below g in
        ap (λ r. then_units r us (λ t. unit_run t us)) (below_limit s (unit_read s u s.high) w ∙ lone_read s u m n all.0 f)
        ∙ again m h w
    go again (whole_token t) f h b g = absurd (cc)
    go again (text_before raw y m) f h b g = absurd (cc)
    go again (text_before_mark raw y) f h b g = absurd (cc)
    go again no_token f h b g = absurd (cc)
    go again (no_reference j) f h b g = absurd (cc)

-- ---- what is held

-- the reading where the scanner has read a run
abbrev pub run_to : Reading → Scanner → ℕ → Reading
run_to r s next = record { scanner = s; frames = r.frames; start = r.start; opened = r.opened; here = next }

pub run_read : (r : Reading) (s : Scanner) (held : List ℕ) (next : ℕ) → HasRead r held → IsRun r.scanner s held r.here next → next ≤ message_limit → HasRead (run_to r s next) held
run_read r s held next h i w =
    let o = i.onward in
    let b = h.sound.placed.begun in
    let p = h.sound.placed.openable in
    let n : r.here + length (part held r.here next) ≡ next = let l = length-part held r.here next i.within in omega (arith, o, l) in
    record {
      sound = record { placed = record { stands = h.sound.placed.stands; begun = omega (arith, b, o); openable = omega (arith, p, o) }; scanned = i.sound; within = i.within };
      short = w;
      same =
          take_next held r.here (reader_of r held) h.same next o
          ∙ (run_within (part held r.here next) (reader_of r held) (lex_of s held next) refl i.lone (i.same (is_outside (position_of r.frames))) (omega (arith, n, w))
          ∙ ap (λ x. still_reads (record { position = position_of r.frames; lex = lex_of s held next; start = r.start; opened = r.opened; count = x; high = None })) n);
    }

pub run_too_long : (r : Reading) (s : Scanner) (held : List ℕ) (next : ℕ) → HasRead r held → IsRun r.scanner s held r.here next → message_limit < next → HasRejected message_limit kinds.TooLong held
run_too_long r s held next h i w =
    let o = i.onward in
    let x = i.within in
    let n : r.here + length (part held r.here next) ≡ next = let l = length-part held r.here next i.within in omega (arith, o, l) in
    record {
      same =
          parts_run held r.here (reader_of r held) h.same next o
          ∙ ap (λ z. run_on z (drop next held)) (run_over (part held r.here next) (reader_of r held) (lex_of s held next) refl i.lone (i.same (is_outside (position_of r.frames))) h.short (omega (arith, n, w)));
      within = omega (arith, w, x);
    }
