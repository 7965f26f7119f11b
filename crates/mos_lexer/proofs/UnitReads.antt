-- The reader of code units reads exactly the encodings of messages.
use Rattle.std.proofs.Common.{◌≡◌, ℕ, ◌+◌, ◌-◌, ◌<◌, ◌≤◌, Bool, true, false, List, [], ◌∷◌, ◌++◌, length, Option, Some, None, refl, sym, ap, subst, ◌∙◌, append_assoc, arith}
use Rattle.std.specs.Prelude.{nat_le, nat_lt, ◌&&◌}
use Rattle.std.specs.Char.Escape.{encode_utf16}
use Rattle.std.proofs.lemmas.Grind.{flat_map-append}
use Rattle.std.proofs.lemmas.List.{append-nil, length-append}
use Rattle.std.proofs.lemmas.List.Folds.{list_all-append}
use Rattle.std.proofs.lemmas.Bool.Decides.{nat_tests}
use Rattle.mos_fields.specs.Characters.{is_allowed, are_allowed, is_high, is_low, pair_char, units_of}
use Rattle.mos_fields.proofs.CharacterLemmas.{one_unit}
use Rattle.mos_lexer.specs.Encodings.{Encodes}
use Rattle.mos_lexer.specs.Laws.{are_units}
use Rattle.mos_lexer.specs.Units.{message_limit, Reader, start_reader, UnitStep, reads_on, completes, rejects, read_char, unit_read, too_long, unit_step, UnitRun, still_reads, completed, rejected_at, then_units, unit_run}
use Rattle.mos_lexer.proofs.Chars.{Spot, char_of, then_spot, char_run, opening_spot, whole_spot, run_message}
use Rattle.mos_lexer.proofs.Whole.{char_run_append}
use Rattle.mos_lexer.proofs.Places.{Agrees, read_agrees}

-- a high unit that waits
abbrev pub waiting : Option ℕ → List ℕ
waiting None = []
waiting (Some h) = h ∷ []

abbrev pub WaitsHigh : Option ℕ → Type 0
WaitsHigh None = Unit {0}
WaitsHigh (Some h) = is_high h ≡ true

-- The code units are those of characters that led here, and perhaps a high one.
pub record UnitsReached (us : List ℕ) (s : Reader) : Type 0 where
  pub chars : List ℕ
  pub allowed : are_allowed chars ≡ true
  pub units : us ≡ units_of chars ++ waiting s.high
  pub ran : char_run opening_spot chars ≡ Some (record { position = s.position; lex = s.lex })
  pub counted : s.count ≡ length us
  pub short : length us ≤ message_limit
  pub high_is : WaitsHigh s.high

pub pair_units : (h u : ℕ) → is_high h ≡ true → is_low u ≡ true → encode_utf16 (pair_char h u) ≡ h ∷ u ∷ []
pair_units h u a b = grind (arith, nat_tests)

-- one more character
pub run_push : (cs : List ℕ) (c : ℕ) (s : Spot) → char_run opening_spot cs ≡ Some s → char_run opening_spot (cs ++ c ∷ []) ≡ char_of s.position s.lex c
unfolding char_run
run_push cs c s e = char_run_append cs (c ∷ []) opening_spot ∙ ap (λ (o : Option Spot). then_spot o (λ u. char_run u (c ∷ []))) e ∙ one (char_of s.position s.lex c)
  where
    one : (o : Option Spot) → then_spot o (λ u. char_run u []) ≡ o
    one (Some w) = refl
    one None = refl

-- what a step comes to
abbrev pub StepFacts : List ℕ → UnitStep → Type 0
StepFacts us (reads_on t) = UnitsReached us t
StepFacts us (completes began v) = Encodes v us
StepFacts us (rejects place k) = Unit {0}

spot_same : (a : Spot) (o : Option Spot) (b : Spot) → o ≡ Some a → a ≡ b → o ≡ Some b
spot_same a o b e f = e ∙ ap (λ (z : Spot). Some z) f

pub push_allowed : (cs : List ℕ) (c : ℕ) → are_allowed cs ≡ true → is_allowed c ≡ true → are_allowed (cs ++ c ∷ []) ≡ true
push_allowed cs c a b = list_all-append is_allowed cs (c ∷ []) ∙ rw (a, b) refl

pub push_units : (cs : List ℕ) (c : ℕ) → units_of (cs ++ c ∷ []) ≡ units_of cs ++ encode_utf16 c
push_units cs c = flat_map-append encode_utf16 cs (c ∷ []) ∙ ap (λ (z : List ℕ). units_of cs ++ z) (append-nil (encode_utf16 c))

-- a whole character was read
char_facts : (us : List ℕ) (s : Reader) (h : UnitsReached us s) (vs : List ℕ) (place count c : ℕ) → vs ≡ units_of h.chars ++ encode_utf16 c → count ≡ length vs → length vs ≤ message_limit
    → StepFacts vs (read_char s place count c)
char_facts us s h vs place count c e n short = go (is_allowed c) refl
  where
    of_spot : is_allowed c ≡ true → (o : Option Spot) → char_of s.position s.lex c ≡ o → (u : UnitStep) → Agrees o count u → StepFacts vs u
    of_spot a None i (rejects p k) g = tt
    of_spot a None i (reads_on t) g = absurd g
    of_spot a None i (completes began v) g = absurd g
    of_spot a (Some w) i (rejects p k) g = tt
    of_spot a (Some w) i (reads_on t) g = record {
      chars = h.chars ++ c ∷ [];
      allowed = push_allowed h.chars c h.allowed a;
      units = e ∙ sym (push_units h.chars c) ∙ sym (append-nil (units_of (h.chars ++ c ∷ []))) ∙ ap (λ (z : Option ℕ). units_of (h.chars ++ c ∷ []) ++ waiting z) (sym g.2);
      ran = run_push h.chars c (record { position = s.position; lex = s.lex }) h.ran ∙ spot_same w (char_of s.position s.lex c) (record { position = t.position; lex = t.lex }) i g.0;
      counted = g.1 ∙ n;
      short = short;
      high_is = subst WaitsHigh (sym g.2) tt;
    }
    of_spot a (Some w) i (completes began v) g = record {
      chars = h.chars ++ c ∷ [];
      allowed = push_allowed h.chars c h.allowed a;
      units = e ∙ sym (push_units h.chars c);
      encodes = run_message v (h.chars ++ c ∷ []) (run_push h.chars c (record { position = s.position; lex = s.lex }) h.ran ∙ spot_same w (char_of s.position s.lex c) (whole_spot v) i g);
      short = short;
    }

    go : (b : Bool) → is_allowed c ≡ b → StepFacts vs (read_char s place count c)
    go true a = of_spot a (char_of s.position s.lex c) refl (read_char s place count c) (read_agrees s place count c a)
    go false a = rw a tt

one_more : (us : List ℕ) (u : ℕ) → length (us ++ u ∷ []) ≡ length us + 1
one_more us u = length-append us (u ∷ [])

unit_facts : (us : List ℕ) (s : Reader) (h : UnitsReached us s) (u : ℕ) → u < 65536 → length (us ++ u ∷ []) ≤ message_limit → (o : Option ℕ) → s.high ≡ o → StepFacts (us ++ u ∷ []) (unit_read s u o)
unit_facts us s h u small short None e = go (is_high u) refl (is_low u) refl
  where
    whole : us ≡ units_of h.chars
    whole = h.units ∙ ap (λ (z : Option ℕ). units_of h.chars ++ waiting z) e ∙ append-nil (units_of h.chars)

    counts : s.count + 1 ≡ length (us ++ u ∷ [])
    counts = ap (λ (z : ℕ). z + 1) h.counted ∙ sym (one_more us u)

    go : (a : Bool) → is_high u ≡ a → (b : Bool) → is_low u ≡ b → StepFacts (us ++ u ∷ []) (unit_read s u None)
    go true a b d = rw a (record { chars = h.chars; allowed = h.allowed; units = ap (λ (z : List ℕ). z ++ u ∷ []) whole; ran = h.ran; counted = counts; short = short; high_is = a })
    go false a true d = rw (a, d) tt
    go false a false d = rw (a, d) (char_facts us s h (us ++ u ∷ []) s.count (s.count + 1) u (ap (λ (z : List ℕ). z ++ u ∷ []) whole ∙ ap (λ (z : List ℕ). units_of h.chars ++ z) (sym (one_unit u small))) counts short)
unit_facts us s h u small short (Some d) e = go (is_low u) refl
  where
    counts : s.count + 1 ≡ length (us ++ u ∷ [])
    counts = ap (λ (z : ℕ). z + 1) h.counted ∙ sym (one_more us u)

    whole : us ≡ units_of h.chars ++ d ∷ []
    whole = h.units ∙ ap (λ (z : Option ℕ). units_of h.chars ++ waiting z) e

    high : is_high d ≡ true
    high = subst WaitsHigh e h.high_is

    go : (b : Bool) → is_low u ≡ b → StepFacts (us ++ u ∷ []) (unit_read s u (Some d))
    go true b = rw b (char_facts us s h (us ++ u ∷ []) (s.count - 1) (s.count + 1) (pair_char d u)
        (ap (λ (z : List ℕ). z ++ u ∷ []) whole ∙ append_assoc (units_of h.chars) (d ∷ []) (u ∷ []) ∙ ap (λ (z : List ℕ). units_of h.chars ++ z) (sym (pair_units d u high b))) counts short)
    go false b = rw b tt

-- One code unit more.
pub step_facts : (us : List ℕ) (s : Reader) → UnitsReached us s → (u : ℕ) → u < 65536 → StepFacts (us ++ u ∷ []) (unit_step s u)
unfolding unit_step
step_facts us s h u small = go (nat_le message_limit s.count) refl
  where
    room : nat_le message_limit s.count ≡ false → length (us ++ u ∷ []) ≤ message_limit
    room e = let i = one_more us u in let j = h.counted in grind (arith, nat_tests)

    fits : nat_le message_limit s.count ≡ false → (x : UnitStep) → StepFacts (us ++ u ∷ []) x → StepFacts (us ++ u ∷ []) (too_long s x)
    fits e (rejects p k) f = tt
    fits e (reads_on t) f = rw e f
    fits e (completes began v) f = rw e f

    full : nat_le message_limit s.count ≡ true → (x : UnitStep) → StepFacts (us ++ u ∷ []) (too_long s x)
    full e (rejects p k) = tt
    full e (reads_on t) = rw e tt
    full e (completes began v) = rw e tt

    go : (b : Bool) → nat_le message_limit s.count ≡ b → StepFacts (us ++ u ∷ []) (too_long s (unit_read s u s.high))
    go true e = full e (unit_read s u s.high)
    go false e = fits e (unit_read s u s.high) (unit_facts us s h u small (room e) s.high refl)

pub start_reached : UnitsReached [] start_reader
unfolding char_run
start_reached = record { chars = []; allowed = refl; units = refl; ran = refl; counted = refl; short = omega arith; high_is = tt }

-- what a run comes to
abbrev pub RunFacts : List ℕ → UnitRun → Type 0
RunFacts us (still_reads t) = UnitsReached us t
RunFacts us (completed began v rest) = (x : List ℕ) × (us ≡ x ++ rest) × Encodes v x
RunFacts us (rejected_at place k) = Unit {0}

pub run_facts : (ds us : List ℕ) (s : Reader) → UnitsReached us s → are_units ds ≡ true → RunFacts (us ++ ds) (unit_run s ds)
unfolding unit_run
run_facts [] us s h w = rw (append-nil us) h
run_facts (u ∷ ds) us s h w = go (λ t g. run_facts ds (us ++ u ∷ []) t g later) (unit_step s u) (step_facts us s h u small)
  where
    small : u < 65536
    small = (let e : (nat_lt u 65536 && are_units ds) ≡ true = w in grind (arith, nat_tests))

    later : are_units ds ≡ true
    later = (let e : (nat_lt u 65536 && are_units ds) ≡ true = w in grind (arith, nat_tests))

    go : ((t : Reader) → UnitsReached (us ++ u ∷ []) t → RunFacts ((us ++ u ∷ []) ++ ds) (unit_run t ds)) → (o : UnitStep) → StepFacts (us ++ u ∷ []) o → RunFacts (us ++ u ∷ ds) (then_units o ds (λ t. unit_run t ds))
    go f (reads_on t) g = rw (← append_assoc us (u ∷ []) ds) (f t g)
    go f (completes began v) g = (us ++ u ∷ [], sym (append_assoc us (u ∷ []) ds), g)
    go f (rejects p k) g = tt
