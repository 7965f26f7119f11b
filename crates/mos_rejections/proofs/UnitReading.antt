-- Reading code units, with the places of rejections.
use Rattle.std.proofs.Common.{◌≡◌, ℕ, ◌+◌, ◌-◌, ◌<◌, ◌≤◌, Bool, true, false, List, [], ◌∷◌, ◌++◌, length, Option, Some, None, refl, sym, ap, subst, ◌∙◌, append_assoc, arith, inl, inr}
use Rattle.std.specs.Prelude.{nat_le, nat_lt, ◌&&◌}
use Rattle.std.specs.Char.Escape.{encode_utf16}
use Rattle.std.proofs.lemmas.List.{append-nil, length-append, map-append}
use Rattle.std.proofs.lemmas.Bool.Decides.{nat_tests}
use Rattle.mos_fields.specs.Characters.{is_allowed, are_allowed, is_high, is_low, pair_char, units_of}
use Rattle.mos_fields.proofs.CharacterLemmas.{one_unit}
use Rattle.mos_tables.specs.Events.{Event}
use Rattle.mos_lexer.specs.declared.kind.Kind.TheVariants as kinds
use Rattle.mos_lexer.specs.LexMachine.{lex_step}
use Rattle.mos_lexer.specs.Encodings.{EncodesChars, Encodes, AreEncodings}
use Rattle.mos_lexer.specs.Laws.{are_units}
use Rattle.mos_lexer.specs.Units.{message_limit, is_outside, Reader, start_reader, UnitStep, reads_on, completes, rejects, lexed, read_char, unit_read, too_long, unit_step, UnitRun, still_reads, completed, rejected_at, then_units, unit_run, Found, StreamReader, start_stream, then_stream, stream_units}
use Rattle.mos_lexer.proofs.Chars.{Spot, char_of, char_run, opening_spot, run_message}
use Rattle.mos_lexer.proofs.Places.{Agrees, read_agrees}
use Rattle.mos_lexer.proofs.UnitReads.{pair_units, push_allowed, push_units, run_push}
use Rattle.mos_rejections.specs.Rejections.{waiting, IsWaiting, AreAlive, is_character, ShowsUnit, lone_low, lone_high, forbidden, wrong_char, too_many, IsRejection}
use Rattle.mos_rejections.specs.Laws.{RunIsExact, RunsAreExact, values, StreamIsExact, StreamsAreExact}
use Rattle.mos_rejections.proofs.Reaching.{Reached, alive_at}
use Rattle.mos_rejections.proofs.Reading.{start_reached, width_of, width_one, ReaderAt, CharFacts, lexed_facts, dead_at, no_message_at}

-- where the reader of code units stands
pub record UnitsAt (us : List ℕ) (s : Reader) : Type 0 where
  pub chars : List ℕ
  pub allowed : are_allowed chars ≡ true
  pub units : us ≡ units_of chars ++ waiting s.high
  pub waits : IsWaiting s.high
  pub reader : (count : ℕ) → count ≡ width_of chars → ReaderAt chars (record { position = s.position; lex = s.lex; start = s.start; opened = s.opened; count = count; high = None })
  pub counted : s.count ≡ length us

pub alive_units : (us : List ℕ) (s : Reader) → UnitsAt us s → AreAlive us
alive_units us s h = let r = h.reader (width_of h.chars) refl in record { chars = h.chars; high = s.high; allowed = h.allowed; units = h.units; waits = h.waits; alive = alive_at h.chars s.position s.lex r.front r.reached }

-- what a step comes to, its length aside
abbrev pub UnitFacts : List ℕ → ℕ → UnitStep → Type 0
UnitFacts us u (reads_on t) = UnitsAt (us ++ u ∷ []) t
UnitFacts us u (completes began v) = (c : List ℕ) × (are_allowed c ≡ true) × (us ++ u ∷ [] ≡ units_of c) × EncodesChars v c
UnitFacts us u (rejects place k) = ShowsUnit us u place k

-- a whole character
char_facts : (us : List ℕ) (u : ℕ) (s : Reader) (h : UnitsAt us s) (place count d : ℕ) → is_character d ≡ true → us ++ u ∷ [] ≡ units_of h.chars ++ encode_utf16 d → place ≡ width_of h.chars → count ≡ length (us ++ u ∷ []) → UnitFacts us u (read_char s place count d)
char_facts us u s h place count d ch e pl n = go (is_allowed d) refl
  where
    r : ReaderAt h.chars (record { position = s.position; lex = s.lex; start = s.start; opened = s.opened; count = place; high = None })
    r = h.reader place pl

    w : count ≡ width_of (h.chars ++ d ∷ [])
    w = n ∙ ap length e ∙ length-append (units_of h.chars) (encode_utf16 d) ∙ sym (width_one h.chars d)

    facts : CharFacts h.chars d (lexed s place count (lex_step (is_outside s.position) s.lex d))
    facts = lexed_facts h.chars (record { position = s.position; lex = s.lex; start = s.start; opened = s.opened; count = place; high = None }) r d count w

    reached : Reached h.chars s.position s.lex r.front
    reached = r.reached

    of_spot : is_allowed d ≡ true → (o : Option Spot) → char_of s.position s.lex d ≡ o → (x : UnitStep) → Agrees o count x → CharFacts h.chars d x → UnitFacts us u x
    of_spot a None i (reads_on t) g f = absurd g
    of_spot a None i (completes began v) g f = absurd g
    of_spot a (Some z) i (rejects p k) g f = absurd g
    of_spot a None i (rejects p k) g f =
        let none : char_run opening_spot (h.chars ++ d ∷ []) ≡ None = run_push h.chars d (record { position = s.position; lex = s.lex }) reached.stood ∙ i in
        subst (λ (z : ℕ). ShowsUnit us u z k) (sym f.1) (wrong_char h.chars d f.0 k h.allowed e a (record { alive = alive_at h.chars s.position s.lex r.front reached; dead = dead_at h.chars d none; no_message = no_message_at h.chars d none; shows = f.2 }))
    of_spot a (Some z) i (completes began v) g f = (
      h.chars ++ d ∷ [],
      push_allowed h.chars d h.allowed a,
      e ∙ sym (push_units h.chars d),
      run_message v (h.chars ++ d ∷ []) (run_push h.chars d (record { position = s.position; lex = s.lex }) reached.stood ∙ i ∙ ap (λ (y : Spot). Some y) g),
    )
    of_spot a (Some z) i (reads_on t) g f = record {
      chars = h.chars ++ d ∷ [];
      allowed = push_allowed h.chars d h.allowed a;
      units = e ∙ sym (push_units h.chars d) ∙ sym (append-nil (units_of (h.chars ++ d ∷ []))) ∙ ap (λ (y : Option ℕ). units_of (h.chars ++ d ∷ []) ++ waiting y) (sym g.2);
      waits = subst IsWaiting (sym g.2) tt;
      reader = λ k i. record { front = f.front; reached = f.reached; start_is = f.start_is; count_is = i };
      counted = g.1 ∙ n;
    }

    go : (b : Bool) → is_allowed d ≡ b → UnitFacts us u (read_char s place count d)
    go true a = rw a (of_spot a (char_of s.position s.lex d) refl (lexed s place count (lex_step (is_outside s.position) s.lex d)) (subst (Agrees (char_of s.position s.lex d) count) (allowed_read a) (read_agrees s place count d a)) facts)
      where
        allowed_read : is_allowed d ≡ true → read_char s place count d ≡ lexed s place count (lex_step (is_outside s.position) s.lex d)
        allowed_read a = rw a refl
    go false a = rw a (subst (λ (z : ℕ). ShowsUnit us u z kinds.BadChar) (sym pl) (forbidden h.chars d h.allowed e ch a))

pub unit_character : (u : ℕ) → u < 65536 → is_high u ≡ false → is_low u ≡ false → is_character u ≡ true
unit_character u s a b = grind (arith, nat_tests)

pair_character : (h u : ℕ) → is_high h ≡ true → is_low u ≡ true → is_character (pair_char h u) ≡ true
pair_character h u a b = grind (arith, nat_tests)

pub one_more : (us : List ℕ) (u : ℕ) → length (us ++ u ∷ []) ≡ length us + 1
one_more us u = length-append us (u ∷ [])

-- one code unit, behind a high one or not
unit_facts : (us : List ℕ) (s : Reader) (h : UnitsAt us s) (u : ℕ) → u < 65536 → (o : Option ℕ) → s.high ≡ o → UnitFacts us u (unit_read s u o)
unit_facts us s h u small None e = go (is_high u) refl (is_low u) refl
  where
    whole : us ≡ units_of h.chars
    whole = h.units ∙ ap (λ (z : Option ℕ). units_of h.chars ++ waiting z) e ∙ append-nil (units_of h.chars)

    counts : s.count + 1 ≡ length (us ++ u ∷ [])
    counts = ap (λ (z : ℕ). z + 1) h.counted ∙ sym (one_more us u)

    go : (a : Bool) → is_high u ≡ a → (b : Bool) → is_low u ≡ b → UnitFacts us u (unit_read s u None)
    go true a b d = rw a (record { chars = h.chars; allowed = h.allowed; units = ap (λ (z : List ℕ). z ++ u ∷ []) whole; waits = a; reader = h.reader; counted = counts })
    go false a true d = rw (a, d) (subst (λ (z : ℕ). ShowsUnit us u z kinds.BadUnit) (sym h.counted) (lone_low h.chars h.allowed whole d))
    go false a false d = rw (a, d) (char_facts us u s h s.count (s.count + 1) u (unit_character u small a d) (ap (λ (z : List ℕ). z ++ u ∷ []) whole ∙ ap (λ (z : List ℕ). units_of h.chars ++ z) (sym (one_unit u small))) (h.counted ∙ ap length whole) counts)
unit_facts us s h u small (Some d) e = go (is_low u) refl
  where
    counts : s.count + 1 ≡ length (us ++ u ∷ [])
    counts = ap (λ (z : ℕ). z + 1) h.counted ∙ sym (one_more us u)

    whole : us ≡ units_of h.chars ++ d ∷ []
    whole = h.units ∙ ap (λ (z : Option ℕ). units_of h.chars ++ waiting z) e

    high : is_high d ≡ true
    high = subst IsWaiting e h.waits

    place : s.count - 1 ≡ width_of h.chars
    place = (let a = h.counted in let b : length us ≡ width_of h.chars + 1 = ap length whole ∙ one_more (units_of h.chars) d in omega (arith, a, b))

    go : (b : Bool) → is_low u ≡ b → UnitFacts us u (unit_read s u (Some d))
    go true b = rw b (char_facts us u s h (s.count - 1) (s.count + 1) (pair_char d u) (pair_character d u high b)
        (ap (λ (z : List ℕ). z ++ u ∷ []) whole ∙ append_assoc (units_of h.chars) (d ∷ []) (u ∷ []) ∙ ap (λ (z : List ℕ). units_of h.chars ++ z) (sym (pair_units d u high b))) place counts)
    go false b = rw b (subst (λ (z : ℕ). ShowsUnit us u z kinds.BadUnit) (sym place) (lone_high h.chars d h.allowed whole high b))

-- what a step comes to
abbrev pub StepFacts : List ℕ → ℕ → UnitStep → Type 0
StepFacts us u (reads_on t) = UnitsAt (us ++ u ∷ []) t × (length (us ++ u ∷ []) ≤ message_limit)
StepFacts us u (completes began v) = Encodes v (us ++ u ∷ [])
StepFacts us u (rejects place k) = ShowsUnit us u place k

step_facts : (us : List ℕ) (s : Reader) (h : UnitsAt us s) → length us ≤ message_limit → (u : ℕ) → u < 65536 → StepFacts us u (unit_step s u)
unfolding unit_step
step_facts us s h fit u small = go (nat_le message_limit s.count) refl (unit_read s u s.high) (unit_facts us s h u small s.high refl)
  where
    room : nat_le message_limit s.count ≡ false → length (us ++ u ∷ []) ≤ message_limit
    room e = let i = one_more us u in let j = h.counted in grind (arith, nat_tests)

    full : nat_le message_limit s.count ≡ true → length us ≡ message_limit
    full e = let j = h.counted in grind (arith, nat_tests)

    go : (b : Bool) → nat_le message_limit s.count ≡ b → (x : UnitStep) → UnitFacts us u x → StepFacts us u (too_long s x)
    go b e (rejects place k) f = f
    go true e (reads_on t) f = rw e (too_many (full e) (inl (alive_units (us ++ u ∷ []) t f)))
    go true e (completes began v) f = rw e (too_many (full e) (inr (record { chars = f.0; value = v; allowed = f.1; units = f.2; encodes = f.3 })))
    go false e (reads_on t) f = rw e (f, room e)
    go false e (completes began v) f = rw e (record { chars = f.0; allowed = f.1; units = f.2; encodes = f.3; short = room e })

pub start_at : UnitsAt [] start_reader
start_at = record { chars = []; allowed = refl; units = refl; waits = tt; reader = λ k i. record { front = []; reached = start_reached; start_is = refl; count_is = i }; counted = refl }

abbrev pub RunFacts : List ℕ → UnitRun → Type 0
RunFacts us (still_reads s) = UnitsAt us s × (length us ≤ message_limit)
RunFacts us (completed began v rest) = (x : List ℕ) × (us ≡ x ++ rest) × Encodes v x
RunFacts us (rejected_at place k) = (x : List ℕ) × (rest : List ℕ) × (us ≡ x ++ rest) × IsRejection x place k

first_unit : (u : ℕ) (ds : List ℕ) → are_units (u ∷ ds) ≡ true → (u < 65536) × (are_units ds ≡ true)
first_unit u ds w = (let e : (nat_lt u 65536 && are_units ds) ≡ true = w in (grind (arith, nat_tests), grind (arith, nat_tests)))

pub run_facts : (ds us : List ℕ) (s : Reader) → UnitsAt us s → length us ≤ message_limit → are_units ds ≡ true → RunFacts (us ++ ds) (unit_run s ds)
unfolding unit_run
run_facts [] us s h fit w = rw (append-nil us) (h, fit)
run_facts (u ∷ ds) us s h fit w = let k = first_unit u ds w in go (λ t g f. run_facts ds (us ++ u ∷ []) t g f k.1) (unit_step s u) (step_facts us s h fit u k.0)
  where
    go : ((t : Reader) → UnitsAt (us ++ u ∷ []) t → length (us ++ u ∷ []) ≤ message_limit → RunFacts ((us ++ u ∷ []) ++ ds) (unit_run t ds)) → (o : UnitStep) → StepFacts us u o → RunFacts (us ++ u ∷ ds) (then_units o ds (λ t. unit_run t ds))
    go f (reads_on t) g = rw (← append_assoc us (u ∷ []) ds) (f t g.0 g.1)
    go f (completes began v) g = (us ++ u ∷ [], sym (append_assoc us (u ∷ []) ds), g)
    go f (rejects place k) g = (us ++ u ∷ [], ds, sym (append_assoc us (u ∷ []) ds), record { before = us; last = u; whole = refl; open_before = record { alive = alive_units us s h; short = fit }; shows = g })

pub runs_exact : RunsAreExact
runs_exact us w = go (unit_run start_reader us) (run_facts us [] start_reader start_at (omega arith) w)
  where
    go : (o : UnitRun) → RunFacts us o → RunIsExact us o
    go (still_reads s) f = record { alive = alive_units us s f.0; short = f.1 }
    go (completed began v rest) f = f
    go (rejected_at place k) f = f

-- ---- streams

-- messages that were read, and where the reading of the next one stands
pub record StreamAt (us : List ℕ) (s : StreamReader) : Type 0 where
  pub before : List ℕ
  pub now : List ℕ
  pub whole : us ≡ before ++ now
  pub messages : AreEncodings (values s.ready) before
  pub base_is : s.base ≡ length before
  pub at_now : UnitsAt now s.reader
  pub short : length now ≤ message_limit

encodings_push : (vs : List (List Event)) (x : List ℕ) (v : List Event) (y : List ℕ) → AreEncodings vs x → Encodes v y → AreEncodings (vs ++ v ∷ []) (x ++ y)
encodings_push [] x v y h e = (y, [], e, rw h (sym (append-nil y)), refl)
encodings_push (w ∷ vs) x v y h e = (h.0, h.1 ++ y, h.2, ap (λ (z : List ℕ). z ++ y) h.3 ∙ append_assoc h.0 h.1 y, encodings_push vs h.1 v y h.4 e)

stream_facts : (ds us : List ℕ) (s : StreamReader) → StreamAt us s → are_units ds ≡ true → StreamIsExact (us ++ ds) (stream_units s ds)
unfolding stream_units
stream_facts [] us s h w = (h.before, h.now, append-nil us ∙ h.whole, h.messages, h.base_is, record { alive = alive_units h.now s.reader h.at_now; short = h.short })
stream_facts (u ∷ ds) us s h w = let k = first_unit u ds w in go (λ t g. stream_facts ds (us ++ u ∷ []) t g k.1) (unit_step s.reader u) (step_facts h.now s.reader h.at_now h.short u k.0)
  where
    pushed : us ++ u ∷ [] ≡ h.before ++ (h.now ++ u ∷ [])
    pushed = ap (λ (z : List ℕ). z ++ u ∷ []) h.whole ∙ append_assoc h.before h.now (u ∷ [])

    go : ((t : StreamReader) → StreamAt (us ++ u ∷ []) t → StreamIsExact ((us ++ u ∷ []) ++ ds) (stream_units t ds)) → (o : UnitStep) → StepFacts h.now u o → StreamIsExact (us ++ u ∷ ds) (then_stream s o (λ t. stream_units t ds))
    go f (reads_on t) g = rw (← append_assoc us (u ∷ []) ds) (f (record { ready = s.ready; base = s.base; reader = t }) (record { before = h.before; now = h.now ++ u ∷ []; whole = pushed; messages = h.messages; base_is = h.base_is; at_now = g.0; short = g.1 }))
    go f (completes began v) g =
        let i : s.base + (s.reader.count + 1) ≡ length (h.before ++ (h.now ++ u ∷ [])) =
        (let a = h.base_is in let n = h.at_now in let b = n.counted in let c = length-append h.before (h.now ++ u ∷ []) in let d = one_more h.now u in omega (arith, a, b, c, d)) in
        rw (← append_assoc us (u ∷ []) ds) (f (record { ready = s.ready ++ record { began = s.base + began; value = v } ∷ []; base = s.base + (s.reader.count + 1); reader = start_reader })
        (record { before = h.before ++ (h.now ++ u ∷ []); now = []; whole = pushed ∙ sym (append-nil (h.before ++ (h.now ++ u ∷ []))); messages = subst (λ (z : List (List Event)). AreEncodings z (h.before ++ (h.now ++ u ∷ []))) (sym (map-append (λ (f : Found). f.value) s.ready (record { began = s.base + began; value = v } ∷ []))) (encodings_push (values s.ready) h.before v (h.now ++ u ∷ []) h.messages g); base_is = i; at_now = start_at; short = omega arith }))
    go f (rejects place k) g = (
      h.before,
      h.now ++ u ∷ [],
      ds,
      place,
      sym (append_assoc us (u ∷ []) ds) ∙ ap (λ (z : List ℕ). z ++ ds) pushed ∙ append_assoc h.before (h.now ++ u ∷ []) ds,
      h.messages,
      ap (λ (z : ℕ). z + place) h.base_is,
      record { before = h.now; last = u; whole = refl; open_before = record { alive = alive_units h.now s.reader h.at_now; short = h.short }; shows = g },
    )

pub streams_exact : StreamsAreExact
streams_exact us w = stream_facts us [] start_stream (record { before = []; now = []; whole = refl; messages = refl; base_is = refl; at_now = start_at; short = omega arith }) w
