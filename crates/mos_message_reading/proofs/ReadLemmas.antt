-- What is read from code units is the value of a message, whatever numbers these are.
use Rattle.std.proofs.Common.{◌≡◌, ℕ, ◌+◌, ◌-◌, Bool, true, false, cond, List, [], ◌∷◌, ◌++◌, refl, sym, ap, ◌∙◌, subst}
use Rattle.std.specs.Prelude.{Option, Some, None, nat_le}
use Rattle.mos_fields.specs.Characters.{is_allowed, is_high, is_low, pair_char}
use Rattle.mos_tables.specs.Events.{Event}
use Rattle.mos_lexer.specs.Units.{message_limit, Reader, start_reader, UnitStep, reads_on, completes, rejects, read_char, unit_read, too_long, unit_step, UnitRun, still_reads, completed, rejected_at, then_units, unit_run}
use Rattle.mos_lexer.proofs.Chars.{Spot, char_of, char_run, opening_spot, whole_spot, run_message}
use Rattle.mos_lexer.proofs.Places.{Agrees, read_agrees}
use Rattle.mos_lexer.proofs.UnitReads.{run_push}
use Rattle.mos_message_reading.specs.Values.{IsMessageValue, ReadValuesAreMessages}
use Rattle.mos_message_reading.proofs.ValueLemmas.{written_value}

-- some characters led here
abbrev Reached : Spot → Type 0
Reached w = (cs : List ℕ) × (char_run opening_spot cs ≡ Some w)

abbrev spot_of : Reader → Spot
spot_of s = record { position = s.position; lex = s.lex }

-- what a step comes to
abbrev Comes : UnitStep → Type 0
Comes (reads_on t) = Reached (spot_of t)
Comes (completes began v) = Reached (whole_spot v)
Comes (rejects place k) = Unit {0}

if_comes : (b : Bool) (x y : UnitStep) → Comes x → Comes y → Comes (cond b x y)
if_comes true x y h k = h
if_comes false x y h k = k

char_comes : (s : Reader) → Reached (spot_of s) → (place count c : ℕ) → Comes (read_char s place count c)
char_comes s h place count c = go (is_allowed c) refl
  where
    of_spot : (o : Option Spot) → char_of s.position s.lex c ≡ o → (u : UnitStep) → Agrees o count u → Comes u
    of_spot None i (rejects p k) g = tt
    of_spot None i (reads_on t) g = absurd g
    of_spot None i (completes began v) g = absurd g
    of_spot (Some w) i (rejects p k) g = tt
    of_spot (Some w) i (reads_on t) g = (h.0 ++ c ∷ [], run_push h.0 c (spot_of s) h.1 ∙ (i ∙ ap (λ (z : Spot). Some z) g.0))
    of_spot (Some w) i (completes began v) g = (h.0 ++ c ∷ [], run_push h.0 c (spot_of s) h.1 ∙ (i ∙ ap (λ (z : Spot). Some z) g))

    go : (b : Bool) → is_allowed c ≡ b → Comes (read_char s place count c)
    go true a = of_spot (char_of s.position s.lex c) refl (read_char s place count c) (read_agrees s place count c a)
    go false a = rw a tt

read_comes : (s : Reader) → Reached (spot_of s) → (u : ℕ) (o : Option ℕ) → Comes (unit_read s u o)
read_comes s h u None = if_comes (is_high u) _ _ h (if_comes (is_low u) _ _ tt (char_comes s h s.count (s.count + 1) u))
read_comes s h u (Some d) = if_comes (is_low u) _ _ (char_comes s h (s.count - 1) (s.count + 1) (pair_char d u)) tt

long_comes : (s : Reader) (x : UnitStep) → Comes x → Comes (too_long s x)
long_comes s (rejects place k) h = tt
long_comes s (reads_on t) h = if_comes (nat_le message_limit s.count) _ _ tt h
long_comes s (completes began v) h = if_comes (nat_le message_limit s.count) _ _ tt h

step_comes : (s : Reader) → Reached (spot_of s) → (u : ℕ) → Comes (unit_step s u)
unfolding unit_step
step_comes s h u = long_comes s (unit_read s u s.high) (read_comes s h u s.high)

-- what a run comes to
abbrev RunComes : UnitRun → Type 0
RunComes (still_reads t) = Unit {0}
RunComes (completed began v rest) = Reached (whole_spot v)
RunComes (rejected_at place k) = Unit {0}

run_comes : (us : List ℕ) (s : Reader) → Reached (spot_of s) → RunComes (unit_run s us)
unfolding unit_run
run_comes [] s h = tt
run_comes (u ∷ us) s h = go (λ t g. run_comes us t g) (unit_step s u) (step_comes s h u)
  where
    go : ((t : Reader) → Reached (spot_of t) → RunComes (unit_run t us)) → (o : UnitStep) → Comes o → RunComes (then_units o us (λ t. unit_run t us))
    go f (reads_on t) g = f t g
    go f (completes began v) g = g
    go f (rejects place k) g = tt

nothing_read : Reached (spot_of start_reader)
unfolding char_run
nothing_read = ([], refl)

pub read_value : ReadValuesAreMessages
read_value v us began rest e =
    let r : Reached (whole_spot v) = subst RunComes e (run_comes us start_reader nothing_read) in
    written_value v r.0 (run_message v r.0 r.1)
