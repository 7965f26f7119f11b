-- A run in the reading of code units: each of its units is a character behind which the token goes on.
use Rattle.std.proofs.Common.{◌≡◌, ℕ, ◌+◌, ◌-◌, ◌<◌, ◌≤◌, true, false, List, [], ◌∷◌, length, suc, refl, sym, ap, ◌∙◌, subst, inl, inr, ◌⊎◌, ◌*◌, ◌/◌, ◌%◌, arith}
use Rattle.std.specs.Prelude.{Option, Some, None, nat_le}
use Rattle.std.specs.List.{list_all}
use Rattle.std.proofs.lemmas.Bool.{and_parts, lt-leb, cond-true, cond-false}
use Rattle.std.proofs.lemmas.Bool.Decides.{nat_tests}
use Rattle.mos_fields.specs.Characters.{is_allowed, is_high, is_low}
use Rattle.mos_lexer.specs.LexMachine.{LexState, LexStep, continues, whole_token, text_before, text_before_mark, no_token, no_reference, lex_step}
use Rattle.mos_lexer.specs.Units.{Reader, UnitStep, reads_on, completes, rejects, UnitRun, still_reads, message_limit, is_outside, read_char, lexed, unit_read, too_long, unit_step, unit_run, then_units}
use Rattle.std.specs.Char.Escape.{encode_utf16}
use Rattle.mos_scanner.specs.Parts.{part, IsCharacter}
use Rattle.mos_fields.proofs.CharacterLemmas.{allowed_cases, one_unit, two_units, not_high-low, not_high-above}
use Rattle.mos_scanner.proofs.PartLemmas.{length-part}
use Rattle.mos_scanner.specs.Runs.{is_lone, goes_on, lex_run}

lone_not_high : (u : ℕ) → is_lone u ≡ true → is_high u ≡ false
lone_not_high u e = grind (arith, nat_tests)

lone_not_low : (u : ℕ) → is_lone u ≡ true → is_low u ≡ false
lone_not_low u e = grind (arith, nat_tests)

lone_is_allowed : (u : ℕ) → is_lone u ≡ true → is_allowed u ≡ true
lone_is_allowed u e = grind (arith, nat_tests)

-- the reader once the token goes on behind so many units
abbrev pub gone_on : Reader → LexState → ℕ → Reader
gone_on s l count = record { position = s.position; lex = l; start = s.start; opened = s.opened; count = count; high = None }

-- one unit that is a character by itself
lone_read : (s : Reader) (u : ℕ) → is_lone u ≡ true → unit_read s u None ≡ lexed s s.count (s.count + 1) (lex_step (is_outside s.position) s.lex u)
lone_read s u e =
    cond-false (is_high u) _ _ (lone_not_high u e) ∙ (cond-false (is_low u) _ _ (lone_not_low u e) ∙ cond-true (is_allowed u) _ _ (lone_is_allowed u e))

in_limit : (s : Reader) (r : UnitStep) → s.count < message_limit → too_long s r ≡ r
in_limit s (reads_on t) h = cond-false (nat_le message_limit s.count) _ _ (lt-leb message_limit s.count h)
in_limit s (completes began v) h = cond-false (nat_le message_limit s.count) _ _ (lt-leb message_limit s.count h)
in_limit s (rejects place k) h = refl

lone_step : (s : Reader) (u : ℕ) (m : LexState) → s.high ≡ None → is_lone u ≡ true → lex_step (is_outside s.position) s.lex u ≡ continues m → s.count < message_limit
    → unit_step s u ≡ reads_on (gone_on s m (s.count + 1))
unfolding unit_step
lone_step s u m n e g h =
    ap (λ o. too_long s (unit_read s u o)) n
    ∙ (ap (too_long s) (lone_read s u e ∙ ap (lexed s s.count (s.count + 1)) g)
    ∙ in_limit s (reads_on (gone_on s m (s.count + 1))) h)

-- A run is read as its units are read one after another, where the message does not get too long in it.
pub lone_run : (x : List ℕ) (s : Reader) (l : LexState) → s.high ≡ None → s.count + length x ≤ message_limit → list_all is_lone x ≡ true
    → lex_run (is_outside s.position) s.lex x ≡ Some l → unit_run s x ≡ still_reads (gone_on s l (s.count + length x))
unfolding unit_run
lone_run [] s l n h a r = ap still_reads (nothing s l n (some_is s.lex l r))
  where
    some_is : (k l : LexState) → Some k ≡ Some l → k ≡ l
    some_is k l e = cc

    nothing : (s : Reader) (l : LexState) → s.high ≡ None → s.lex ≡ l → s ≡ gone_on s l (s.count + 0)
    nothing s l n e =
        let high : Option ℕ → Reader = λ o. record { position = s.position; lex = s.lex; start = s.start; opened = s.opened; count = s.count; high = o } in
        ap high n ∙ (ap (λ k. gone_on s k s.count) e ∙ ap (gone_on s l) (let z : s.count ≡ s.count + 0 = omega arith in z))
lone_run (u ∷ x) s l n h a r = go (lone_run x) (lex_step (is_outside s.position) s.lex u) refl r
  where
    lone : (is_lone u ≡ true) × (list_all is_lone x ≡ true)
    lone = and_parts (is_lone u) (list_all is_lone x) a

    more : LexState → Reader
    more m = gone_on s m (s.count + 1)

    go : ((t : Reader) (k : LexState) → t.high ≡ None → t.count + length x ≤ message_limit → list_all is_lone x ≡ true → lex_run (is_outside t.position) t.lex x ≡ Some k → unit_run t x ≡ still_reads (gone_on t k (t.count + length x)))
        → (q : LexStep) → lex_step (is_outside s.position) s.lex u ≡ q → goes_on q (λ m. lex_run (is_outside s.position) m x) ≡ Some l
        → then_units (unit_step s u) x (λ t. unit_run t x) ≡ still_reads (gone_on s l (s.count + suc (length x)))
    go ih (continues m) e f =
        ap (λ z. then_units z x (λ t. unit_run t x)) (lone_step s u m n lone.0 e (omega (arith, h)))
        ∙ (ih (gone_on s m (s.count + 1)) l refl (omega (arith, h)) lone.1 f
        ∙ ap (λ k. still_reads (gone_on s l k)) (let z : s.count + 1 + length x ≡ s.count + suc (length x) = omega arith in z))
    go ih (whole_token t) e f = absurd cc
    go ih (text_before raw y k) e f = absurd cc
    go ih (text_before_mark raw y) e f = absurd cc
    go ih no_token e f = absurd cc
    go ih (no_reference k) e f = absurd cc

-- ---- one character

-- what a reading of some units comes to, behind the last of them
abbrev pub ended : UnitStep → UnitRun
ended r = then_units r [] (λ t. still_reads t)

-- How many units were read, and which high one waits, is not asked for behind a character.
same_lexed : (s : Reader) (n : ℕ) (h : Option ℕ) (place count : ℕ) (x : LexStep)
    → lexed (record { position = s.position; lex = s.lex; start = s.start; opened = s.opened; count = n; high = h }) place count x ≡ lexed s place count x
same_lexed s n h place count (continues m) = refl
same_lexed s n h place count (whole_token w) = refl
same_lexed s n h place count (text_before raw y m) = refl
same_lexed s n h place count (text_before_mark raw y) = refl
same_lexed s n h place count no_token = refl
same_lexed s n h place count (no_reference k) = refl

-- a character of one unit
one_read : (s : Reader) (c : ℕ) → s.high ≡ None → s.count < message_limit → is_high c ≡ false → is_low c ≡ false → is_allowed c ≡ true
    → unit_run s (c ∷ []) ≡ ended (lexed s s.count (s.count + 1) (lex_step (is_outside s.position) s.lex c))
unfolding unit_run unit_step
one_read s c n h i l a =
    ap ended (in_limit s (unit_read s c s.high) h
    ∙ (ap (unit_read s c) n ∙ (cond-false (is_high c) _ _ i ∙ (cond-false (is_low c) _ _ l ∙ cond-true (is_allowed c) _ _ a))))

-- a character of a pair of units
two_read : (s : Reader) (u v c : ℕ) → s.high ≡ None → s.count + 2 ≤ message_limit → is_high u ≡ true → is_low v ≡ true → is_allowed c ≡ true
    → 65536 + (u - 55296) * 1024 + (v - 56320) ≡ c
    → unit_run s (u ∷ v ∷ []) ≡ ended (lexed s s.count (s.count + 2) (lex_step (is_outside s.position) s.lex c))
unfolding unit_run unit_step
two_read s u v c n h i l a e =
    let t : Reader = record { position = s.position; lex = s.lex; start = s.start; opened = s.opened; count = s.count + 1; high = Some u } in
    ap (λ r. then_units r (v ∷ []) (λ z. unit_run z (v ∷ [])))
    (in_limit s (unit_read s u s.high) (omega (arith, h)) ∙ (ap (unit_read s u) n ∙ cond-true (is_high u) _ _ i))
    ∙ ap ended (in_limit t (unit_read t v (Some u)) (omega (arith, h))
    ∙ (cond-true (is_low v) _ _ l
    ∙ (ap (λ k. read_char t (s.count + 1 - 1) (s.count + 1 + 1) k) e
    ∙ (cond-true (is_allowed c) _ _ a
    ∙ (same_lexed s (s.count + 1) (Some u) (s.count + 1 - 1) (s.count + 1 + 1) (lex_step (is_outside s.position) s.lex c)
    ∙ (ap (λ k. lexed s k (s.count + 1 + 1) (lex_step (is_outside s.position) s.lex c)) (let z : s.count + 1 - 1 ≡ s.count = omega arith in z)
    ∙ ap (λ k. lexed s s.count k (lex_step (is_outside s.position) s.lex c)) (let z : s.count + 1 + 1 ≡ s.count + 2 = omega arith in z)))))))

-- The units of a character are read as that character is, where the message does not get too long in it.
pub character_read : (s : Reader) (held : List ℕ) (here next c : ℕ) → IsCharacter held here next c → s.high ≡ None → s.count + (next - here) ≤ message_limit
    → unit_run s (part held here next) ≡ ended (lexed s s.count (s.count + (next - here)) (lex_step (is_outside s.position) s.lex c))
character_read s held here next c i n h = go (allowed_cases c i.allowed)
  where
    size : next - here ≡ length (encode_utf16 c)
    size = sym (length-part held here next i.within) ∙ ap length i.is

    Result_of : List ℕ → ℕ → Type 0
    Result_of x k = unit_run s x ≡ ended (lexed s s.count (s.count + k) (lex_step (is_outside s.position) s.lex c))

    one : c < 65536 → is_high c ≡ false → is_low c ≡ false → Result_of (part held here next) (next - here)
    one lt p q =
        let k : next - here ≡ 1 = size ∙ ap length (one_unit c lt) in
        subst (λ x. Result_of x (next - here)) (sym (i.is ∙ one_unit c lt)) (subst (λ z. Result_of (c ∷ []) z) (sym k) (one_read s c n (omega (arith, h, k)) p q i.allowed))

    low_small : (d : ℕ) → d < 55296 → is_low d ≡ false
    low_small d lt = grind (arith, nat_tests)

    low_large : (d : ℕ) → 57344 ≤ d → is_low d ≡ false
    low_large d lt = grind (arith, nat_tests)

    high_of : (k : ℕ) → k < 1048576 → is_high (55296 + k / 1024) ≡ true
    high_of k lt = grind (arith, nat_tests)

    low_of : (k : ℕ) → is_low (56320 + k % 1024) ≡ true
    low_of k = grind (arith, nat_tests)

    pair_of : (d : ℕ) → 65536 ≤ d → 65536 + (55296 + (d - 65536) / 1024 - 55296) * 1024 + (56320 + (d - 65536) % 1024 - 56320) ≡ d
    pair_of d le = omega arith

    go : ((9 ≤ c) × (c < 55296)) ⊎ (((57344 ≤ c) × (c < 65534)) ⊎ ((65536 ≤ c) × (c < 1114112))) → Result_of (part held here next) (next - here)
    go (inl p) = one (omega arith) (not_high-low c p.1) (low_small c p.1)
    go (inr (inl p)) = one (omega arith) (not_high-above c (omega arith)) (low_large c p.0)
    go (inr (inr p)) =
        let w = two_units c p.0 in
        let k : next - here ≡ 2 = size ∙ ap length w in
        subst (λ x. Result_of x (next - here)) (sym (i.is ∙ w)) (subst (λ z. Result_of ((55296 + (c - 65536) / 1024) ∷ (56320 + (c - 65536) % 1024) ∷ []) z) (sym k)
        (two_read s (55296 + (c - 65536) / 1024) (56320 + (c - 65536) % 1024) c n (omega (arith, h, k)) (high_of (c - 65536) (omega arith)) (low_of (c - 65536)) i.allowed (pair_of c p.0)))
