-- One character, or what is none, in the reading of code units, also where the message gets too long.
use Rattle.std.proofs.Common.{◌≡◌, ℕ, ◌+◌, ◌-◌, ◌*◌, ◌/◌, ◌%◌, ◌<◌, ◌≤◌, true, false, List, [], ◌∷◌, length, refl, sym, ap, ◌∙◌, subst, inl, inr, ◌⊎◌, arith}
use Rattle.std.specs.Prelude.{Option, Some, None, nat_le}
use Rattle.std.proofs.lemmas.Bool.{le-leb, lt-leb, cond-true, cond-false}
use Rattle.std.proofs.lemmas.Bool.Decides.{nat_tests}
use Rattle.std.specs.Char.Escape.{encode_utf16}
use Rattle.mos_fields.specs.Characters.{is_allowed, is_high, is_low}
use Rattle.mos_fields.proofs.CharacterLemmas.{allowed_cases, one_unit, two_units, not_high-low, not_high-above}
use Rattle.mos_lexer.specs.declared.kind.Kind.TheVariants as kinds
use Rattle.mos_lexer.specs.LexMachine.{LexStep, continues, whole_token, text_before, text_before_mark, no_token, no_reference, lex_step}
use Rattle.mos_lexer.specs.Units.{Reader, UnitStep, reads_on, completes, rejects, still_reads, rejected_at, message_limit, is_outside, read_char, lexed, unit_read, too_long, unit_step, unit_run, then_units}
use Rattle.mos_scanner.proofs.UnitLemmas.{ended}

-- ---- the units of a character

-- a character of one unit
pub record IsOne (x : List ℕ) (c : ℕ) : Type 0 where
  pub is : x ≡ c ∷ []
  pub not_high : is_high c ≡ false
  pub not_low : is_low c ≡ false

-- a character of a pair
pub record IsTwo (x : List ℕ) (c u v : ℕ) : Type 0 where
  pub is : x ≡ u ∷ v ∷ []
  pub high : is_high u ≡ true
  pub low : is_low v ≡ true
  pub pair : 65536 + (u - 55296) * 1024 + (v - 56320) ≡ c

pub one_or_two : (c : ℕ) → is_allowed c ≡ true → IsOne (encode_utf16 c) c ⊎ IsTwo (encode_utf16 c) c (55296 + (c - 65536) / 1024) (56320 + (c - 65536) % 1024)
one_or_two c a = go (allowed_cases c a)
  where
    low_small : (d : ℕ) → d < 55296 → is_low d ≡ false
    low_small d lt = grind (arith, nat_tests)

    low_large : (d : ℕ) → 57344 ≤ d → is_low d ≡ false
    low_large d lt = grind (arith, nat_tests)

    high_of : (k : ℕ) → k < 1048576 → is_high (55296 + k / 1024) ≡ true
    high_of k lt = grind (arith, nat_tests)

    low_of : (k : ℕ) → is_low (56320 + k % 1024) ≡ true
    low_of k = grind (arith, nat_tests)

    pair_of : (d : ℕ) → 65536 ≤ d → 65536 + (55296 + (d - 65536) / 1024 - 55296) * 1024 + (56320 + (d - 65536) % 1024 - 56320) ≡ d
    pair_of d le = omega arith

    go : ((9 ≤ c) × (c < 55296)) ⊎ (((57344 ≤ c) × (c < 65534)) ⊎ ((65536 ≤ c) × (c < 1114112))) → IsOne (encode_utf16 c) c ⊎ IsTwo (encode_utf16 c) c (55296 + (c - 65536) / 1024) (56320 + (c - 65536) % 1024)
    go (inl p) = inl (record { is = one_unit c (omega arith); not_high = not_high-low c p.1; not_low = low_small c p.1 })
    go (inr (inl p)) = inl (record { is = one_unit c (omega arith); not_high = not_high-above c (omega arith); not_low = low_large c p.0 })
    go (inr (inr p)) = inr (record { is = two_units c p.0; high = high_of (c - 65536) (omega arith); low = low_of (c - 65536); pair = pair_of c p.0 })

-- ---- the limit

-- behind the last unit that a message may have, only a rejection stays what it is
abbrev pub capped : UnitStep → UnitStep
capped (reads_on t) = rejects message_limit kinds.TooLong
capped (completes began v) = rejects message_limit kinds.TooLong
capped (rejects place k) = rejects place k

pub over_limit : (s : Reader) (r : UnitStep) → message_limit ≤ s.count → too_long s r ≡ capped r
over_limit s (reads_on t) h = cond-true (nat_le message_limit s.count) _ _ (le-leb message_limit s.count h)
over_limit s (completes began v) h = cond-true (nat_le message_limit s.count) _ _ (le-leb message_limit s.count h)
over_limit s (rejects place k) h = refl

pub below_limit : (s : Reader) (r : UnitStep) → s.count < message_limit → too_long s r ≡ r
below_limit s (reads_on t) h = cond-false (nat_le message_limit s.count) _ _ (lt-leb message_limit s.count h)
below_limit s (completes began v) h = cond-false (nat_le message_limit s.count) _ _ (lt-leb message_limit s.count h)
below_limit s (rejects place k) h = refl

-- behind a high unit
abbrev pub waiting : Reader → ℕ → Reader
waiting s u = record { position = s.position; lex = s.lex; start = s.start; opened = s.opened; count = s.count + 1; high = Some u }

high_read : (s : Reader) (u : ℕ) → s.high ≡ None → is_high u ≡ true → unit_read s u s.high ≡ reads_on (waiting s u)
high_read s u n i = ap (unit_read s u) n ∙ cond-true (is_high u) _ _ i

pub one_read : (s : Reader) (c : ℕ) → s.high ≡ None → is_high c ≡ false → is_low c ≡ false → is_allowed c ≡ true → unit_read s c s.high ≡ lexed s s.count (s.count + 1) (lex_step (is_outside s.position) s.lex c)
one_read s c n i l a = ap (unit_read s c) n ∙ (cond-false (is_high c) _ _ i ∙ (cond-false (is_low c) _ _ l ∙ cond-true (is_allowed c) _ _ a))

-- How many units were read, and which high one waits, is not asked for behind a character.
same_lexed : (s : Reader) (n : ℕ) (h : Option ℕ) (place count : ℕ) (x : LexStep)
    → lexed (record { position = s.position; lex = s.lex; start = s.start; opened = s.opened; count = n; high = h }) place count x ≡ lexed s place count x
same_lexed s n h place count (continues m) = refl
same_lexed s n h place count (whole_token w) = refl
same_lexed s n h place count (text_before raw y m) = refl
same_lexed s n h place count (text_before_mark raw y) = refl
same_lexed s n h place count no_token = refl
same_lexed s n h place count (no_reference k) = refl

second_read : (s : Reader) (u v c : ℕ) → is_low v ≡ true → is_allowed c ≡ true → 65536 + (u - 55296) * 1024 + (v - 56320) ≡ c
    → unit_read (waiting s u) v (Some u) ≡ lexed s s.count (s.count + 2) (lex_step (is_outside s.position) s.lex c)
second_read s u v c l a e =
    let t : Reader = waiting s u in
    cond-true (is_low v) _ _ l
    ∙ (ap (λ k. read_char t (s.count + 1 - 1) (s.count + 1 + 1) k) e
    ∙ (cond-true (is_allowed c) _ _ a
    ∙ (same_lexed s (s.count + 1) (Some u) (s.count + 1 - 1) (s.count + 1 + 1) (lex_step (is_outside s.position) s.lex c)
    ∙ (ap (λ k. lexed s k (s.count + 1 + 1) (lex_step (is_outside s.position) s.lex c)) (let z : s.count + 1 - 1 ≡ s.count = omega arith in z)
    ∙ ap (λ k. lexed s s.count k (lex_step (is_outside s.position) s.lex c)) (let z : s.count + 1 + 1 ≡ s.count + 2 = omega arith in z)))))

-- a high unit, and what follows it
high_first : (s : Reader) (u : ℕ) (x : List ℕ) → s.high ≡ None → s.count < message_limit → is_high u ≡ true → unit_run s (u ∷ x) ≡ unit_run (waiting s u) x
unfolding unit_run unit_step
high_first s u x n h i = ap (λ r. then_units r x (λ z. unit_run z x)) (below_limit s (unit_read s u s.high) h ∙ high_read s u n i)

-- a high unit that is one too many
pub high_over : (s : Reader) (u : ℕ) (x : List ℕ) → s.high ≡ None → message_limit ≤ s.count → is_high u ≡ true → unit_run s (u ∷ x) ≡ rejected_at message_limit kinds.TooLong
unfolding unit_run unit_step
high_over s u x n h i = ap (λ r. then_units r x (λ z. unit_run z x)) (over_limit s (unit_read s u s.high) h ∙ ap capped (high_read s u n i))

-- a character whose last unit is one too many
one_over : (s : Reader) (c : ℕ) → s.high ≡ None → message_limit ≤ s.count → is_high c ≡ false → is_low c ≡ false → is_allowed c ≡ true
    → unit_run s (c ∷ []) ≡ ended (capped (lexed s s.count (s.count + 1) (lex_step (is_outside s.position) s.lex c)))
unfolding unit_run unit_step
one_over s c n h i l a = ap ended (over_limit s (unit_read s c s.high) h ∙ ap capped (one_read s c n i l a))

two_over : (s : Reader) (u v c : ℕ) → s.high ≡ None → s.count < message_limit → message_limit ≤ s.count + 1 → is_high u ≡ true → is_low v ≡ true → is_allowed c ≡ true
    → 65536 + (u - 55296) * 1024 + (v - 56320) ≡ c → unit_run s (u ∷ v ∷ []) ≡ ended (capped (lexed s s.count (s.count + 2) (lex_step (is_outside s.position) s.lex c)))
unfolding unit_run unit_step
two_over s u v c n h g i l a e =
    high_first s u (v ∷ []) n h i ∙ ap ended (over_limit (waiting s u) (unit_read (waiting s u) v (Some u)) g ∙ ap capped (second_read s u v c l a e))

-- The units of a character of which the last is one too many.
pub over_read : (s : Reader) (x : List ℕ) (c : ℕ) → x ≡ encode_utf16 c → is_allowed c ≡ true → s.high ≡ None → s.count ≤ message_limit → s.count + length x ≡ message_limit + 1
    → unit_run s x ≡ ended (capped (lexed s s.count (s.count + length x) (lex_step (is_outside s.position) s.lex c)))
over_read s x c e a n h k = go (one_or_two c a)
  where
    go : IsOne (encode_utf16 c) c ⊎ IsTwo (encode_utf16 c) c (55296 + (c - 65536) / 1024) (56320 + (c - 65536) % 1024) → unit_run s x ≡ ended (capped (lexed s s.count (s.count + length x) (lex_step (is_outside s.position) s.lex c)))
    go (inl o) =
        let i : x ≡ c ∷ [] = e ∙ o.is in
        let m : length x ≡ 1 = ap length i in
        subst (λ z. unit_run s z ≡ ended (capped (lexed s s.count (s.count + length z) (lex_step (is_outside s.position) s.lex c)))) (sym i)
        (one_over s c n (omega (arith, k, m)) o.not_high o.not_low a)
    go (inr o) =
        let i : x ≡ (55296 + (c - 65536) / 1024) ∷ (56320 + (c - 65536) % 1024) ∷ [] = e ∙ o.is in
        let m : length x ≡ 2 = ap length i in
        subst (λ z. unit_run s z ≡ ended (capped (lexed s s.count (s.count + length z) (lex_step (is_outside s.position) s.lex c)))) (sym i)
        (two_over s (55296 + (c - 65536) / 1024) (56320 + (c - 65536) % 1024) c n (omega (arith, k, m)) (omega (arith, k, m)) o.high o.low a o.pair)

-- The units of a character of which more than one are too many.
pub both_over : (s : Reader) (x : List ℕ) (c : ℕ) → x ≡ encode_utf16 c → is_allowed c ≡ true → s.high ≡ None → s.count ≤ message_limit → message_limit + 1 < s.count + length x
    → unit_run s x ≡ rejected_at message_limit kinds.TooLong
both_over s x c e a n h k = go (one_or_two c a)
  where
    go : IsOne (encode_utf16 c) c ⊎ IsTwo (encode_utf16 c) c (55296 + (c - 65536) / 1024) (56320 + (c - 65536) % 1024) → unit_run s x ≡ rejected_at message_limit kinds.TooLong
    go (inl o) = absurd (let m : length x ≡ 1 = ap length (e ∙ o.is) in omega (arith, k, m))
    go (inr o) =
        let i : x ≡ (55296 + (c - 65536) / 1024) ∷ (56320 + (c - 65536) % 1024) ∷ [] = e ∙ o.is in
        let m : length x ≡ 2 = ap length i in
        ap (unit_run s) i ∙ high_over s (55296 + (c - 65536) / 1024) ((56320 + (c - 65536) % 1024) ∷ []) n (omega (arith, k, m)) o.high

-- a character has a unit, and two at most
pub some_units : (c : ℕ) → is_allowed c ≡ true → (1 ≤ length (encode_utf16 c)) × (length (encode_utf16 c) ≤ 2)
some_units c a = go (one_or_two c a)
  where
    go : IsOne (encode_utf16 c) c ⊎ IsTwo (encode_utf16 c) c (55296 + (c - 65536) / 1024) (56320 + (c - 65536) % 1024) → (1 ≤ length (encode_utf16 c)) × (length (encode_utf16 c) ≤ 2)
    go (inl o) = let m : length (encode_utf16 c) ≡ 1 = ap length o.is in (omega (arith, m), omega (arith, m))
    go (inr o) = let m : length (encode_utf16 c) ≡ 2 = ap length o.is in (omega (arith, m), omega (arith, m))

-- ---- what is no character

pub nothing_read : (s : Reader) → unit_run s [] ≡ still_reads s
unfolding unit_run
nothing_read s = refl

-- a high unit is all that is left
pub high_waits : (s : Reader) (u : ℕ) → s.high ≡ None → s.count < message_limit → is_high u ≡ true → unit_run s (u ∷ []) ≡ still_reads (waiting s u)
unfolding unit_run
high_waits s u n h i = high_first s u [] n h i

-- a low unit behind no high one
pub low_alone : (s : Reader) (u : ℕ) (x : List ℕ) → s.high ≡ None → is_high u ≡ false → is_low u ≡ true → unit_run s (u ∷ x) ≡ rejected_at s.count kinds.BadUnit
unfolding unit_run unit_step
low_alone s u x n i l = ap (λ r. then_units (too_long s r) x (λ z. unit_run z x)) (ap (unit_read s u) n ∙ (cond-false (is_high u) _ _ i ∙ cond-true (is_low u) _ _ l))

low_not_high : (u : ℕ) → is_low u ≡ true → is_high u ≡ false
low_not_high u e = grind (arith, nat_tests)

pub lone_low : (s : Reader) (u : ℕ) (x : List ℕ) → s.high ≡ None → is_low u ≡ true → unit_run s (u ∷ x) ≡ rejected_at s.count kinds.BadUnit
lone_low s u x n l = low_alone s u x n (low_not_high u l) l

-- a high unit with another one than a low one behind it
pub high_alone : (s : Reader) (u v : ℕ) (x : List ℕ) → s.high ≡ None → s.count < message_limit → is_high u ≡ true → is_low v ≡ false → unit_run s (u ∷ v ∷ x) ≡ rejected_at s.count kinds.BadUnit
unfolding unit_run unit_step
high_alone s u v x n h i l =
    high_first s u (v ∷ x) n h i
    ∙ (ap (λ r. then_units (too_long (waiting s u) r) x (λ z. unit_run z x)) (cond-false (is_low v) _ _ l)
    ∙ ap (λ k. rejected_at k kinds.BadUnit) (let z : s.count + 1 - 1 ≡ s.count = omega arith in z))

-- a character that may not stand anywhere
pub forbidden_read : (s : Reader) (u : ℕ) (x : List ℕ) → s.high ≡ None → is_high u ≡ false → is_low u ≡ false → is_allowed u ≡ false → unit_run s (u ∷ x) ≡ rejected_at s.count kinds.BadChar
unfolding unit_run unit_step
forbidden_read s u x n i l a =
    ap (λ r. then_units (too_long s r) x (λ z. unit_run z x)) (ap (unit_read s u) n ∙ (cond-false (is_high u) _ _ i ∙ (cond-false (is_low u) _ _ l ∙ cond-false (is_allowed u) _ _ a)))
