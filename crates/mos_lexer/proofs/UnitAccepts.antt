-- An encoding of a message is read to its end, code unit after code unit.
use Rattle.std.proofs.Common.{◌≡◌, ℕ, ◌+◌, ◌-◌, ◌/◌, ◌%◌, ◌<◌, ◌≤◌, ◌⊎◌, inl, inr, true, false, List, [], ◌∷◌, ◌++◌, length, Option, Some, None, refl, sym, ap, subst, ◌∙◌, append_assoc, arith}
use Rattle.std.specs.Prelude.{nat_le}
use Rattle.std.specs.Char.Escape.{encode_utf16}
use Rattle.std.proofs.lemmas.List.{append-nil, length-append}
use Rattle.std.proofs.lemmas.Bool.{and_parts}
use Rattle.std.proofs.lemmas.Bool.Decides.{nat_tests}
use Rattle.mos_fields.specs.Characters.{is_allowed, are_allowed, is_high, is_low, pair_char, units_of}
use Rattle.mos_fields.proofs.CharacterLemmas.{allowed_cases, one_unit, two_units}
use Rattle.mos_tables.specs.Events.{Event}
use Rattle.mos_grammar.specs.RecordMachine.{complete}
use Rattle.mos_grammar.specs.Streams.{Position, inside}
use Rattle.mos_grammar.specs.Tokens.{Token}
use Rattle.mos_lexer.specs.Lexing.{WritesTokens}
use Rattle.mos_lexer.specs.Encodings.{Encodes}
use Rattle.mos_lexer.specs.Units.{message_limit, Reader, start_reader, UnitStep, reads_on, completes, rejects, read_char, too_long, unit_step, completed, then_units, unit_run}
use Rattle.mos_lexer.proofs.Chars.{Spot, char_of, then_spot, char_run, CharReads, CharTakes, whole_spot, run_back}
use Rattle.mos_lexer.proofs.Whole.{message_run}
use Rattle.mos_lexer.proofs.References.{reference_laws}
use Rattle.mos_lexer.proofs.Places.{IsOpenAt, Agrees, read_agrees, OpenStep, read_open}

-- behind a complete message no character is read
pub complete_stops : (v w : List Event) (more : List ℕ) → char_run (whole_spot v) more ≡ Some (whole_spot w) → (more ≡ []) × (v ≡ w)
complete_stops v w more f =
    let t : CharTakes (char_run (whole_spot v) more) [] w = subst (λ (z : Option Spot). CharTakes z [] w) (sym f) ([], refl, (refl, refl)) in
    let h : CharReads (whole_spot v) (more ++ []) w = run_back more [] (whole_spot v) w t in
    let r = h.2 in
    (sym (append-nil more) ∙ subst (λ (z : List Token). WritesTokens z (more ++ [])) r.0 h.1, sym r.1)

-- how many code units a character has
abbrev pub width : ℕ → ℕ
width c = length (encode_utf16 c)

low_unit : (c : ℕ) → c < 65536 → is_allowed c ≡ true → (is_high c ≡ false) × (is_low c ≡ false)
low_unit c h a = (grind (arith, nat_tests), grind (arith, nat_tests))

pub no_limit : (s : Reader) (x : UnitStep) → nat_le message_limit s.count ≡ false → too_long s x ≡ x
no_limit s (rejects p k) e = refl
no_limit s (reads_on t) e = rw e refl
no_limit s (completes began v) e = rw e refl

pub below : (k : ℕ) → k < message_limit → nat_le message_limit k ≡ false
below k h = grind (arith, nat_tests)

high_unit : (c : ℕ) → 65536 ≤ c → c < 1114112 → is_high (55296 + (c - 65536) / 1024) ≡ true
high_unit c h k = grind (arith, nat_tests)

second_unit : (c : ℕ) → is_low (56320 + (c - 65536) % 1024) ≡ true
second_unit c = grind (arith, nat_tests)

pair_again : (c : ℕ) → 65536 ≤ c → pair_char (55296 + (c - 65536) / 1024) (56320 + (c - 65536) % 1024) ≡ c
pair_again c h = omega arith

-- The code units of a character are read as the character.
pub char_units : (t : Reader) (c : ℕ) (rest : List ℕ) → t.high ≡ None → is_allowed c ≡ true → t.count + width c ≤ message_limit
    → unit_run t (encode_utf16 c ++ rest) ≡ then_units (read_char t t.count (t.count + width c) c) rest (λ u. unit_run u rest)
unfolding unit_run unit_step
char_units t c rest no_high a short = go (allowed_cases c a)
  where
    one : c < 65536 → unit_run t (encode_utf16 c ++ rest) ≡ then_units (read_char t t.count (t.count + width c) c) rest (λ u. unit_run u rest)
    one small =
        let e = one_unit c small in
        let d = low_unit c small a in
        let n : t.count + 1 ≤ message_limit = subst (λ (z : List ℕ). t.count + length z ≤ message_limit) e short in
        let s : t.count < message_limit = omega (arith, n) in
        rw (e, no_high, d.0, d.1, no_limit t (read_char t t.count (t.count + 1) c) (below t.count s)) refl

    two : 65536 ≤ c → c < 1114112 → unit_run t (encode_utf16 c ++ rest) ≡ then_units (read_char t t.count (t.count + width c) c) rest (λ u. unit_run u rest)
    two large few =
        let e = two_units c large in
        let h = high_unit c large few in
        let l = second_unit c in
        let n : t.count + 2 ≤ message_limit = subst (λ (z : List ℕ). t.count + length z ≤ message_limit) e short in
        let s : t.count < message_limit = omega (arith, n) in
        let s2 : t.count + 1 < message_limit = omega (arith, n) in
        let b = below t.count s in
        let b2 = below (t.count + 1) s2 in
        let i : t.count + 1 - 1 ≡ t.count = omega arith in
        let j : t.count + 1 + 1 ≡ t.count + 2 = omega arith in
        rw (e, no_high, h, b, l, i, j, pair_again c large, no_limit (record { position = t.position; lex = t.lex; start = t.start; opened = t.opened; count = t.count + 1; high = Some (55296 + (c - 65536) / 1024) }) (read_char t t.count (t.count + 2) c) b2) refl

    go : ((9 ≤ c) × (c < 55296)) ⊎ (((57344 ≤ c) × (c < 65534)) ⊎ ((65536 ≤ c) × (c < 1114112))) → unit_run t (encode_utf16 c ++ rest) ≡ then_units (read_char t t.count (t.count + width c) c) rest (λ u. unit_run u rest)
    go (inl p) = one (omega (arith, p.1))
    go (inr (inl p)) = one (omega (arith, p.1))
    go (inr (inr p)) = two p.0 p.1

-- the characters that follow lead to the end of the message
Leads : List ℕ → List Event → List ℕ → Type 0
Leads cs v rest = (u : Reader) → u.high ≡ None → IsOpenAt u.position → u.count + length (units_of cs) ≤ message_limit → char_run (record { position = u.position; lex = u.lex }) cs ≡ Some (whole_spot v) → (began : ℕ) × (unit_run u (units_of cs ++ rest) ≡ completed began v rest)

nothing_read : (u : Reader) {w : Spot} → char_run (record { position = u.position; lex = u.lex }) [] ≡ Some w → ◌≡◌ {A = Option Spot} (Some (record { position = u.position; lex = u.lex })) (Some w)
unfolding char_run
nothing_read u e = e

accept_one : (cs : List ℕ) (c : ℕ) (v : List Event) (rest : List ℕ) → is_allowed c ≡ true → Leads cs v rest → Leads (c ∷ cs) v rest
unfolding char_run Leads
accept_one cs c v rest a more t no_high i short e =
    let l : length (units_of (c ∷ cs)) ≡ width c + length (units_of cs) = length-append (encode_utf16 c) (units_of cs) in
    let room : t.count + width c ≤ message_limit = omega (arith, short, l) in
    let left : (t.count + width c) + length (units_of cs) ≤ message_limit = omega (arith, short, l) in
    let g = go left (char_of t.position t.lex c) e (read_char t t.count (t.count + width c) c) (read_agrees t t.count (t.count + width c) c a) (read_open t t.count (t.count + width c) c i) in
    (g.0, ap (unit_run t) (append_assoc (encode_utf16 c) (units_of cs) rest) ∙ char_units t c (units_of cs ++ rest) no_high a room ∙ g.1)
  where
    go : (t.count + width c) + length (units_of cs) ≤ message_limit → (o : Option Spot) → then_spot o (λ u. char_run u cs) ≡ Some (whole_spot v) → (x : UnitStep) → Agrees o (t.count + width c) x → OpenStep x
        → (began : ℕ) × (then_units x (units_of cs ++ rest) (λ u. unit_run u (units_of cs ++ rest)) ≡ completed began v rest)
    go left None h x g j = absurd cc
    go left (Some w) h (rejects p k) g j = absurd g
    go left (Some w) h (completes began v2) g j =
        let s = complete_stops v2 v cs (ap (λ (z : Spot). char_run z cs) (sym g) ∙ h) in
        (began, ap (λ (z : List Event). completed began z (units_of cs ++ rest)) s.1 ∙ ap (λ (z : List ℕ). completed began v (units_of z ++ rest)) s.0)
    go left (Some w) h (reads_on u) g j = more u g.2 j (subst (λ (z : ℕ). z + length (units_of cs) ≤ message_limit) (sym g.1) left) (ap (λ (z : Spot). char_run z cs) (sym g.0) ∙ h)

accepts : (cs : List ℕ) (v : List Event) (rest : List ℕ) → are_allowed cs ≡ true → Leads cs v rest
unfolding Leads
accepts [] v rest a = none
  where
    open_not_whole : (p : Position) → IsOpenAt p → p ≡ inside (complete v) → ⊥
    open_not_whole p i e = subst IsOpenAt e i

    same_spot : (x y : Spot) → ◌≡◌ {A = Option Spot} (Some x) (Some y) → x ≡ y
    same_spot x y e = cc

    none : (u : Reader) → u.high ≡ None → IsOpenAt u.position → u.count + length (units_of []) ≤ message_limit → char_run (record { position = u.position; lex = u.lex }) [] ≡ Some (whole_spot v) → (began : ℕ) × (unit_run u (units_of [] ++ rest) ≡ completed began v rest)
    none u h i s e = absurd (open_not_whole u.position i (ap (λ (z : Spot). z.position) (same_spot (record { position = u.position; lex = u.lex }) (whole_spot v) (nothing_read u e))))
accepts (c ∷ cs) v rest a = let ok = and_parts (is_allowed c) (are_allowed cs) a in accept_one cs c v rest ok.0 (accepts cs v rest ok.1)

-- Exactly the encodings of a message are read to its end, whatever follows.
pub encoding_read : (v : List Event) (us rest : List ℕ) → Encodes v us → (began : ℕ) × (unit_run start_reader (us ++ rest) ≡ completed began v rest)
unfolding Leads
encoding_read v us rest h =
    let n : length (units_of h.chars) ≤ message_limit = subst (λ (z : List ℕ). length z ≤ message_limit) h.units h.short in
    let a = accepts h.chars v rest h.allowed start_reader refl tt (omega (arith, n)) (message_run reference_laws v h.chars h.encodes) in
    (a.0, ap (λ (z : List ℕ). unit_run start_reader (z ++ rest)) h.units ∙ a.1)
