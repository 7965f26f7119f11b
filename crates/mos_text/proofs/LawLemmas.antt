-- Laws of the reading of bytes.
use Rattle.std.proofs.Common.{◌≡◌, ℕ, ◌+◌, ◌-◌, ◌*◌, ◌/◌, ◌%◌, ◌<◌, ◌≤◌, ◌⊎◌, inl, inr, Bool, true, false, cond, List, [], ◌∷◌, ◌++◌, length, length-append, Option, Some, None, refl, sym, ap, ◌∙◌, arith}
use Rattle.std.proofs.lemmas.Bool.{and_parts}
use Rattle.std.proofs.lemmas.Bool.Decides.{nat_tests}
use Rattle.std.specs.Char.Escape.{encode_utf16}
use Rattle.std.proofs.lemmas.List.Concat.{flat_map-append}
use Rattle.mos_fields.specs.Characters.{Text, is_allowed, are_allowed, is_high, is_low, pair_char, unit_bytes, bytes_of, units_of, units_in}
use Rattle.mos_fields.proofs.CharacterLemmas.{allowed_cases, one_unit, two_units, allowed_not_high, allowed_not_low}
use Rattle.mos_text.specs.declared.fault.TextFault.{TextFault}
use Rattle.mos_text.specs.declared.fault.TextFault.TheVariants.{BadUnit as bad_unit, BadChar as bad_char}
use Rattle.mos_text.specs.declared.reading.Reading.{Reading}
use Rattle.mos_text.specs.Faults.{first_fault, chars_before_fault}
use Rattle.mos_text.specs.Reading.{start, after, gained, before, byte_step, byte_char, char_at, fault_at, high_after}

-- ---- pieces

pub after_pieces : (r : Reading) (a b : List ℕ) → after r (a ++ b) ≡ after (after r a) b
unfolding after
after_pieces r [] b = refl
after_pieces r (x ∷ a) b = after_pieces (byte_step r x) a b

before_append : (o : Option ℕ) (x y : Text) → before o (x ++ y) ≡ before o x ++ y
before_append None x y = refl
before_append (Some c) x y = refl

pub gained_pieces : (r : Reading) (a b : List ℕ) → gained r (a ++ b) ≡ gained r a ++ gained (after r a) b
unfolding after gained
gained_pieces r [] b = refl
gained_pieces r (x ∷ a) b = ap (before (byte_char r x)) (gained_pieces (byte_step r x) a b) ∙ before_append (byte_char r x) (gained (byte_step r x) a) (gained (after (byte_step r x) a) b)

-- ---- code units

-- a reading that waits for no byte
abbrev pub rest : ℕ → Option ℕ → Option TextFault → Reading
rest k h f = record { place = k; odd = None; high = h; fault = f }

-- the reading behind code units, and their characters
abbrev run : ℕ → Option ℕ → Option TextFault → List ℕ → Option TextFault
run k h f [] = f
run k h f (u ∷ us) = run (k + 1) (high_after h u) (fault_at f h k u) us

abbrev told : ℕ → Option ℕ → Option TextFault → List ℕ → Text
told k h f [] = []
told k h f (u ∷ us) = before (char_at f h u) (told (k + 1) (high_after h u) (fault_at f h k u) us)

-- bytes are read by their code units
after_units : (k : ℕ) (h : Option ℕ) (f : Option TextFault) (bs : List ℕ) → (after (rest k h f) bs).fault ≡ run k h f (units_in bs)
unfolding after units_in
after_units k h f [] = refl
after_units k h f (a ∷ []) = refl
after_units k h f (a ∷ b ∷ bs) = after_units (k + 1) (high_after h (a * 256 + b)) (fault_at f h k (a * 256 + b)) bs

gained_units : (k : ℕ) (h : Option ℕ) (f : Option TextFault) (bs : List ℕ) → gained (rest k h f) bs ≡ told k h f (units_in bs)
unfolding gained units_in
gained_units k h f [] = refl
gained_units k h f (a ∷ []) = refl
gained_units k h f (a ∷ b ∷ bs) = ap (before (char_at f h (a * 256 + b))) (gained_units (k + 1) (high_after h (a * 256 + b)) (fault_at f h k (a * 256 + b)) bs)

run_faulty : (k : ℕ) (h : Option ℕ) (f : TextFault) (us : List ℕ) → run k h (Some f) us ≡ Some f
run_faulty k h f [] = refl
run_faulty k h f (u ∷ us) = run_faulty (k + 1) (high_after h u) f us

told_faulty : (k : ℕ) (h : Option ℕ) (f : TextFault) (us : List ℕ) → told k h (Some f) us ≡ []
told_faulty k h f [] = refl
told_faulty k h f (u ∷ us) = told_faulty (k + 1) (high_after h u) f us

back_one : (k : ℕ) → k + 1 - 1 ≡ k
back_one k = omega arith

two_on : (k : ℕ) → k + 1 + 1 ≡ k + 2
two_on k = omega arith

run_from : (k u v : ℕ) (us : List ℕ) (a b d e : Bool) → is_high u ≡ a → is_low v ≡ b → is_low u ≡ d → is_allowed u ≡ e
    → run (k + 2) None None us ≡ first_fault (k + 2) us → run (k + 1) None None (v ∷ us) ≡ first_fault (k + 1) (v ∷ us)
    → run k None None (u ∷ v ∷ us) ≡ first_fault k (u ∷ v ∷ us)
unfolding first_fault
run_from k u v us true true d e p q r s i j = rw (p, q) (ap (λ n. run n None None us) (two_on k) ∙ i)
run_from k u v us true false d e p q r s i j = rw (p, q) (run_faulty (k + 1 + 1) None (bad_unit (k + 1 - 1)) us ∙ ap (λ n. Some (bad_unit n)) (back_one k))
run_from k u v us false b true e p q r s i j = rw (p, r) (run_faulty (k + 1) None (bad_unit k) (v ∷ us))
run_from k u v us false b false true p q r s i j = rw (p, r, s) j
run_from k u v us false b false false p q r s i j = rw (p, r, s) (run_faulty (k + 1) None (bad_char k) (v ∷ us))

last_from : (k u : ℕ) (a d e : Bool) → is_high u ≡ a → is_low u ≡ d → is_allowed u ≡ e → run k None None (u ∷ []) ≡ first_fault k (u ∷ [])
unfolding first_fault
last_from k u true d e p r s = rw p refl
last_from k u false d e p r s = rw p refl

run_first : (k : ℕ) (us : List ℕ) → run k None None us ≡ first_fault k us
unfolding first_fault
run_first k [] = refl
run_first k (u ∷ []) = last_from k u (is_high u) (is_low u) (is_allowed u) refl refl refl
run_first k (u ∷ v ∷ us) = run_from k u v us (is_high u) (is_low v) (is_low u) (is_allowed u) refl refl refl refl (run_first (k + 2) us) (run_first (k + 1) (v ∷ us))

told_from : (k u v : ℕ) (us : List ℕ) (a b d e : Bool) → is_high u ≡ a → is_low v ≡ b → is_low u ≡ d → is_allowed u ≡ e
    → told (k + 2) None None us ≡ chars_before_fault us → told (k + 1) None None (v ∷ us) ≡ chars_before_fault (v ∷ us)
    → told k None None (u ∷ v ∷ us) ≡ chars_before_fault (u ∷ v ∷ us)
unfolding chars_before_fault
told_from k u v us true true d e p q r s i j = rw (p, q) (ap (λ x. pair_char u v ∷ x) (ap (λ n. told n None None us) (two_on k) ∙ i))
told_from k u v us true false d e p q r s i j = rw (p, q) (told_faulty (k + 1 + 1) None (bad_unit (k + 1 - 1)) us)
told_from k u v us false b true e p q r s i j = rw (p, r) (told_faulty (k + 1) None (bad_unit k) (v ∷ us))
told_from k u v us false b false true p q r s i j = rw (p, r, s) (ap (λ x. u ∷ x) j)
told_from k u v us false b false false p q r s i j = rw (p, r, s) (told_faulty (k + 1) None (bad_char k) (v ∷ us))

told_last : (k u : ℕ) (a d e : Bool) → is_high u ≡ a → is_low u ≡ d → is_allowed u ≡ e → told k None None (u ∷ []) ≡ chars_before_fault (u ∷ [])
unfolding chars_before_fault
told_last k u true d e p r s = rw p refl
told_last k u false true e p r s = rw (p, r) refl
told_last k u false false true p r s = rw (p, r, s) refl
told_last k u false false false p r s = rw (p, r, s) refl

told_first : (k : ℕ) (us : List ℕ) → told k None None us ≡ chars_before_fault us
unfolding chars_before_fault
told_first k [] = refl
told_first k (u ∷ []) = told_last k u (is_high u) (is_low u) (is_allowed u) refl refl refl
told_first k (u ∷ v ∷ us) = told_from k u v us (is_high u) (is_low v) (is_low u) (is_allowed u) refl refl refl refl (told_first (k + 2) us) (told_first (k + 1) (v ∷ us))

pub fault_of_units : (bs : List ℕ) → (after start bs).fault ≡ first_fault 0 (units_in bs)
fault_of_units bs = after_units 0 None None bs ∙ run_first 0 (units_in bs)

pub chars_of_units : (bs : List ℕ) → gained start bs ≡ chars_before_fault (units_in bs)
chars_of_units bs = gained_units 0 None None bs ∙ told_first 0 (units_in bs)

-- ---- texts

-- the bytes of a unit are that unit
whole_unit : (u : ℕ) → u / 256 * 256 + u % 256 ≡ u
whole_unit u = omega arith

after_unit : (k : ℕ) (h : Option ℕ) (f : Option TextFault) (u : ℕ) (bs : List ℕ) → after (rest k h f) (unit_bytes u ++ bs) ≡ after (rest (k + 1) (high_after h u) (fault_at f h k u)) bs
unfolding after
after_unit k h f u bs = ap (λ n. after (rest (k + 1) (high_after h n) (fault_at f h k n)) bs) (whole_unit u)

gained_unit : (k : ℕ) (h : Option ℕ) (f : Option TextFault) (u : ℕ) (bs : List ℕ) → gained (rest k h f) (unit_bytes u ++ bs) ≡ before (char_at f h u) (gained (rest (k + 1) (high_after h u) (fault_at f h k u)) bs)
unfolding gained
gained_unit k h f u bs = ap (λ n. before (char_at f h n) (gained (rest (k + 1) (high_after h n) (fault_at f h k n)) bs)) (whole_unit u)

high_of : (p : ℕ) → p < 1048576 → is_high (55296 + p / 1024) ≡ true
high_of p h = grind (arith, nat_tests)

low_of : (p : ℕ) → is_low (56320 + p % 1024) ≡ true
low_of p = grind (arith, nat_tests)

pair_of : (c : ℕ) → 65536 ≤ c → pair_char (55296 + (c - 65536) / 1024) (56320 + (c - 65536) % 1024) ≡ c
pair_of c h = omega arith

lone_after : (k c : ℕ) → is_allowed c ≡ true → rest (k + 1) (high_after None c) (fault_at None None k c) ≡ rest (k + 1) None None
lone_after k c e = rw (allowed_not_high c e, allowed_not_low c e, e) refl

lone_char : (c : ℕ) → is_allowed c ≡ true → char_at None None c ≡ Some c
lone_char c e = rw (allowed_not_high c e, allowed_not_low c e, e) refl

-- what a character leaves of a reading at rest
pub record Reads (k c : ℕ) (bs : List ℕ) : Type 0 where
  pub count : ℕ
  pub counted : count ≡ length (encode_utf16 c)
  pub state : after (rest k None None) (bytes_of (encode_utf16 c) ++ bs) ≡ after (rest (k + count) None None) bs
  pub chars : gained (rest k None None) (bytes_of (encode_utf16 c) ++ bs) ≡ c ∷ gained (rest (k + count) None None) bs

reads_one : (k c : ℕ) (bs : List ℕ) → is_allowed c ≡ true → c < 65536 → Reads k c bs
reads_one k c bs e h =
    let bytes : bytes_of (encode_utf16 c) ++ bs ≡ unit_bytes c ++ bs = ap (λ us. bytes_of us ++ bs) (one_unit c h) in
    record {
      count = 1;
      counted = sym (ap length (one_unit c h));
      state = ap (after (rest k None None)) bytes ∙ (after_unit k None None c bs ∙ ap (λ r. after r bs) (lone_after k c e));
      chars = ap (gained (rest k None None)) bytes ∙ (gained_unit k None None c bs ∙ (ap (λ o. before o (gained (rest (k + 1) (high_after None c) (fault_at None None k c)) bs)) (lone_char c e) ∙ ap (λ r. c ∷ gained r bs) (lone_after k c e)));
    }

pair_first : (k u : ℕ) → is_high u ≡ true → rest (k + 1) (high_after None u) (fault_at None None k u) ≡ rest (k + 1) (Some u) None
pair_first k u e = rw e refl

pair_second : (k h u : ℕ) → is_low u ≡ true → rest (k + 1 + 1) (high_after (Some h) u) (fault_at None (Some h) (k + 1) u) ≡ rest (k + 2) None None
pair_second k h u e = ap (λ b. rest (k + 1 + 1) None (cond b None (Some (bad_unit (k + 1 - 1))))) e ∙ ap (λ n. rest n None None) (two_on k)

no_char : (u : ℕ) → is_high u ≡ true → char_at None None u ≡ None
no_char u e = rw e refl

pair_told : (h u : ℕ) → is_low u ≡ true → char_at None (Some h) u ≡ Some (pair_char h u)
pair_told h u e = rw e refl

reads_two : (k c : ℕ) (bs : List ℕ) → 65536 ≤ c → c < 1114112 → Reads k c bs
reads_two k c bs h i =
    let p = c - 65536 in
    let first = 55296 + p / 1024 in
    let second = 56320 + p % 1024 in
    let one : is_high first ≡ true = high_of p (omega arith) in
    let two : is_low second ≡ true = low_of p in
    let bytes : bytes_of (encode_utf16 c) ++ bs ≡ unit_bytes first ++ (unit_bytes second ++ bs) = ap (λ us. bytes_of us ++ bs) (two_units c h) in
    record {
      count = 2;
      counted = sym (ap length (two_units c h));
      state = ap (after (rest k None None)) bytes ∙ (after_unit k None None first (unit_bytes second ++ bs) ∙ (ap (λ r. after r (unit_bytes second ++ bs)) (pair_first k first one)
          ∙ (after_unit (k + 1) (Some first) None second bs ∙ ap (λ r. after r bs) (pair_second k first second two))));
      chars = ap (gained (rest k None None)) bytes ∙ (gained_unit k None None first (unit_bytes second ++ bs) ∙ (ap (λ o. before o (gained (rest (k + 1) (high_after None first) (fault_at None None k first)) (unit_bytes second ++ bs))) (no_char first one)
          ∙ (ap (λ r. gained r (unit_bytes second ++ bs)) (pair_first k first one) ∙ (gained_unit (k + 1) (Some first) None second bs ∙ (ap (λ o. before o (gained (rest (k + 1 + 1) (high_after (Some first) second) (fault_at None (Some first) (k + 1) second)) bs)) (pair_told first second two)
          ∙ (ap (λ r. pair_char first second ∷ gained r bs) (pair_second k first second two) ∙ ap (λ d. d ∷ gained (rest (k + 2) None None) bs) (pair_of c h)))))));
    }

reads_char : (k c : ℕ) (bs : List ℕ) → is_allowed c ≡ true → Reads k c bs
reads_char k c bs e = go (allowed_cases c e)
  where
    go : ((9 ≤ c) × (c < 55296)) ⊎ (((57344 ≤ c) × (c < 65534)) ⊎ ((65536 ≤ c) × (c < 1114112))) → Reads k c bs
    go (inl p) = reads_one k c bs e (omega arith)
    go (inr (inl p)) = reads_one k c bs e (omega arith)
    go (inr (inr p)) = reads_two k c bs p.0 p.1

split_bytes : (c : ℕ) (x : Text) → bytes_of (units_of (c ∷ x)) ≡ bytes_of (encode_utf16 c) ++ bytes_of (units_of x)
split_bytes c x = flat_map-append unit_bytes (encode_utf16 c) (units_of x)

after_from : (k : ℕ) (x : Text) → are_allowed x ≡ true → after (rest k None None) (bytes_of (units_of x)) ≡ rest (k + length (units_of x)) None None
unfolding after
after_from k [] e = ap (λ n. rest n None None) (let z : k ≡ k + 0 = omega arith in z)
after_from k (c ∷ x) e =
    let p = and_parts (is_allowed c) (are_allowed x) e in
    let r = reads_char k c (bytes_of (units_of x)) p.0 in
    ap (after (rest k None None)) (split_bytes c x) ∙ (r.state ∙ (after_from (k + r.count) x p.1
    ∙ ap (λ n. rest n None None) (let count = r.counted in let z : k + r.count + length (units_of x) ≡ k + length (units_of (c ∷ x)) = omega (arith, length-append (encode_utf16 c) (units_of x)) in z)))

gained_from : (k : ℕ) (x : Text) → are_allowed x ≡ true → gained (rest k None None) (bytes_of (units_of x)) ≡ x
unfolding gained
gained_from k [] e = refl
gained_from k (c ∷ x) e =
    let p = and_parts (is_allowed c) (are_allowed x) e in
    let r = reads_char k c (bytes_of (units_of x)) p.0 in
    ap (gained (rest k None None)) (split_bytes c x) ∙ (r.chars ∙ ap (λ y. c ∷ y) (gained_from (k + r.count) x p.1))

pub after_text : (x : Text) → are_allowed x ≡ true → after start (bytes_of (units_of x)) ≡ rest (length (units_of x)) None None
after_text x e = after_from 0 x e ∙ ap (λ n. rest n None None) (let z : 0 + length (units_of x) ≡ length (units_of x) = omega arith in z)

pub gained_text : (x : Text) → are_allowed x ≡ true → gained start (bytes_of (units_of x)) ≡ x
gained_text x e = gained_from 0 x e
