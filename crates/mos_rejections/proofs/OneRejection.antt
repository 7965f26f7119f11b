-- A rejection is read as what it is, so it is the only one of its code units.
use Rattle.std.proofs.Common.{◌≡◌, ℕ, ◌+◌, ◌-◌, ◌<◌, Bool, true, false, List, [], ◌∷◌, ◌++◌, length, Option, Some, None, refl, sym, ap, subst, ◌∙◌, append_assoc, arith, ◌⊎◌, inl, inr}
use Rattle.std.specs.Prelude.{nat_le, ◌&&◌}
use Rattle.std.specs.Char.Escape.{encode_utf16}
use Rattle.std.proofs.lemmas.Bool.{and_parts}
use Rattle.std.proofs.lemmas.Bool.Decides.{nat_tests}
use Rattle.std.proofs.lemmas.List.{append-nil}
use Rattle.std.proofs.lemmas.List.Folds.{list_all-append}
use Rattle.mos_fields.specs.Characters.{Text, is_allowed, are_allowed, is_high, is_low, pair_char, units_of, chars_of}
use Rattle.mos_fields.proofs.CharacterLemmas.{chars_of-nil, chars_of-encoded, chars_of-pair, chars_of-unpaired, one_unit, allowed_not_high}
use Rattle.mos_lexer.specs.declared.kind.Kind.{Kind}
use Rattle.mos_lexer.specs.declared.kind.Kind.TheVariants as kinds
use Rattle.mos_lexer.specs.LexMachine.{lex_step}
use Rattle.mos_lexer.specs.Units.{message_limit, is_outside, Reader, UnitStep, reads_on, completes, rejects, lexed, read_char, unit_read, too_long, unit_step}
use Rattle.mos_lexer.proofs.Chars.{Spot, char_of, char_run, opening_spot, whole_spot}
use Rattle.mos_lexer.proofs.Places.{Agrees, read_agrees}
use Rattle.mos_lexer.proofs.References.{reference_laws}
use Rattle.mos_lexer.proofs.UnitReads.{pair_units, run_push}
use Rattle.mos_lexer.proofs.Whole.{message_run as message_runs_whole}
use Rattle.mos_rejections.specs.Rejections.{RejectsChar, waiting, IsWaiting, AreAlive, AreMessage, is_character, ShowsUnit, lone_low, lone_high, forbidden, wrong_char, too_many}
use Rattle.mos_rejections.proofs.Amp.{last_one}
use Rattle.mos_rejections.proofs.AliveRuns.{alive_runs}
use Rattle.mos_rejections.proofs.Reaching.{Reached}
use Rattle.mos_rejections.proofs.Reading.{width_of}
use Rattle.mos_rejections.proofs.UnitReading.{UnitsAt, one_more}
use Rattle.mos_rejections.proofs.Showing.{refused_lexed}
use Rattle.mos_rejections.proofs.Answering.{shown}

no_both : {A : Type 0} (b : Bool) → b ≡ true → b ≡ false → A
no_both true h k = absurd cc
no_both false h k = absurd cc

-- ---- code units are those of one text

-- the characters of the units of allowed characters, and of what follows
chars_on : (c : Text) (w : List ℕ) → are_allowed c ≡ true → chars_of (units_of c ++ w) ≡ c ++ chars_of w
chars_on [] w a = refl
chars_on (b ∷ c) w a =
    let p = and_parts (is_allowed b) (are_allowed c) a in
    ap chars_of (append_assoc (encode_utf16 b) (units_of c) w) ∙ chars_of-encoded b (units_of c ++ w) p.0 ∙ ap (λ (z : Text). b ∷ z) (chars_on c w p.1)

one_text : (b c : Text) (v w : List ℕ) → are_allowed b ≡ true → are_allowed c ≡ true → units_of b ++ v ≡ units_of c ++ w → b ++ chars_of v ≡ c ++ chars_of w
one_text b c v w i j e = sym (chars_on b v i) ∙ ap chars_of e ∙ chars_on c w j

chars_one : (u : ℕ) → chars_of (u ∷ []) ≡ u ∷ []
unfolding chars_of
chars_one u = refl

chars_waiting : (o : Option ℕ) → chars_of (waiting o) ≡ waiting o
chars_waiting None = chars_of-nil
chars_waiting (Some h) = chars_one h

last_allowed : (c : Text) (d : ℕ) → are_allowed (c ++ d ∷ []) ≡ true → (are_allowed c ≡ true) × (is_allowed d ≡ true)
last_allowed c d a =
    let p = and_parts (are_allowed c) (are_allowed (d ∷ [])) (sym (list_all-append is_allowed c (d ∷ [])) ∙ a) in
    (p.0, (and_parts (is_allowed d) true p.1).0)

-- no allowed character is a high unit
no_high_last : {A : Type 0} (c : Text) (h : ℕ) → are_allowed (c ++ h ∷ []) ≡ true → is_high h ≡ true → A
no_high_last c h a i = no_both (is_high h) i (allowed_not_high h (last_allowed c h a).1)

one_waiting : (b c : Text) (o r : Option ℕ) → are_allowed b ≡ true → are_allowed c ≡ true → IsWaiting o → IsWaiting r → b ++ waiting o ≡ c ++ waiting r → (b ≡ c) × (o ≡ r)
one_waiting b c None None i j k l e = (sym (append-nil b) ∙ e ∙ append-nil c, refl)
one_waiting b c (Some h) None i j k l e = no_high_last b h (ap are_allowed (e ∙ append-nil c) ∙ j) k
one_waiting b c None (Some g) i j k l e = no_high_last c g (ap are_allowed (sym e ∙ append-nil b) ∙ i) l
one_waiting b c (Some h) (Some g) i j k l e = let r = last_one b c h g e in (r.0, ap (λ (z : ℕ). Some z) r.1)

-- code units are those of one text, and perhaps of one high unit
units_one : (us : List ℕ) (b c : Text) (o r : Option ℕ) → are_allowed b ≡ true → are_allowed c ≡ true → IsWaiting o → IsWaiting r → us ≡ units_of b ++ waiting o → us ≡ units_of c ++ waiting r → (b ≡ c) × (o ≡ r)
units_one us b c o r i j k l e f =
    one_waiting b c o r i j k l (ap (λ (z : List ℕ). b ++ z) (sym (chars_waiting o)) ∙ one_text b c (waiting o) (waiting r) i j (sym e ∙ f) ∙ ap (λ (z : List ℕ). c ++ z) (chars_waiting r))

-- the units of a character are that character's
character_units : (d : ℕ) → is_character d ≡ true → chars_of (encode_utf16 d) ≡ d ∷ []
character_units d h = go (is_allowed d) refl
  where
    small : is_allowed d ≡ false → d < 65536
    small a = grind (arith, nat_tests)

    go : (b : Bool) → is_allowed d ≡ b → chars_of (encode_utf16 d) ≡ d ∷ []
    go true a = ap chars_of (sym (append-nil (encode_utf16 d))) ∙ chars_of-encoded d [] a ∙ ap (λ (z : Text). d ∷ z) chars_of-nil
    go false a = ap chars_of (one_unit d (small a)) ∙ chars_one d

character_not_high : (d : ℕ) → is_character d ≡ true → is_high d ≡ false
character_not_high d h = grind (arith, nat_tests)

character_not_low : (d : ℕ) → is_character d ≡ true → is_low d ≡ false
character_not_low d h = grind (arith, nat_tests)

allowed_character : (d : ℕ) → is_allowed d ≡ true → is_character d ≡ true
allowed_character d h = grind (arith, nat_tests)

low_not_high : (u : ℕ) → is_low u ≡ true → is_high u ≡ false
low_not_high u h = grind (arith, nat_tests)

pair_not_high : (h u : ℕ) → is_high (pair_char h u) ≡ false
pair_not_high h u = grind (arith, nat_tests)

-- ---- one code unit

-- the texts that the code units and one more are
record Splits (us : List ℕ) (u : ℕ) (s : Reader) (h : UnitsAt us s) : Type 0 where
  one : s.high ≡ None → (us ++ u ∷ [] ≡ units_of h.chars ++ u ∷ []) × (s.count ≡ width_of h.chars)
  two : (g : ℕ) → s.high ≡ Some g → (us ++ u ∷ [] ≡ units_of h.chars ++ (g ∷ u ∷ [])) × (is_high g ≡ true) × (s.count - 1 ≡ width_of h.chars)

splits : (us : List ℕ) (u : ℕ) (s : Reader) (h : UnitsAt us s) → Splits us u s h
splits us u s h = record { one = one_end; two = two_end }
  where
    one_end : s.high ≡ None → (us ++ u ∷ [] ≡ units_of h.chars ++ u ∷ []) × (s.count ≡ width_of h.chars)
    one_end e =
        let whole : us ≡ units_of h.chars = h.units ∙ ap (λ (z : Option ℕ). units_of h.chars ++ waiting z) e ∙ append-nil (units_of h.chars) in
        (ap (λ (z : List ℕ). z ++ u ∷ []) whole, h.counted ∙ ap length whole)

    two_end : (g : ℕ) → s.high ≡ Some g → (us ++ u ∷ [] ≡ units_of h.chars ++ (g ∷ u ∷ [])) × (is_high g ≡ true) × (s.count - 1 ≡ width_of h.chars)
    two_end g e =
        let whole : us ≡ units_of h.chars ++ g ∷ [] = h.units ∙ ap (λ (z : Option ℕ). units_of h.chars ++ waiting z) e in
        let place : s.count - 1 ≡ width_of h.chars = (let a = h.counted in let b : length us ≡ width_of h.chars + 1 = ap length whole ∙ one_more (units_of h.chars) g in omega (arith, a, b)) in
        (ap (λ (z : List ℕ). z ++ u ∷ []) whole ∙ append_assoc (units_of h.chars) (g ∷ []) (u ∷ []), subst IsWaiting e h.waits, place)

-- a character that is whole is read
abbrev CharRead : (us : List ℕ) → ℕ → (s : Reader) → UnitsAt us s → Text → ℕ → Type 0
CharRead us u s h c d = (h.chars ≡ c) × (unit_read s u s.high ≡ read_char s (width_of h.chars) (s.count + 1) d)

char_read : (us : List ℕ) (u : ℕ) (s : Reader) (h : UnitsAt us s) (c : Text) (d : ℕ) → are_allowed c ≡ true → is_character d ≡ true → us ++ u ∷ [] ≡ units_of c ++ encode_utf16 d → CharRead us u s h c d
char_read us u s h c d a ch e = go s.high refl
  where
    b : Splits us u s h
    b = splits us u s h

    go : (o : Option ℕ) → s.high ≡ o → CharRead us u s h c d
    go None i =
        let f = b.one i in
        let t = one_text h.chars c (u ∷ []) (encode_utf16 d) h.allowed a (sym f.0 ∙ e) in
        let r = last_one h.chars c u d (ap (λ (z : List ℕ). h.chars ++ z) (sym (chars_one u)) ∙ t ∙ ap (λ (z : List ℕ). c ++ z) (character_units d ch)) in
        let x : is_high u ≡ false = ap is_high r.1 ∙ character_not_high d ch in
        let y : is_low u ≡ false = ap is_low r.1 ∙ character_not_low d ch in
        let k : unit_read s u None ≡ read_char s s.count (s.count + 1) u = rw (x, y) refl in
        (r.0, ap (unit_read s u) i ∙ k ∙ ap (λ (z : ℕ). read_char s z (s.count + 1) u) f.1 ∙ ap (read_char s (width_of h.chars) (s.count + 1)) r.1)
    go (Some g) i = two (is_low u) refl
      where
        f : (us ++ u ∷ [] ≡ units_of h.chars ++ (g ∷ u ∷ [])) × (is_high g ≡ true) × (s.count - 1 ≡ width_of h.chars)
        f = b.two g i

        t : h.chars ++ chars_of (g ∷ u ∷ []) ≡ c ++ d ∷ []
        t = one_text h.chars c (g ∷ u ∷ []) (encode_utf16 d) h.allowed a (sym f.0 ∙ e) ∙ ap (λ (z : List ℕ). c ++ z) (character_units d ch)

        two : (l : Bool) → is_low u ≡ l → CharRead us u s h c d
        two true l =
            let r = last_one h.chars c (pair_char g u) d (ap (λ (z : List ℕ). h.chars ++ z) (sym (chars_of-pair g u [] f.1 l ∙ ap (λ (z : Text). pair_char g u ∷ z) chars_of-nil)) ∙ t) in
            let k : unit_read s u (Some g) ≡ read_char s (s.count - 1) (s.count + 1) (pair_char g u) = rw l refl in
            (r.0, ap (unit_read s u) i ∙ k ∙ ap (λ (z : ℕ). read_char s z (s.count + 1) (pair_char g u)) f.2 ∙ ap (read_char s (width_of h.chars) (s.count + 1)) r.1)
        two false l =
            let k : chars_of (g ∷ u ∷ []) ≡ g ∷ u ∷ [] = chars_of-unpaired g u [] (rw l (and_false (is_high g))) ∙ ap (λ (z : Text). g ∷ z) (chars_one u) in
            let r = last_one (h.chars ++ g ∷ []) c u d (append_assoc h.chars (g ∷ []) (u ∷ []) ∙ ap (λ (z : List ℕ). h.chars ++ z) (sym k) ∙ t) in
            no_high_last h.chars g (ap are_allowed r.0 ∙ a) f.1
          where
            and_false : (b : Bool) → (b && false) ≡ false
            and_false true = refl
            and_false false = refl

-- ---- a code unit too many

abbrev Kept : UnitStep → Type 0
Kept (reads_on t) = Unit {0}
Kept (completes began v) = Unit {0}
Kept (rejects place k) = ⊥

-- characters that the machine reads are not rejected
kept_char : (us : List ℕ) (u : ℕ) (s : Reader) (h : UnitsAt us s) (d : ℕ) (w : Spot) → is_allowed d ≡ true → char_run opening_spot (h.chars ++ d ∷ []) ≡ Some w → unit_read s u s.high ≡ read_char s (width_of h.chars) (s.count + 1) d → Kept (unit_read s u s.high)
kept_char us u s h d w a e i =
    let r = h.reader (width_of h.chars) refl in
    let q : Reached h.chars s.position s.lex r.front = r.reached in
    let k : char_of s.position s.lex d ≡ Some w = sym (run_push h.chars d (record { position = s.position; lex = s.lex }) q.stood) ∙ e in
    subst Kept (sym i) (go (read_char s (width_of h.chars) (s.count + 1) d) (subst (λ (z : Option Spot). Agrees z (s.count + 1) (read_char s (width_of h.chars) (s.count + 1) d)) k (read_agrees s (width_of h.chars) (s.count + 1) d a)))
  where
    go : (x : UnitStep) → Agrees (Some w) (s.count + 1) x → Kept x
    go (reads_on t) g = tt
    go (completes began v) g = tt
    go (rejects place k) g = g

kept : (us : List ℕ) (u : ℕ) (s : Reader) (h : UnitsAt us s) → u < 65536 → (c : Text) (o : Option ℕ) (w : Spot) → are_allowed c ≡ true → IsWaiting o → us ++ u ∷ [] ≡ units_of c ++ waiting o → char_run opening_spot c ≡ Some w → Kept (unit_read s u s.high)
kept us u s h small c o w a l e run = go s.high refl
  where
    b : Splits us u s h
    b = splits us u s h

    one : (o : Option ℕ) → IsWaiting o → s.high ≡ None → us ++ u ∷ [] ≡ units_of h.chars ++ u ∷ [] → h.chars ++ u ∷ [] ≡ c ++ waiting o → Kept (unit_read s u s.high)
    one None l i f t =
        let k : h.chars ++ u ∷ [] ≡ c = t ∙ append-nil c in
        let v : is_allowed u ≡ true = (last_allowed h.chars u (ap are_allowed k ∙ a)).1 in
        let r = char_read us u s h h.chars u h.allowed (allowed_character u v) (f ∙ ap (λ (z : List ℕ). units_of h.chars ++ z) (sym (one_unit u small))) in
        kept_char us u s h u w v (ap (char_run opening_spot) k ∙ run) r.1
    one (Some g) l i f t =
        let k : is_high u ≡ true = ap is_high (last_one h.chars c u g t).1 ∙ l in
        let n : Kept (unit_read s u None) = rw k tt in
        subst (λ (z : Option ℕ). Kept (unit_read s u z)) (sym i) n

    two : (g : ℕ) (o : Option ℕ) → IsWaiting o → us ++ u ∷ [] ≡ units_of h.chars ++ (g ∷ u ∷ []) → is_high g ≡ true → is_low u ≡ true → h.chars ++ pair_char g u ∷ [] ≡ c ++ waiting o → Kept (unit_read s u s.high)
    two g None l f hi lo t =
        let k : h.chars ++ pair_char g u ∷ [] ≡ c = t ∙ append-nil c in
        let v : is_allowed (pair_char g u) ≡ true = (last_allowed h.chars (pair_char g u) (ap are_allowed k ∙ a)).1 in
        let r = char_read us u s h h.chars (pair_char g u) h.allowed (allowed_character (pair_char g u) v) (f ∙ ap (λ (z : List ℕ). units_of h.chars ++ z) (sym (pair_units g u hi lo))) in
        kept_char us u s h (pair_char g u) w v (ap (char_run opening_spot) k ∙ run) r.1
    two g (Some k) l f hi lo t = no_both (is_high (pair_char g u)) (ap is_high (last_one h.chars c (pair_char g u) k t).1 ∙ l) (pair_not_high g u)

    apart : {A : Type 0} (g : ℕ) (o : Option ℕ) → is_high g ≡ true → (h.chars ++ g ∷ []) ++ u ∷ [] ≡ c ++ waiting o → A
    apart g None hi t = no_high_last h.chars g (last_allowed (h.chars ++ g ∷ []) u (ap are_allowed (t ∙ append-nil c) ∙ a)).0 hi
    apart g (Some k) hi t = no_high_last h.chars g (ap are_allowed (last_one (h.chars ++ g ∷ []) c u k t).0 ∙ a) hi

    go : (r : Option ℕ) → s.high ≡ r → Kept (unit_read s u s.high)
    go None i =
        let f = b.one i in
        one o l i f.0 (ap (λ (z : List ℕ). h.chars ++ z) (sym (chars_one u)) ∙ one_text h.chars c (u ∷ []) (waiting o) h.allowed a (sym f.0 ∙ e) ∙ ap (λ (z : List ℕ). c ++ z) (chars_waiting o))
    go (Some g) i = low (is_low u) refl
      where
        f : (us ++ u ∷ [] ≡ units_of h.chars ++ (g ∷ u ∷ [])) × (is_high g ≡ true) × (s.count - 1 ≡ width_of h.chars)
        f = b.two g i

        t : h.chars ++ chars_of (g ∷ u ∷ []) ≡ c ++ waiting o
        t = one_text h.chars c (g ∷ u ∷ []) (waiting o) h.allowed a (sym f.0 ∙ e) ∙ ap (λ (z : List ℕ). c ++ z) (chars_waiting o)

        and_false : (b : Bool) → (b && false) ≡ false
        and_false true = refl
        and_false false = refl

        low : (k : Bool) → is_low u ≡ k → Kept (unit_read s u s.high)
        low true k = two g o l f.0 f.1 k (ap (λ (z : List ℕ). h.chars ++ z) (sym (chars_of-pair g u [] f.1 k ∙ ap (λ (z : Text). pair_char g u ∷ z) chars_of-nil)) ∙ t)
        low false k =
            let v : chars_of (g ∷ u ∷ []) ≡ g ∷ u ∷ [] = chars_of-unpaired g u [] (rw k (and_false (is_high g))) ∙ ap (λ (z : Text). g ∷ z) (chars_one u) in
            apart g o f.1 (append_assoc h.chars (g ∷ []) (u ∷ []) ∙ ap (λ (z : List ℕ). h.chars ++ z) (sym v) ∙ t)

-- ---- what a code unit shows is what the reader rejects

-- The reader rejects what is shown.
pub shown_unit : (us : List ℕ) (u : ℕ) (s : Reader) → UnitsAt us s → u < 65536 → (place : ℕ) (k : Kind) → ShowsUnit us u place k → unit_step s u ≡ rejects place k
unfolding unit_step
shown_unit us u s h small place k shows = go place k shows
  where
    b : Splits us u s h
    b = splits us u s h

    high_is : (c : Text) (o : Option ℕ) → are_allowed c ≡ true → IsWaiting o → us ≡ units_of c ++ waiting o → (h.chars ≡ c) × (s.high ≡ o)
    high_is c o a l e = units_one us h.chars c s.high o h.allowed a h.waits l h.units e

    full : length us ≡ message_limit → (x : UnitStep) → Kept x → too_long s x ≡ rejects message_limit kinds.TooLong
    full e x n = over x n
      where
        at_end : nat_le message_limit s.count ≡ true
        at_end = let i = h.counted in grind (arith, nat_tests)

        over : (x : UnitStep) → Kept x → too_long s x ≡ rejects message_limit kinds.TooLong
        over (reads_on t) n = rw at_end refl
        over (completes began v) n = rw at_end refl
        over (rejects place k) n = absurd n

    extra : AreAlive (us ++ u ∷ []) ⊎ AreMessage (us ++ u ∷ []) → Kept (unit_read s u s.high)
    extra (inl a) = let r = alive_runs a.chars a.alive in kept us u s h small a.chars a.high r.0 a.allowed a.waits a.units r.1
    extra (inr m) = kept us u s h small m.chars None (whole_spot m.value) m.allowed tt (m.units ∙ sym (append-nil (units_of m.chars))) (message_runs_whole reference_laws m.value m.chars m.encodes)

    wrong : (c : Text) (d : ℕ) (front : List ℕ) (k : Kind) → h.chars ≡ c → is_allowed d ≡ true → RejectsChar c d front k → read_char s (width_of h.chars) (s.count + 1) d ≡ rejects (width_of front) k
    wrong c d front k i a r =
        let at = h.reader (width_of h.chars) refl in
        let n = shown h.chars d front k a (subst (λ (z : Text). RejectsChar z d front k) (sym i) r) s.position s.lex at.front at.reached in
        let t : Reader = record { position = s.position; lex = s.lex; start = s.start; opened = s.opened; count = width_of h.chars; high = None } in
        let e : lexed t t.count (s.count + 1) (lex_step (is_outside t.position) t.lex d) ≡ rejects (width_of front) k = refused_lexed t (s.count + 1) at.front h.chars front k (lex_step (is_outside s.position) s.lex d) at.start_is refl n in
        rw a e

    go : (place : ℕ) (k : Kind) → ShowsUnit us u place k → too_long s (unit_read s u s.high) ≡ rejects place k
    go place k (lone_low c a e low) =
        let i = high_is c None a tt (e ∙ sym (append-nil (units_of c))) in
        let j : unit_read s u None ≡ rejects s.count kinds.BadUnit = rw (low_not_high u low, low) refl in
        ap (too_long s) (ap (unit_read s u) i.1 ∙ j) ∙ ap (λ (z : ℕ). rejects z kinds.BadUnit) h.counted
    go place k (lone_high c g a e hi low) =
        let i = high_is c (Some g) a hi e in
        let j : unit_read s u (Some g) ≡ rejects (s.count - 1) kinds.BadUnit = rw low refl in
        let f = b.two g i.1 in
        ap (too_long s) (ap (unit_read s u) i.1 ∙ j) ∙ ap (λ (z : ℕ). rejects z kinds.BadUnit) (f.2 ∙ ap width_of i.0)
    go place k (forbidden c d a e ch bad) =
        let r = char_read us u s h c d a ch e in
        let j : read_char s (width_of h.chars) (s.count + 1) d ≡ rejects (width_of h.chars) kinds.BadChar = rw bad refl in
        ap (too_long s) (r.1 ∙ j) ∙ ap (λ (z : Text). rejects (width_of z) kinds.BadChar) r.0
    go place k (wrong_char c d front k2 a e al rejected) =
        let r = char_read us u s h c d a (allowed_character d al) e in
        ap (too_long s) (r.1 ∙ wrong c d front k2 r.0 al rejected)
    go place k (too_many e x) = full e (unit_read s u s.high) (extra x)
