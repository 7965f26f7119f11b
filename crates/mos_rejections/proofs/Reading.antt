-- Reading characters, with the places of rejections.
use Rattle.std.proofs.Common.{◌≡◌, ℕ, ◌+◌, ◌-◌, ◌<◌, Bool, true, false, List, [], ◌∷◌, ◌++◌, length, Option, Some, None, Result, Ok, Err, refl, sym, ap, subst, ◌∙◌, append_assoc, arith, ◌⊎◌, inl, inr}
use Rattle.std.specs.Prelude.{◌&&◌}
use Rattle.std.specs.Char.Escape.{encode_utf16}
use Rattle.std.specs.List.{list_all}
use Rattle.std.proofs.lemmas.Grind.{flat_map-append}
use Rattle.std.proofs.lemmas.List.{append-nil, length-append}
use Rattle.std.proofs.lemmas.Bool.Decides.{nat_tests}
use Rattle.mos_fields.specs.Characters.{Text, units_of}
use Rattle.mos_fields.specs.References.{reference_of, begins_reference}
use Rattle.mos_fields.proofs.CharacterLemmas.{one_unit}
use Rattle.mos_tables.specs.Events.{Event}
use Rattle.mos_grammar.specs.Tokens.{Token, text, mark}
use Rattle.mos_grammar.specs.declared.fault.Fault.{Fault}
use Rattle.mos_grammar.specs.RecordMachine.{at, complete, step}
use Rattle.mos_grammar.specs.Streams.{before_prolog, Position, before_message, inside, message_step, message_run}
use Rattle.mos_lexer.specs.LexMachine.{LexState, begin, in_tag, LexStep, continues, whole_token, text_before, text_before_mark, no_token, no_reference, lex_step}
use Rattle.mos_lexer.specs.Units.{is_outside, lex_at, Reader, UnitStep, reads_on, completes, rejects, behind, at_token, opened_by, rests as rests_at, lexed}
use Rattle.mos_lexer.specs.Encodings.{EncodesChars}
use Rattle.mos_lexer.proofs.References.{reference_laws}
use Rattle.mos_lexer.proofs.Chars.{Spot, behind_token, rests, taken, char_of, then_spot, char_run, opening_spot}
use Rattle.mos_lexer.proofs.Whole.{char_run_append, message_run as message_runs_whole}
use Rattle.mos_lexer.proofs.Places.{IsOpenAt}
use Rattle.mos_rejections.specs.Alive.{IsAlive}
use Rattle.mos_rejections.specs.Rejections.{BreaksReference, Shows, no_token as shows_no_token}
use Rattle.mos_rejections.proofs.Shape.{Sound, IsTagState, StepSound, step_sound}
use Rattle.mos_rejections.proofs.AliveRuns.{alive_runs}
use Rattle.mos_rejections.proofs.Tracing.{trace}
use Rattle.mos_rejections.proofs.Reaching.{Reached, begins_token}
use Rattle.mos_rejections.proofs.Stepping.{goes_on, goes_over, goes_to_tag, goes_over_mark}
use Rattle.mos_rejections.proofs.Amp.{is_part, begun_parts, amp_no_tag}
use Rattle.mos_rejections.proofs.Rejecting.{stands, whole_shows, text_shows, mark_text_shows, mark_shows, reference_shows, begins_no_token, tag_no_text}

-- ---- from where the machine stands, on

unfoldable pub start_reached : Reached [] (before_message before_prolog) begin []
unfolding message_run char_run trace
start_reached = record { tokens = []; part = []; whole = refl; fronts = refl; ran = refl; open_at = tt; begun = λ r ts w. w; tail_at = refl; sound = refl; stood = refl; begins_at = refl }

-- what the machine stands at behind one more character, if a message is still open
pub record Next (c : List ℕ) (w : Spot) : Type 0 where
  pub front : List ℕ
  pub reached : Reached c w.position w.lex front

spot_is : (a b : Spot) → ◌≡◌ {A = Option Spot} (Some a) (Some b) → a ≡ b
spot_is a b e = cc

at_spot : (c : List ℕ) (p : Position) (l : LexState) (front : List ℕ) (w : Spot) → record { position = p; lex = l } ≡ w → Reached c p l front → Next c w
at_spot c p l front w e h = subst (Next c) e (record { front = front; reached = h })

pub next_reached : (c : List ℕ) (p : Position) (l : LexState) (front : List ℕ) (h : Reached c p l front) (d : ℕ) (w : Spot) → char_of p l d ≡ Some w → IsOpenAt w.position → Next (c ++ d ∷ []) w
next_reached c p l front h d w e o = go (lex_step (is_outside p) l d) refl (step_sound (is_outside p) l h.part d h.sound) e
  where
    go : (s : LexStep) → lex_step (is_outside p) l d ≡ s → StepSound (is_outside p) l h.part d s → taken p s ≡ Some w → Next (c ++ d ∷ []) w
    go (continues k) i s e = at_spot (c ++ d ∷ []) p k front w (spot_is (record { position = p; lex = k }) w e) (goes_on c p l front h d k i s.0 s.1)
    go (whole_token t) i s e = two (message_step p t) refl e
      where
        two : (r : Result Position Fault) → message_step p t ≡ r → behind_token r rests ≡ Some w → Next (c ++ d ∷ []) w
        two (Ok q) j e = (let k = spot_is (record { position = q; lex = lex_at q }) w e in at_spot (c ++ d ∷ []) q (lex_at q) (c ++ d ∷ []) w k (goes_over c p l front h d t q i j (subst IsOpenAt (ap (λ (z : Spot). z.position) (sym k)) o)))
        two (Err x) j e = absurd cc
    go (text_before raw y k) i s e = two (message_step p (text raw y)) refl e
      where
        is_tag : lex_step (is_outside p) l d ≡ text_before raw y in_tag
        is_tag = i ∙ ap (text_before raw y) s.0

        two : (r : Result Position Fault) → message_step p (text raw y) ≡ r → behind_token r (λ q. Some (record { position = q; lex = k })) ≡ Some w → Next (c ++ d ∷ []) w
        two (Ok q) j e = at_spot (c ++ d ∷ []) q in_tag c w (ap (λ (z : LexState). record { position = q; lex = z }) (sym s.0) ∙ spot_is (record { position = q; lex = k }) w e) (goes_to_tag c p l front h d raw y q is_tag s.1 j)
        two (Err x) j e = absurd cc
    go (text_before_mark raw y) i s e = two (message_step p (text raw y)) refl e
      where
        three : (u : Position) → message_step p (text raw y) ≡ Ok u → (r : Result Position Fault) → message_step u mark ≡ r → behind_token r rests ≡ Some w → Next (c ++ d ∷ []) w
        three u j (Ok q) m e = (let k = spot_is (record { position = q; lex = lex_at q }) w e in at_spot (c ++ d ∷ []) q (lex_at q) (c ++ d ∷ []) w k (goes_over_mark c p l front h d raw y u q i s.0 j m (subst IsOpenAt (ap (λ (z : Spot). z.position) (sym k)) o)))
        three u j (Err x) m e = absurd cc

        two : (r : Result Position Fault) → message_step p (text raw y) ≡ r → behind_token r (λ q. behind_token (message_step q mark) rests) ≡ Some w → Next (c ++ d ∷ []) w
        two (Ok u) j e = three u j (message_step u mark) refl e
        two (Err x) j e = absurd cc
    go no_token i s e = absurd cc
    go (no_reference k) i s e = absurd cc

-- behind a complete message no token is read
complete_stays : (p : Position) (l : LexState) (d : ℕ) (v : List Event) (w : Spot) → p ≡ inside (complete v) → char_of p l d ≡ Some w → w.position ≡ inside (complete v)
unfolding message_step step
complete_stays p l d v w is e = go (lex_step (is_outside p) l d) e
  where
    no_step : (t : Token) → (f : Position → Option Spot) → behind_token (message_step p t) f ≡ Some w → ⊥
    no_step t f e = none (subst (λ (z : Position). behind_token (message_step z t) f ≡ Some w) is e)
      where
        none : ◌≡◌ {A = Option Spot} None (Some w) → ⊥
        none h = cc

    go : (s : LexStep) → taken p s ≡ Some w → w.position ≡ inside (complete v)
    go (continues k) e = ap (λ (z : Spot). z.position) (sym (spot_is (record { position = p; lex = k }) w e)) ∙ is
    go (whole_token t) e = absurd (no_step t rests e)
    go (text_before raw y k) e = absurd (no_step (text raw y) (λ q. Some (record { position = q; lex = k })) e)
    go (text_before_mark raw y) e = absurd (no_step (text raw y) (λ q. behind_token (message_step q mark) rests) e)
    go no_token e = absurd cc
    go (no_reference k) e = absurd cc

pub complete_run : (ds : List ℕ) (s w : Spot) (v : List Event) → s.position ≡ inside (complete v) → char_run s ds ≡ Some w → w.position ≡ inside (complete v)
unfolding char_run
complete_run [] s w v is e = ap (λ (z : Spot). z.position) (sym (spot_is s w e)) ∙ is
complete_run (d ∷ ds) s w v is e = go (λ u i j. complete_run ds u w v i j) (char_of s.position s.lex d) refl e
  where
    go : ((u : Spot) → u.position ≡ inside (complete v) → char_run u ds ≡ Some w → w.position ≡ inside (complete v)) → (o : Option Spot) → char_of s.position s.lex d ≡ o → then_spot o (λ u. char_run u ds) ≡ Some w → w.position ≡ inside (complete v)
    go f (Some u) i j = f u (complete_stays s.position s.lex d v u is i) j
    go f None i j = absurd cc

pub open_or_complete : (p : Position) → IsOpenAt p ⊎ ((v : List Event) × (p ≡ inside (complete v)))
open_or_complete (before_message g) = inl tt
open_or_complete (inside (at m f fs)) = inl tt
open_or_complete (inside (complete v)) = inr (v, refl)

-- where a run stands
pub run_reached : (ds c : List ℕ) (s w : Spot) → Next c s → char_run s ds ≡ Some w → IsOpenAt w.position → Next (c ++ ds) w
unfolding char_run
run_reached [] c s w n e o = subst (λ (z : List ℕ). Next z w) (sym (append-nil c)) (subst (Next c) (spot_is s w e) n)
run_reached (d ∷ ds) c s w n e o = subst (λ (z : List ℕ). Next z w) (append_assoc c (d ∷ []) ds) (go (λ u i j. run_reached ds (c ++ d ∷ []) u w i j o) (char_of s.position s.lex d) refl e)
  where
    go : ((u : Spot) → Next (c ++ d ∷ []) u → char_run u ds ≡ Some w → Next ((c ++ d ∷ []) ++ ds) w) → (r : Option Spot) → char_of s.position s.lex d ≡ r → then_spot r (λ u. char_run u ds) ≡ Some w → Next ((c ++ d ∷ []) ++ ds) w
    go f None i j = absurd cc
    go f (Some u) i j = two (open_or_complete u.position)
      where
        two : IsOpenAt u.position ⊎ ((v : List Event) × (u.position ≡ inside (complete v))) → Next ((c ++ d ∷ []) ++ ds) w
        two (inl k) = f u (let h = n.reached in next_reached c s.position s.lex n.front h d u i k) j
        two (inr k) = absurd (subst IsOpenAt (complete_run ds u w k.0 k.1 j) o)

pub start_next : Next [] opening_spot
start_next = record { front = []; reached = start_reached }

-- a front of characters that are read is read
pub front_run : (b ds : List ℕ) (w : Spot) → char_run opening_spot (b ++ ds) ≡ Some w → (u : Spot) × (char_run opening_spot b ≡ Some u) × (char_run u ds ≡ Some w)
front_run b ds w e = go (char_run opening_spot b) refl (sym (char_run_append b ds opening_spot) ∙ e)
  where
    go : (o : Option Spot) → char_run opening_spot b ≡ o → then_spot o (λ u. char_run u ds) ≡ Some w → (u : Spot) × (char_run opening_spot b ≡ Some u) × (char_run u ds ≡ Some w)
    go (Some u) i j = (u, i, j)
    go None i j = absurd cc

-- In a tag no `&` is the beginning of a reference.
tag_no_reference : (c : List ℕ) (p : Position) (l : LexState) (front : List ℕ) (h : Reached c p l front) (d : ℕ) → IsTagState l → (b : List ℕ) → BreaksReference c d b → ⊥
tag_no_reference c p l front h d t b r =
    let f = front_run b (38 ∷ r.m) (record { position = p; lex = l }) (ap (char_run opening_spot) (sym r.whole) ∙ h.stood) in
    go f.0 f.1 f.2 (open_or_complete f.0.position)
  where
    go : (u : Spot) → char_run opening_spot b ≡ Some u → char_run u (38 ∷ r.m) ≡ Some (record { position = p; lex = l }) → IsOpenAt u.position ⊎ ((v : List Event) × (u.position ≡ inside (complete v))) → ⊥
    go u i j (inl k) = (let n = run_reached b [] opening_spot u start_next i k in let a = n.reached in amp_no_tag r.m u (record { position = p; lex = l }) a.part a.sound r.begun r.not_whole j t)
    go u i j (inr k) = subst IsOpenAt (complete_run (38 ∷ r.m) u (record { position = p; lex = l }) k.0 k.1 j) h.open_at

-- ---- places

-- how many code units the characters are
abbrev pub width_of : List ℕ → ℕ
width_of c = length (units_of c)

pub width_append : (a b : List ℕ) → width_of (a ++ b) ≡ width_of a + width_of b
width_append a b = ap length (flat_map-append encode_utf16 a b) ∙ length-append (units_of a) (units_of b)

pub width_one : (a : List ℕ) (d : ℕ) → width_of (a ++ d ∷ []) ≡ width_of a + length (encode_utf16 d)
width_one a d = width_append a (d ∷ []) ∙ ap (λ (z : ℕ). width_of a + z) (ap length (append-nil (encode_utf16 d)))

narrow : (m : Text) → list_all is_part m ≡ true → width_of m ≡ length m
narrow [] h = refl
narrow (c ∷ m) h =
    let p = and_parts (is_part c) (list_all is_part m) h in
    let s : c < 65536 = small c p.0 in
    length-append (encode_utf16 c) (units_of m) ∙ ap (λ (z : List ℕ). length z + width_of m) (one_unit c s) ∙ ap (λ (z : ℕ). 1 + z) (narrow m p.1) ∙ omega arith
  where
    and_parts : (a b : Bool) → (a && b) ≡ true → (a ≡ true) × (b ≡ true)
    and_parts true b h = (refl, h)
    and_parts false b h = absurd cc

    small : (c : ℕ) → is_part c ≡ true → c < 65536
    small c h = grind (arith, nat_tests)

-- the place of an `&`
pub amp_place : (c x m : List ℕ) (d k : ℕ) → c ≡ x ++ 38 ∷ m → begins_reference m ≡ true → reference_of m ≡ None → k ≡ length (m ++ d ∷ []) → width_of c - k ≡ width_of x
amp_place c x m d k e b n i =
    let w : width_of c ≡ width_of x + width_of (38 ∷ m) = ap width_of e ∙ width_append x (38 ∷ m) in
    let a : width_of (38 ∷ m) ≡ 1 + width_of m = length-append (encode_utf16 38) (units_of m) in
    let s : width_of m ≡ length m = narrow m (begun_parts m b n) in
    let j : length (m ++ d ∷ []) ≡ length m + 1 = length-append m (d ∷ []) in
    omega (arith, w, a, s, j, i)

-- ---- what one more character comes to

-- where the reader stands, and where its token begins
pub record ReaderAt (c : List ℕ) (s : Reader) : Type 0 where
  pub front : List ℕ
  pub reached : Reached c s.position s.lex front
  pub start_is : s.start ≡ width_of front
  pub count_is : s.count ≡ width_of c

abbrev pub CharFacts : List ℕ → ℕ → UnitStep → Type 0
CharFacts c d (reads_on t) = ReaderAt (c ++ d ∷ []) t
CharFacts c d (completes began v) = Unit {0}
CharFacts c d (rejects place k) = (front : List ℕ) × (place ≡ width_of front) × Shows c d front k

behind_facts : (c : List ℕ) (d : ℕ) (q : Position) (l : LexState) (front : List ℕ) (opened start count : ℕ) → start ≡ width_of front → count ≡ width_of (c ++ d ∷ []) → (IsOpenAt q → Reached (c ++ d ∷ []) q l front) → CharFacts c d (behind opened start count l q)
behind_facts c d (before_message g) l front opened start count s n f = record { front = front; reached = f tt; start_is = s; count_is = n }
behind_facts c d (inside (at m a fs)) l front opened start count s n f = record { front = front; reached = f tt; start_is = s; count_is = n }
behind_facts c d (inside (complete v)) l front opened start count s n f = tt

pub lexed_facts : (c : List ℕ) (s : Reader) (r : ReaderAt c s) (d count : ℕ) → count ≡ width_of (c ++ d ∷ []) → CharFacts c d (lexed s s.count count (lex_step (is_outside s.position) s.lex d))
lexed_facts c s r d count n = go (lex_step (is_outside s.position) s.lex d) refl (step_sound (is_outside s.position) s.lex part d sound)
  where
    h : Reached c s.position s.lex r.front
    h = r.reached

    part : List ℕ
    part = h.part

    sound : Sound (is_outside s.position) s.lex h.part
    sound = h.sound

    go : (o : LexStep) → lex_step (is_outside s.position) s.lex d ≡ o → StepSound (is_outside s.position) s.lex h.part d o → CharFacts c d (lexed s s.count count o)
    go (continues k) i a = record { front = r.front; reached = goes_on c s.position s.lex r.front h d k i a.0 a.1; start_is = r.start_is; count_is = n }
    go (whole_token t) i a = two (message_step s.position t) refl
      where
        two : (o : Result Position Fault) → message_step s.position t ≡ o → CharFacts c d (at_token s.start o (rests_at (opened_by s) count))
        two (Ok q) j = behind_facts c d q (lex_at q) (c ++ d ∷ []) (opened_by s) count count n n (λ o. goes_over c s.position s.lex r.front h d t q i j o)
        two (Err k) j = (r.front, r.start_is, whole_shows c s.position s.lex r.front h d t k i a j)
    go (text_before raw y k) i a = two (message_step s.position (text raw y)) refl
      where
        is_tag : lex_step (is_outside s.position) s.lex d ≡ text_before raw y in_tag
        is_tag = i ∙ ap (text_before raw y) a.0

        two : (o : Result Position Fault) → message_step s.position (text raw y) ≡ o → CharFacts c d (at_token s.start o (behind (opened_by s) s.count count k))
        two (Ok q) j = behind_facts c d q k c (opened_by s) s.count count r.count_is n (λ o. subst (λ (z : LexState). Reached (c ++ d ∷ []) q z c) (sym a.0) (goes_to_tag c s.position s.lex r.front h d raw y q is_tag a.1 j))
        two (Err k) j = (r.front, r.start_is, text_shows c s.position s.lex r.front h d raw y k is_tag a.1 a.2 a.3 a.4 j)
    go (text_before_mark raw y) i a = two (message_step s.position (text raw y)) refl
      where
        three : (u : Position) → message_step s.position (text raw y) ≡ Ok u → (o : Result Position Fault) → message_step u mark ≡ o → CharFacts c d (at_token s.count o (rests_at s.count count))
        three u j (Ok q) m = behind_facts c d q (lex_at q) (c ++ d ∷ []) s.count count count n n (λ o. goes_over_mark c s.position s.lex r.front h d raw y u q i a.0 j m o)
        three u j (Err k) m = (c, r.count_is, mark_shows c s.position s.lex r.front h d raw y u k i a.0 a.1 a.2 j m)

        two : (o : Result Position Fault) → message_step s.position (text raw y) ≡ o → CharFacts c d (at_token s.start o (λ p. at_token s.count (message_step p mark) (rests_at s.count count)))
        two (Ok u) j = three u j (message_step u mark) refl
        two (Err k) j = (r.front, r.start_is, mark_text_shows c s.position s.lex r.front h d raw y k i a.0 a.1 a.2 a.3 a.4 a.5 j)
    go no_token i a = (r.front, r.start_is, shows_no_token h.tokens r.front h.part s.position (stands c s.position s.lex r.front h) (begins_token c s.position s.lex r.front h) (begins_no_token c s.position s.lex r.front h d i) (tag_no_text c s.position s.lex r.front h a) (tag_no_reference c s.position s.lex r.front h d a))
    go (no_reference k) i a =
        let e : c ≡ (r.front ++ a.before) ++ 38 ∷ a.m = h.whole ∙ ap (λ (z : List ℕ). r.front ++ z) a.whole ∙ sym (append_assoc r.front a.before (38 ∷ a.m)) in
        (r.front ++ a.before, ap (λ (z : ℕ). z - k) r.count_is ∙ amp_place c (r.front ++ a.before) a.m d k e a.begun a.not_whole a.count, reference_shows c s.position s.lex r.front h d k a)

-- Where the machine of characters stops, the characters are neither alive nor a message.
pub dead_at : (c : List ℕ) (d : ℕ) → char_run opening_spot (c ++ d ∷ []) ≡ None → IsAlive (c ++ d ∷ []) → ⊥
dead_at c d e a = (let r = alive_runs (c ++ d ∷ []) a in none (sym e ∙ r.1))
  where
    none : {w : Spot} → ◌≡◌ {A = Option Spot} None (Some w) → ⊥
    none h = cc

pub no_message_at : (c : List ℕ) (d : ℕ) → char_run opening_spot (c ++ d ∷ []) ≡ None → (v : List Event) → EncodesChars v (c ++ d ∷ []) → ⊥
no_message_at c d e v m = none (sym e ∙ message_runs_whole reference_laws v (c ++ d ∷ []) m)
  where
    none : {w : Spot} → ◌≡◌ {A = Option Spot} None (Some w) → ⊥
    none h = cc
