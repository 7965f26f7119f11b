-- What is held, read as far as a character or as what is none.
use Rattle.std.proofs.Common.{◌≡◌, ℕ, ◌+◌, ◌-◌, ◌<◌, ◌≤◌, Bool, true, false, List, [], ◌∷◌, ◌++◌, length, take, drop, refl, sym, ap, ◌∙◌, subst, inl, inr, ◌⊎◌, arith, add-one, length-drop, drop-cons}
use Rattle.std.specs.Prelude.{Option, Some, None, slice_index, nat_le, ◌&&◌}
use Rattle.std.proofs.lemmas.Bool.{le-leb, leb-true}
use Rattle.std.proofs.lemmas.List.{take-append-drop, drop-drop}
use Rattle.std.specs.Char.Escape.{encode_utf16}
use Rattle.mos_fields.specs.Characters.{is_high, is_low}
use Rattle.mos_lexer.specs.declared.kind.Kind.TheVariants as kinds
use Rattle.mos_lexer.specs.LexMachine.{lex_step}
use Rattle.mos_lexer.specs.Units.{UnitStep, reads_on, completes, rejects, start_reader, still_reads, completed, rejected_at, message_limit, is_outside, lexed, unit_run, may_rest, is_blank, is_resting}
use Rattle.mos_lexer.specs.Units.{Reader as ReaderOf}
use Rattle.mos_lexer.specs.Laws.{run_on}
use Rattle.mos_lexer.proofs.UnitLaws.{pieces_one}
use Rattle.mos_scanner.specs.Parts.{part, IsCharacter}
use Rattle.mos_scanner.specs.Character.{IsCut, IsHighAlone, IsForbidden}
use Rattle.mos_scanner.proofs.PartLemmas.{part_split, length-part}
use Rattle.mos_scanner.proofs.UnitLemmas.{ended, character_read}
use Rattle.mos_reader.specs.declared.outcome.Outcome.{Outcome}
use Rattle.mos_reader.specs.declared.outcome.Outcome.TheVariants.{ReadsOn, Completes, Rejects}
use Rattle.mos_reader.specs.declared.reading.Reading.{Reading}
use Rattle.mos_reader.specs.Places.{reader_of, value_at, outcome_of, IsSoundBehind, HasRead, HasRejected, Came, IsPaused, capped_of, IsOnward, WentOn}
use Rattle.mos_reader.proofs.UnitForms.{capped, over_read, both_over, some_units, nothing_read, waiting, high_waits, high_over, lone_low, high_alone, forbidden_read}

take_split : (held : List ℕ) (here next : ℕ) → here ≤ next → take next held ≡ take here held ++ part held here next
take_split held here next h =
    let a : next ≡ next - 0 = omega arith in
    let b : here - 0 ≡ here = omega arith in
    let z : 0 ≤ here = omega arith in
    ap (λ k. take k held) a ∙ (part_split held 0 here next z h ∙ ap (λ k. take k held ++ part held here next) b)

part_rest : (held : List ℕ) (here next : ℕ) → here ≤ next → drop here held ≡ part held here next ++ drop next held
part_rest held here next h =
    sym (take-append-drop (next - here) (drop here held))
    ∙ ap (λ z. part held here next ++ z) (drop-drop (next - here) here held ∙ ap (λ k. drop k held) (let e : here + (next - here) ≡ next = omega arith in e))

-- ---- what was read up to here, and the units from here on

module _ (held : List ℕ) (here : ℕ) (s : ReaderOf) (e : unit_run start_reader (take here held) ≡ still_reads s) where
  pub take_next : (next : ℕ) → here ≤ next → unit_run start_reader (take next held) ≡ unit_run s (part held here next)
  take_next next h =
      ap (unit_run start_reader) (take_split held here next h) ∙ (pieces_one start_reader (take here held) (part held here next) ∙ ap (λ z. run_on z (part held here next)) e)

  pub rest_run : unit_run start_reader held ≡ unit_run s (drop here held)
  rest_run =
      ap (unit_run start_reader) (sym (take-append-drop here held)) ∙ (pieces_one start_reader (take here held) (drop here held) ∙ ap (λ z. run_on z (drop here held)) e)

  pub parts_run : (next : ℕ) → here ≤ next → unit_run start_reader held ≡ run_on (unit_run s (part held here next)) (drop next held)
  parts_run next h = rest_run ∙ (ap (unit_run s) (part_rest held here next h) ∙ pieces_one s (part held here next) (drop next held))

-- behind the units of a character
abbrev pub Behind : UnitStep → List ℕ → ℕ → Type 0
Behind (reads_on t) held next = unit_run start_reader (take next held) ≡ still_reads t
Behind (completes began v) held next = unit_run start_reader held ≡ completed began v (drop next held)
Behind (rejects place k) held next = unit_run start_reader held ≡ rejected_at place k

run_ended : (held : List ℕ) (here next : ℕ) (s : ReaderOf) (o : UnitStep) → unit_run start_reader (take here held) ≡ still_reads s → here ≤ next → unit_run s (part held here next) ≡ ended o → Behind o held next
run_ended held here next s (reads_on t) e h f = take_next held here s e next h ∙ f
run_ended held here next s (completes began v) e h f = parts_run held here s e next h ∙ ap (λ z. run_on z (drop next held)) f
run_ended held here next s (rejects place k) e h f = parts_run held here s e next h ∙ ap (λ z. run_on z (drop next held)) f

-- ---- a character within the limit

within_read : (r : Reading) (held : List ℕ) (next c : ℕ) → HasRead r held → IsCharacter held r.here next c → next ≤ message_limit
    → unit_run (reader_of r held) (part held r.here next) ≡ ended (lexed (reader_of r held) r.here next (lex_step (is_outside (reader_of r held).position) (reader_of r held).lex c))
within_read r held next c h i w =
    let o = i.onward in
    let e : r.here + (next - r.here) ≡ next = omega (arith, o) in
    character_read (reader_of r held) held r.here next c i refl (omega (arith, e, w))
    ∙ ap (λ k. ended (lexed (reader_of r held) r.here k (lex_step (is_outside (reader_of r held).position) (reader_of r held).lex c))) e

pub came_within : (old new : Reading) (held : List ℕ) (next c : ℕ) (o : Outcome) → HasRead old held → IsCharacter held old.here next c → next ≤ message_limit
    → outcome_of o new held ≡ lexed (reader_of old held) old.here next (lex_step (is_outside (reader_of old held).position) (reader_of old held).lex c) → IsSoundBehind o new held next → Came o new held
came_within old new held next c o h i w e b = go o e b
  where
    ran : (o : Outcome) → outcome_of o new held ≡ lexed (reader_of old held) old.here next (lex_step (is_outside (reader_of old held).position) (reader_of old held).lex c) → Behind (outcome_of o new held) held next
    ran o e = run_ended held old.here next (reader_of old held) (outcome_of o new held) h.same i.onward (within_read old held next c h i w ∙ ap ended (sym e))

    go : (o : Outcome) → outcome_of o new held ≡ lexed (reader_of old held) old.here next (lex_step (is_outside (reader_of old held).position) (reader_of old held).lex c) → IsSoundBehind o new held next → Came o new held
    go ReadsOn e b = record {
      sound = b.sound;
      short = subst (λ k. k ≤ message_limit) (sym b.is) w;
      same = ap (λ k. unit_run start_reader (take k held)) b.is ∙ ran ReadsOn e;
    }
    go (Completes began) e b = record {
      same = ran (Completes began) e ∙ ap (λ k. completed began (value_at new.frames) (drop k held)) (sym b.is);
      stands = b.stands;
      within = subst (λ k. k ≤ length held) (sym b.is) i.within;
      onward = subst (λ k. began ≤ k) (sym b.is) b.onward;
    }
    go (Rejects place k) e b = record { same = ran (Rejects place k) e; within = let w = i.within in omega (arith, b, w) }

-- ---- a character over the limit

over_run : (r : Reading) (held : List ℕ) (next c : ℕ) → HasRead r held → IsCharacter held r.here next c → next ≡ message_limit + 1
    → unit_run (reader_of r held) (part held r.here next) ≡ ended (capped (lexed (reader_of r held) r.here next (lex_step (is_outside (reader_of r held).position) (reader_of r held).lex c)))
over_run r held next c h i w =
    let o = i.onward in
    let l : length (part held r.here next) ≡ next - r.here = length-part held r.here next i.within in
    let e : r.here + length (part held r.here next) ≡ next = omega (arith, o, l) in
    over_read (reader_of r held) (part held r.here next) c i.is i.allowed refl h.short (e ∙ w)
    ∙ ap (λ k. ended (capped (lexed (reader_of r held) r.here k (lex_step (is_outside (reader_of r held).position) (reader_of r held).lex c)))) e

pub came_over : (old new : Reading) (held : List ℕ) (next c : ℕ) (o : Outcome) → HasRead old held → IsCharacter held old.here next c → next ≡ message_limit + 1
    → outcome_of o new held ≡ lexed (reader_of old held) old.here next (lex_step (is_outside (reader_of old held).position) (reader_of old held).lex c) → IsSoundBehind o new held next → Came (capped_of o) new held
came_over old new held next c o h i w e b = go o e b
  where
    ran : (o : Outcome) → outcome_of o new held ≡ lexed (reader_of old held) old.here next (lex_step (is_outside (reader_of old held).position) (reader_of old held).lex c) → Behind (capped (outcome_of o new held)) held next
    ran o e = run_ended held old.here next (reader_of old held) (capped (outcome_of o new held)) h.same i.onward (over_run old held next c h i w ∙ ap (λ z. ended (capped z)) (sym e))

    limit : message_limit ≤ length held
    limit = let x = i.within in omega (arith, x, w)

    go : (o : Outcome) → outcome_of o new held ≡ lexed (reader_of old held) old.here next (lex_step (is_outside (reader_of old held).position) (reader_of old held).lex c) → IsSoundBehind o new held next → Came (capped_of o) new held
    go ReadsOn e b = record { same = ran ReadsOn e; within = limit }
    go (Completes began) e b = record { same = ran (Completes began) e; within = limit }
    go (Rejects place k) e b = record { same = ran (Rejects place k) e; within = let w = i.within in omega (arith, b, w) }

pub came_far_over : (r new : Reading) (held : List ℕ) (next c : ℕ) → HasRead r held → IsCharacter held r.here next c → message_limit + 1 < next → Came (Rejects message_limit kinds.TooLong) new held
came_far_over r new held next c h i w =
    let o = i.onward in
    let l : length (part held r.here next) ≡ next - r.here = length-part held r.here next i.within in
    let f : unit_run (reader_of r held) (part held r.here next) ≡ ended (rejects message_limit kinds.TooLong) = both_over (reader_of r held) (part held r.here next) c i.is i.allowed refl h.short (omega (arith, o, l, w)) in
    let x = i.within in
    record { same = run_ended held r.here next (reader_of r held) (rejects message_limit kinds.TooLong) h.same i.onward f; within = omega (arith, x, w) }

-- a character ends behind where it begins
pub character_onward : (held : List ℕ) (here next c : ℕ) → IsCharacter held here next c → here < next
character_onward held here next c i =
    let l : next - here ≡ length (encode_utf16 c) = sym (length-part held here next i.within) ∙ ap length i.is in
    let s = (some_units c i.allowed).0 in
    omega (arith, l, s)

pub character_short : (held : List ℕ) (here next c : ℕ) → IsCharacter held here next c → next ≤ here + 2
character_short held here next c i =
    let l : next - here ≡ length (encode_utf16 c) = sym (length-part held here next i.within) ∙ ap length i.is in
    let s = (some_units c i.allowed).1 in
    omega (arith, l, s)

pub onward_of : (o : Outcome) (old new : Reading) (held : List ℕ) (next c : ℕ) → IsCharacter held old.here next c → IsSoundBehind o new held next → IsOnward o old new
onward_of ReadsOn old new held next c i b = subst (λ k. old.here < k) (sym b.is) (character_onward held old.here next c i)
onward_of (Completes began) old new held next c i b = tt
onward_of (Rejects place k) old new held next c i b = tt

-- a character behind which reading goes on
abbrev pub then_of : Outcome → Option Outcome
then_of ReadsOn = None
then_of (Completes began) = Some (Completes began)
then_of (Rejects place k) = Some (Rejects place k)

-- ---- what is no character

first_unit : (held : List ℕ) (here : ℕ) → here < length held → drop here held ≡ slice_index held here ∷ drop (here + 1) held
first_unit held here h = rw (add-one, drop-cons held here 0)

nothing_left : (held : List ℕ) (n : ℕ) → length held ≤ n → drop n held ≡ []
nothing_left held n h = empty (drop n held) (let l = length-drop n held in omega (arith, l, h))
  where
    empty : (xs : List ℕ) → length xs ≡ 0 → xs ≡ []
    empty [] e = refl
    empty (x ∷ xs) e = absurd (omega (arith, e))

still_same : (t s : ReaderOf) → still_reads t ≡ still_reads s → t ≡ s
still_same t s e = cc

high_unrested : (a b : Bool) → (a && b && false) ≡ false
high_unrested false b = refl
high_unrested true false = refl
high_unrested true true = refl

le_true : (a b : ℕ) → a ≤ b → nat_le a b ≡ true
le_true a b h = le-leb a b h

le_false : (a b : ℕ) → b < a → nat_le a b ≡ false
le_false a b h = decided (nat_le a b) refl
  where
    decided : (x : Bool) → nat_le a b ≡ x → x ≡ false
    decided true e = absurd (let l = leb-true a b e in omega (arith, h, l))
    decided false e = refl

module _ (r : Reading) (held : List ℕ) (h : HasRead r held) where
  from_here : unit_run start_reader held ≡ unit_run (reader_of r held) (drop r.here held)
  from_here = rest_run held r.here (reader_of r held) h.same

  pub ended_here : length held ≤ r.here → IsPaused r held
  ended_here l =
      let e : unit_run start_reader held ≡ still_reads (reader_of r held) = from_here ∙ ap (unit_run (reader_of r held)) (nothing_left held r.here l) ∙ nothing_read (reader_of r held) in
      record {
        read = h;
        still = (reader_of r held, e);
        rests = λ t f. ap is_resting (still_same t (reader_of r held) (sym f ∙ e)) ∙ sym (ap (λ b. b && is_resting (reader_of r held)) (le_true (length held) r.here l));
      }

  pub cut_waits : IsCut held r.here → r.here < message_limit → IsPaused r held
  cut_waits i l =
      let a = i.last in
      let d : drop r.here held ≡ slice_index held r.here ∷ [] =
      first_unit held r.here (omega (arith, a)) ∙ ap (λ z. slice_index held r.here ∷ z) (nothing_left held (r.here + 1) (omega (arith, a))) in
      let e : unit_run start_reader held ≡ still_reads (waiting (reader_of r held) (slice_index held r.here)) = from_here ∙ (ap (unit_run (reader_of r held)) d ∙ high_waits (reader_of r held) (slice_index held r.here) refl l i.high) in
      record {
        read = h;
        still = (waiting (reader_of r held) (slice_index held r.here), e);
        rests = λ t f.
            ap is_resting (still_same t (waiting (reader_of r held) (slice_index held r.here)) (sym f ∙ e))
            ∙ (high_unrested (may_rest (reader_of r held).position) (is_blank (reader_of r held).lex)
            ∙ sym (ap (λ b. b && is_resting (reader_of r held)) (le_false (length held) r.here (omega (arith, a)))));
      }

  pub high_too_long : is_high (slice_index held r.here) ≡ true → r.here < length held → message_limit ≤ r.here → HasRejected message_limit kinds.TooLong held
  high_too_long i w l =
      record {
        same = from_here ∙ (ap (unit_run (reader_of r held)) (first_unit held r.here w) ∙ high_over (reader_of r held) (slice_index held r.here) (drop (r.here + 1) held) refl l i);
        within = let x = h.short in omega (arith, w, l, x);
      }

  pub low_unpaired : is_low (slice_index held r.here) ≡ true → r.here < length held → HasRejected r.here kinds.BadUnit held
  low_unpaired i w =
      record {
        same = from_here ∙ (ap (unit_run (reader_of r held)) (first_unit held r.here w) ∙ lone_low (reader_of r held) (slice_index held r.here) (drop (r.here + 1) held) refl i);
        within = omega (arith, w);
      }

  pub high_unpaired : IsHighAlone held r.here → r.here < message_limit → HasRejected r.here kinds.BadUnit held
  high_unpaired i l =
      let w = i.within in
      let d : drop r.here held ≡ slice_index held r.here ∷ slice_index held (r.here + 1) ∷ drop (r.here + 1 + 1) held =
      first_unit held r.here (omega (arith, w)) ∙ ap (λ z. slice_index held r.here ∷ z) (first_unit held (r.here + 1) w) in
      record {
        same = from_here ∙ (ap (unit_run (reader_of r held)) d ∙ high_alone (reader_of r held) (slice_index held r.here) (slice_index held (r.here + 1)) (drop (r.here + 1 + 1) held) refl l i.high i.alone);
        within = omega (arith, w);
      }

  pub forbidden_here : IsForbidden held r.here → r.here < length held → HasRejected r.here kinds.BadChar held
  forbidden_here i w =
      record {
        same = from_here ∙ (ap (unit_run (reader_of r held)) (first_unit held r.here w) ∙ forbidden_read (reader_of r held) (slice_index held r.here) (drop (r.here + 1) held) refl i.not_high i.not_low i.forbidden);
        within = omega (arith, w);
      }

  pub unpaired_within : (is_low (slice_index held r.here) ≡ true) ⊎ IsHighAlone held r.here → r.here < length held → r.here < message_limit → HasRejected r.here kinds.BadUnit held
  unpaired_within (inl i) w l = low_unpaired i w
  unpaired_within (inr i) w l = high_unpaired i l

  pub unpaired_low : (is_low (slice_index held r.here) ≡ true) ⊎ IsHighAlone held r.here → r.here < length held → is_high (slice_index held r.here) ≡ false → HasRejected r.here kinds.BadUnit held
  unpaired_low (inl i) w l = low_unpaired i w
  unpaired_low (inr i) w l = absurd (let e : true ≡ false = sym i.high ∙ l in cc)

-- behind a character: reading went on, or it ends so
pub went_on : (o : Outcome) (old new : Reading) (held : List ℕ) → Came o new held → IsOnward o old new → WentOn (then_of o) old new held
went_on ReadsOn old new held a b = (a, b)
went_on (Completes began) old new held a b = a
went_on (Rejects place k) old new held a b = a
