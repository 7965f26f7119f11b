-- The reading of bytes.
use Rattle.std.proofs.Common.{◌≡◌, ℕ, ◌+◌, ◌*◌, ◌<◌, ◌≤◌, Bool, true, false, ◌&&◌, List, [], ◌∷◌, ◌++◌, length, length-append, get_or, drop, take, Option, Some, None, Result, Ok, Err, subst, refl, sym, ap, ◌∙◌, arith}
use Rattle.std.specs.Prelude.{MatchOption, IsOk}
use Rattle.std.proofs.lemmas.List.{append_assoc, append-nil, at_drop_more, at_drop_all, take-append-le}
use Rattle.mos_fields.specs.Characters.{Text, is_high, is_low, is_allowed}
use Rattle.mos_text.specs.declared.fault.TextFault.{TextFault}
use Rattle.mos_text.specs.declared.fault.TextFault.TheVariants.{BadUnit as bad_unit, BadChar as bad_char, NoMemory as out_of_memory}
use Rattle.mos_text.specs.declared.reading.Reading.{Reading}
use Rattle.mos_text.specs.Reading.{after, gained, before, joined, byte_step, byte_step_at, byte_char, byte_char_at, char_at, high_after, fault_at, waits_high, is_reading, without_memory, FeedAnswers}

pub after_byte : (r : Reading) (b : ℕ) (bs : List ℕ) → after r (b ∷ bs) ≡ after (byte_step r b) bs
unfolding after
after_byte r b bs = refl

pub after_nothing : (r : Reading) → after r [] ≡ r
unfolding after
after_nothing r = refl

pub gained_byte : (r : Reading) (b : ℕ) (bs : List ℕ) → gained r (b ∷ bs) ≡ before (byte_char r b) (gained (byte_step r b) bs)
unfolding gained
gained_byte r b bs = refl

pub gained_nothing : (r : Reading) → gained r [] ≡ []
unfolding gained
gained_nothing r = refl

pub waits_of : (r : Reading) → is_reading r ≡ true → waits_high r.high ≡ true
waits_of r e = e

char_faultless : (f : Option TextFault) (h : Option ℕ) (u c : ℕ) → char_at f h u ≡ Some c → f ≡ None
char_faultless None h u c e = refl
char_faultless (Some f) h u c e = absurd (cc)

byte_faultless : (o : Option ℕ) (r : Reading) (b c : ℕ) → byte_char_at o r b ≡ Some c → r.fault ≡ None
byte_faultless None r b c e = absurd (cc)
byte_faultless (Some a) r b c e = char_faultless r.fault r.high (a * 256 + b) c e

-- a character comes only where there is no fault
pub no_fault_of : (r : Reading) (b c : ℕ) → byte_char r b ≡ Some c → r.fault ≡ None
no_fault_of r b c e = byte_faultless r.odd r b c e

waits_step : (o : Option ℕ) (u : ℕ) (t : Bool) → is_high u ≡ t → waits_high (high_after o u) ≡ true
waits_step None u true e = rw e e
waits_step None u false e = rw e refl
waits_step (Some h) u t e = refl

-- a fault of the bytes, or none
abbrev is_of_bytes : Option TextFault → Bool
is_of_bytes None = true
is_of_bytes (Some out_of_memory) = false
is_of_bytes (Some (bad_unit k)) = true
is_of_bytes (Some (bad_char k)) = true

first_of_bytes : (p u : ℕ) (a b d : Bool) → is_high u ≡ a → is_low u ≡ b → is_allowed u ≡ d → is_of_bytes (fault_at None None p u) ≡ true
first_of_bytes p u true b d e f g = rw e refl
first_of_bytes p u false true d e f g = rw (e, f) refl
first_of_bytes p u false false true e f g = rw (e, f, g) refl
first_of_bytes p u false false false e f g = rw (e, f, g) refl

second_of_bytes : (h p u : ℕ) (t : Bool) → is_low u ≡ t → is_of_bytes (fault_at None (Some h) p u) ≡ true
second_of_bytes h p u true e = rw e refl
second_of_bytes h p u false e = rw e refl

fault_of_bytes : (f : Option TextFault) (h : Option ℕ) (p u : ℕ) → is_of_bytes f ≡ true → is_of_bytes (fault_at f h p u) ≡ true
fault_of_bytes (Some f) h p u e = e
fault_of_bytes None None p u e = first_of_bytes p u (is_high u) (is_low u) (is_allowed u) refl refl refl
fault_of_bytes None (Some h) p u e = second_of_bytes h p u (is_low u) refl

reading_step : (o : Option ℕ) (r : Reading) (b : ℕ) → is_reading r ≡ true → is_reading (byte_step_at o r b) ≡ true
reading_step None r b e = e
reading_step (Some a) r b e = waits_step r.high (a * 256 + b) (is_high (a * 256 + b)) refl

-- what waits is the first of a pair, also behind a byte
pub reading_behind : (r : Reading) (b : ℕ) → is_reading r ≡ true → is_reading (byte_step r b) ≡ true
reading_behind r b e = reading_step r.odd r b e

place_step : (o : Option ℕ) (r : Reading) (b : ℕ) → r.place ≤ (byte_step_at o r b).place
place_step None r b = omega arith
place_step (Some a) r b = omega arith

-- places only grow
pub place_behind : (r : Reading) (bs : List ℕ) → r.place ≤ (after r bs).place
unfolding after
place_behind r [] = omega arith
place_behind r (b ∷ bs) =
    let first : r.place ≤ (byte_step r b).place = place_step r.odd r b in
    let more : (byte_step r b).place ≤ (after (byte_step r b) bs).place = place_behind (byte_step r b) bs in
    omega arith

fault_stays_at : (f : Option TextFault) (h : Option ℕ) (p u : ℕ) → fault_at f h p u ≡ None → f ≡ None
fault_stays_at None h p u e = refl
fault_stays_at (Some f) h p u e = absurd (cc)

fault_stays : (o : Option ℕ) (r : Reading) (b : ℕ) → (byte_step_at o r b).fault ≡ None → r.fault ≡ None
fault_stays None r b e = e
fault_stays (Some a) r b e = fault_stays_at r.fault r.high r.place (a * 256 + b) e

-- ---- the loop over a piece

-- what was read, and what is still to be read, of the piece p, which began at r
pub record Loop (r : Reading) (p : List ℕ) (i : ℕ) (s : Reading) (old out : Text) : Type 0 where
  pub reading : after s (drop i p) ≡ after r p
  pub chars : out ++ gained s (drop i p) ≡ old ++ gained r p
  pub such : is_reading s ≡ true
  pub front : take (length old) out ≡ old
  pub long : length old ≤ length out
  pub faultless : s.fault ≡ None → r.fault ≡ None

joined_before : (out : Text) (o : Option ℕ) (x : Text) → joined out o ++ x ≡ out ++ before o x
joined_before out None x = refl
joined_before out (Some c) x = append_assoc out (c ∷ []) x

joined_front : (old out : Text) (o : Option ℕ) → length old ≤ length out → take (length old) out ≡ old → take (length old) (joined out o) ≡ old
joined_front old out None h e = e
joined_front old out (Some c) h e = take-append-le (length old) out (c ∷ []) h ∙ e

joined_long : (old out : Text) (o : Option ℕ) → length old ≤ length out → length old ≤ length (joined out o)
joined_long old out None h = h
joined_long old out (Some c) h = omega (arith, length-append out (c ∷ []))

pub loop_step : (r : Reading) (p : List ℕ) (i : ℕ) (s t : Reading) (b : ℕ) (old out new : Text) → i < length p → b ≡ get_or p i 0 → t ≡ byte_step s b → new ≡ joined out (byte_char s b)
    → Loop r p i s old out → Loop r p (i + 1) t old new
loop_step r p i s t b old out new h e f g l =
    let more : after s (drop i p) ≡ after (byte_step s b) (drop (i + 1) p) = at_drop_more (after s) p i 0 h ∙ (ap (λ c. after s (c ∷ drop (i + 1) p)) (sym e) ∙ after_byte s b (drop (i + 1) p)) in
    let told : gained s (drop i p) ≡ before (byte_char s b) (gained (byte_step s b) (drop (i + 1) p)) = at_drop_more (gained s) p i 0 h ∙ (ap (λ c. gained s (c ∷ drop (i + 1) p)) (sym e) ∙ gained_byte s b (drop (i + 1) p)) in
    record {
      reading = ap (λ q. after q (drop (i + 1) p)) f ∙ (sym more ∙ l.reading);
      chars = ap (λ q. new ++ gained q (drop (i + 1) p)) f ∙ (ap (λ x. x ++ gained (byte_step s b) (drop (i + 1) p)) g ∙ (joined_before out (byte_char s b) (gained (byte_step s b) (drop (i + 1) p)) ∙ (ap (λ x. out ++ x) (sym told) ∙ l.chars)));
      such = ap is_reading f ∙ reading_behind s b l.such;
      front = ap (take (length old)) g ∙ joined_front old out (byte_char s b) l.long l.front;
      long = (let m : length new ≡ length (joined out (byte_char s b)) = ap length g in let k : length old ≤ length (joined out (byte_char s b)) = joined_long old out (byte_char s b) l.long in omega arith);
      faultless = λ n. l.faultless (fault_stays s.odd s b (ap (λ q. q.fault) (sym f) ∙ n));
    }

pub loop_start : (r : Reading) (p : List ℕ) (out : Text) → is_reading r ≡ true → Loop r p 0 r out out
loop_start r p out e = record { reading = refl; chars = refl; such = e; front = take_all_of out; long = omega arith; faultless = λ n. n }
  where
    take_all_of : (x : Text) → take (length x) x ≡ x
    take_all_of [] = refl
    take_all_of (c ∷ x) = ap (λ y. c ∷ y) (take_all_of x)

pub loop_end : (r : Reading) (p : List ℕ) (i : ℕ) (s : Reading) (old out : Text) → length p ≤ i → Loop r p i s old out → (s ≡ after r p) × (out ≡ old ++ gained r p)
loop_end r p i s old out h l = (
  sym (at_drop_all (after s) p i h ∙ after_nothing s) ∙ l.reading,
  sym (ap (λ x. out ++ x) (at_drop_all (gained s) p i h ∙ gained_nothing s) ∙ append-nil out) ∙ l.chars,
)

-- the unit that a byte completes is counted
pub place_within : (r : Reading) (p : List ℕ) (i : ℕ) (s : Reading) (b : ℕ) (old out : Text) → i < length p → b ≡ get_or p i 0 → (after r p).place < 18446744073709551616 → Loop r p i s old out
    → (byte_step s b).place < 18446744073709551616
place_within r p i s b old out h e k l =
    let more : after s (drop i p) ≡ after (byte_step s b) (drop (i + 1) p) = at_drop_more (after s) p i 0 h ∙ (ap (λ c. after s (c ∷ drop (i + 1) p)) (sym e) ∙ after_byte s b (drop (i + 1) p)) in
    let places : (after (byte_step s b) (drop (i + 1) p)).place ≡ (after r p).place = ap (λ q. q.place) (sym more ∙ l.reading) in
    let grown : (byte_step s b).place ≤ (after (byte_step s b) (drop (i + 1) p)).place = place_behind (byte_step s b) (drop (i + 1) p) in
    omega arith

-- ---- a fault stays

fault_kept : (o : Option ℕ) (r : Reading) (b : ℕ) (f : TextFault) → r.fault ≡ Some f → (byte_step_at o r b).fault ≡ Some f
fault_kept None r b f e = e
fault_kept (Some a) r b f e = ap (λ x. fault_at x r.high r.place (a * 256 + b)) e

pub fault_behind : (r : Reading) (p : List ℕ) (f : TextFault) → r.fault ≡ Some f → (after r p).fault ≡ Some f
unfolding after
fault_behind r [] f e = e
fault_behind r (b ∷ p) f e = fault_behind (byte_step r b) p f (fault_kept r.odd r b f e)

silent_step : (o : Option ℕ) (r : Reading) (b : ℕ) (f : TextFault) → r.fault ≡ Some f → byte_char_at o r b ≡ None
silent_step None r b f e = refl
silent_step (Some a) r b f e = ap (λ x. char_at x r.high (a * 256 + b)) e

-- behind a fault no character is completed
pub gained_behind : (r : Reading) (p : List ℕ) (f : TextFault) → r.fault ≡ Some f → gained r p ≡ []
unfolding gained
gained_behind r [] f e = refl
gained_behind r (b ∷ p) f e = ap (λ c. before c (gained (byte_step r b) p)) (silent_step r.odd r b f e) ∙ gained_behind (byte_step r b) p f (fault_kept r.odd r b f e)

bytes_step : (o : Option ℕ) (r : Reading) (b : ℕ) → is_of_bytes r.fault ≡ true → is_of_bytes (byte_step_at o r b).fault ≡ true
bytes_step None r b e = e
bytes_step (Some a) r b e = fault_of_bytes r.fault r.high r.place (a * 256 + b) e

bytes_behind : (r : Reading) (p : List ℕ) → is_of_bytes r.fault ≡ true → is_of_bytes (after r p).fault ≡ true
unfolding after
bytes_behind r [] e = e
bytes_behind r (b ∷ p) e = bytes_behind (byte_step r b) p (bytes_step r.odd r b e)

-- want of memory is no fault of the bytes
lacked_before : (r : Reading) (p : List ℕ) (f : Option TextFault) → r.fault ≡ f → (after r p).fault ≡ Some out_of_memory → r.fault ≡ Some out_of_memory
lacked_before r p (Some out_of_memory) e h = e
lacked_before r p None e h = let b : is_of_bytes (Some out_of_memory) ≡ true = ap is_of_bytes (sym h) ∙ bytes_behind r p (ap is_of_bytes e) in absurd (cc)
lacked_before r p (Some (bad_unit k)) e h = let b : is_of_bytes (Some out_of_memory) ≡ true = ap is_of_bytes (sym h) ∙ bytes_behind r p (ap is_of_bytes e) in absurd (cc)
lacked_before r p (Some (bad_char k)) e h = let b : is_of_bytes (Some out_of_memory) ≡ true = ap is_of_bytes (sym h) ∙ bytes_behind r p (ap is_of_bytes e) in absurd (cc)

lacking_is : (r : Reading) → r.fault ≡ Some out_of_memory → r ≡ without_memory r
lacking_is r e = ap (λ f. record { place = r.place; odd = r.odd; high = r.high; fault = f }) e

-- ---- units are counted, whatever the fault

-- two readings that differ in their fault alone
record Alike (r s : Reading) : Type 0 where
  place : r.place ≡ s.place
  odd : r.odd ≡ s.odd
  high : r.high ≡ s.high

alike_step : (o : Option ℕ) (r s : Reading) (b : ℕ) → Alike r s → Alike (byte_step_at o r b) (byte_step_at o s b)
alike_step None r s b e = record { place = e.place; odd = refl; high = e.high }
alike_step (Some a) r s b e = record { place = ap (λ n. n + 1) e.place; odd = refl; high = ap (λ h. high_after h (a * 256 + b)) e.high }

alike_behind : (r s : Reading) (p : List ℕ) → Alike r s → (after r p).place ≡ (after s p).place
unfolding after
alike_behind r s [] e = e.place
alike_behind r s (b ∷ p) e = alike_behind (byte_step r b) (byte_step s b) p (subst (λ o. Alike (byte_step r b) (byte_step_at o s b)) e.odd (alike_step r.odd r s b e))

pub place_without : (r : Reading) (p : List ℕ) → (after (without_memory r) p).place ≡ (after r p).place
place_without r p = alike_behind (without_memory r) r p (record { place = refl; odd = refl; high = refl })

-- ---- what a call answers

answers_at : (r : Reading) (p : List ℕ) (t : Reading) (old told : Text) (f : Option TextFault) (a : Result Unit TextFault) → MatchOption f (IsOk a) (λ g. a ≡ Err g)
    → t ≡ after r p → told ≡ old ++ gained r p → (after r p).fault ≡ f → FeedAnswers r p t old told a
answers_at r p t old told None (Ok u) m e g h = record { reading = e; chars = g; faulty = h }
answers_at r p t old told None (Err x) m e g h = absurd (cc)
answers_at r p t old told (Some f) a m e g h = let P : Result Unit TextFault → Type 0 = FeedAnswers r p t old told in subst P (sym m) (told_fault f h)
  where
    told_fault : (x : TextFault) → (after r p).fault ≡ Some x → FeedAnswers r p t old told (Err x)
    told_fault out_of_memory i =
        let l = lacked_before r p r.fault refl i in
        record {
          reading = e ∙ ap (λ q. after q p) (lacking_is r l);
          chars = g ∙ (ap (λ x. old ++ x) (gained_behind r p out_of_memory l) ∙ append-nil old);
          faulty = ap (λ q. q.fault) e ∙ i;
        }
    told_fault (bad_unit k) i = record { reading = e; chars = g; faulty = i }
    told_fault (bad_char k) i = record { reading = e; chars = g; faulty = i }

pub feed_answers : (r : Reading) (p : List ℕ) (t : Reading) (old told : Text) (a : Result Unit TextFault) → MatchOption t.fault (IsOk a) (λ g. a ≡ Err g)
    → t ≡ after r p → told ≡ old ++ gained r p → FeedAnswers r p t old told a
feed_answers r p t old told a m e g = answers_at r p t old told t.fault a m e g (ap (λ q. q.fault) (sym e))

kept_at : (o : Option TextFault) (f : TextFault) (a : Result Unit TextFault) → MatchOption o (IsOk a) (λ g. a ≡ Err g) → o ≡ Some f → a ≡ Err f
kept_at o f a m e = subst (λ x. MatchOption x (IsOk a) (λ g. a ≡ Err g)) e m

-- the fault that a reading has is answered
pub fault_answered : (r : Reading) (p : List ℕ) (t : Reading) (a : Result Unit TextFault) (f : TextFault) → MatchOption t.fault (IsOk a) (λ g. a ≡ Err g) → t ≡ after r p → r.fault ≡ Some f → a ≡ Err f
fault_answered r p t a f m e h = kept_at t.fault f a m (ap (λ q. q.fault) e ∙ fault_behind r p f h)

place_step_most : (o : Option ℕ) (r : Reading) (b : ℕ) → (byte_step_at o r b).place ≤ r.place + 1
place_step_most None r b = omega arith
place_step_most (Some a) r b = omega arith

place_most : (r : Reading) (p : List ℕ) → (after r p).place ≤ r.place + length p
unfolding after
place_most r [] = omega arith
place_most r (b ∷ p) =
    let first : (byte_step r b).place ≤ r.place + 1 = place_step_most r.odd r b in
    let more : (after (byte_step r b) p).place ≤ (byte_step r b).place + length p = place_most (byte_step r b) p in
    omega arith

-- a caller that knows the place and the piece's length knows that the place stays below 2^64
pub place_below : (r : Reading) (p : List ℕ) → r.place + length p < 18446744073709551616 → (after r p).place < 18446744073709551616
place_below r p h = let most = place_most r p in omega arith
