-- Lines and counts of events that were told, event after event.
use Rattle.std.proofs.Common.{◌≡◌, ℕ, zero, suc, ◌+◌, ◌<◌, ◌≤◌, ◌^◌, List, [], ◌∷◌, ◌++◌, length, take, get_or, slice_get, Bool, true, false, if◌then◌else◌, Some, None, refl, sym, ap, ◌∙◌, subst, arith}
use Rattle.std.proofs.lemmas.List.{append_assoc, append-nil, length-append}
use Rattle.std.specs.List.{AllByRecursion}
use Rattle.world_scripts.specs.WorldEvents.{HasSoundEdit, event_of, events_of}
use Rattle.world_scripts.specs.declared.world_event.WorldEvent.{WorldEvent as HeldEvent}
use Rattle.world_laws.specs.Outcomes.{Outcome}
use Rattle.world_laws.specs.World.{WorldEvent}
use Rattle.world_scripts.specs.declared.making.Making.{Making}
use Rattle.world_scripts.specs.Made.{HandsNext, made_after, made_events, made_from, start}
use Rattle.world_scripts.specs.Results.{count_of, event_line, event_lines, is_accepted, is_impossible, is_refused}
use Rattle.script_plays.specs.declared.counts.Counts.{Counts}
use Rattle.script_plays.specs.Counted.{AreFew, CountsOf, HasCounts, counted, more_if}
use Rattle.script_plays.specs.Played.{HasLines, Telling}

-- ---- lines

lines-more : (n : ℕ) (os : List Outcome) (o : Outcome) → event_lines n (os ++ o ∷ []) ≡ event_lines n os ++ event_line (n + length os) o
lines-more n [] o = append-nil (event_line n o) ∙ ap (λ (k : ℕ). event_line k o) (let same : n ≡ n + 0 = omega arith in same)
lines-more n (p ∷ os) o =
    let number : (n + 1) + length os ≡ n + suc (length os) = omega arith in
    ap (λ (ys : List ℕ). event_line n p ++ ys) (lines-more (n + 1) os o ∙ ap (λ (k : ℕ). event_lines (n + 1) os ++ event_line k o) number)
    ∙ sym (append_assoc (event_line n p) (event_lines (n + 1) os) (event_line (n + suc (length os)) o))

-- the element at a place
at-place : (xs : List HeldEvent) (i : ℕ) (x : HeldEvent) → i < length xs → x ≡ get_or xs i x → slice_get xs i ≡ Some x
at-place [] i x h e = absurd (omega (arith, h))
at-place (y ∷ ys) zero x h e = ap Some (sym e)
at-place (y ∷ ys) (suc i) x h e = at-place ys i x (omega (arith, h)) e

sound-there : (xs : List HeldEvent) (i : ℕ) (x : HeldEvent) → slice_get xs i ≡ Some x → AllByRecursion HasSoundEdit (events_of xs) → HasSoundEdit (event_of x)
sound-there [] i x e h = absurd (cc)
sound-there (y ∷ ys) zero x e h = subst (λ (z : HeldEvent). HasSoundEdit (event_of z)) (let same : y ≡ x = cc in same) h.0
sound-there (y ∷ ys) (suc i) x e h = sound-there ys i x e h.1

pub sound-at : (xs : List HeldEvent) (i : ℕ) (x : HeldEvent) → i < length xs → x ≡ get_or xs i x → AllByRecursion HasSoundEdit (events_of xs) → HasSoundEdit (event_of x)
sound-at xs i x h e s = sound-there xs i x (at-place xs i x h e) s

events-at : (xs : List HeldEvent) (i : ℕ) (x : HeldEvent) → slice_get xs i ≡ Some x → events_of (take (suc i) xs) ≡ events_of (take i xs) ++ event_of x ∷ []
events-at [] i x e = absurd (cc)
events-at (y ∷ ys) zero x e = ap (λ (z : HeldEvent). event_of z ∷ []) (let same : y ≡ x = cc in same)
events-at (y ∷ ys) (suc i) x e = ap (λ (zs : List WorldEvent). event_of y ∷ zs) (events-at ys i x e)

length-front : (xs : List HeldEvent) (i : ℕ) → i ≤ length xs → length (events_of (take i xs)) ≡ i
length-front xs zero h = refl
length-front [] (suc i) h = absurd (omega (arith, h))
length-front (x ∷ xs) (suc i) h = let n = length-front xs i (omega (arith, h)) in omega (arith, n)

whole-front : (xs : List HeldEvent) (i : ℕ) → length xs ≤ i → take i xs ≡ xs
whole-front [] zero h = refl
whole-front [] (suc i) h = refl
whole-front (x ∷ xs) zero h = absurd (omega (arith, h))
whole-front (x ∷ xs) (suc i) h = ap (λ (ys : List HeldEvent). x ∷ ys) (whole-front xs i (omega (arith, h)))

-- nothing was played yet
pub lines-none : (told : Telling) (devices : ℕ) (events : List HeldEvent) (text : List ℕ) → text ≡ [] → told devices [] [] → HasLines told devices (events_of (take 0 events)) text
lines-none told devices events text e h = record { outcomes = []; tells = h; count = refl; lines = e }

-- one more event was played
pub lines-next : (old new : Telling) (devices : ℕ) (events : List HeldEvent) (i : ℕ) (e : HeldEvent) (before after : List ℕ) → i < length events → e ≡ get_or events i e → HasLines old devices (events_of (take i events)) before
    → ((devices : ℕ) (es : List WorldEvent) (os : List Outcome) → old devices es os → (o : Outcome) × new devices (es ++ event_of e ∷ []) (os ++ o ∷ []) × (after ≡ before ++ event_line (i + 1) o))
    → HasLines new devices (events_of (take (i + 1) events)) after
lines-next old new devices events i e before after within is h step =
    let at = at-place events i e within is in
    let played = step devices (events_of (take i events)) h.outcomes h.tells in
    let o = played.0 in
    let number : suc i ≡ i + 1 = omega arith in
    let more : events_of (take (i + 1) events) ≡ events_of (take i events) ++ event_of e ∷ [] = ap (λ (k : ℕ). events_of (take k events)) (sym number) ∙ events-at events i e at in
    let front = length-front events i (omega (arith, within)) in
    let so_far = h.count in
    let place : i + 1 ≡ 1 + length h.outcomes = omega (arith, so_far, front) in
    let one = length-append h.outcomes (o ∷ []) in
    let all = length-append (events_of (take i events)) (event_of e ∷ []) in
    record {
      outcomes = h.outcomes ++ o ∷ [];
      tells = subst (λ (es : List WorldEvent). new devices es (h.outcomes ++ o ∷ [])) (sym more) played.1;
      count = one ∙ (ap (λ (k : ℕ). k + 1) so_far ∙ (sym all ∙ ap length (sym more)));
      lines = played.2 ∙ (ap (λ (xs : List ℕ). xs ++ event_line (i + 1) o) h.lines ∙ (ap (λ (k : ℕ). event_lines 1 h.outcomes ++ event_line k o) place ∙ sym (lines-more 1 h.outcomes o)));
    }

-- all events were played
pub lines-all : (told : Telling) (devices : ℕ) (events : List HeldEvent) (i : ℕ) (text : List ℕ) → length events ≤ i → HasLines told devices (events_of (take i events)) text → HasLines told devices (events_of events) text
lines-all told devices events i text past h = subst (λ (xs : List HeldEvent). HasLines told devices (events_of xs) text) (whole-front events i past) h

-- ---- counts

count-more : (test : Outcome → Bool) (os : List Outcome) (o : Outcome) → count_of test (os ++ o ∷ []) ≡ more_if (test o) (count_of test os)
count-more test [] o = by (test o)
  where
    by : (b : Bool) → (if b then 0 + 1 else 0) ≡ more_if b 0
    by true = refl
    by false = refl
count-more test (p ∷ os) o = by (test p) (test o) (count_of test (os ++ o ∷ [])) (count_of test os) (count-more test os o)
  where
    by : (b c : Bool) (n m : ℕ) → n ≡ more_if c m → (if b then n + 1 else n) ≡ more_if c (if b then m + 1 else m)
    by true true n m e = ap (λ (k : ℕ). k + 1) e
    by true false n m e = ap (λ (k : ℕ). k + 1) e
    by false true n m e = e
    by false false n m e = e

counts-none : CountsOf (record { events = 0; accepted = 0; refused = 0; impossible = 0 }) []
counts-none = record { events = refl; accepted = refl; refused = refl; impossible = refl }

counts-next : (c d : Counts) (os : List Outcome) (o : Outcome) → CountsOf c os → d ≡ counted c o → CountsOf d (os ++ o ∷ [])
counts-next c d os o h e = record {
  events = ap (λ x. x.events) e ∙ (ap (λ (n : ℕ). n + 1) h.events ∙ sym (length-append os (o ∷ [])));
  accepted = ap (λ x. x.accepted) e ∙ (ap (more_if (is_accepted o)) h.accepted ∙ sym (count-more is_accepted os o));
  refused = ap (λ x. x.refused) e ∙ (ap (more_if (is_refused o)) h.refused ∙ sym (count-more is_refused os o));
  impossible = ap (λ x. x.impossible) e ∙ (ap (more_if (is_impossible o)) h.impossible ∙ sym (count-more is_impossible os o));
}

more-within : (b : Bool) (n m : ℕ) → n ≤ m → more_if b n ≤ m + 1
more-within true n m h = omega (arith, h)
more-within false n m h = omega (arith, h)

-- what counts keep to, where so many events are still to come of fewer than 2^32
pub record AreCounted (c : Counts) (left : ℕ) : Type 0 where
  pub within : c.events + left < 2 ^ 32
  pub accepted : c.accepted ≤ c.events
  pub refused : c.refused ≤ c.events
  pub impossible : c.impossible ≤ c.events

pub are-few : (c : Counts) (left : ℕ) → AreCounted c left → AreFew c
are-few c left h = let w = h.within in record { events = omega (arith, w); accepted = h.accepted; refused = h.refused; impossible = h.impossible }

-- events were told and counted, and these are still to come
pub record AreTold (told : Telling) (devices : ℕ) (all left : List WorldEvent) (c : Counts) : Type 0 where
  pub events : List WorldEvent
  pub outcomes : List Outcome
  pub tells : told devices events outcomes
  pub count : length outcomes ≡ length events
  pub counts : CountsOf c outcomes
  pub whole : events ++ left ≡ all

pub told-none : (told : Telling) (devices : ℕ) (all left : List WorldEvent) (c : Counts) → left ≡ all → c ≡ record { events = 0; accepted = 0; refused = 0; impossible = 0 } → told devices [] [] → AreTold told devices all left c
told-none told devices all left c e z h = record { events = []; outcomes = []; tells = h; count = refl; counts = subst (λ (x : Counts). CountsOf x []) (sym z) counts-none; whole = e }

-- the first of those that were to come was played
first-of : (left : List WorldEvent) (e : WorldEvent) (rest : List WorldEvent) → HandsNext left (Some e) rest → left ≡ e ∷ rest
first-of [] e rest h = absurd (let no : Some e ≡ None = h.0 in cc)
first-of (x ∷ xs) e rest h = let same : x ≡ e = (let s = h.0 in cc) in ap (λ (y : WorldEvent). y ∷ xs) same ∙ ap (λ (ys : List WorldEvent). e ∷ ys) (sym h.1)

nothing-left : (left rest : List WorldEvent) → HandsNext left None rest → left ≡ []
nothing-left [] rest h = refl
nothing-left (x ∷ xs) rest h = absurd (let no : None ≡ Some x = h.0 in cc)

pub left-less : (left rest : List WorldEvent) (e : WorldEvent) → HandsNext left (Some e) rest → length left ≡ length rest + 1
left-less left rest e h = ap length (first-of left e rest h) ∙ (let more : suc (length rest) ≡ length rest + 1 = omega arith in more)

pub told-next : (old new : Telling) (devices : ℕ) (all left rest : List WorldEvent) (e : WorldEvent) (c d : Counts) → HandsNext left (Some e) rest → AreTold old devices all left c
    → ((devices : ℕ) (es : List WorldEvent) (os : List Outcome) → old devices es os → (o : Outcome) × new devices (es ++ e ∷ []) (os ++ o ∷ []) × (d ≡ counted c o)) → AreTold new devices all rest d
told-next old new devices all left rest e c d hands h step =
    let played = step devices h.events h.outcomes h.tells in
    record {
      events = h.events ++ e ∷ [];
      outcomes = h.outcomes ++ played.0 ∷ [];
      tells = played.1;
      count = length-append h.outcomes (played.0 ∷ []) ∙ (ap (λ (k : ℕ). k + 1) h.count ∙ sym (length-append h.events (e ∷ [])));
      counts = counts-next c d h.outcomes played.0 h.counts played.2;
      whole = append_assoc h.events (e ∷ []) rest ∙ (ap (λ (xs : List WorldEvent). h.events ++ xs) (sym (first-of left e rest hands)) ∙ h.whole);
    }

pub counted-next : (c d : Counts) (left rest : ℕ) (o : Outcome) → AreCounted c left → left ≡ rest + 1 → d ≡ counted c o → AreCounted d rest
counted-next c d left rest o h l e =
    let w = h.within in
    subst (λ (x : Counts). AreCounted x rest) (sym e) (record {
      within = omega (arith, w, l);
      accepted = more-within (is_accepted o) c.accepted c.events h.accepted;
      refused = more-within (is_refused o) c.refused c.events h.refused;
      impossible = more-within (is_impossible o) c.impossible c.events h.impossible;
    })

pub told-all : (told : Telling) (devices : ℕ) (all left rest : List WorldEvent) (c : Counts) → HandsNext left None rest → AreTold told devices all left c → HasCounts told devices all c
told-all told devices all left rest c hands h =
    let whole = sym (append-nil h.events) ∙ (ap (λ (xs : List WorldEvent). h.events ++ xs) (sym (nothing-left left rest hands)) ∙ h.whole) in
    record {
      outcomes = h.outcomes;
      tells = subst (λ (es : List WorldEvent). told devices es h.outcomes) whole h.tells;
      count = h.count ∙ ap length whole;
      counts = h.counts;
    }

-- so many are made
length-made : (n : ℕ) (m : Making) → length (made_from n m) ≡ n
unfolding made_from
length-made zero m = refl
length-made (suc n) m = ap suc (length-made n (made_after m))

pub counted-none : (n : ℕ) (left : List WorldEvent) (c : Counts) → n < 2 ^ 32 → left ≡ made_events n → c ≡ record { events = 0; accepted = 0; refused = 0; impossible = 0 } → AreCounted c (length left)
counted-none n left c few e z =
    let l : length left ≡ n = ap length e ∙ length-made n (start n) in
    subst (λ (x : Counts). AreCounted x (length left)) (sym z) (record {
      within = omega (arith, few, l);
      accepted = omega arith;
      refused = omega arith;
      impossible = omega arith;
    })
