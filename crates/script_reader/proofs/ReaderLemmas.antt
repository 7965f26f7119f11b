-- What readers come to of the bytes that they are fed.
use Rattle.std.proofs.Common.{◌≡◌, ℕ, ◌+◌, ◌<◌, true, false, ◌==◌, List, [], ◌∷◌, ◌++◌, length, Result, Ok, Err, refl, sym, ap, subst, ◌∙◌, arith}
use Rattle.std.specs.Prelude.{Option, Some, None, IsSome}
use Rattle.std.specs.List.{AllByRecursion}
use Rattle.std.proofs.lemmas.Bool.Decides.{nat_tests}
use Rattle.std.proofs.lemmas.List.{append_assoc, append-nil, length-append}
use Rattle.world_laws.specs.World.{WorldEvent}
use Rattle.world_scripts.specs.WorldEvents.{event_of, events_of}
use Rattle.world_scripts.specs.declared.world_event.WorldEvent.{WorldEvent as HeldEvent}
use Rattle.world_scripts.specs.Events.{event_in, line_limit}
use Rattle.world_scripts.specs.Scripts.{Plays, RefusedAt, Rest, StopsAt, devices_in, then_rest, with_event, rest_of, with_devices, parts_script, script_of}
use Rattle.script_reader.specs.declared.fault.ScriptFault.{ScriptFault}
use Rattle.script_reader.specs.declared.fault.ScriptFault.TheVariants as faults
use Rattle.script_reader.specs.Reading.{ShowsRefused}
use Rattle.script_reader.specs.Readers.{lines_of, HasNoEnd, Reader, number_behind, line_number, then_events, script_behind, IsBegun, HasRead, Feeds, IsFirstLine, IsEventLine}
use Rattle.script_reader.proofs.LineLemmas.{first_line, line_ended, line_last, played, one_more, refused_event, long_begun}

-- ---- bytes that stand behind others

pub no_end_both : (xs ys : List ℕ) → HasNoEnd xs → HasNoEnd ys → HasNoEnd (xs ++ ys)
no_end_both [] ys n m = m
no_end_both (x ∷ xs) ys (e, n) m = (e, no_end_both xs ys n m)

pub shown_more : (bytes more : List ℕ) (n : ℕ) → ShowsRefused bytes n → ShowsRefused (bytes ++ more) n
shown_more bytes more n h = λ rest. ap script_of (append_assoc bytes more rest) ∙ h (more ++ rest)

-- a fault stays one, whatever is fed behind it
pub fault_more : (bytes more : List ℕ) (r s : Reader) (k : ScriptFault) → Feeds bytes r (Err k) → Feeds (bytes ++ more) s (Err k)
fault_more bytes more r s (faults.Refused n) h = shown_more bytes more n h
fault_more bytes more r s faults.ReadFault h = absurd h
fault_more bytes more r s faults.NoMemory h = tt

pub fault_behind : (before bytes more : List ℕ) (r s : Reader) (k : ScriptFault) → Feeds (before ++ bytes) r (Err k) → Feeds (before ++ (bytes ++ more)) s (Err k)
fault_behind before bytes more r s k h = subst (λ z. Feeds z s (Err k)) (append_assoc before bytes more) (fault_more (before ++ bytes) more r s k h)

-- what was fed in two parts
pub fed_whole : (before front rest piece : List ℕ) (r : Reader) (answer : Result (Unit {0}) ScriptFault) → piece ≡ front ++ rest → Feeds ((before ++ front) ++ rest) r answer → Feeds (before ++ piece) r answer
fed_whole before front rest piece r answer e h = subst (λ z. Feeds z r answer) (append_assoc before front rest ∙ ap (λ z. before ++ z) (sym e)) h

-- a line in the middle of a piece
pub more_parts : (front rest line behind piece : List ℕ) → piece ≡ front ++ rest → rest ≡ line ++ 10 ∷ behind → piece ≡ (front ++ (line ++ 10 ∷ [])) ++ behind
more_parts front rest line behind piece e f = e ∙ (ap (λ z. front ++ z) (f ∙ sym (append_assoc line (10 ∷ []) behind)) ∙ sym (append_assoc front (line ++ 10 ∷ []) behind))

-- a fault at a line of a piece
pub piece_fails : (before front line behind piece : List ℕ) (r s : Reader) (k : ScriptFault) → piece ≡ (front ++ line) ++ behind → Feeds ((before ++ front) ++ line) r (Err k) → Feeds (before ++ piece) s (Err k)
piece_fails before front line behind piece r s k e h =
    let parts = ap (λ z. z ++ behind) (append_assoc before front line) ∙ (append_assoc before (front ++ line) behind ∙ ap (λ z. before ++ z) (sym e)) in
    subst (λ z. Feeds z s (Err k)) parts (fault_more ((before ++ front) ++ line) behind r s k h)

-- ---- bytes of a line

-- too many of them
pub held_refused : (r : Reader) (before bytes : List ℕ) → HasRead r before → HasNoEnd r.line → HasNoEnd bytes → line_limit < length r.line + length bytes → ShowsRefused (before ++ bytes) (line_number r)
held_refused r before bytes h n m l = λ rest.
    let k = length-append r.line bytes in
    ap script_of (append_assoc before bytes rest)
    ∙ (h (bytes ++ rest)
    ∙ (ap (λ x. script_behind r.devices r.events (lines_of x)) (sym (append_assoc r.line bytes rest))
    ∙ long_begun r.devices r.events (r.line ++ bytes) rest (no_end_both r.line bytes n m) (omega (arith, l, k))))

-- ---- the end of a line

-- a line feed behind what was fed
pub fed_end : (r : Reader) (before : List ℕ) → HasRead r before → HasNoEnd r.line → (rest : List ℕ) → script_of ((before ++ 10 ∷ []) ++ rest) ≡ script_behind r.devices r.events (r.line ∷ lines_of rest)
fed_end r before h n rest =
    ap script_of (append_assoc before (10 ∷ []) rest)
    ∙ (h (10 ∷ rest)
    ∙ ap (script_behind r.devices r.events) (line_ended r.line rest n))

-- ---- the first line

module _ (line : List ℕ) (rest : List ℕ) where
  none_first : devices_in line ≡ None → parts_script (line ∷ lines_of rest) ≡ RefusedAt 1
  none_first e =
      let f = first_line rest in
      ap (λ ps. parts_script (line ∷ ps)) f.2 ∙ ap (λ o. with_devices o (rest_of 2 (f.0 ∷ f.1))) e

  some_first : (d : ℕ) → devices_in line ≡ Some d → parts_script (line ∷ lines_of rest) ≡ with_devices (Some d) (rest_of 2 (lines_of rest))
  some_first d e =
      let f = first_line rest in
      ap (λ ps. parts_script (line ∷ ps)) f.2 ∙ (ap (λ o. with_devices o (rest_of 2 (f.0 ∷ f.1))) e ∙ ap (λ ps. with_devices (Some d) (rest_of 2 ps)) (sym f.2))

pub first_refused : (r s : Reader) (before : List ℕ) (k : ScriptFault) → HasRead r before → HasNoEnd r.line → r.devices ≡ None → IsFirstLine r.line (Err k) → Feeds (before ++ 10 ∷ []) s (Err k)
first_refused r s before k h n d (e, f) =
    subst (λ z. Feeds (before ++ 10 ∷ []) s (Err z)) (sym e) (λ rest. fed_end r before h n rest ∙ (ap (λ o. script_behind o r.events (r.line ∷ lines_of rest)) d ∙ none_first r.line rest f))

pub first_taken : (r : Reader) (before line : List ℕ) (events : List WorldEvent) (d : ℕ) → HasRead r before → HasNoEnd r.line → r.devices ≡ None → IsBegun r.devices r.events → devices_in r.line ≡ Some d → line ≡ [] → events ≡ r.events
    → HasRead (record { line = line; devices = Some d; events = events }) (before ++ 10 ∷ [])
first_taken r before line events d h n o b e f g =
    let nothing : events ≡ [] = g ∙ subst (λ z. IsBegun z r.events) o b in
    subst (λ l. HasRead (record { line = l; devices = Some d; events = events }) (before ++ 10 ∷ [])) (sym f)
    (subst (λ es. HasRead (record { line = []; devices = Some d; events = es }) (before ++ 10 ∷ [])) (sym nothing)
    (λ rest. fed_end r before h n rest ∙ (ap (λ z. script_behind z r.events (r.line ∷ lines_of rest)) o ∙ some_first r.line rest d e)))

-- ---- the other lines

module _ (d : ℕ) (es : List WorldEvent) (line rest : List ℕ) where
  -- line `n` of those that stand behind the first, and what stands behind it
  event_first : (n : ℕ) → rest_of n (line ∷ lines_of rest) ≡ with_event n (event_in line) (rest_of (n + 1) (lines_of rest))
  event_first n =
      let f = first_line rest in
      ap (λ ps. rest_of n (line ∷ ps)) f.2 ∙ ap (λ ps. with_event n (event_in line) (rest_of (n + 1) ps)) (sym f.2)

  none_event : ((more : Rest) → with_event (length es + 2) (event_in line) more ≡ StopsAt (length es + 2)) → script_behind (Some d) es (line ∷ lines_of rest) ≡ RefusedAt (length es + 2)
  none_event h = refused_event d es (rest_of (length es + 2) (line ∷ lines_of rest)) (length es + 2) (event_first (length es + 2) ∙ h (rest_of (length es + 2 + 1) (lines_of rest)))

  some_event : (e : WorldEvent) → ((more : Rest) → with_event (length es + 2) (event_in line) more ≡ then_rest e more)
      → script_behind (Some d) es (line ∷ lines_of rest) ≡ script_behind (Some d) (es ++ e ∷ []) (lines_of rest)
  some_event e h =
      let more = rest_of (length es + 2 + 1) (lines_of rest) in
      let k = length-append es (e ∷ []) in
      let q : length es + 2 + 1 ≡ length (es ++ e ∷ []) + 2 = omega (arith, k) in
      ap (λ r. with_devices (Some d) (then_events es r)) (event_first (length es + 2) ∙ h more)
      ∙ (ap (with_devices (Some d)) (sym (one_more es e more))
      ∙ ap (λ n. with_devices (Some d) (then_events (es ++ e ∷ []) (rest_of n (lines_of rest)))) q)

is_number : (r : Reader) (d : ℕ) → r.devices ≡ Some d → line_number r ≡ length r.events + 2
is_number r d e = ap (λ o. number_behind o (length r.events)) e

some_devices : (o : Option ℕ) → IsSome o → (d : ℕ) × (o ≡ Some d)
some_devices None h = absurd (cc)
some_devices (Some d) h = (d, refl)

pub event_refused : (r s : Reader) (before : List ℕ) (n : ℕ) (k : ScriptFault) → HasRead r before → HasNoEnd r.line → IsSome r.devices → n ≡ line_number r → IsEventLine r.line n (Err k) → Feeds (before ++ 10 ∷ []) s (Err k)
event_refused r s before n (faults.Refused m) h l o e (f, g) = λ rest.
    let d = some_devices r.devices o in
    let q : n ≡ length r.events + 2 = e ∙ is_number r d.0 d.1 in
    fed_end r before h l rest
    ∙ (ap (λ z. script_behind z r.events (r.line ∷ lines_of rest)) d.1
    ∙ (none_event d.0 r.events r.line rest (subst (λ z. (more : Rest) → with_event z (event_in r.line) more ≡ StopsAt z) q g)
    ∙ ap RefusedAt (sym (f ∙ q))))
event_refused r s before n faults.ReadFault h l o e f = absurd f
event_refused r s before n faults.NoMemory h l o e f = tt

pub event_taken : (r : Reader) (before line : List ℕ) (devices : Option ℕ) (events : List WorldEvent) (n : ℕ) (e : HeldEvent) → HasRead r before → HasNoEnd r.line → IsSome r.devices → n ≡ line_number r → IsEventLine r.line n (Ok e)
    → line ≡ [] → devices ≡ r.devices → events ≡ r.events ++ event_of e ∷ []
    → HasRead (record { line = line; devices = devices; events = events }) (before ++ 10 ∷ [])
event_taken r before line devices events n e h l o i (m, g) f u v =
    let d = some_devices r.devices o in
    let q : n ≡ length r.events + 2 = i ∙ is_number r d.0 d.1 in
    subst (λ z. HasRead (record { line = z; devices = devices; events = events }) (before ++ 10 ∷ [])) (sym f)
    (subst (λ z. HasRead (record { line = []; devices = z; events = events }) (before ++ 10 ∷ [])) (sym (u ∙ d.1))
    (subst (λ z. HasRead (record { line = []; devices = Some d.0; events = z }) (before ++ 10 ∷ [])) (sym v)
    (λ rest.
    fed_end r before h l rest
    ∙ (ap (λ z. script_behind z r.events (r.line ∷ lines_of rest)) d.1
    ∙ some_event d.0 r.events r.line rest (event_of e) (subst (λ z. (more : Rest) → with_event z (event_in r.line) more ≡ then_rest (event_of e) more) q g)))))

-- ---- the end of the input

pub empty_line : (line : List ℕ) (n : ℕ) → n ≡ length line → true ≡ (n == 0) → line ≡ []
empty_line [] n e h = refl
empty_line (b ∷ bs) n e h = absurd (grind (arith, nat_tests))

pub full_line : (line : List ℕ) (n : ℕ) → n ≡ length line → false ≡ (n == 0) → 0 < length line
full_line line n e h = grind (arith, nat_tests)

module _ (r : Reader) (bytes : List ℕ) (h : HasRead r bytes) (n : HasNoEnd r.line) where
  at_end : script_of bytes ≡ script_behind r.devices r.events (r.line ∷ [])
  at_end =
      ap script_of (sym (append-nil bytes))
      ∙ (h []
      ∙ ap (script_behind r.devices r.events) (ap lines_of (append-nil r.line) ∙ line_last r.line n))

  pub ended_none : r.devices ≡ None → script_of bytes ≡ RefusedAt 1
  ended_none e = at_end ∙ ap (λ o. script_behind o r.events (r.line ∷ [])) e

  pub ended_whole : (d : ℕ) → r.devices ≡ Some d → r.line ≡ [] → script_of bytes ≡ Plays d r.events
  ended_whole d e f = at_end ∙ (ap (λ o. script_behind o r.events (r.line ∷ [])) e ∙ (ap (λ l. script_behind (Some d) r.events (l ∷ [])) f ∙ ap (with_devices (Some d)) (played r.events)))

  pub ended_inside : (d : ℕ) → r.devices ≡ Some d → 0 < length r.line → script_of bytes ≡ RefusedAt (line_number r)
  ended_inside d e f = at_end ∙ (ap (λ o. script_behind o r.events (r.line ∷ [])) e ∙ (refused_event d r.events (rest_of (length r.events + 2) (r.line ∷ [])) (length r.events + 2) (last_line r.line f) ∙ ap RefusedAt (sym (is_number r d e))))
    where
      last_line : (line : List ℕ) → 0 < length line → rest_of (length r.events + 2) (line ∷ []) ≡ StopsAt (length r.events + 2)
      last_line [] l = absurd (omega (arith, l))
      last_line (b ∷ bs) l = refl

-- ---- events, as they are held

pub events_one_more : (es : List HeldEvent) (e : HeldEvent) → events_of (es ++ e ∷ []) ≡ events_of es ++ event_of e ∷ []
events_one_more [] e = refl
events_one_more (x ∷ es) e = ap (λ ys. event_of x ∷ ys) (events_one_more es e)

pub all_one_more : (P : WorldEvent → Type 0) (es : List WorldEvent) (e : WorldEvent) → AllByRecursion P es → P e → AllByRecursion P (es ++ e ∷ [])
all_one_more P [] e h p = (p, tt)
all_one_more P (x ∷ es) e h p = (h.0, all_one_more P es e h.1 p)
