-- Looking for the first message goes on, and ends.
use Rattle.std.proofs.Common.{◌≡◌, ℕ, ◌+◌, ◌<◌, ◌≤◌, ◌⊎◌, inl, inr, List, [], ◌∷◌, ◌++◌, length, map, Option, Some, None, Result, Ok, Err, refl, sym, ap, ◌∙◌, subst, append-nil, arith}
use Rattle.std.proofs.lemmas.List.{length-append}
use Rattle.std.specs.Prelude.{IfSome}
use Rattle.mos_codec.specs.Decoding.{DecoderState, HandsOut, HasTaken, IsRead, IsRejected, TellsFed, placed_events, with_ready}
use Rattle.mos_codec.specs.declared.fault.DecodeFault.{DecodeFault}
use Rattle.mos_codec.specs.declared.fault.DecodeFault.TheVariants.{Refused, NoMemory}
use Rattle.mos_codec.specs.declared.whole.Placed.{Placed}
use Rattle.mos_fields.specs.Characters.{Text}
use Rattle.mos_io.specs.Bytes.{IsAtEnd, Takes}
use Rattle.mos_io.specs.Counts.{Rose}
use Rattle.mos_lexer.specs.declared.kind.Kind.{Kind}
use Rattle.mos_message_reading.specs.Values.{IsNamed}
use Rattle.mos_values.specs.MessageViews.{envelope_events}
use Rattle.mos_values.specs.Sound.{IsSound}
use Rattle.mos_values.specs.declared.message.Envelope.{Envelope}
use Rattle.value_laws.specs.Ranges.{IsInRange}
use Rattle.port_session.specs.Reading.{AreMessages, Reads}
use Rattle.port_session.proofs.Readings.{Holds, at_end_on, room_for, rose_from, takes_more, takes_none, takes_same, value_or}
use Rattle.port_looking.specs.Looking.{Looks, Names}
use Rattle.port_looking.specs.Steps.{Fed, FirstNames, Looked, Looking, NamedBy, NamesFirst, ReadCame, Settles, Stepped, TakesIn, Tells}
use Rattle.port_looking.specs.declared.looker.Lack.{Lack}
use Rattle.port_looking.specs.declared.looker.Lack.TheVariants.{Read, Memory}

-- ---- what was fed

taken_read : (d : DecoderState) (read : List ℕ) → HasTaken d read [] → d.ready ≡ [] → IsRead read [] d.bytes
taken_read d read h e = subst (λ (ready : List Placed). IsRead read (with_ready [] ready) d.bytes) e h.read

as_reads : (d : DecoderState) (read : List ℕ) → HasTaken d read [] → Reads None 0 None 0 d None (length read) (length read) []
as_reads d read h = record {
  read = read;
  found = [];
  took = refl;
  rises = omega arith;
  carried = refl;
  whole = tt;
  counted = refl;
  within = omega arith;
  stands = h;
}

-- so many code units more are in reach
pub fed_room : (d : DecoderState) (read x : List ℕ) → HasTaken d read [] → d.ready ≡ [] → length read + length x < 18446744073709551616 → d.bytes.stream.base + length d.bytes.stream.held + length x < 18446744073709551616
fed_room d read x h e small = room_for None 0 None 0 d None (length read) (length read) [] (as_reads d read h) e refl x (length x) (omega arith) small

-- ---- the first message

first_ready : (names : List Text) (ready : List Placed) (d t : DecoderState) (message : Option Envelope) (device : Option ℕ) → d.ready ≡ ready → HandsOut ready message d t
    → IfSome message (λ (e : Envelope). IsNamed e.message) → IfSome message (λ (e : Envelope). IsInRange e.message) → IfSome message (λ (e : Envelope). IsSound e.message)
    → NamedBy names message device → FirstNames names d t device
first_ready names [] d t None device e h n r s b = subst (λ (o : Option ℕ). FirstNames names d t o) (sym b) (e, h.1)
first_ready names [] d t (Some m) device e h n r s b = absurd (subst Holds h.0 tt)
first_ready names (p ∷ more) d t None device e h n r s b = absurd (subst Holds (sym h.0) tt)
first_ready names (p ∷ more) d t (Some m) device e h n r s b = subst (λ (o : Option ℕ). FirstNames names d t o) (sym b.1) (
  (λ read all. (
    m,
    record {
      first = placed_events p;
      more = map placed_events more;
      events = sym (ap (λ (o : Option Envelope). envelope_events (value_or m o)) h.0);
      whole = record { named = n; in_range = r; sound = s };
      messages = subst (λ (ready : List Placed). AreMessages read (with_ready [] ready)) e all;
    },
    b.2,
  )),
  b.3,
)

pub first_named : (names : List Text) (d t : DecoderState) (message : Option Envelope) (device : Option ℕ) → HandsOut d.ready message d t
    → IfSome message (λ (e : Envelope). IsNamed e.message) → IfSome message (λ (e : Envelope). IsInRange e.message) → IfSome message (λ (e : Envelope). IsSound e.message)
    → NamedBy names message device → FirstNames names d t device
first_named names d t message device h n r s b = first_ready names d.ready d t message device refl h n r s b

pub fed_by : (names : List Text) (read : List ℕ) (d t : DecoderState) (outcome : Result (Unit {0}) DecodeFault) (found : Option ℕ) (result : Result (Option ℕ) Lack)
    → 0 < length names → TellsFed read [] outcome d → FirstNames names d t found → Settles outcome found result → Fed names read t result
fed_by names read d t (Ok u) None result pos h n s = subst (λ (r : Result (Option ℕ) Lack). Fed names read t r) (sym s)
    (subst (λ (z : DecoderState). HasTaken z read [] × (z.ready ≡ [])) (sym n.1) (h, n.0))
fed_by names read d t (Ok u) (Some device) result pos h n s = subst (λ (r : Result (Option ℕ) Lack). Fed names read t r) (sym s)
    (inl (n.0 read (inl (d.bytes, h.read))), n.1)
fed_by names read d t (Err (Refused place kind)) None result pos h n s = subst (λ (r : Result (Option ℕ) Lack). Fed names read t r) (sym s)
    (inr ((place, kind, subst (λ (ready : List Placed). IsRejected read (with_ready [] ready) place kind) n.0 h.0), refl), pos)
fed_by names read d t (Err (Refused place kind)) (Some device) result pos h n s = subst (λ (r : Result (Option ℕ) Lack). Fed names read t r) (sym s)
    (inl (n.0 read (inr (place, kind, h.0))), n.1)
fed_by names read d t (Err NoMemory) found result pos h n s = subst (λ (r : Result (Option ℕ) Lack). Fed names read t r) (sym s) tt

pub taken_in : (names : List Text) (front piece later : List ℕ) (d : DecoderState) (result : Result (Option ℕ) Lack) → later ≡ front ++ piece → Fed names (front ++ piece) d result → TakesIn names front piece later d result
taken_in names front piece later d (Ok found) e h = (e, subst (λ (xs : List ℕ). Fed names xs d (Ok found)) (sym e) h)
taken_in names front piece later d (Err Memory) e h = tt
taken_in names front piece later d (Err Read) e h = absurd h

-- ---- one read

-- before the first
pub looking_none : (budget : ℕ) (l : Option (List ℕ)) (front : List ℕ) (d : DecoderState) → front ≡ [] → HasTaken d [] [] → d.ready ≡ [] → Looking budget l l front d
looking_none budget l front d e h r = subst (λ (xs : List ℕ). Looking budget l l xs d) (sym e) (record { took = takes_none l; taken = h; ready = r; within = omega arith })

looks_told : (names : List Text) (l : Option (List ℕ)) (budget : ℕ) (read : List ℕ) (device : ℕ) → NamesFirst names read device ⊎ (((place : ℕ) × (kind : Kind) × IsRejected read [] place kind) × (device ≡ 0)) → Looks names l budget read device
looks_told names l budget read device (inl m) = inl m
looks_told names l budget read device (inr m) = inr (inr m.0, m.1)

module _ (names : List Text) (budget : ℕ) (l l1 l2 : Option (List ℕ)) (front : List ℕ) (d : DecoderState) (k : Looking budget l l1 front d) where
  -- no more than the budget was read
  pub looks_spent : (f f' : ℕ) → 0 < length names → budget ≤ length front → Looked names budget l l1 f f' front (Ok 0)
  looks_spent f f' pos le = (k.took, inr (inl (d.bytes, taken_read d front k.taken k.ready, inr (let w = k.within in omega arith)), refl), k.within, pos)

  pub step_ended : (f f' : ℕ) → 0 < length names → Takes l1 l2 [] → IsAtEnd l1 → Stepped names budget l l2 f f' front front d (Ok (Some 0))
  step_ended f f' pos t e = (
    subst (λ (x : List ℕ). Takes l l2 x) (append-nil front) (takes_more l l1 l2 front [] k.took t),
    inr (inl (d.bytes, taken_read d front k.taken k.ready, inl (at_end_on l1 l2 t e)), refl),
    k.within,
    pos,
  )

  pub step_failed : (f f1 f2 most : ℕ) (buffer : List ℕ) (lack : Lack) → f ≤ f1 → ReadCame l1 l2 f1 f2 most buffer (Err lack) → Stepped names budget l l2 f f2 front front d (Err lack)
  step_failed f f1 f2 most buffer Read le x = (rose_from f f1 f2 le x.0, (front, takes_same l l1 l2 front k.took x.1))
  step_failed f f1 f2 most buffer Memory le x = absurd x

  pub step_taken : (f f' : ℕ) (piece later : List ℕ) (d' : DecoderState) (result : Result (Option ℕ) Lack) → Takes l1 l2 piece → 0 < length piece → length front + length piece ≤ budget → TakesIn names front piece later d' result
      → Stepped names budget l l2 f f' front later d' result
  step_taken f f' piece later d' (Ok None) t some room h =
      let size : length later ≡ length front + length piece = ap length h.0 ∙ length-append front piece in
      let fed : HasTaken d' later [] × (d'.ready ≡ []) = h.1 in (
        record {
          took = subst (λ (x : List ℕ). Takes l l2 x) (sym h.0) (takes_more l l1 l2 front piece k.took t);
          taken = fed.0;
          ready = fed.1;
          within = omega arith;
        },
        omega arith,
      )
  step_taken f f' piece later d' (Ok (Some device)) t some room h =
      let size : length later ≡ length front + length piece = ap length h.0 ∙ length-append front piece in
      let told : Tells names later device = h.1 in
      (subst (λ (x : List ℕ). Takes l l2 x) (sym h.0) (takes_more l l1 l2 front piece k.took t), looks_told names l2 budget later device told.0, omega arith, told.1)
  step_taken f f' piece later d' (Err Memory) t some room h = (front ++ piece, takes_more l l1 l2 front piece k.took t)
  step_taken f f' piece later d' (Err Read) t some room h = absurd h

pub stepped_out : (names : List Text) (budget : ℕ) (l l' : Option (List ℕ)) (f f' : ℕ) (front later : List ℕ) (d : DecoderState) (lack : Lack) → Stepped names budget l l' f f' front later d (Err lack) → Looked names budget l l' f f' later (Err lack)
stepped_out names budget l l' f f' front later d Read s = s
stepped_out names budget l l' f f' front later d Memory s = s

module _ (names : List Text) (budget : ℕ) (l l' : Option (List ℕ)) (f f' : ℕ) (front later : List ℕ) (d : DecoderState) (found : Option ℕ) (s : Stepped names budget l l' f f' front later d (Ok found)) where
  pub stepped_on : found ≡ None → Looking budget l l' later d × (length front < length later)
  stepped_on e = subst (λ (o : Option ℕ). Stepped names budget l l' f f' front later d (Ok o)) e s

  pub stepped_found : (device : ℕ) → found ≡ Some device → Looked names budget l l' f f' later (Ok device)
  stepped_found device e = subst (λ (o : Option ℕ). Stepped names budget l l' f f' front later d (Ok o)) e s
